-- Writing from a place on tells of it what is judged at place 0: no test of writing looks at the place, and a transfer parameter is refused
-- at its header. What an edit itself is refused for is told at place 0.
use Rattle.std.specs.Prelude.{ℕ, ◌+◌, ◌≤◌, ◌≡◌, refl, Bool, true, false, not, List, eqb, leb, ltb, length, get_or, Err}
use Rattle.std.proofs.Common.{arith, ap}
use Rattle.annex.specs.Answers.{repeated_name, transfer_over, no_room, absent, refuse, sound_then, header_at, Answer, Accepted, Refused, Fault, Sound}
use Rattle.annex.specs.Units.{name_of, after_of, extent_of, contents_in}
use Rattle.annex.specs.Heads.{among, transfer_data, most_transfer_octets, often_of}
use Rattle.annex.specs.Contents.{fault_of}
use Rattle.annex.specs.Items.{Item, Part}
use Rattle.annex.specs.Layout.{layout_item, layout_items, layout}
use Rattle.annex.specs.Allowed.{length_right, fault_in, headers_of, items_in, names_of, times_in}
use Rattle.annex.specs.Editing.{Edit, new_header, new_after, new_head, new_contents, edit_refusal, edited, record_editing}
use Rattle.annex.specs.Editing.Edit.{Replacing, Appending, Removing}
use Rattle.annex.specs.Writing.{item_writing}
use Rattle.laws.specs.Steps.{head_refuse, PlaceTo, accepted_place, refuse_place, then_place, head_place, sound_place}

-- what was judged at place 0, told of the place s: the place behind what was written, or the place of the refusal
abbrev pub told_at : ℕ → Answer → Answer
told_at s (Accepted n) = Accepted (s + n)
told_at s (Err r) = Refused r.0 s

pub refuse_told : (s : ℕ) (b : Bool) (k : ℕ) (a c : Answer) → a ≡ told_at s c → refuse b k s a ≡ told_at s (refuse b k 0 c)
refuse_told s true k a c e = refl
refuse_told s false k a c e = e

sound_told : (s : ℕ) (f : Fault) (a c : Answer) → a ≡ told_at s c → sound_then (header_at s) f a ≡ told_at s (sound_then (header_at 0) f c)
sound_told s Sound a c e = e
sound_told s (Err r) a c e = refl

pub item_told : (times s : ℕ) (i : Item) → item_writing times s i ≡ told_at s (item_writing times 0 i)
unfolding item_writing
item_told times s i =
    let o = head_refuse i.header in
    let e : length (layout_item i) ≡ 0 + length (layout_item i) = omega arith in
    rw (o.2 s, o.2 0)
    (refuse_told s o.0 o.1 _ _
    (refuse_told s (leb (often_of (name_of i.header)) times) _ _ _
    (refuse_told s (not (length_right i)) _ _ _
    (sound_told s (fault_in i) _ (Accepted (0 + length (layout_item i)))
    (ap (λ (n : ℕ). Accepted (s + n)) e)))))

-- ---- a refusal's place

pub item_place : (times p : ℕ) (i : Item) → PlaceTo p (item_writing times p i)
unfolding item_writing
item_place times p i =
    let n = p + length (layout_item i) in
    let here : p ≤ p = omega arith in
    head_place p p i.header _ here
    (refuse_place p (leb (often_of (name_of i.header)) times) _ p _ here
    (refuse_place p (not (length_right i)) _ p _ here
    (sound_place p (header_at p) (fault_in i) (Accepted n) (λ k j e. here) (accepted_place p n))))

-- ---- an edit's own refusals have the place 0

-- of a new parameter, with a test b of its name
new_place : (new : List ℕ) (b : Bool) (k : ℕ) → PlaceTo 0 (new_head new (refuse b k 0 (new_contents new)))
new_place new b k =
    let h = new_header new in
    let xs = new_after new in
    refuse_place 0 (eqb (length new) 0) _ 0 _ (omega arith)
    (head_place 0 0 h _ (omega arith)
    (refuse_place 0 b k 0 _ (omega arith)
    (refuse_place 0 (not (eqb (length xs) (after_of (extent_of h) (get_or xs 0 0)))) _ 0 _ (omega arith)
    (sound_place 0 (header_at 0) (fault_of h (contents_in (extent_of h) xs)) (Accepted 0) (λ j i e. omega arith)
    (accepted_place 0 0)))))

edit_place : (e : Edit) (is : List Item) → PlaceTo 0 (edit_refusal e is)
unfolding edit_refusal
edit_place (Replacing new which) is = new_place new (leb (times_in (name_of (new_header new)) (names_of is)) which) absent
edit_place (Appending new) is =
    let x = name_of (new_header new) in
    new_place new (leb (often_of x) (times_in x (names_of is))) repeated_name
edit_place (Removing x which) is =
    refuse_place 0 (leb (times_in x (names_of is)) which) absent 0 (Accepted 0) (omega arith) (accepted_place 0 0)

pub record_place : (e : Edit) (r : List Part) (room : ℕ) → PlaceTo 0 (record_editing e r room)
unfolding record_editing
record_place e r room =
    let n = length (layout (edited e r)) in
    refuse_place 0 (not (among transfer_data (headers_of r))) absent 0 _ (omega arith)
    (then_place 0 (edit_refusal e (items_in r)) _ (edit_place e (items_in r))
    (λ q. refuse_place 0 (ltb most_transfer_octets (length (layout_items (items_in (edited e r))))) transfer_over 0 _ (omega arith)
    (refuse_place 0 (ltb room n) no_room 0 (Accepted n) (omega arith) (accepted_place 0 n))))
