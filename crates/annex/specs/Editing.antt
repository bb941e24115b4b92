-- Editing in place: document 01, "Editing", and which of those with a name, document 02, request g: the refusals in their order, the record
-- so edited, and what the buffer then holds.
use Rattle.std.specs.Prelude.{ℕ, ◌-◌, cond, not, List, [], ◌∷◌, ◌++◌, map, eqb, ltb, leb, length, get_or, take, drop, replicate, Err}
use Rattle.annex.specs.Answers.{
  repeated_name,
  cut_contents,
  transfer_over,
  no_room,
  absent,
  refuse,
  sound_then,
  header_at,
  and_then,
  Answer,
  Accepted,
}
use Rattle.annex.specs.Units.{name_of, after_of, extent_of, contents_in}
use Rattle.annex.specs.Heads.{among, transfer_data, most_transfer_octets, often_of, kth}
use Rattle.annex.specs.Contents.{fault_of}
use Rattle.annex.specs.Items.{Item, Part, part_with, item_of}
use Rattle.annex.specs.Layout.{layout_items, layout}
use Rattle.annex.specs.Allowed.{headers_of, items_in, names_of, times_in}
use Rattle.annex.specs.Reading.{verdict_of, record_of}
use Rattle.annex.specs.Writing.{head_writing}

-- an edit: a new parameter as octets, header first, in the place of one of its name, or last in C5; or one of a name taken out. Which of
-- those with the name, counted from 0, is told behind it
pub data Edit : Type 0 where
  Replacing : List ℕ → ℕ → Edit
  Appending : List ℕ → Edit
  Removing : ℕ → ℕ → Edit

-- the header of new octets, and the octets after it
abbrev pub new_header : List ℕ → ℕ
new_header new = get_or new 0 0

abbrev pub new_after : List ℕ → List ℕ
new_after new = drop 1 new

abbrev pub new_item : List ℕ → Item
new_item new = item_of (new_header new) (contents_in (extent_of (new_header new)) (new_after new))

-- 11, 8 and 9 of the new octets' header
abbrev pub new_head : List ℕ → Answer → Answer
new_head new a = refuse (eqb (length new) 0) cut_contents 0 (head_writing 0 (new_header new) a)

-- 11 of the octets after it, and what is wrong with their contents
abbrev pub new_contents : List ℕ → Answer
new_contents new =
    let h = new_header new in
    let xs = new_after new in
    refuse (not (eqb (length xs) (after_of (extent_of h) (get_or xs 0 0)))) cut_contents 0
    (sound_then (header_at 0) (fault_of h (contents_in (extent_of h) xs))
    (Accepted 0))

-- what the edit itself is refused for; the parameters are those of C5
unfoldable pub edit_refusal : Edit → List Item → Answer
edit_refusal (Replacing new which) is =
    new_head new (refuse (leb (times_in (name_of (new_header new)) (names_of is)) which) absent 0 (new_contents new))
edit_refusal (Appending new) is =
    new_head new
    (refuse (leb (often_of (name_of (new_header new))) (times_in (name_of (new_header new)) (names_of is))) repeated_name 0
    (new_contents new))
edit_refusal (Removing x which) is = refuse (leb (times_in x (names_of is)) which) absent 0 (Accepted 0)

-- the parameters new in the place of the one with the number `which`, counted from 0, of those with the name x
unfoldable pub instead : ℕ → ℕ → List Item → List Item → List Item
instead x which new [] = []
instead x which new (i ∷ is) =
    cond (eqb x (name_of i.header)) (kth which (new ++ is) (λ k. i ∷ instead x k new is)) (i ∷ instead x which new is)

-- the parameters so edited; an appended one comes last
unfoldable pub edited_items : Edit → List Item → List Item
edited_items (Replacing new which) is = instead (name_of (new_header new)) which (new_item new ∷ []) is
edited_items (Appending new) is = is ++ (new_item new ∷ [])
edited_items (Removing x which) is = instead x which [] is

abbrev pub edited_part : Edit → Part → Part
edited_part e p = cond (eqb p.header transfer_data) (part_with (edited_items e p.items) p) p

-- the record so edited
unfoldable pub edited : Edit → List Part → List Part
edited e r = map (edited_part e) r

-- of a record, with so much room: 16 with no transfer data; the edit's own refusals; 14; 15; or the message's new length
unfoldable pub record_editing : Edit → List Part → ℕ → Answer
record_editing e r room =
    refuse (not (among transfer_data (headers_of r))) absent 0
    (and_then (edit_refusal e (items_in r))
    (λ _.
    refuse (ltb most_transfer_octets (length (layout_items (items_in (edited e r))))) transfer_over 0
    (refuse (ltb room (length (layout (edited e r)))) no_room 0
    (Accepted (length (layout (edited e r)))))))

-- the answer, of a buffer whose first n octets hold the message
unfoldable pub editing_of : Edit → List ℕ → ℕ → Answer
editing_of e buffer n =
    refuse (ltb (length buffer) n) no_room 0
    (and_then (verdict_of (take n buffer)) (λ _. record_editing e (record_of (take n buffer)) (length buffer)))

-- the new message at the front, zeros to where the old one ended, and behind that the buffer as it was
abbrev pub cleared : ℕ → List ℕ → List ℕ
cleared k d = replicate k 0 ++ drop k d

abbrev pub holding : List ℕ → ℕ → List ℕ → List ℕ
holding buffer n message = message ++ cleared (n - length message) (drop (length message) buffer)

-- what the buffer then holds; unchanged where refused
abbrev pub buffer_by : Answer → List ℕ → List ℕ → List ℕ
buffer_by (Accepted k) changed buffer = changed
buffer_by (Err r) changed buffer = buffer

unfoldable pub buffer_of : Edit → List ℕ → ℕ → List ℕ
buffer_of e buffer n =
    buffer_by (editing_of e buffer n) (holding buffer n (layout (edited e (record_of (take n buffer))))) buffer
