-- Demand 3: an edit is refused exactly when document 01 lists a reason. Each reason is a test on the way to the answer, so an accepted edit
-- has passed them all, and with all passed it is accepted.
use Rattle.std.specs.Prelude.{ℕ, ◌≤◌, ◌<◌, ◌≡◌, Bool, true, false, not, List, ◌↔◌, eqb, leb, ltb, length, get_or, take}
use Rattle.std.proofs.Common.{arith, sym, ◌∙◌, eqb-true, eq-eqb, ne_eqb, leb-false, ltb-false, le-ltb, length-take-le}
use Rattle.std.proofs.lemmas.Bool.{eqb-false, lt-leb, not-false}
use Rattle.annex.specs.Answers.{repeated_name, transfer_over, no_room, absent, refuse, header_at, Accepted, Sound}
use Rattle.annex.specs.Units.{name_of, after_of, extent_of, contents_in}
use Rattle.annex.specs.Heads.{among, transfer_data, most_transfer_octets, name_used, pli_right, often_of}
use Rattle.annex.specs.Contents.{fault_of}
use Rattle.annex.specs.Items.{Item, Part}
use Rattle.annex.specs.Layout.{layout_items, layout}
use Rattle.annex.specs.Allowed.{times_in, headers_of, items_in, names_of}
use Rattle.annex.specs.Reading.{verdict_of, record_of}
use Rattle.annex.specs.Editing.{Edit, new_header, new_after, new_head, new_contents, edit_refusal, edited, record_editing, editing_of}
use Rattle.annex.specs.Editing.Edit.{Replacing, Appending, Removing}
use Rattle.laws.specs.Steps.{passed, then_passed, sounded, head_taken, head_right}
use Rattle.theorems.specs.Lengths.{Long}
use Rattle.theorems.specs.Messages.{message_read}

-- ---- the reasons

-- a new parameter, by itself: not empty (11), its name used (8), its PLI the name's (9), of the told length (11), sound (12, 13, 18)
pub record NewRight (new : List ℕ) : Type 0 where
  pub some : 0 < length new
  pub used : name_used (new_header new) ≡ true
  pub pli : pli_right (new_header new) ≡ true
  pub long : Long (extent_of (new_header new)) (new_after new)
  pub sound : fault_of (new_header new) (contents_in (extent_of (new_header new)) (new_after new)) ≡ Sound

-- among C5's parameters: one to be replaced or removed is there (16), the name of one to be appended may stand once more (10)
abbrev pub EditRight : Edit → List Item → Type 0
EditRight (Replacing new which) is = NewRight new × (which < times_in (name_of (new_header new)) (names_of is))
EditRight (Appending new) is = NewRight new × (times_in (name_of (new_header new)) (names_of is) < often_of (name_of (new_header new)))
EditRight (Removing x which) is = which < times_in x (names_of is)

-- the record of the message in a buffer's first n octets, edited
abbrev pub edited_in : Edit → List ℕ → ℕ → List Part
edited_in e d n = edited e (record_of (take n d))

-- none of the reasons of document 01, "Editing"
pub record NoReason (e : Edit) (d : List ℕ) (n : ℕ) : Type 0 where
  -- 15: the message lies within the buffer
  pub within : n ≤ length d
  -- 1 to 13 and 18: reading accepts it
  pub message : verdict_of (take n d) ≡ Accepted n
  -- 16: it has a C5
  pub has_data : among transfer_data (headers_of (record_of (take n d))) ≡ true
  -- the edit's own: 11, 8, 9, 16, 10, 11, 12, 13, 18
  pub right : EditRight e (items_in (record_of (take n d)))
  -- 14: transfer data over 255
  pub few_octets : length (layout_items (items_in (edited_in e d n))) ≤ most_transfer_octets
  -- 15: the buffer shorter than the message
  pub room : length (layout (edited_in e d n)) ≤ length d

-- ---- an accepted edit has passed them

-- a new parameter, with a test b of its name
new_passed : (new : List ℕ) (b : Bool) (k j : ℕ) → new_head new (refuse b k 0 (new_contents new)) ≡ Accepted j → NewRight new × (b ≡ false)
new_passed new b k j a =
    let h = new_header new in
    let xs = new_after new in
    let l = after_of (extent_of h) (get_or xs 0 0) in
    let a₁ = passed (eqb (length new) 0) _ 0 j _ a in
    let a₂ = head_taken 0 h j _ a₁.1 in
    let a₃ = passed b k 0 j (new_contents new) a₂.rest in
    let a₄ = passed (not (eqb (length xs) l)) _ 0 j _ a₃.1 in
    let a₅ = sounded (header_at 0) (fault_of h (contents_in (extent_of h) xs)) j (Accepted 0) a₄.1 in
    let some : 0 < length new = omega (arith, eqb-false (length new) 0 a₁.0) in (
      record {
        some = some;
        used = a₂.used;
        pli = a₂.pli;
        long = eqb-true (length xs) l (not-false (eqb (length xs) l) a₄.0);
        sound = a₅.0;
      },
      a₃.0,
    )

-- the edit's own tests
pub edit_passed : (e : Edit) (is : List Item) (j : ℕ) → edit_refusal e is ≡ Accepted j → EditRight e is
unfolding edit_refusal
edit_passed (Replacing new which) is j a =
    let t = times_in (name_of (new_header new)) (names_of is) in
    let p = new_passed new (leb t which) absent j a in
    (p.0, leb-false t which p.1)
edit_passed (Appending new) is j a =
    let x = name_of (new_header new) in
    let p = new_passed new (leb (often_of x) (times_in x (names_of is))) repeated_name j a in
    (p.0, leb-false (often_of x) (times_in x (names_of is)) p.1)
edit_passed (Removing x which) is j a =
    let t = times_in x (names_of is) in
    leb-false t which (passed (leb t which) absent 0 j (Accepted 0) a).0

pub edit_taken : (e : Edit) (d : List ℕ) (n k : ℕ) → editing_of e d n ≡ Accepted k → NoReason e d n × (k ≡ length (layout (edited_in e d n)))
unfolding editing_of record_editing
edit_taken e d n k a =
    let m = take n d in
    let r = record_of m in
    let is = items_in r in
    let r' = edited_in e d n in
    let t = length (layout_items (items_in r')) in
    let l = length (layout r') in
    let a₁ = passed (ltb (length d) n) _ 0 k _ a in
    let within = ltb-false (length d) n a₁.0 in
    let a₂ = then_passed (verdict_of m) (λ _. record_editing e r (length d)) k a₁.1 in
    let whole : a₂.0 ≡ n = (message_read m a₂.0 a₂.1).length-given ∙ length-take-le n d within in
    let a₃ = passed (not (among transfer_data (headers_of r))) _ 0 k _ a₂.2 in
    let a₄ = then_passed (edit_refusal e is) _ k a₃.1 in
    let a₅ = passed (ltb most_transfer_octets t) _ 0 k _ a₄.2 in
    let a₆ = passed (ltb (length d) l) _ 0 k (Accepted l) a₅.1 in
    let same : l ≡ k = cc in (
      record {
        within = within;
        message = rw whole at a₂.1;
        has_data = not-false (among transfer_data (headers_of r)) a₃.0;
        right = edit_passed e is a₄.0 a₄.1;
        few_octets = ltb-false most_transfer_octets t a₅.0;
        room = ltb-false (length d) l a₆.0;
      },
      sym same,
    )

-- ---- and with none of them it is accepted

new_accepts : (new : List ℕ) (k : ℕ) → NewRight new → new_head new (refuse false k 0 (new_contents new)) ≡ Accepted 0
new_accepts new k r =
    let some = r.some in
    rw (
      ne_eqb (length new) 0 (λ e. omega arith),
      head_right 0 (new_header new) _ r.used r.pli,
      eq-eqb (length (new_after new)) _ r.long,
      r.sound,
    )

edit_right : (e : Edit) (is : List Item) → EditRight e is → edit_refusal e is ≡ Accepted 0
unfolding edit_refusal
edit_right (Replacing new which) is r =
    rw (lt-leb (times_in (name_of (new_header new)) (names_of is)) which r.1) (new_accepts new absent r.0)
edit_right (Appending new) is r =
    let x = name_of (new_header new) in
    rw (lt-leb (often_of x) (times_in x (names_of is)) r.1) (new_accepts new repeated_name r.0)
edit_right (Removing x which) is r = rw (lt-leb (times_in x (names_of is)) which r)

-- what is left with all but room right: 14, 15, or the new length
pub edit_answer : (e : Edit) (d : List ℕ) (n j : ℕ) → n ≤ length d → verdict_of (take n d) ≡ Accepted j
    → among transfer_data (headers_of (record_of (take n d))) ≡ true → EditRight e (items_in (record_of (take n d)))
    → editing_of e d n
    ≡ refuse (ltb most_transfer_octets (length (layout_items (items_in (edited_in e d n))))) transfer_over 0
    (refuse (ltb (length d) (length (layout (edited_in e d n)))) no_room 0 (Accepted (length (layout (edited_in e d n)))))
unfolding editing_of record_editing
edit_answer e d n j l v t w = rw (le-ltb (length d) n l, v, t, edit_right e (items_in (record_of (take n d))) w)

pub edit_accepts : (e : Edit) (d : List ℕ) (n : ℕ) → NoReason e d n → editing_of e d n ≡ Accepted (length (layout (edited_in e d n)))
edit_accepts e d n w =
    rw (
      edit_answer e d n n w.within w.message w.has_data w.right,
      le-ltb most_transfer_octets _ w.few_octets,
      le-ltb (length d) _ w.room,
    )

-- so an edit is accepted exactly if there is no reason
pub edits_exactly : (e : Edit) (d : List ℕ) (n : ℕ) → (editing_of e d n ≡ Accepted (length (layout (edited_in e d n)))) ↔ NoReason e d n
edits_exactly e d n = (λ a. (edit_taken e d n _ a).0, edit_accepts e d n)
