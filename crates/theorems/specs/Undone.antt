-- Demand 3: removing what was appended gives the message back. The appended parameter is the last of its name, behind as many as stood
-- there before, so taking that one out leaves the transfer parameters that were there.
use Rattle.std.specs.Prelude.{ℕ, ◌<◌, ◌≡◌, true, length, take}
use Rattle.std.proofs.Common.{arith, ◌∙◌, length-take-le}
use Rattle.std.proofs.Math.Path.{sym, ap}
use mathlib.Core.List.{List, [], ◌∷◌, ◌++◌, append-nil}
use Rattle.annex.specs.Units.{name_of}
use Rattle.annex.specs.Heads.{often_of}
use Rattle.annex.specs.Items.{Item, Part, data_part}
use Rattle.annex.specs.Layout.{layout}
use Rattle.annex.specs.Allowed.{every, times_in, is_octet, items_in, names_of, Allowed}
use Rattle.annex.specs.Reading.{record_of}
use Rattle.annex.specs.Editing.{Edit, new_header, new_item, edited_items, edited, editing_of, buffer_of}
use Rattle.annex.specs.Editing.Edit.{Appending, Removing}
use Rattle.annex.specs.Answers.{Accepted}
use Rattle.theorems.specs.Lists.{times_append, times_here}
use Rattle.theorems.specs.Records.{names_append}
use Rattle.theorems.specs.Parted.{Parted, one_data}
use Rattle.theorems.specs.Reasons.{EditRight, edited_in, NoReason, edit_taken, edit_accepts}
use Rattle.theorems.specs.Edits.{
  new_read,
  instead_behind,
  headers_kept,
  record_edited,
  items_edited,
  data_edited,
  message_allowed,
  edited_allowed,
}
use Rattle.theorems.specs.Buffers.{Afterwards, buffer_edited}

-- how often the name of new octets stands
abbrev pub times_of : List ℕ → List Item → ℕ
times_of new is = times_in (name_of (new_header new)) (names_of is)

-- a name that may stand once stands nowhere before it is appended, so the new one is the first
pub none_before : (new : List ℕ) (is : List Item) → EditRight (Appending new) is → often_of (name_of (new_header new)) ≡ 1
    → times_of new is ≡ 0
none_before new is w one = omega (arith, w.1)

module _ (new : List ℕ) where
  abbrev appended : Edit
  appended = Appending new

  -- the last of the name, of these parameters and it
  abbrev back : List Item → Edit
  back is = Removing (name_of (new_header new)) (times_of new is)

  -- the parameters, and the record, as they were
  items_back : (is : List Item) → EditRight (Appending new) is → every is_octet new ≡ true
      → edited_items (back is) (edited_items appended is) ≡ is
  unfolding edited_items
  items_back is w o =
      let n : name_of (new_item new).header ≡ name_of (new_header new) = ap name_of (new_read new w.0 o).header in
      instead_behind [] (new_item new) (name_of (new_header new)) is [] n ∙ append-nil is

  -- it stands once more when appended
  now_there : (is : List Item) → EditRight (Appending new) is → every is_octet new ≡ true
      → times_of new is < times_of new (edited_items appended is)
  unfolding edited_items
  now_there is w o =
      let x = name_of (new_header new) in
      rw (names_append is (new_item new ∷ []), times_append, (new_read new w.0 o).header, times_here x []) (omega arith)

  record_back : (r : List Part) → Allowed r → Allowed (edited appended r) → Parted r → EditRight appended (items_in r)
      → every is_octet new ≡ true → edited (back (items_in r)) (edited appended r) ≡ r
  unfolding data_edited
  record_back r a b d w o =
      let r' = edited appended r in
      let e = back (items_in r) in
      let same : edited_items e (items_in r') ≡ items_in r = ap (edited_items e) (items_edited appended r a d) ∙ items_back (items_in r) w o in
      record_edited e r' b (data_edited appended r a d)
      ∙ ap (λ (is : List Item). d.ahead ++ (data_part is ∷ d.behind)) same
      ∙ sym d.whole

  -- no reason to refuse it
  back_free : (d : List ℕ) (n k : ℕ) → every is_octet d ≡ true → every is_octet new ≡ true → editing_of appended d n ≡ Accepted k
      → Afterwards appended d n k → edited_in (back (items_in (record_of (take n d)))) (buffer_of appended d n) k ≡ record_of (take n d)
      → NoReason (back (items_in (record_of (take n d)))) (buffer_of appended d n) k
  back_free d n k o p a h e =
      let d' = buffer_of appended d n in
      let r = record_of (take n d) in
      let t = edit_taken appended d n k a in
      let m = message_allowed d n n o t.0.message in
      let parted = one_data r m.0 t.0.has_data in
      let room = t.0.room in
      let within = t.0.within in
      record {
        within = omega (arith, h.same_length, t.1);
        message = h.verdict;
        has_data = rw (h.reads, headers_kept (λ y. y) appended r) t.0.has_data;
        right = rw (h.reads, items_edited appended r m.0 parted) (now_there (items_in r) t.0.right p);
        few_octets = rw e m.0.few_octets;
        room = rw (e, m.1, h.same_length, length-take-le n d) within;
      }

  pub append_removed : (d : List ℕ) (n k : ℕ) → every is_octet d ≡ true → every is_octet new ≡ true
      → editing_of (Appending new) d n ≡ Accepted k →
      let removing = Removing (name_of (new_header new)) (times_of new (items_in (record_of (take n d)))) in
      (editing_of removing (buffer_of (Appending new) d n) k ≡ Accepted n)
      × (take n (buffer_of removing (buffer_of (Appending new) d n) k) ≡ take n d)
  append_removed d n k o p a =
      let d' = buffer_of appended d n in
      let r = record_of (take n d) in
      let t = (edit_taken appended d n k a).0 in
      let m = message_allowed d n n o t.message in
      let h = buffer_edited appended d n k o p a in
      let parted = one_data r m.0 t.has_data in
      let removing = back (items_in r) in
      let e : edited_in removing d' k ≡ r =
      ap (edited removing) h.reads ∙ record_back r m.0 (edited_allowed appended d n k o p a).0 parted t.right p in
      let long : length (layout (edited_in removing d' k)) ≡ n = rw (e, m.1) (length-take-le n d t.within) in
      let accepted : editing_of removing d' k ≡ Accepted n = rw long at (edit_accepts removing d' k (back_free d n k o p a h e)) in
      (accepted, (buffer_edited removing d' k n h.octets tt accepted).message ∙ ap layout e ∙ m.1)

  -- of a name that may stand once, it is the first
  pub append_removed_once : (d : List ℕ) (n k : ℕ) → every is_octet d ≡ true → every is_octet new ≡ true
      → often_of (name_of (new_header new)) ≡ 1 → editing_of (Appending new) d n ≡ Accepted k →
      let removing = Removing (name_of (new_header new)) 0 in
      (editing_of removing (buffer_of (Appending new) d n) k ≡ Accepted n)
      × (take n (buffer_of removing (buffer_of (Appending new) d n) k) ≡ take n d)
  append_removed_once d n k o p one a =
      rw (none_before new (items_in (record_of (take n d))) (edit_taken appended d n k a).0.right one) at (append_removed d n k o p a)
