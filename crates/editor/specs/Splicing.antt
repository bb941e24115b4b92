-- The last step of an edit: 14 and 15, the new octets in the place of the old, and C5's length octet. Where its numbers are those of the
-- edit, it keeps the edit's promise.
use Rattle.std.specs.Prelude.{ℕ, ◌+◌, ◌-◌, ◌≤◌, ◌<◌, ◌≡◌, false, List, ◌++◌, ltb, length, take, drop, set}
use Rattle.std.proofs.Common.{arith, sym, ap, ◌∙◌, leb-false, le-leb, length-append, take-take, length-take-le}
use Rattle.annex.specs.Answers.{transfer_over, no_room, refuse, Answer, Accepted}
use Rattle.annex.specs.Heads.{most_transfer_octets}
use Rattle.annex.specs.Layout.{layout_items, layout}
use Rattle.annex.specs.Allowed.{items_in}
use Rattle.annex.specs.Editing.{Edit, editing_of, holding, buffer_by, buffer_of}
use Rattle.annex.specs.Promises.{EditPromise}
use Rattle.annex.specs.Memory.{splice_fits, spliced}
use Rattle.octets.specs.Splice.{Fitting, set-spliced}
use Rattle.theorems.specs.Reasons.{edited_in}
use Rattle.theorems.specs.Splices.{Spliced, length-becomes, length_transfer, octets_become}
use Rattle.editor.specs.Steps.{room_answer}

-- the transfer data stands from index start to before end in the message in the first n octets of d, a length octet before it, and has
-- octets from its own index from to before to
pub record Placed (d : List ℕ) (n start end from to : ℕ) : Type 0 where
  pub counted : 1 ≤ start
  pub order : from ≤ to
  pub within : start + to ≤ end
  pub message : end ≤ n
  pub whole : n ≤ length d

-- the length of the transfer data with new in the place of so many old octets, and that of the message
abbrev pub data_length : ℕ → ℕ → ℕ → List ℕ → ℕ
data_length start end old new = end - start - old + length new

abbrev pub message_length : ℕ → ℕ → List ℕ → ℕ
message_length n old new = n - old + length new

unfoldable pub splice_answer : List ℕ → ℕ → ℕ → ℕ → ℕ → List ℕ → Answer
splice_answer d n start end old new =
    refuse (ltb most_transfer_octets (data_length start end old new)) transfer_over 0
    (refuse (ltb (length d) (message_length n old new)) no_room 0
    (Accepted (message_length n old new)))

-- the message so spliced, with C5's length octet
abbrev pub spliced_with : List ℕ → ℕ → ℕ → ℕ → ℕ → ℕ → List ℕ → List ℕ
spliced_with d n start end from to new =
    set (take (start + from) d) (start - 1) (data_length start end (to - from) new) ++ (new ++ drop (start + to) (take n d))

abbrev pub SplicePromise : List ℕ → ℕ → ℕ → ℕ → ℕ → ℕ → List ℕ → Answer → List ℕ → Type 0
SplicePromise d n start end from to new r now =
    (r ≡ splice_answer d n start end (to - from) new) × (now ≡ buffer_by r (holding d n (spliced_with d n start end from to new)) d)

-- ---- the splice and the store

module _ (d : List ℕ) (n start end from to : ℕ) (new : List ℕ) (p : Placed d n start end from to) where
  -- of the splice's tests only the room is left
  pub no_room_left : splice_fits d n (start + from) (to - from) new ≡ false → length d < message_length n (to - from) new
  no_room_left e =
      let a : start + from + (to - from) ≤ n = omega (arith, p.order, p.within, p.message) in
      leb-false (message_length n (to - from) new) (length d)
      (rw (le-leb (start + from + (to - from)) n a, le-leb n (length d) p.whole) at e)

  pub length_stored : (x : ℕ) → x ≡ data_length start end (to - from) new → Fitting d n (start + from) (to - from) new
      → set (spliced d n (start + from) (to - from) new) (start - 1) x ≡ holding d n (spliced_with d n start end from to new)
  length_stored x l f =
      let e : start + from + (to - from) ≡ start + to = omega (arith, p.order) in
      rw l
      (rw e at
      (set-spliced d n (start + from) (to - from) new f (start - 1) (data_length start end (to - from) new) (omega (arith, p.counted))))

-- ---- the numbers of an edit

pub record Cut (e : Edit) (d : List ℕ) (n start end from to : ℕ) (new : List ℕ) : Type 0 where
  pub within : n ≤ length d
  pub splice : Spliced e (take n d) (edited_in e d n)
  pub start_is : start ≡ length splice.before + 2
  pub end_is : end ≡ length splice.before + 2 + length (splice.front ++ (splice.old ++ splice.back))
  pub from_is : from ≡ length splice.front
  pub to_is : to ≡ length splice.front + length splice.old
  pub new_is : new ≡ splice.new
  pub room : editing_of e d n ≡ room_answer e d n

module _ {e : Edit} {d : List ℕ} {n start end from to : ℕ} {new : List ℕ} (c : Cut e d n start end from to new) where
  -- how long the parts are
  parts : length (c.splice.front ++ (c.splice.old ++ c.splice.back))
      ≡ length c.splice.front + length c.splice.old + length c.splice.back
  parts = simp length-append (omega arith)

  whole : n
      ≡ length c.splice.before + 2 + length c.splice.front + length c.splice.old + length c.splice.back + length
      c.splice.after
  whole =
      let l = c.within in
      sym (length-take-le n d l) ∙ ap length c.splice.was ∙ simp length-append (omega arith)

  pub cut_placed : Placed d n start end from to
  cut_placed =
      record {
        counted = omega (arith, c.start_is);
        order = omega (arith, c.from_is, c.to_is);
        within = omega (arith, c.start_is, c.to_is, c.end_is, parts);
        message = omega (arith, c.end_is, parts, whole);
        whole = c.within;
      }

  -- the lengths and the octets are those of the edited record
  data_long : data_length start end (to - from) new ≡ length (layout_items (items_in (edited_in e d n)))
  data_long =
      omega (
        arith,
        c.start_is,
        c.end_is,
        c.from_is,
        c.to_is,
        ap length c.new_is,
        parts,
        length_transfer e (take n d) (edited_in e d n) c.splice,
      )

  message_long : message_length n (to - from) new ≡ length (layout (edited_in e d n))
  message_long =
      omega (
        arith,
        c.from_is,
        c.to_is,
        ap length c.new_is,
        whole,
        length-take-le n d c.within,
        length-becomes e (take n d) (edited_in e d n) c.splice,
      )

  message_is : spliced_with d n start end from to new ≡ layout (edited_in e d n)
  message_is =
      let p : start - 1 ≡ length c.splice.before + 1 = omega (arith, c.start_is) in
      let f : start + from ≡ length c.splice.before + 2 + length c.splice.front = omega (arith, c.start_is, c.from_is) in
      let g : start + to ≡ length c.splice.before + 2 + length c.splice.front + length c.splice.old =
      omega (arith, c.start_is, c.to_is) in
      let t : take (start + from) d ≡ take (start + from) (take n d) = sym (take-take (start + from) n d (omega (arith, f, whole))) in
      rw (data_long, p, t, f, g, c.new_is) (octets_become e (take n d) (edited_in e d n) c.splice)

  cut_edits : (r : Answer) (now : List ℕ) → SplicePromise d n start end from to new r now → EditPromise e d n r now
  unfolding splice_answer buffer_of
  cut_edits r now p =
      let q : r ≡ editing_of e d n = p.0 ∙ rw (data_long, message_long) (sym c.room) in
      (q, p.1 ∙ rw (← q, message_is))

-- the same of the numbers that the last step was handed, where they are those of the edit
pub handed_edits : {e : Edit} {d : List ℕ} {n start end x y : ℕ} {new : List ℕ} {r : Answer} {now : List ℕ} (from to : ℕ)
    → SplicePromise d n start end x y new r now → Cut e d n start end from to new → x ≡ from → y ≡ to → EditPromise e d n r now
handed_edits from to p c f t = cut_edits c _ _ (rw (f, t) at p)
