-- Demand 3: what the buffer holds after an edit. The edited record's layout stands in front, what the message gave up behind it is 0, and
-- the rest stays, by lengths alone.
use Rattle.std.specs.Prelude.{ℕ, zero, suc, ◌+◌, ◌-◌, ◌≤◌, ◌<◌, ◌≡◌, refl, true, List, ◌++◌, length, get_or, take, drop, replicate}
use Rattle.std.proofs.Common.{arith, sym, ap, ◌∙◌, length-append, length-drop, get_or-append-add, get_or-drop}
use Rattle.std.proofs.lemmas.List.{length-replicate, get_or-replicate}
use Rattle.std.proofs.Math.ListN.{get_or-append}
use Rattle.std.proofs.Math.Seq.{take-append_seam}
use Rattle.annex.specs.Layout.{layout}
use Rattle.annex.specs.Allowed.{every, is_octet}
use Rattle.annex.specs.Reading.{verdict_of, record_of}
use Rattle.annex.specs.Editing.{Edit, editing_of, cleared, holding, buffer_of}
use Rattle.annex.specs.Answers.{Accepted, Refused}
use Rattle.theorems.specs.Lists.{every_append, every_drop}
use Rattle.theorems.specs.Layouts.{laid_then_read}
use Rattle.theorems.specs.Reasons.{edited_in, edit_taken}
use Rattle.theorems.specs.Edits.{OfOctets, edited_allowed}

-- ---- a message put in the front of a buffer whose first n octets held another

-- behind the first list
behind : (xs ys : List ℕ) (i : ℕ) → length xs ≤ i → get_or (xs ++ ys) i 0 ≡ get_or ys (i - length xs) 0
behind xs ys i h =
    let at : length xs + (i - length xs) ≡ i = omega arith in
    ap (λ (j : ℕ). get_or (xs ++ ys) j 0) (sym at) ∙ get_or-append-add xs ys (i - length xs) 0

dropped : (d : List ℕ) (k i : ℕ) → k ≤ i → get_or (drop k d) (i - k) 0 ≡ get_or d i 0
dropped d k i h =
    let at : k + (i - k) ≡ i = omega arith in
    get_or-drop k d (i - k) 0 ∙ ap (λ (j : ℕ). get_or d j 0) at

cleared_front : (k : ℕ) (d : List ℕ) (i : ℕ) → i < k → get_or (cleared k d) i 0 ≡ 0
cleared_front k d i h =
    get_or-append (replicate k 0) (drop k d) 0 i (rw length-replicate h) ∙ get_or-replicate k i 0 0 h

cleared_rest : (k : ℕ) (d : List ℕ) (i : ℕ) → k ≤ i → get_or (cleared k d) i 0 ≡ get_or d i 0
cleared_rest k d i h =
    let l : length {A = ℕ} (replicate k 0) ≡ k = length-replicate k 0 in
    behind (replicate k 0) (drop k d) i (rw l h) ∙ rw l (dropped d k i h)

zeroes_octets : (k : ℕ) → every is_octet (replicate k 0) ≡ true
zeroes_octets zero = refl
zeroes_octets (suc k) = zeroes_octets k

module _ (d : List ℕ) (n : ℕ) (m : List ℕ) (within : n ≤ length d) (room : length m ≤ length d) where
  holding-length : length (holding d n m) ≡ length d
  holding-length = simp (length-append, length-replicate, length-drop) (omega arith)

  holding_zeroes : (i : ℕ) → length m ≤ i → i < n → get_or (holding d n m) i 0 ≡ 0
  holding_zeroes i l h =
      let k = n - length m in
      behind m _ i l ∙ cleared_front k (drop (length m) d) (i - length m) (omega arith)

  holding_rest : (i : ℕ) → length m ≤ i → n ≤ i → get_or (holding d n m) i 0 ≡ get_or d i 0
  holding_rest i l h =
      let k = n - length m in
      behind m _ i l ∙ cleared_rest k (drop (length m) d) (i - length m) (omega arith) ∙ dropped d (length m) i l

  holding_octets : every is_octet d ≡ true → every is_octet m ≡ true → every is_octet (holding d n m) ≡ true
  holding_octets o p =
      let k = n - length m in
      let rest = every_drop is_octet k (drop (length m) d) (every_drop is_octet (length m) d o) in
      every_append is_octet m _ p (every_append is_octet (replicate k 0) (drop k (drop (length m) d)) (zeroes_octets k) rest)

-- ---- after an edit

-- accepted with k: the buffer holds the edited message, which reads as the edited record; octets from the new end to the old are 0, those
-- behind both as before
pub record Afterwards (e : Edit) (d : List ℕ) (n k : ℕ) : Type 0 where
  pub holds : buffer_of e d n ≡ holding d n (layout (edited_in e d n))
  pub same_length : length (buffer_of e d n) ≡ length d
  pub message : take k (buffer_of e d n) ≡ layout (edited_in e d n)
  pub verdict : verdict_of (take k (buffer_of e d n)) ≡ Accepted k
  pub reads : record_of (take k (buffer_of e d n)) ≡ edited_in e d n
  pub zeroes : (i : ℕ) → k ≤ i → i < n → get_or (buffer_of e d n) i 0 ≡ 0
  pub rest : (i : ℕ) → k ≤ i → n ≤ i → get_or (buffer_of e d n) i 0 ≡ get_or d i 0
  pub octets : every is_octet (buffer_of e d n) ≡ true

pub buffer_edited : (e : Edit) (d : List ℕ) (n k : ℕ) → every is_octet d ≡ true → OfOctets e → editing_of e d n ≡ Accepted k
    → Afterwards e d n k
unfolding buffer_of
buffer_edited e d n k o w a =
    let m = layout (edited_in e d n) in
    let t = edit_taken e d n k a in
    let l = laid_then_read (edited_in e d n) (edited_allowed e d n k o w a).0 in
    let within = t.0.within in
    let room = t.0.room in
    let holds : buffer_of e d n ≡ holding d n m = rw a in
    let front : take k (buffer_of e d n) ≡ m = rw (holds, t.1) (take-append_seam m _) in
    record {
      holds = holds;
      same_length = rw holds (holding-length d n m within room);
      message = front;
      verdict = rw (front, t.1) l.0;
      reads = rw front l.1;
      zeroes = λ i h j. rw holds (holding_zeroes d n m within room i (rw t.1 at h) j);
      rest = λ i h j. rw holds (holding_rest d n m within room i (rw t.1 at h) j);
      octets = rw holds (holding_octets d n m within room o l.2);
    }

-- refused: unchanged
pub buffer_refused : (e : Edit) (d : List ℕ) (n j p : ℕ) → editing_of e d n ≡ Refused j p → buffer_of e d n ≡ d
unfolding buffer_of
buffer_refused e d n j p a = rw a
