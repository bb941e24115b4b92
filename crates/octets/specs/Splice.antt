-- Laws of a stretch of a message replaced in the buffer that holds it: that it fits, as facts, and what can be read of the buffer
-- afterwards.
use Rattle.std.specs.Prelude.{◌≡◌, true, ◌&&◌, List, ◌++◌, ℕ, ◌+◌, ◌-◌, ◌≤◌, ◌<◌, leb, length, take, set}
use Rattle.std.proofs.Math.Path.{ap}
use Rattle.std.proofs.Common.{◌∙◌, arith, leb-true, length-set, length-append, length-take, length-drop, length-take-le}
use Rattle.std.proofs.Math.ListN.{drop}
use Rattle.std.proofs.lemmas.List.{set-append_left}
use Rattle.annex.specs.Editing.{cleared, holding}
use Rattle.annex.specs.Memory.{spliced_message, spliced, splice_fits}
use Rattle.laws.specs.Bools.{and_left, and_right}

-- the same as facts
pub record Fitting (d : List ℕ) (n from old : ℕ) (new : List ℕ) : Type 0 where
  pub within : from + old ≤ n
  pub whole : n ≤ length d
  pub room : n - old + length new ≤ length d

pub told_fitting : (d : List ℕ) (n from old : ℕ) (new : List ℕ) → splice_fits d n from old new ≡ true → Fitting d n from old new
told_fitting d n from old new e =
    let a = leb (from + old) n in
    let b = leb n (length d) in
    let c = leb (n - old + length new) (length d) in
    let r = and_right a (b && c) e in
    record {
      within = leb-true (from + old) n (and_left a (b && c) e);
      whole = leb-true n (length d) (and_left b c r);
      room = leb-true (n - old + length new) (length d) (and_right b c r);
    }

-- an octet stored in a message that the buffer holds
set-holding : (d : List ℕ) (n : ℕ) (m : List ℕ) (i v : ℕ) → i < length m → set (holding d n m) i v ≡ holding d n (set m i v)
set-holding d n m i v h = rw (length-set m i v) (set-append_left m (cleared (n - length m) (drop (length m) d)) i v h)

module _ (d : List ℕ) (n from old : ℕ) (new : List ℕ) (fit : Fitting d n from old new) where
  -- the message's parts, each of its length
  length_front : length (take from d) ≡ from
  length_front = length-take-le from d (omega arith)

  length_tail : length (drop (from + old) (take n d)) ≡ n - (from + old)
  length_tail = simp (length-drop, length-take) (omega arith)

  pub length_message : length (spliced_message d n from old new) ≡ n - old + length new
  length_message = simp length-append (omega (arith, length_front, length_tail))

  -- an octet stored before them
  pub set-spliced : (i v : ℕ) → i < from
      → set (spliced d n from old new) i v ≡ holding d n (set (take from d) i v ++ (new ++ drop (from + old) (take n d)))
  unfolding spliced
  set-spliced i v h =
      let t = new ++ drop (from + old) (take n d) in
      set-holding d n (spliced_message d n from old new) i v (omega (arith, length_message))
      ∙ ap (holding d n) (set-append_left (take from d) t i v (omega (arith, length_front)))
