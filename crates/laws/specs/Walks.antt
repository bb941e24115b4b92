-- Laws of a walk: one turn, at a header and at an index of the whole list. They hold of any step, close, stop and more.
use Rattle.std.specs.Prelude.{◌≡◌, length, get_or, take, drop}
use Rattle.std.proofs.Math.Path.{ap}
use Rattle.std.proofs.Common.{◌∙◌, add-one, drop_of_length-le, drop-cons, drop-drop}
use mathlib.Core.List.{List, [], ◌∷◌}
use Prim.Native.Nat.{ℕ, zero, suc, ◌+◌, ◌≤◌, ◌<◌}
use Rattle.std.proofs.Math.Nat.{add-zero}
use native.Mathlib.Omega.{arith}
use Rattle.annex.specs.Walk.{Seen, counted, Walker, walk}
use Rattle.annex.specs.Answers.{Accepted, Refused}

module _ {R : Type 0} (r : Walker R) where
  skip : (seen : Seen) (k p : ℕ) (xs : List ℕ) → k ≤ length xs → walk r seen k p xs ≡ walk r seen 0 (p + k) (drop k xs)
  unfolding walk
  skip seen zero p xs h = rw add-zero
  skip seen (suc k) p [] h = absurd (omega arith)
  skip seen (suc k) p (x ∷ xs) h =
      let e : p + 1 + k ≡ p + suc k = omega arith in
      skip seen k (p + 1) xs (omega arith) ∙ ap (λ (q : ℕ). walk r seen 0 q (drop k xs)) e

  pub walk_end : (seen : Seen) (p i : ℕ) (t : List ℕ) → length t ≤ i → walk r seen 0 p (drop i t) ≡ r.close seen p
  unfolding walk
  walk_end seen p i t h = rw (drop_of_length-le t)

  -- at a header
  pub refused : (seen : Seen) (p x : ℕ) (xs : List ℕ) (k q : ℕ) → r.step seen x xs ≡ Refused k q
      → walk r seen 0 p (x ∷ xs) ≡ r.stop k (p + q)
  unfolding walk
  refused seen p x xs k q e = rw e

  pub accepted : (seen : Seen) (p x : ℕ) (xs : List ℕ) (n : ℕ) → r.step seen x xs ≡ Accepted n → n ≤ length xs
      → walk r seen 0 p (x ∷ xs)
      ≡ r.more (record { place = p; head = x; own = take n xs }) (walk r (counted seen x) 0 (p + 1 + n) (drop n xs))
  unfolding walk
  accepted seen p x xs n e l = rw e (ap (r.more _) (skip (counted seen x) n (p + 1) xs l))

  -- at an index
  pub walk_refused : (seen : Seen) (p i : ℕ) (t : List ℕ) (k q : ℕ) → i < length t
      → r.step seen (get_or t i 0) (drop (i + 1) t) ≡ Refused k q → walk r seen 0 p (drop i t) ≡ r.stop k (p + q)
  walk_refused seen p i t k q h e = rw (drop-cons t i 0, ← add-one) (refused seen p (get_or t i 0) (drop (i + 1) t) k q e)

  pub walk_accepted : (seen : Seen) (p q i : ℕ) (t : List ℕ) (n : ℕ) → i < length t
      → r.step seen (get_or t i 0) (drop (i + 1) t) ≡ Accepted n → n ≤ length (drop (i + 1) t) → p + 1 + n ≡ q
      → walk r seen 0 p (drop i t)
      ≡ r.more (record { place = p; head = get_or t i 0; own = take n (drop (i + 1) t) })
      (walk r (counted seen (get_or t i 0)) 0 q (drop (i + 1 + n) t))
  walk_accepted seen p q i t n h e l w =
      rw (drop-cons t i 0, ← add-one i, ← w, ← drop-drop n (i + 1) t) (accepted seen p (get_or t i 0) (drop (i + 1) t) n e l)
