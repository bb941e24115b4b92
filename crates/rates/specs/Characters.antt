-- The number that characters make, as the code finds it: digit by digit, and never too large for 16 bits.
use Prim.Native.Nat.{ℕ, zero, suc, ◌+◌, ◌-◌, ◌*◌, ◌%◌, ◌≤◌, ◌<◌}
use Rattle.std.proofs.Common.{add-one, ◌∙◌, drop-cons, drop_of_length-le, ◌∷◌, min, take, sym, inl, inr}
use Rattle.std.proofs.lemmas.Bool.{cases_lt}
use Rattle.std.proofs.lemmas.List.{get_or-take, length-take}
use native.Mathlib.Omega.{arith}
use Rattle.std.specs.Prelude.{◌≡◌, length, get_or, drop, replicate}
use Rattle.std.proofs.Math.Path.{refl, ap}
use mathlib.Core.List.{List, []}
use Rattle.annex.specs.Rates.{numbers_drawn, decimal}
use Rattle.annex.specs.declared.Drawn.TheVariants.{Character}

-- n with w characters behind it
abbrev pub characters_after : ℕ → ℕ → List ℕ → ℕ
characters_after n w xs = decimal n (numbers_drawn (replicate w Character) xs)

-- at the character i of w, and past the last of them
module _ (n w i : ℕ) (s : List ℕ) where
  pub digit_more : (x : ℕ) → i < length (take w s) → x ≡ get_or (take w s) i x
      → characters_after n (w - i) (drop i s) ≡ characters_after (10 * n + x % 16) (w - (i + 1)) (drop (i + 1) s)
  unfolding decimal numbers_drawn
  digit_more x h o =
      let c : i < min w (length s) = rw length-take at h in
      let d : x ≡ get_or s i x = o ∙ get_or-take w s i x (omega arith) in
      let e : w - i ≡ suc (w - (i + 1)) = omega arith in
      let p : drop i s ≡ get_or s i x ∷ drop (i + 1) s = rw (add-one i) (drop-cons s i x (omega arith)) in
      ap (λ k. characters_after n k (drop i s)) e
      ∙ (ap (characters_after n (suc (w - (i + 1)))) p
      ∙ ap (λ y. characters_after (10 * n + y % 16) (w - (i + 1)) (drop (i + 1) s)) (sym d))

  pub digits_end : length s ≤ i → characters_after n (w - i) (drop i s) ≡ n
  unfolding decimal numbers_drawn
  digits_end l = rw (drop_of_length-le s {i = i} l) (none_left (w - i))
    where
      none_left : (k : ℕ) → characters_after n k [] ≡ n
      none_left zero = refl
      none_left (suc k) = refl

  pub digits_done : w ≤ i → characters_after n (w - i) (drop i s) ≡ n
  unfolding decimal numbers_drawn
  digits_done h = let e : w - i ≡ 0 = omega arith in rw e

  -- past the last of those that are taken
  pub digits_taken : i ≡ length (take w s) → characters_after n (w - i) (drop i s) ≡ n
  digits_taken h =
      elim (cases_lt (length s) w) [
        | inl l ↦ digits_end (omega (arith, h, length-take w s, l))
        | inr l ↦ digits_done (omega (arith, h, length-take w s, l))
      ]

-- the most that i characters make, whatever octets they are
abbrev pub most : ℕ → ℕ
most zero = 0
most (suc i) = 10 * most i + 15

pub most_next : (i : ℕ) → most (i + 1) ≡ 10 * most i + 15
most_next i = rw (add-one i)

pub most_small : (i : ℕ) → i < 4 → most i ≤ 1665
most_small zero h = omega arith
most_small (suc zero) h = omega arith
most_small (suc (suc zero)) h = omega arith
most_small (suc (suc (suc zero))) h = omega arith
most_small (suc (suc (suc (suc i)))) h = absurd (omega arith)
