-- Laws of a run of stores into an array, and of whether values fit there.
use Rattle.std.specs.Prelude.{ℕ, suc, ◌+◌, ◌≤◌, ◌<◌, ◌≡◌, true, List, [], ◌∷◌, ◌++◌, leb, length, get_or, take, set}
use Rattle.std.proofs.Common.{arith, add-zero, leb-true, le-leb, take-suc, length-take-le}
use Rattle.std.proofs.lemmas.List.Edits.{sets}
use Rattle.annex.specs.Heads.{most_values}
use Rattle.annex.specs.Memory.{values_fit}
use Rattle.laws.specs.Bools.{and_left, and_right}

module _ {A : Type 0} where
  -- one more store at the end of the run
  pub sets_snoc : (l : List A) (i : ℕ) (vs : List A) (v : A) → sets l i (vs ++ v ∷ []) ≡ set (sets l i vs) (i + length vs) v
  sets_snoc l i [] v = rw (add-zero i)
  sets_snoc l i (a ∷ vs) v =
      let e : i + suc (length vs) ≡ suc i + length vs = omega arith in
      rw e (sets_snoc (set l i a) (suc i) vs v)

  -- a turn of a loop that stores the elements of vs from i on
  pub sets-turn : (l : List A) (i : ℕ) (vs : List A) (j : ℕ) (d : A) → j < length vs
      → set (sets l i (take j vs)) (i + j) (get_or vs j d) ≡ sets l i (take (j + 1) vs)
  sets-turn l i vs j d h =
      let e : j + 1 ≡ suc j = omega arith in
      let k : length (take j vs) ≡ j = length-take-le j vs (omega arith) in
      rw (e, take-suc vs j d h, sets_snoc l i (take j vs) (get_or vs j d), k)

-- ---- values that fit after the used ones

pub record Fits (room used n : ℕ) : Type 0 where
  pub few : n ≤ most_values
  pub within : used + n ≤ room

module _ (room used n : ℕ) where
  pub told_fits : values_fit room used n ≡ true → Fits room used n
  told_fits e =
      let a = leb n most_values in
      let b = leb (used + n) room in
      record { few = leb-true n most_values (and_left a b e); within = leb-true (used + n) room (and_right a b e) }

  pub fits_told : Fits room used n → values_fit room used n ≡ true
  fits_told f = rw (le-leb n most_values f.few, le-leb (used + n) room f.within)
