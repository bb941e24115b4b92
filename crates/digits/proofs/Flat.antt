-- That every element passes a test, as a fold over them all.
use Prim.Native.Nat.{ℕ, ◌+◌, ◌<◌, ◌≤◌}
use native.Mathlib.Numerals.{add-one}
use mathlib.Core.Path.{◌≡◌, refl, sym, ap, ◌∙◌}
use mathlib.Core.Bool.{Bool, true, false, ◌&&◌, and_assoc}
use mathlib.Core.List.{List, [], ◌∷◌}
use lib.ListN.{length, get_or, drop, drop_of_length-le}
use lib.Seq.{drop-cons}
use Rattle.std.specs.List.{fold}
use Rattle.annex.specs.Allowed.{every}

-- on from what was met so far
fold_from : (f : ℕ → Bool) (good : Bool) (xs : List ℕ) → fold (λ b x. b && f x) good xs ≡ good && every f xs
fold_from f true [] = refl
fold_from f false [] = refl
fold_from f good (x ∷ xs) = fold_from f (good && f x) xs ∙ and_assoc good (f x) (every f xs)

pub fold_every : (f : ℕ → Bool) (xs : List ℕ) → fold (λ b x. b && f x) true xs ≡ every f xs
fold_every f xs = fold_from f true xs

-- ---- element by element

-- one more element
pub every_one : (f : ℕ → Bool) (xs : List ℕ) (i : ℕ) → i < length xs → every f (drop i xs) ≡ f (get_or xs i 0) && every f (drop (i + 1) xs)
every_one f xs i h = rw (add-one i, drop-cons xs i 0 h)

pub every_turn : (f : ℕ → Bool) (xs : List ℕ) (i : ℕ) (all good : Bool) → all ≡ good && every f (drop i xs) → i < length xs
    → all ≡ (good && f (get_or xs i 0)) && every f (drop (i + 1) xs)
every_turn f xs i all good e h =
    e ∙ ap (λ (b : Bool). good && b) (every_one f xs i h) ∙ sym (and_assoc good (f (get_or xs i 0)) (every f (drop (i + 1) xs)))

and-true : (b : Bool) → b && true ≡ b
and-true true = refl
and-true false = refl

pub every_end : (f : ℕ → Bool) (xs : List ℕ) (i : ℕ) (all good : Bool) → all ≡ good && every f (drop i xs) → length xs ≤ i → good ≡ all
every_end f xs i all good e h = sym (and-true good) ∙ ap (λ (l : List ℕ). good && every f l) (sym (drop_of_length-le xs h)) ∙ sym e
