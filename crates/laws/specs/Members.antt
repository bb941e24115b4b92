-- Laws of a list's members, of sums over them, and of how many they are that stand once each.
use Rattle.std.specs.Prelude.{ℕ, ◌+◌, ◌≤◌, ◌≡◌, refl, Bool, true, false, cond, not, ◌&&◌, ◌||◌, List, [], ◌∷◌, eqb, length}
use Rattle.std.proofs.Common.{arith, eqb-true}
use Rattle.annex.specs.Heads.{among}
use Rattle.annex.specs.Allowed.{every}
use Rattle.annex.specs.Orders.{once}
use Rattle.laws.specs.Bools.{and_left, and_right, same_turned}

-- a test that each of a list passes is passed by any number among it
pub among_every : (f : ℕ → Bool) (ks : List ℕ) → every f ks ≡ true → (x : ℕ) → among x ks ≡ true → f x ≡ true
among_every f [] t x e = absurd (let z : ◌≡◌ {A = ℕ} 0 1 = cc in omega arith)
among_every f (k ∷ ks) t x e = go (eqb x k) refl e (among_every f ks (and_right (f k) (every f ks) t) x)
  where
    go : (b : Bool) → eqb x k ≡ b → b || among x ks ≡ true → (among x ks ≡ true → f x ≡ true) → f x ≡ true
    go true g u r = rw (eqb-true x k g) (and_left (f k) (every f ks) t)
    go false g u r = r u

-- ---- sums

-- f of each, added up
abbrev pub sum_of : {A : Type 0} → (A → ℕ) → List A → ℕ
sum_of f [] = 0
sum_of f (x ∷ xs) = f x + sum_of f xs

-- with 1 for each: the length
pub count : {A : Type 0} (xs : List A) → sum_of (λ x. 1) xs ≡ length xs
count [] = refl
count (x ∷ xs) = omega (arith, count xs)

-- ---- numbers that stand once each

module _ (f : ℕ → Bool) where
  -- how many of a list pass the test, the numbers xs left out
  abbrev pub passing : List ℕ → List ℕ → ℕ
  passing xs ks = sum_of (λ k. cond (not (among k xs) && f k) 1 0) ks

  -- with one more left out, that passes: one fewer, if the list has it
  one_fewer : (x : ℕ) (xs ks : List ℕ) → not (among x xs) ≡ true → f x ≡ true → cond (among x ks) 1 0 + passing (x ∷ xs) ks ≤ passing xs ks
  one_fewer x xs [] n t = omega arith
  one_fewer x xs (k ∷ ks) n t = go (eqb x k) refl (one_fewer x xs ks n t)
    where
      go : (b : Bool) → eqb x k ≡ b → cond (among x ks) 1 0 + passing (x ∷ xs) ks ≤ passing xs ks
          → cond (b || among x ks) 1 0 + (cond (not (eqb k x || among k xs) && f k) 1 0 + passing (x ∷ xs) ks)
          ≤ cond (not (among k xs) && f k) 1 0 + passing xs ks
      go true e i = rw (same_turned k x, e, ← eqb-true x k e, n, t) (omega arith)
      go false e i = rw (same_turned k x, e) (omega arith)

  -- where the list has every number that passes: numbers that pass, each standing once, with those of the list beside them, are no more
  -- than pass of the whole list
  pub once_few : (ks : List ℕ) → ((x : ℕ) → f x ≡ true → among x ks ≡ true) → (xs : List ℕ) → once xs ≡ true → every f xs ≡ true
      → length xs + passing xs ks ≤ passing [] ks
  once_few ks a [] o t = omega arith
  once_few ks a (x ∷ xs) o t =
      let new = not (among x xs) in
      let h = and_left (f x) (every f xs) t in
      let i = once_few ks a xs (and_right new (once xs) o) (and_right (f x) (every f xs) t) in
      omega (arith, rw (a x h) at (one_fewer x xs ks (and_left new (once xs) o) h))
