-- Functions of a number below n, compared as lists of their values: one table that antt computes.
use Rattle.std.specs.Prelude.{ℕ, zero, suc, ◌<◌, ◌≡◌, refl, Bool, true, false, cond, List, [], ◌∷◌, map, T, eqb}
use Rattle.std.proofs.Common.{arith, sym, eqb-true}
use Rattle.std.proofs.lemmas.Bool.{eqb-false}
use Rattle.laws.specs.Octet.{None, among_any, not_any}

-- the numbers below n, the last first
abbrev pub below : ℕ → List ℕ
below zero = []
below (suc n) = n ∷ below n

module _ {A : Type 0} (f g : ℕ → A) where
  at_last : (n h : ℕ) (b : Bool) → eqb h n ≡ b → f n ≡ g n → (h < n → f h ≡ g h) → h < suc n → f h ≡ g h
  at_last n h true e p r l = rw (eqb-true h n e) p
  at_last n h false e p r l = r (omega (arith, eqb-false h n e))

  pub same_below : (n : ℕ) → map f (below n) ≡ map g (below n) → (h : ℕ) → h < n → f h ≡ g h
  same_below zero e h l = absurd (omega arith)
  same_below (suc n) e h l =
      let p : f n ≡ g n = cc in
      let q : map f (below n) ≡ map g (below n) = cc in
      at_last n h (eqb h n) refl p (same_below n q h) l

-- the `_` of a match, behind arms of keys: at every other number below n the function is v
pub at_rest : {A : Type 0} (v : A) (f : ℕ → A) (kss : List (List ℕ)) (n : ℕ)
    → map (λ k. cond (among_any k kss) v (f k)) (below n) ≡ map (λ _. v) (below n) → (x : ℕ) → None kss x → x < n → v ≡ f x
at_rest v f kss n e x r l = go (among_any x kss) (not_any kss x r) (same_below (λ k. cond (among_any k kss) v (f k)) (λ _. v) n e x l)
  where
    go : (b : Bool) → (T b → ⊥) → cond b v (f x) ≡ v → v ≡ f x
    go true h p = absurd (h tt)
    go false h p = sym p
