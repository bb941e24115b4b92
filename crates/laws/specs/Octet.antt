-- Laws for a function of an octet that the code computes by a `match`: each arm is one test that antt computes over the arm's numbers.
use Rattle.std.specs.Prelude.{◌≡◌, refl, Bool, true, false, ◌&&◌, ◌||◌, List, [], ◌∷◌, ℕ, zero, suc, ◌+◌, ◌≤◌, ◌<◌, T, eqb}
use Rattle.std.proofs.Common.{sym, subst, inl, inr, arith, eqb-true}
use Rattle.std.proofs.lemmas.Bool.{eqb-false}
use types.Run.{OneOf}
use Rattle.annex.specs.Heads.{among}
use Rattle.laws.specs.Bools.{same, same→eq}

both_left : (a b : Bool) → T (a && b) → T a
both_left true b t = tt
both_left false b t = t

both_right : (a b : Bool) → T (a && b) → T b
both_right true b t = t
both_right false b t = absurd t

either_right : (a b : Bool) → T (a || b) → (T a → ⊥) → T b
either_right true b t h = absurd (h tt)
either_right false b t h = t

-- the test passes at lo and the n - 1 numbers after it
abbrev pub all : (ℕ → Bool) → ℕ → ℕ → Bool
all f lo zero = true
all f lo (suc n) = f lo && all f (suc lo) n

next : (f : ℕ → Bool) (lo h : ℕ) (b : Bool) → eqb h lo ≡ b → T (f lo) → (suc lo ≤ h → T (f h)) → lo ≤ h → T (f h)
next f lo h true e t r p = subst (λ (k : ℕ). T (f k)) (sym (eqb-true h lo e)) t
next f lo h false e t r p = r (omega (arith, eqb-false h lo e))

-- what a test computes over a range holds at each of its numbers
pub range : (f : ℕ → Bool) (lo n : ℕ) → T (all f lo n) → (h : ℕ) → lo ≤ h → h < lo + n → T (f h)
range f lo zero t h p q = absurd (omega arith)
range f lo (suc n) t h p q =
    next f lo h (eqb h lo) refl (both_left (f lo) (all f (suc lo) n) t)
    (λ p'. range f (suc lo) n (both_right (f lo) (all f (suc lo) n) t) h p' (omega arith)) p

-- the test passes at each of the keys
abbrev pub all_of : (ℕ → Bool) → List ℕ → Bool
all_of f [] = true
all_of f (k ∷ ks) = f k && all_of f ks

-- an arm of keys
pub hits : (f : ℕ → Bool) (ks : List ℕ) → T (all_of f ks) → (x : ℕ) → OneOf ks x → T (f x)
hits f [] t x h = absurd h
hits f (k ∷ []) t x h = subst (λ (m : ℕ). T (f m)) (sym h) (both_left (f k) true t)
hits f (k ∷ l ∷ ks) t x (inl h) = subst (λ (m : ℕ). T (f m)) (sym h) (both_left (f k) (all_of f (l ∷ ks)) t)
hits f (k ∷ l ∷ ks) t x (inr h) = hits f (l ∷ ks) (both_right (f k) (all_of f (l ∷ ks)) t) x h

among_one : (ks : List ℕ) (x : ℕ) → T (among x ks) → OneOf ks x
among_one [] x t = t
among_one (k ∷ []) x t = one (eqb x k) refl t
  where
    one : (b : Bool) → eqb x k ≡ b → T (b || false) → x ≡ k
    one true e u = eqb-true x k e
    one false e u = absurd u
among_one (k ∷ l ∷ ks) x t = one (eqb x k) refl t (among_one (l ∷ ks) x)
  where
    one : (b : Bool) → eqb x k ≡ b → T (b || among x (l ∷ ks)) → (T (among x (l ∷ ks)) → OneOf (l ∷ ks) x) → OneOf (k ∷ l ∷ ks) x
    one true e u r = inl (eqb-true x k e)
    one false e u r = inr (r u)

-- the keys of the arms before a `_`, the last arm first; none of them is x: what `.match .rest` says
abbrev pub None : List (List ℕ) → ℕ → Type 0
None [] x = Unit {0}
None (ks ∷ kss) x = None kss x × (OneOf ks x → ⊥)

abbrev pub among_any : ℕ → List (List ℕ) → Bool
among_any x [] = false
among_any x (ks ∷ kss) = among x ks || among_any x kss

any : (a b : Bool) → (T a → ⊥) → (T b → ⊥) → T (a || b) → ⊥
any true b p q t = p t
any false b p q t = q t

pub not_any : (kss : List (List ℕ)) (x : ℕ) → None kss x → T (among_any x kss) → ⊥
not_any [] x n t = t
not_any (ks ∷ kss) x n t = any (among x ks) (among_any x kss) (λ u. n.1 (among_one ks x u)) (not_any kss x n.0) t

-- a `_`, or an arm of a range beside arms of keys
pub rest : (f : ℕ → Bool) (kss : List (List ℕ)) (lo n : ℕ) → T (all (λ k. among_any k kss || f k) lo n) → (h : ℕ) → None kss h → lo ≤ h
    → h < lo + n → T (f h)
rest f kss lo n t h r p q =
    either_right (among_any h kss) (f h) (range (λ k. among_any k kss || f k) lo n t h p q) (not_any kss h r)

-- the same for what has any values, compared by a test: v is its value over the arm
module _ {A : Type 0} (test : A → A → Bool) (tested : (a b : A) → T (test a b) → a ≡ b) where
  pub span_by_lem : (v : A) (f : ℕ → A) (kss : List (List ℕ)) (lo n : ℕ) → T (all (λ k. among_any k kss || test v (f k)) lo n) → (x : ℕ)
      → None kss x → lo ≤ x → x < lo + n → v ≡ f x
  span_by_lem v f kss lo n t x r p q = tested v (f x) (rest (λ k. test v (f k)) kss lo n t x r p q)

  pub one_of_by : (v : A) (f : ℕ → A) (ks : List ℕ) → T (all_of (λ k. test v (f k)) ks) → (x : ℕ) → OneOf ks x → v ≡ f x
  one_of_by v f ks t x h = tested v (f x) (hits (λ k. test v (f k)) ks t x h)

-- and for a test
pub span : (v : Bool) (f : ℕ → Bool) (kss : List (List ℕ)) (lo n : ℕ) → T (all (λ k. among_any k kss || same v (f k)) lo n) → (x : ℕ)
    → None kss x → lo ≤ x → x < lo + n → v ≡ f x
span = span_by_lem same same→eq

pub one_of : (v : Bool) (f : ℕ → Bool) (ks : List ℕ) → T (all_of (λ k. same v (f k)) ks) → (x : ℕ) → OneOf ks x → v ≡ f x
one_of = one_of_by same same→eq
