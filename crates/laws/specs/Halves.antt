-- Laws of half-octets.
use Rattle.std.specs.Prelude.{ℕ, zero, suc, ◌+◌, ◌-◌, ◌/◌, ◌%◌, ◌<◌, ◌≤◌, ◌≡◌, refl, Bool, true, false, cond, List, [], ◌∷◌, map, eqb, ltb, length, get_or, take}
use Rattle.std.proofs.Common.{arith, sym, ap, ◌∙◌, lt-ltb, le-ltb, ltb-true, ltb-false, length-take, get_or-take}
use Rattle.std.proofs.lemmas.List.{length-map}
use Rattle.std.proofs.Math.ListN.{get_or-map}
use Rattle.annex.specs.Answers.{bad_digit, Bad}
use Rattle.annex.specs.Units.{halves_in}
use Rattle.annex.specs.Digits.{halves, is_code, digit_of, halves_fault, digits_of}
use Rattle.annex.specs.declared.HalfOctets.{HalfOctets}
use Rattle.annex.specs.declared.Alphabet.{Alphabet}
use Rattle.annex.specs.declared.Alphabet.TheVariants.{Dialled, Numbered, Decimal}

pub length-halves : (s : List ℕ) → length (halves s) ≡ (halves_in s).0
unfolding halves
length-halves [] = refl
length-halves (x ∷ s) = omega (arith, length-halves s)

pub halves_even : (s : List ℕ) (i : ℕ) → i % 2 ≡ 0 → get_or (halves s) i 0 ≡ get_or s (i / 2) 0 % 16
unfolding halves
halves_even [] i h = refl
halves_even (x ∷ s) zero h = refl
halves_even (x ∷ s) (suc zero) h = omega arith
halves_even (x ∷ s) (suc (suc i)) h =
    let e : suc (suc i) / 2 ≡ suc (i / 2) = omega arith in
    rw e (halves_even s i (omega arith))

pub halves_odd : (s : List ℕ) (i : ℕ) → (i % 2 ≡ 0 → ⊥) → get_or (halves s) i 0 ≡ get_or s (i / 2) 0 / 16
unfolding halves
halves_odd [] i h = refl
halves_odd (x ∷ s) zero h = absurd (h refl)
halves_odd (x ∷ s) (suc zero) h = refl
halves_odd (x ∷ s) (suc (suc i)) h =
    let e : suc (suc i) / 2 ≡ suc (i / 2) = omega arith in
    rw e (halves_odd s i (λ z. h (omega arith)))

-- the digits that octets hold: how many, and each
pub length-digits_of : (z : Alphabet) (n : HalfOctets) (s : List ℕ) → n.0 ≤ (halves_in s).0 → length (digits_of z n s) ≡ n.0
unfolding digits_of
length-digits_of z n s h = simp (length-map, length-take, length-halves) (omega arith)

digit_none : (z : Alphabet) → digit_of z 0 ≡ 0
unfolding digit_of
digit_none Dialled = refl
digit_none Numbered = refl
digit_none Decimal = refl

mapped : (g : ℕ → ℕ) (l : List ℕ) (i : ℕ) → g 0 ≡ 0 → get_or (map g l) i 0 ≡ g (get_or l i 0)
mapped g l i e = rw e at (get_or-map g l i 0)

pub digits_of_at : (z : Alphabet) (n : HalfOctets) (s : List ℕ) (i : ℕ) → i < n.0
    → get_or (digits_of z n s) i 0 ≡ digit_of z (get_or (halves s) i 0)
unfolding digits_of
digits_of_at z n s i h = mapped (digit_of z) (take n.0 (halves s)) i (digit_none z) ∙ ap (digit_of z) (get_or-take n.0 (halves s) i 0 h)

-- of n digits behind i halves one is left where i is below n
pub first_left : (i n : ℕ) → ltb 0 (n - i) ≡ ltb i n
first_left i n = go (ltb i n) refl
  where
    go : (b : Bool) → ltb i n ≡ b → ltb 0 (n - i) ≡ b
    go true e = lt-ltb 0 (n - i) (omega (arith, ltb-true i n e))
    go false e = le-ltb 0 (n - i) (omega (arith, ltb-false i n e))

-- one half: a digit where one is left, and else filler
pub half_turn : (z : Alphabet) (n p h : ℕ) (hs : List ℕ) (b : Bool) (m : ℕ) → ltb 0 n ≡ b → n - 1 ≡ m
    → halves_fault z n p (h ∷ hs) ≡ cond (cond b (is_code z h) (eqb h 0)) (halves_fault z m (p + 1) hs) (Bad bad_digit (p / 2))
unfolding halves_fault
half_turn z zero p h hs b m e f = rw (← e, ← f)
half_turn z (suc n) p h hs b m e f =
    let g : m ≡ n = omega arith in
    rw (sym e ∙ lt-ltb 0 (suc n) (omega arith), g)
