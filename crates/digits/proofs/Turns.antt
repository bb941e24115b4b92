-- One turn of the loop over half-octets and its end.
use Prim.Native.Nat.{ℕ, ◌+◌, ◌-◌, ◌/◌, ◌≤◌, ◌<◌}
use native.Mathlib.Numerals.{add-one}
use native.Mathlib.Omega.{arith}
use mathlib.Core.Path.{◌≡◌, sym, ap, ◌∙◌}
use mathlib.Core.Bool.{cond}
use mathlib.Core.List.{List, ◌∷◌}
use lib.Dec.{eqb, ltb}
use lib.ListN.{length, get_or, drop, drop_of_length-le}
use lib.Seq.{drop-cons}
use Rattle.annex.specs.Answers.{bad_digit, Sound, Bad}
use Rattle.annex.specs.Digits.{halves, is_code, halves_fault, digits_fault}
use Rattle.annex.specs.declared.HalfOctets.{HalfOctets}
use Rattle.annex.specs.declared.Alphabet.{Alphabet}
use Rattle.laws.specs.Halves.{first_left, half_turn}

-- the half at i: a digit where i is below n, and else 0
pub halves_turn : (z : Alphabet) (n i p : ℕ) (hs : List ℕ) → i < length hs
    → halves_fault z (n - i) p (drop i hs)
    ≡ cond (cond (ltb i n) (is_code z (get_or hs i 0)) (eqb (get_or hs i 0) 0)) (halves_fault z (n - (i + 1)) (p + 1) (drop (i + 1) hs))
    (Bad bad_digit (p / 2))
halves_turn z n i p hs l =
    ap (halves_fault z (n - i) p) (drop-cons hs i 0 l ∙ ap (λ (k : ℕ). get_or hs i 0 ∷ drop k hs) (sym (add-one i)))
    ∙ half_turn z (n - i) p (get_or hs i 0) (drop (i + 1) hs) (ltb i n) (n - (i + 1)) (first_left i n) (omega arith)

pub halves_end : (z : Alphabet) (n i p : ℕ) (hs : List ℕ) → length hs ≤ i → halves_fault z n p (drop i hs) ≡ Sound
unfolding halves_fault
halves_end z n i p hs l = rw (drop_of_length-le hs)

-- past the end of the octets there is no half-octet
pub digits_none : (z : Alphabet) (n : HalfOctets) (at i : ℕ) (s : List ℕ) → length s ≤ i → digits_fault z n at (drop i s) ≡ Sound
unfolding digits_fault halves_fault halves
digits_none z n at i s l = rw (drop_of_length-le s)
