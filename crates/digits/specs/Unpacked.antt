-- How many digits octets hold: as many as are told, or fewer where the octets end.
use Rattle.std.proofs.Math.Nat.{zero-min, min-zero, suc-min-suc}
use Rattle.std.specs.Prelude.{◌≡◌, ℕ, zero, suc, min, List, [], ◌∷◌, map, length, take}
use Rattle.std.proofs.Common.{ap, ◌∙◌, length-take}
use Rattle.std.proofs.lemmas.List.{length-map}
use Rattle.annex.specs.Units.{halves_in}
use Rattle.annex.specs.Digits.{halves, digit_of, digits_of}
use Rattle.annex.specs.declared.HalfOctets.{HalfOctets}
use Rattle.annex.specs.declared.Alphabet.{Alphabet}
use Rattle.laws.specs.Halves.{length-halves}

take_min : {A : Type 0} (n : ℕ) (l : List A) → take (min n (length l)) l ≡ take n l
take_min zero l = ap (λ k. take k l) (zero-min (length l))
take_min (suc n) [] = ap (λ k. take k []) (min-zero (suc n))
take_min (suc n) (x ∷ l) = ap (λ k. take k (x ∷ l)) (suc-min-suc n (length l)) ∙ ap (λ r. x ∷ r) (take_min n l)

pub there : (z : Alphabet) (n : HalfOctets) (s : List ℕ) → digits_of z (record { 0 = min n.0 (halves_in s).0 }) s ≡ digits_of z n s
unfolding digits_of
there z n s = rw (← length-halves s) (ap (map (digit_of z)) (take_min n.0 (halves s)))

pub length_there : (z : Alphabet) (n : HalfOctets) (s : List ℕ) → length (digits_of z n s) ≡ min n.0 (halves_in s).0
unfolding digits_of
length_there z n s = simp (length-map, length-take, length-halves)
