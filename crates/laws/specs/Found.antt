-- Where a part of the message lies that finding hands back: the answer to the second question tells its start.
use Rattle.std.specs.Prelude.{ℕ, zero, suc, ◌-◌, ◌≡◌, refl, List, [], ◌∷◌, length, take, drop, Err}
use Rattle.std.proofs.Common.{ap}
use Rattle.annex.specs.Answers.{and_then, Answer, Accepted, Found, At, Nowhere}
use Rattle.annex.specs.Finding.{found_answer, part_by}

-- the stretch of so many octets that starts where an answer tells; none where it refuses
abbrev pub stretch_from : Answer → ℕ → List ℕ → List ℕ
stretch_from (Accepted s) n m = take n (drop s m)
stretch_from (Err r) n m = []

take_own : (n : ℕ) (l : List ℕ) → take n l ≡ take (length (take n l)) l
take_own zero l = refl
take_own (suc n) [] = refl
take_own (suc n) (x ∷ l) = ap (λ (t : List ℕ). x ∷ t) (take_own n l)

pub part_where : (v : Answer) (m : List ℕ) (f : Found)
    → part_by v m f ≡ stretch_from (and_then v (λ _. found_answer f)) (length (part_by v m f)) m
part_where (Accepted n) m (At s e) = take_own (e - s) (drop s m)
part_where (Accepted n) m Nowhere = refl
part_where (Err r) m f = refl
