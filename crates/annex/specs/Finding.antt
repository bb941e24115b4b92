-- Finding contents: document 01, "Finding contents", and which of those with a name, document 02, request g: where they stand, the part
-- itself, and the answer to the second question; 16 comes after reading's numbers.
use Rattle.std.specs.Prelude.{ℕ, ◌+◌, ◌-◌, cond, List, [], ◌∷◌, eqb, length, take, drop, Result, Ok, Err}
use Rattle.std.proofs.Common.{Bor}
use Rattle.annex.specs.Answers.{start_of, stop_of, absent, and_then, Found, At, Nowhere, Answer, Accepted, Refused}
use Rattle.annex.specs.Units.{name_of, lead_of, extent_of, common_extent_of}
use Rattle.annex.specs.Heads.{end_mark, transfer_data, kth}
use Rattle.annex.specs.Walk.{Par}
use Rattle.annex.specs.Reading.{verdict_of, commons_of, transfers_of, data_in}
use Rattle.annex.specs.declared.Extent.{Extent}
use Rattle.annex.specs.declared.Refusal.{Refusal}
use Rattle.annex.specs.declared.Key.{Key}
use Rattle.annex.specs.declared.Key.TheVariants.{Header, Name}

-- where the contents stand of a parameter, counted from s octets before the first place
abbrev pub stretch_of : Extent → ℕ → Par → Found
stretch_of e s q = At (s + q.place + 1 + lead_of e) (s + q.place + 1 + length q.own)

-- of the common parameter with the header h; the end mark has no contents to be found
unfoldable pub common_in : ℕ → List Par → Found
common_in h [] = Nowhere
common_in h (q ∷ qs) = cond (eqb q.head h) (stretch_of (common_extent_of h) 0 q) (common_in h qs)

unfoldable pub common_found : ℕ → List ℕ → Found
common_found h m = cond (eqb h end_mark) Nowhere (common_in h (commons_of m))

-- of a transfer parameter with the name x, the one with the number `which` of those, counted from 0, in transfer data that starts at s
unfoldable pub transfer_in : ℕ → ℕ → ℕ → List Par → Found
transfer_in x which s [] = Nowhere
transfer_in x which s (q ∷ qs) =
    cond (eqb x (name_of q.head)) (kth which (stretch_of (extent_of q.head) s q) (λ k. transfer_in x k s qs))
    (transfer_in x which s qs)

-- in the parameters of a message: in those of its C5
unfoldable pub transfer_among : ℕ → ℕ → List Par → Found
transfer_among x which [] = Nowhere
transfer_among x which (q ∷ qs) =
    cond (eqb q.head transfer_data) (transfer_in x which (q.place + 2) (transfers_of (data_in q))) (transfer_among x which qs)

unfoldable pub transfer_found : ℕ → ℕ → List ℕ → Found
transfer_found x which m = transfer_among x which (commons_of m)

-- by a key: a header, or a name and which of those with it
abbrev pub found_by : Key → List ℕ → Found
found_by (Header h) m = common_found h m
found_by (Name x which) m = transfer_found x which m

-- the second question: accepted, with where the contents start, or number and place
abbrev pub found_answer : Found → Answer
found_answer (At s e) = Accepted s
found_answer Nowhere = Refused absent 0

abbrev pub find_answer : List ℕ → Found → Answer
find_answer m f = and_then (verdict_of m) (λ _. found_answer f)

-- the stretch itself
abbrev pub found_part : List ℕ → Found → List ℕ
found_part m f = take (stop_of f - start_of f) (drop (start_of f) m)

abbrev pub part_by : Answer → List ℕ → Found → List ℕ
part_by (Accepted n) m f = found_part m f
part_by (Err r) m f = []

abbrev pub find_part : List ℕ → Found → List ℕ
find_part m f = part_by (verdict_of m) m f

-- what one finding tells, start and part together: the answer, and the part, none where refused
abbrev pub answer_told : Result (ℕ × Bor (List ℕ)) Refusal → Answer
answer_told (Ok t) = Accepted t.0
answer_told (Err r) = Err r

abbrev pub part_told : Result (ℕ × Bor (List ℕ)) Refusal → List ℕ
part_told (Ok t) = t.1.now
part_told (Err r) = []
