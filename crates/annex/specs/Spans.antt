-- Spans: document 01, "Spans": the rows of a message, those of C5 right behind its own, the end mark's last; 15 comes after reading's
-- numbers; and what the table then holds. As reading is, they are by a rule of contents; the names at the end are by the rule in force.
use Rattle.std.specs.Prelude.{ℕ, ◌+◌, ◌-◌, cond, List, [], ◌∷◌, ◌++◌, eqb, ltb, length}
use Rattle.annex.specs.Answers.{no_room, refuse, and_then, room_after, Answer, Accepted}
use Rattle.annex.specs.Units.{lead_of, extent_of, common_extent_of}
use Rattle.annex.specs.Heads.{transfer_data}
use Rattle.annex.specs.Contents.{Rule, fault_of}
use Rattle.annex.specs.Walk.{Par}
use Rattle.annex.specs.Reading.{data_in, verdict_by, commons_by, transfers_by}
use Rattle.annex.specs.declared.Extent.{Extent}
use Rattle.annex.specs.declared.Row.{Row}

-- Spans: offset of the header, header, how many octets the contents have
abbrev pub par_row : Extent → ℕ → Par → Row
par_row e s q = record { offset = s + q.place; header = q.head; len = length q.own - lead_of e }

-- the rows of transfer parameters, in transfer data that starts at s
unfoldable pub transfer_rows : ℕ → List Par → List Row
transfer_rows s [] = []
transfer_rows s (q ∷ qs) = par_row (extent_of q.head) s q ∷ transfer_rows s qs

module _ (rule : Rule) where
  -- the rows inside a common parameter: those of a C5
  abbrev pub inner_rows_by : Par → List Row
  inner_rows_by q = cond (eqb q.head transfer_data) (transfer_rows (q.place + 2) (transfers_by rule (data_in q))) []

  unfoldable pub common_rows_by : List Par → List Row
  common_rows_by [] = []
  common_rows_by (q ∷ qs) = par_row (common_extent_of q.head) 0 q ∷ (inner_rows_by q ++ common_rows_by qs)

  -- the rows of an accepted message
  unfoldable pub rows_by : List ℕ → List Row
  rows_by m = common_rows_by (commons_by rule m)

  -- the row count, or number and place
  unfoldable pub spans_by : List ℕ → ℕ → Answer
  spans_by m room =
      and_then (verdict_by rule m) (λ _. refuse (ltb room (length (rows_by m))) no_room 0 (Accepted (length (rows_by m))))

-- ---- by the rule in force

abbrev pub inner_rows : Par → List Row
inner_rows = inner_rows_by fault_of

abbrev pub common_rows : List Par → List Row
common_rows = common_rows_by fault_of

abbrev pub rows_of : List ℕ → List Row
rows_of = rows_by fault_of

abbrev pub spans_of : List ℕ → ℕ → Answer
spans_of = spans_by fault_of

-- what the table then holds
unfoldable pub table_of : List ℕ → List Row → List Row
table_of m table = room_after (spans_of m (length table)) (rows_of m) table
