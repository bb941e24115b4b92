-- The rows that a listing gives.
use Rattle.std.specs.Prelude.{ℕ, List, [], Err}
use Rattle.annex.specs.Reading.{verdict_of}
use Rattle.annex.specs.Spans.{rows_of}
use Rattle.annex.specs.Answers.{Answer, Accepted}
use Rattle.annex.specs.declared.Row.{Row}

-- the rows that a listing gives after an answer: none after a refusal
abbrev pub rows_after : Answer → List Row → List Row
rows_after (Accepted n) rows = rows
rows_after (Err r) rows = []

-- the rows of a message, none where it is refused
abbrev pub listed : List ℕ → List Row
listed m = rows_after (verdict_of m) (rows_of m)
