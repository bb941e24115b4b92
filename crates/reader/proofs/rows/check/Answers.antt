-- `check` meets its contract.
use mathlib.Core.Path.{sym, ◌∙◌}
use borrow.Author.Tests.{lt-ltb, le-ltb}
use Rattle.annex.specs.Spans.{spans_by}
use Rattle.reader.proofs.rows.check.Goals as goal

pub returns-in_default : goal.returns-in_default
unfolding spans_by
returns-in_default c = rw (← c.verdict-answer.ensures, c.in_default.is)

pub count-n-requires : goal.count-n-requires
count-n-requires c = (_, sym c.verdict-answer.ensures ∙ c.in-Ok.is)

pub returns-then-room-n : goal.returns-then-room-n
unfolding spans_by
returns-then-room-n c = rw (← c.verdict-answer.ensures, c.in-Ok.is, ← c.count-n.ensures, lt-ltb _ _ c.if-room-n.true)

pub returns : goal.returns
unfolding spans_by
returns c = rw (← c.verdict-answer.ensures, c.in-Ok.is, ← c.count-n.ensures, le-ltb _ _ c.if-room-n.false)
