-- `read` meets its contract: the verdict decides, as in the definition.
use mathlib.Core.Path.{sym, ap, ◌∙◌}
use Rattle.annex.specs.Records.{reading_of}
use Rattle.annex.specs.Answers.{Accepted}
use Rattle.theorems.specs.Messages.{message_read}
use Rattle.reader.proofs.reading.read.Goals as goal

-- an accepted message is accepted with its length
pub fill-record-requires : goal.fill-record-requires
fill-record-requires c =
    let e = sym c.verdict-answer.ensures ∙ c.in-Ok.is in
    e ∙ ap Accepted (message_read _ _ e).length-given

pub returns-in-Ok : goal.returns-in-Ok
unfolding reading_of
returns-in-Ok c = rw (c.in-Ok.is, sym c.verdict-answer.ensures ∙ c.in-Ok.is, c.fill-record.ensures)

pub returns-in-Err : goal.returns-in-Err
unfolding reading_of
returns-in-Err c = rw (c.in-Err.is, sym c.verdict-answer.ensures ∙ c.in-Err.is, c.empty-record.ensures)
