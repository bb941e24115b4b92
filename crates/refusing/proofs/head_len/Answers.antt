-- `head_len` meets its contract: its two arms are the two lengths of a head laid out.
use Rattle.annex.specs.Records.{value_head}
use Rattle.refusing.specs.Laying.{head_laid}
use Rattle.refusing.proofs.head_len.Goals as goal

pub returns-then-is_call : goal.returns-then-is_call
returns-then-is_call c = rw (head_laid (value_head c.args.header 0), ← c.is_call.ensures, c.if-is_call.true)

pub returns-else-is_call : goal.returns-else-is_call
returns-else-is_call c = rw (head_laid (value_head c.args.header 0), ← c.is_call.ensures, c.if-is_call.false)
