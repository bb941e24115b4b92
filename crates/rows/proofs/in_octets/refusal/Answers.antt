-- `refusal` meets its contract: a shorter table is asked for its room, and no message has more rows than any other has room for.
use Rattle.rows.specs.Tables.{count_checked, count_roomy}
use Rattle.rows.proofs.in_octets.refusal.Goals as goal

pub returns-then-octets : goal.returns-then-octets
returns-then-octets c = rw c.check.ensures (count_checked _ _)

pub returns : goal.returns
returns c = rw c.verdict.ensures (count_roomy _ _ c.if-octets.false)
