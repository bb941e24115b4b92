-- `refused` meets its contract: six places of zero beside the empty record.
use Rattle.annex.specs.Records.{pad}
use Rattle.annex.specs.Profile.{pairs_in, values_under}
use Rattle.profile.proofs.refused.Goals as goal

pub returns : goal.returns
unfolding pad pairs_in values_under
returns c = rw (c.none.ensures, c.empty.ensures)
