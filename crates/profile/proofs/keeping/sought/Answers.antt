-- `sought` meets its contract: a header's name is its lower six bits.
use Rattle.profile.proofs.keeping.sought.Goals as goal

pub returns : goal.returns
returns c = c.transfer_by_length.ensures
