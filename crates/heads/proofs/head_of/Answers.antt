-- `head_of` meets its contract: the lists ask what the definitions ask.
use native.Mathlib.Omega.{arith}
use Rattle.heads.specs.Asked.{asks}
use Rattle.heads.proofs.head_of.Goals as goal

pub returns : goal.returns
returns c = asks c.args.header (omega arith) _ c.one_octet.ensures
