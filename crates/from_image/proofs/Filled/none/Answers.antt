-- `none` meets its contract: the struct in it is the empty one.
use Rattle.laws.specs.Filling.{empty_packed}
use Rattle.from_image.proofs.Filled.none.Goals as goal

pub returns : goal.returns
returns c = rw (c.empty.ensures, ← empty_packed)
