-- `empty` meets its contract: both kinds of parts are the empty ones.
use Rattle.laws.specs.Filling.{empty_packed}
use Rattle.reader.proofs.reading.empty.Goals as goal

pub returns : goal.returns
returns c = rw (c.none-c.ensures, c.none-t.ensures) empty_packed
