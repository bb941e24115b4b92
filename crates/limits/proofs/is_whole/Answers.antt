-- `is_whole` meets its contract: its tests are those of the definition, in their order.
use mathlib.Core.Path.{ap}
use borrow.Author.Tests.{le-leb, lt-leb}
use lib.Dec.{leb}
use Rattle.annex.specs.Heads.{most_values}
use Rattle.annex.specs.Records.{is_whole}
use Rattle.limits.proofs.is_whole.Goals as goal

pub returns-then-q-gt-MOST : goal.returns-then-q-gt-MOST
unfolding is_whole
returns-then-q-gt-MOST c = rw (lt-leb _ _ c.if-q-gt-MOST.true)

pub returns-else-n-le-MOST : goal.returns-else-n-le-MOST
unfolding is_whole
returns-else-n-le-MOST c =
    rw (le-leb _ _ c.if-q-gt-MOST.false, ← c.transfers_sum-n.ensures, lt-leb _ _ c.if-n-le-MOST.false)

pub returns-then-n-le-MOST : goal.returns-then-n-le-MOST
unfolding is_whole
returns-then-n-le-MOST c =
    rw (le-leb _ _ c.if-q-gt-MOST.false, ← c.transfers_sum-n.ensures, le-leb _ _ c.if-n-le-MOST.true)
    (ap (λ n. leb n most_values) c.values_before.ensures)
