-- `count` meets its contract: the iterator gives a cursor to each entry.
use Rattle.annex.specs.Entering.{cursors_from}
use Rattle.std.proofs.Common.{arith}
use Rattle.std.proofs.lemmas.Iterator.Consumers.{YieldsList-from_first, count_from_yields_List}
use Rattle.entries.specs.declared.cursor.Cursors.{Cursors}
use Rattle.carriers.specs.Rows.{entries_counted, cursors_count}
use Rattle.carriers.proofs.count.Goals as goal

pub returns : goal.returns
returns c =
    let s = c.args.s.now in
    let n =
    count_from_yields_List c.entries.result c.count.result c.count.ensures.ran
    (YieldsList-from_first (λ x. x) (λ (e : Cursors). cursors_from e.s.now e.c) _ c.entries.ensures) in
    omega (arith, n, cursors_count s c.requires, entries_counted s)
