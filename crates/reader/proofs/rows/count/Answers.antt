-- `count` meets its contract: the iterator gives the rows of an accepted message.
use Rattle.annex.specs.Walking.{rows_left}
use mathlib.Core.Path.{◌∙◌}
use Rattle.std.proofs.lemmas.Iterator.Consumers.{YieldsList-from_first, count_from_yields_List}
use Rattle.walk.specs.declared.cursor.Rows.{Rows}
use Rattle.walk.specs.Rows.{rows_all}
use Rattle.reader.proofs.rows.count.Goals as goal

pub returns : goal.returns
returns c =
    count_from_yields_List c.rows_in.result c.count.result c.count.ensures.ran
    (YieldsList-from_first (λ x. x) (λ (r : Rows). rows_left r.m.now r.c) _ (c.rows_in.ensures ∙ rows_all c.args.m.now c.requires))
