-- `row_between` meets its contract.
use Rattle.std.proofs.Common.{sym, ◌∙◌}
use Rattle.annex.specs.Walking.{extent_in, stretch_here}
use Rattle.walk.specs.Stretches.{stretch_told}
use Rattle.walk.proofs.cursor.row_between.Goals as goal

pub overflow_sub-result : goal.overflow_sub-result
unfolding stretch_here
overflow_sub-result c =
    (stretch_told (extent_in c.args.c) _ _ (sym c.requires ∙ c.in-Some.is)).ordered
