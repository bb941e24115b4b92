-- `held` meets its contract: what is found lies within the octets.
use Rattle.std.proofs.Common.{sym, ◌∙◌}
use Rattle.entries.specs.Left.{entry_stands}
use Rattle.carriers.proofs.held.Goals as goal

pub slice_bounds-result-count : goal.slice_bounds-result-count
slice_bounds-result-count c = (entry_stands _ _ _ _ (sym c.inside.ensures ∙ c.in-Some.is)).order

pub slice_bounds-result-start : goal.slice_bounds-result-start
slice_bounds-result-start c = (entry_stands _ _ _ _ (sym c.inside.ensures ∙ c.in-Some.is)).order

pub slice_bounds-result-end : goal.slice_bounds-result-end
slice_bounds-result-end c = (entry_stands _ _ _ _ (sym c.inside.ensures ∙ c.in-Some.is)).within
