-- `transfers_sum` meets its contract: the counts of the common parameters, each an octet, are added.
use native.Mathlib.Omega.{arith}
use mathlib.Core.Path.{refl, sym, ◌∙◌}
use borrow.Author.Rules.{rules}
use Rattle.std.proofs.Common.{tests}
use Rattle.std.proofs.lemmas.Iterator.{YieldsList-from_slice, YieldsList-from_map}
use Rattle.std.proofs.lemmas.Iterator.Consumers.{sum_by_from_yields_List}
use Rattle.std.proofs.lemmas.Iterator.Adapters.{at_most_from_yields_List, fits_from_length}
use lib.ListN.{length-take}
use Rattle.std.proofs.lemmas.List.Recursion.{is_sum_by}
use Rattle.annex.specs.Records.{transfer_count, transfers_sum, commons_in}
use Rattle.limits.proofs.transfers_sum.Goals as goal

pub sum-requires-clause-fits : goal.sum-requires-clause-fits
sum-requires-clause-fits c =
    fits_from_length _ _ 7 _ (at_most_from_yields_List (YieldsList-from_slice (commons_in c.args.q) cc) (omega (arith, c.requires, length-take c.args.q.commons c.args.q.common))) c.map.ensures.closure (omega arith)
    (λ x r q k. search (rules, tests))

pub returns : goal.returns
unfolding transfers_sum
returns c =
    let cs = commons_in c.args.q in
    sum_by_from_yields_List transfer_count cs _ _ c.sum.ensures.ran
    (YieldsList-from_map _ transfer_count (YieldsList-from_slice cs cc) c.map.ensures.closure (λ x r q k. search rules))
    ∙ sym (is_sum_by transfers_sum transfer_count refl (λ _ _. refl) cs)
