-- `values_before` meets its contract: the lengths of the first n heads, each of 16 bits, are added.
use native.Mathlib.Omega.{arith}
use mathlib.Core.Path.{◌≡◌, refl, sym, ◌∙◌}
use borrow.Author.Rules.{rules}
use lib.ListN.{length, length-take}
use Rattle.std.proofs.Common.{tests}
use Rattle.std.proofs.lemmas.Iterator.{YieldsList-from_slice, YieldsList-from_take, YieldsList-from_map}
use Rattle.std.proofs.lemmas.Iterator.Consumers.{sum_by_from_yields_List}
use Rattle.std.proofs.lemmas.Iterator.Adapters.{at_most_from_yields_List, fits_from_length}
use Rattle.std.proofs.lemmas.List.Recursion.{is_sum_by}
use Rattle.annex.specs.Heads.{most_transfers}
use Rattle.annex.specs.Records.{lengths_of}
use Rattle.limits.specs.Along.{length_mapped}
use Rattle.limits.proofs.values_before.Goals as goal

pub sum-requires-clause-fits : goal.sum-requires-clause-fits
sum-requires-clause-fits c =
    let a = c.args in
    let l : length a.q.transfer ≡ most_transfers = search (rules, length_mapped) in
    fits_from_length _ _ 54 _
    (at_most_from_yields_List (YieldsList-from_take a.n (YieldsList-from_slice a.q.transfer cc) cc) (omega (arith, l, length-take a.n a.q.transfer)))
    c.map.ensures.closure (omega arith) (λ x r q k. search (rules, tests))

pub returns : goal.returns
unfolding lengths_of
returns c =
    let a = c.args in
    sum_by_from_yields_List (λ t. t.len) _ _ _ c.sum.ensures.ran
    (YieldsList-from_map _ (λ t. t.len) (YieldsList-from_take a.n (YieldsList-from_slice a.q.transfer cc) cc) c.map.ensures.closure
    (λ x r q k. search rules))
    ∙ sym (is_sum_by lengths_of (λ t. t.len) refl (λ _ _. refl) _)
