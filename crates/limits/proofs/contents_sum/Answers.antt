-- `contents_sum` meets its contract: what the contents of each come to is added.
use native.Mathlib.Omega.{arith}
use mathlib.Core.Path.{◌≡◌, sym, ◌∙◌}
use borrow.Author.Rules.{rules}
use lib.ListN.{length}
use Rattle.std.proofs.lemmas.Iterator.{YieldsList-from_map}
use Rattle.std.proofs.lemmas.Iterator.Consumers.{YieldsList-from_first, sum_by_from_yields_List, fits_by_from_yields_list}
use Rattle.annex.specs.Heads.{most_transfers, most_values}
use Rattle.limits.specs.Along.{length_mapped}
use Rattle.annex.specs.Records.{held_at}
use Rattle.limits.specs.Held.{handed, items_left, items_here, contents_held, contents_all, contents_fit}
use Rattle.limits.proofs.contents_sum.Goals as goal

pub sum-requires-clause-fits : goal.sum-requires-clause-fits
sum-requires-clause-fits c =
    let q = c.args.q in
    let l : length q.transfer ≡ most_transfers = search (rules, length_mapped) in
    let v : length q.values ≡ most_values = search rules in
    let all = held_at q 0 c.args.n in
    fits_by_from_yields_list contents_held all _ _
    (YieldsList-from_map _ contents_held (YieldsList-from_first handed items_left all cc) c.map.ensures.closure (λ x r q k. search rules))
    (omega (arith, contents_fit q 0 c.args.n l v))

pub returns : goal.returns
returns c =
    let all = held_at c.args.q 0 c.args.n in
    sum_by_from_yields_List contents_held all _ _ c.sum.ensures.ran
    (YieldsList-from_map _ contents_held (YieldsList-from_first handed items_left all cc) c.map.ensures.closure (λ x r q k. search rules))
    ∙ sym (rw (items_here c.args.q 0 c.args.n) (contents_all all))
