-- `spans` meets its contract: what is refused leaves the table, and else its rows are stored.
use Rattle.std.proofs.Common.{sym, ap, ◌∙◌, ◌++◌, drop, length-take-le}
use Rattle.annex.specs.Spans.{table_of}
use Rattle.laws.specs.Passed.{passed_on}
use Rattle.rows.specs.Tables.{fill_fits, spans_given, table_filled, room_kept}
use Rattle.rows.proofs.spans.Goals as goal

pub returns-in_err-n : goal.returns-in_err-n
unfolding table_of
returns-in_err-n c =
    let r = c.in_err-n.field-0.0 in
    let told = sym c.check.ensures ∙ c.in_err-n.was in
    (passed_on c.from_residual.result r c.from_residual.ensures.1 ∙ sym told, room_kept _ _ c.args.rows.now r.0 r.1 told)

pub slice_bounds-fill-end : goal.slice_bounds-fill-end
slice_bounds-fill-end c = (spans_given c.args.m.now _ _ _ c.check.ensures c.in_ok-n.was).roomy

pub slice_bounds-fill-end-2 : goal.slice_bounds-fill-end-2
slice_bounds-fill-end-2 c = sym (length-take-le _ _ (spans_given c.args.m.now _ _ _ c.check.ensures c.in_ok-n.was).roomy)

pub fill-requires : goal.fill-requires
fill-requires c =
    let g = spans_given c.args.m.now _ _ _ c.check.ensures c.in_ok-n.was in
    (g.stands, fill_fits c.args.rows.now g)

pub returns : goal.returns
unfolding table_of
returns c =
    let told = sym c.check.ensures ∙ c.in_ok-n.was in
    let g = spans_given c.args.m.now _ _ _ c.check.ensures c.in_ok-n.was in
    (sym told, rw told (table_filled c.args.rows.now g _ (ap (λ l. l ++ drop c.in_ok-n.n c.args.rows.now) c.fill.ensures)))
