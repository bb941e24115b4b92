-- `octet_spans` meets its contract: what is refused leaves the table, and else its rows are put, and where they end tells their count.
use Rattle.std.proofs.Common.{refl, sym, ap, ◌∙◌}
use Rattle.annex.specs.Answers.{Accepted}
use Rattle.annex.specs.Packed.{octet_table}
use Rattle.laws.specs.Passed.{passed_on}
use Rattle.rows.specs.Tables.{ended_count, ended_put, put_fits, spans_given, table_kept}
use Rattle.rows.proofs.in_octets.octet_spans.Goals as goal

pub returns-in_err-refusal : goal.returns-in_err-refusal
unfolding octet_table
returns-in_err-refusal c =
    let r = c.in_err-refusal.field-0.0 in
    let told = rw c.in_err-refusal.was at c.refusal.ensures in
    (passed_on c.from_residual.result r c.from_residual.ensures.1 ∙ sym told, table_kept _ _ c.args.table.now r.0 r.1 told)

pub put_rows-requires : goal.put_rows-requires
put_rows-requires c =
    let told = rw c.in_ok-refusal.was at c.refusal.ensures in
    let g = spans_given c.args.m.now _ _ _ refl told in
    (g.stands, put_fits c.args.table.now g)

pub returns : goal.returns
unfolding octet_table
returns c =
    let told = rw c.in_ok-refusal.was at c.refusal.ensures in
    let g = spans_given c.args.m.now _ _ _ refl told in
    let p = c.put_rows.ensures in
    (ap Accepted (ended_count c.args.table.now g _ _ p) ∙ sym told, rw told (ended_put c.args.table.now g _ _ p))
