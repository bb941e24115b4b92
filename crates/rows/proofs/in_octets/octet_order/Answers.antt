-- `octet_order` meets its contract: what is refused leaves the table, and else its rows are put.
use Rattle.std.proofs.Common.{sym, arith, ◌∙◌}
use Rattle.annex.specs.Packed.{octet_order_table}
use Rattle.laws.specs.Passed.{passed_on}
use Rattle.rows.specs.Orders.{order_given}
use Rattle.rows.specs.Tables.{ended_put, table_kept}
use Rattle.rows.proofs.in_octets.octet_order.Goals as goal

pub returns-in_err-n : goal.returns-in_err-n
unfolding octet_order_table
returns-in_err-n c =
    let r = c.in_err-n.field-0.0 in
    let told = sym c.check_order.ensures ∙ c.in_err-n.was in
    (passed_on c.from_residual.result r c.from_residual.ensures.1 ∙ sym told, table_kept _ _ c.args.table.now r.0 r.1 told)

pub put_order-requires : goal.put_order-requires
put_order-requires c =
    let g = order_given c.args.m.now _ _ _ c.check_order.ensures c.in_ok-n.was in
    (rw g.same g.count, omega (arith, g.roomy))

pub returns : goal.returns
unfolding octet_order_table
returns c =
    let told = sym c.check_order.ensures ∙ c.in_ok-n.was in
    let g = order_given c.args.m.now _ _ _ c.check_order.ensures c.in_ok-n.was in
    (sym told, rw told (ended_put c.args.table.now g _ _ c.put_order.ensures))
