use Rattle.std.proofs.Common.{◌≡◌, ◌+◌, ◌*◌, length, arith, ap, drop_of_length-le}
use Rattle.annex.specs.Ordering.{order_rows_from}
use Rattle.annex.specs.Packed.{octets_to_a_row}
use Rattle.rows.specs.Orders.{rows_step}
use Rattle.rows.specs.Tables.{left_stored, left_over}
use Rattle.rows.proofs.in_octets.put_order.Goals as goal

pub loop-k-preserved : goal.loop-k-preserved
loop-k-preserved c =
    let i = c.loop-k.invariant in
    let step = rows_step c.args.m.now c.loop-k.c (omega (arith, i.0, c.loop-k-test.true)) in
    let left = rw step at i.1 in
    let e : c.loop-k.k * octets_to_a_row + octets_to_a_row ≡ (c.loop-k.k + 1) * octets_to_a_row = omega arith in
    rw c.next-c.ensures
    (omega (arith, i.0, ap length step), rw e at (left_stored _ _ _ _ left _ (rw c.row_here.ensures at c.put_row.ensures)))

pub returns : goal.returns
returns c =
    let i = c.loop-k.invariant in
    let e : c.loop-k.k ≡ c.args.count = omega (arith, i.0, c.loop-k-test.false) in
    let none = drop_of_length-le (order_rows_from c.args.m.now c.loop-k.c) {i = 0} (omega (arith, i.0, c.loop-k-test.false)) in
    rw e at (left_over _ _ (rw none at i.1))
