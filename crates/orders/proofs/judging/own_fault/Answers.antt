-- `own_fault` meets its contract: the octets that are the header's own must be there, and are then judged.
use Prim.Native.Nat.{◌+◌}
use native.Mathlib.Omega.{arith}
use mathlib.Core.Path.{sym, ap, ◌∙◌}
use borrow.Author.Tests.{leb-true}
use lib.ListN.{get_or}
use lib.Seq.{length-take-le}
use Rattle.annex.specs.Orders.{order_after}
use Rattle.laws.specs.Orders.{after_some}
use Rattle.orders.specs.Walked.{own_so}
use Rattle.orders.proofs.judging.own_fault.Goals as goal

pub returns-then-not-lies_within : goal.returns-then-not-lies_within
returns-then-not-lies_within c =
    let a = c.args in
    let own = c.order_after-n.ensures ∙ ap (order_after a.layout) c.octet_at.ensures in
    sym (own_so a.layout a.s.now a.at _ own ∙ rw (sym c.lies_within.ensures ∙ c.if-not-lies_within.true))

pub overflow_add-end : goal.overflow_add-end
overflow_add-end c =
    let there = leb-true _ _ (sym c.lies_within.ensures ∙ c.if-not-lies_within.false) in
    record { fits = omega (arith, there) }

pub slice_bounds-layout_fault-end : goal.slice_bounds-layout_fault-end
slice_bounds-layout_fault-end c =
    sym (length-take-le _ c.args.s.now (leb-true _ _ (sym c.lies_within.ensures ∙ c.if-not-lies_within.false)))

-- one of them at least
pub layout_fault-requires : goal.layout_fault-requires
layout_fault-requires c =
    let a = c.args in
    let own = c.order_after-n.ensures ∙ ap (order_after a.layout) c.octet_at.ensures in
    let there = leb-true _ _ (sym c.lies_within.ensures ∙ c.if-not-lies_within.false) in
    omega (arith, own, after_some a.layout (get_or a.s.now a.at 0), length-take-le (a.at + c.order_after-n.result) a.s.now there)

pub returns : goal.returns
returns c =
    let a = c.args in
    let own = c.order_after-n.ensures ∙ ap (order_after a.layout) c.octet_at.ensures in
    c.layout_fault.ensures ∙ sym (own_so a.layout a.s.now a.at _ own ∙ rw (sym c.lies_within.ensures ∙ c.if-not-lies_within.false))
