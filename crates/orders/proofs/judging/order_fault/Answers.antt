-- `order_fault` meets its contract: what is wrong with the whole is what is wrong from here on, and a mark tells whether a header has
-- stood.
use Rattle.std.proofs.Common.{◌+◌, refl, sym, ap, ◌∙◌, arith}
use Rattle.annex.specs.Orders.{order_after}
use Rattle.orders.specs.Walked.{own_there, left_none, no_form, other_form, going_first}
use Rattle.orders.proofs.Turn.{unlisted, twice, bad, sound}
use Rattle.laws.specs.Passed.{passed_on}
use Rattle.orders.proofs.judging.order_fault.Goals.{then-not-has_form-via-then-not-has_form, then-not-has_form-via-else-not-has_form+then-seen-asked}
use Rattle.orders.proofs.judging.order_fault.Goals as goal

pub returns-in_default : goal.returns-in_default
returns-in_default c = sym (no_form _ (omega (arith, c.in_default.ensures.item.3)))

pub returns-then-not-is_form : goal.returns-then-not-is_form
returns-then-not-is_form c =
    let first = c.in-Some.ensures.item.3 in
    sym (other_form _ (λ e. omega (arith, first.0)) (rw (← first.1 0) (sym c.is_form.ensures ∙ c.if-not-is_form.true)))

pub loop-header-init : goal.loop-header-init
loop-header-init c =
    let first = c.in-Some.ensures.item.3 in
    going_first _ (λ e. omega (arith, first.0)) (rw (← first.1 0) (sym c.is_form.ensures ∙ c.if-not-is_form.false))

pub returns-then-not-has_form : goal.returns-then-not-has_form
returns-then-not-has_form c =
    let first = c.in-Some.ensures.item.3 in
    let here = c.in-Some-get.ensures.lookup.3 in
    sym (elim c.then-not-has_form.branch [
      | then-not-has_form-via-then-not-has_form w ↦ unlisted _ _ _ _ (here.1 0) c.asked_of-asked.ensures (omega (arith, c.type_inv.s c.loop-header.at)) _ _ c.loop-header.invariant here.0 (first.1 0) (omega (arith, c.type_inv.s 0)) (sym c.has_form.ensures ∙ w.if-not-has_form.true)
      | then-not-has_form-via-else-not-has_form+then-seen-asked w ↦ twice _ _ _ _ (here.1 0) c.asked_of-asked.ensures (omega (arith, c.type_inv.s c.loop-header.at)) _ _ c.loop-header.invariant here.0 (first.1 0) (omega (arith, c.type_inv.s 0)) (sym c.has_form.ensures ∙ w.if-not-has_form.false) w.if-seen-asked.true
    ])

pub returns-in_err-own_fault : goal.returns-in_err-own_fault
returns-in_err-own_fault c =
    let first = c.in-Some.ensures.item.3 in
    let here = c.in-Some-get.ensures.lookup.3 in
    passed_on c.from_residual.result c.in_err-own_fault.field-0.0 c.from_residual.ensures.1
    ∙ sym (bad _ _ _ _ (here.1 0) c.asked_of-asked.ensures (omega (arith, c.type_inv.s c.loop-header.at)) _ _ c.loop-header.invariant here.0 (first.1 0) (omega (arith, c.type_inv.s 0)) (sym c.has_form.ensures ∙ c.if-not-has_form.false) c.if-seen-asked.false _ _ (sym c.own_fault.ensures ∙ c.in_err-own_fault.was))

-- the offset behind a header's octets
pub overflow_add-at-in-Some-get : goal.overflow_add-at-in-Some-get
overflow_add-at-in-Some-get c =
    let s = c.args.s.now in
    let at = c.loop-header.at in
    let layout = c.asked_of-asked.result.layout in
    let n = c.order_after-at.ensures ∙ ap (order_after layout) c.octet_at.ensures in
    omega (arith, n, own_there layout s (at + 1) _ refl (sym c.own_fault.ensures ∙ c.in_ok-own_fault.was))

pub loop-header-preserved : goal.loop-header-preserved
loop-header-preserved c =
    let first = c.in-Some.ensures.item.3 in
    let here = c.in-Some-get.ensures.lookup.3 in
    rw (c.order_after-at.ensures, c.octet_at.ensures)
    (sound _ _ _ _ (here.1 0) c.asked_of-asked.ensures (omega (arith, c.type_inv.s c.loop-header.at)) _ _ c.loop-header.invariant here.0 (first.1 0) (omega (arith, c.type_inv.s 0)) (sym c.has_form.ensures ∙ c.if-not-has_form.false) c.if-seen-asked.false (sym c.own_fault.ensures ∙ c.in_ok-own_fault.was))

pub returns : goal.returns
returns c =
    let g = c.loop-header.invariant in
    sym (g.left ∙ left_none _ g.before c.loop-header.at _ c.in_default-get.ensures.lookup.3)
