-- `next` meets its contract.
use Rattle.std.proofs.Common.{◌≡◌, suc, ◌+◌, arith, sym, ap, ◌∙◌, eq-eqb, ne_eqb}
use Rattle.annex.specs.declared.Cursor.{Cursor}
use Rattle.annex.specs.Ordering.{order_next}
use Rattle.rows.specs.Orders.{own_within, span_within, own_none, own_some}
use Rattle.rows.proofs.opened.next.Goals as goal

pub overflow_add-result : goal.overflow_add-result
overflow_add-result c =
    let w = span_within c.args.m.now in
    omega (arith, w.0, w.1, ap (λ (s : Cursor). s.at) c.span-s.ensures)

pub returns-then-c-eq0 : goal.returns-then-c-eq0
unfolding order_next
returns-then-c-eq0 c = rw (eq-eqb _ _ c.if-c-eq0.true, c.span-s.ensures)

pub returns-in_default : goal.returns-in_default
unfolding order_next
returns-in_default c =
    let none = rw c.left.ensures at (own_none _ (sym c.own_size.ensures ∙ c.in_default.is)) in
    rw (ne_eqb _ _ c.if-c-eq0.false, none)

pub overflow_add-result-2 : goal.overflow_add-result-2
overflow_add-result-2 c =
    let w = own_within c.args.m.now c.args.c c.in-Some.own (rw c.left.ensures at (sym c.own_size.ensures ∙ c.in-Some.is)) in
    omega (arith, w)

pub overflow_add-result-3 : goal.overflow_add-result-3
overflow_add-result-3 c =
    let w = own_within c.args.m.now c.args.c c.in-Some.own (rw c.left.ensures at (sym c.own_size.ensures ∙ c.in-Some.is)) in
    omega (arith, w)

pub returns : goal.returns
unfolding order_next
returns c =
    let some = rw c.left.ensures at (own_some _ _ (sym c.own_size.ensures ∙ c.in-Some.is)) in
    let e : c.args.c.at + suc c.in-Some.own ≡ c.args.c.at + c.in-Some.own + 1 = omega arith in
    rw (ne_eqb _ _ c.if-c-eq0.false, some, e)
