-- `check_order` meets its contract: the contents that were found have the rows.
use Rattle.std.proofs.Common.{sym, ◌∙◌, lt-ltb, le-ltb}
use Rattle.annex.specs.Opened.{order_answer}
use Rattle.laws.specs.Passed.{passed_on}
use Rattle.rows.specs.Orders.{rows_counted}
use Rattle.rows.proofs.opened.check_order.Goals as goal

pub returns-in_err-contents : goal.returns-in_err-contents
unfolding order_answer
returns-in_err-contents c =
    let r = c.in_err-contents.field-0.0 in
    passed_on c.from_residual.result r c.from_residual.ensures.1 ∙ sym (rw (← c.in_err-contents.ensures.answer))

pub returns-then-room-n : goal.returns-then-room-n
unfolding order_answer
returns-then-room-n c =
    let counted = rows_counted _ _ _ c.in_ok-contents.ensures.part c.count-n.ensures in
    rw (← c.in_ok-contents.ensures.answer, counted, lt-ltb _ _ c.if-room-n.true)

pub returns : goal.returns
unfolding order_answer
returns c =
    let counted = rows_counted _ _ _ c.in_ok-contents.ensures.part c.count-n.ensures in
    rw (← c.in_ok-contents.ensures.answer, counted, le-ltb _ _ c.if-room-n.false)
