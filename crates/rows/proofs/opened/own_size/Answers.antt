-- `own_size` meets its contract: the first two octets tell how many the parameter has.
use Rattle.std.proofs.Common.{sym, ◌∙◌}
use Rattle.rows.specs.Orders.{own_short, own_told}
use Rattle.rows.proofs.opened.own_size.Goals as goal

pub returns-in_default : goal.returns-in_default
returns-in_default c = sym (own_short _ c.in_default.len_below)

pub returns : goal.returns
returns c = (rw c.order_size-n.ensures at c.then_some.ensures) ∙ sym (own_told _ c.in-len2-up.len_at_least)
