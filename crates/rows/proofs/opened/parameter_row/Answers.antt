-- `parameter_row` meets its contract.
use Rattle.std.proofs.Common.{◌∙◌, arith, sym, ap, get_or}
use Rattle.annex.specs.Walking.{no_row}
use Rattle.rows.specs.Orders.{own_over, own_known}
use Rattle.rows.proofs.opened.parameter_row.Goals as goal

pub returns-in_default : goal.returns-in_default
returns-in_default c =
    let none = own_over c.args.c.at _ (sym c.own_size.ensures ∙ c.in_default.is) in
    c.no_row.ensures ∙ sym (rw c.left-rest.ensures at (ap (λ l. get_or l 0 no_row) none))

pub bounds-rest-0 : goal.bounds-rest-0
bounds-rest-0 c = omega (arith, (own_known 0 _ _ (sym c.own_size.ensures ∙ c.in-Some.is)).0)

pub returns : goal.returns
returns c =
    let rows = own_known c.args.c.at _ _ (sym c.own_size.ensures ∙ c.in-Some.is) in
    rw c.left-rest.ensures (sym (rw c.left-rest.ensures at (ap (λ l. get_or l 0 no_row) rows.1)))
