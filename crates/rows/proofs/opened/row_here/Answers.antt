-- `row_here` meets its contract.
use borrow.Author.Tests.{eq-eqb, ne_eqb}
use Rattle.annex.specs.Ordering.{order_rows_from}
use Rattle.rows.proofs.opened.row_here.Goals as goal

pub returns-then-c-eq0 : goal.returns-then-c-eq0
unfolding order_rows_from
returns-then-c-eq0 c = rw (eq-eqb _ _ c.if-c-eq0.true) c.form_row.ensures

pub returns : goal.returns
unfolding order_rows_from
returns c = rw (ne_eqb _ _ c.if-c-eq0.false) c.parameter_row.ensures
