-- `form_row` meets its contract: the form is the first octet of the contents.
use Rattle.std.proofs.Common.{◌∙◌, arith, sym, ap, length, ◌<◌, get_or}
use Rattle.annex.specs.Walking.{no_row}
use Rattle.rows.specs.Orders.{listing_none, listing_first}
use Rattle.rows.proofs.opened.form_row.Goals as goal

pub returns-in_default : goal.returns-in_default
returns-in_default c =
    let there = rw c.span-s.ensures at c.left.ensures in
    let none = listing_none c.span-s.result.at c.left.result.now (omega (arith, c.in_default.len_below)) in
    c.no_row.ensures ∙ sym (rw (there, c.span-s.ensures) at (ap (λ l. get_or l 0 no_row) none))

pub returns : goal.returns
returns c =
    let there = rw c.span-s.ensures at c.left.ensures in
    let some : 0 < length c.left.result.now = omega (arith, c.in-len1-up.len_at_least) in
    rw (c.span-s.ensures, there) (sym (listing_first _ _ (rw there at some)))
