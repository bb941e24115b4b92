-- `class_of` meets its contract: the list decides, and then the bits that the look-up asks to be 0.
use mathlib.Core.Path.{◌∙◌}
use borrow.Author.Tests.{eq-eqb, ne_eqb}
use Rattle.laws.specs.Passed.{passed_on}
use Rattle.classes.specs.Listed.{class_cleared}
use Rattle.classes.proofs.class_of.Goals as goal

pub returns-in_err-class : goal.returns-in_err-class
returns-in_err-class c =
    let a = c.args in
    let r = c.in_err-class.field-0.0 in
    passed_on c.from_residual.result r c.from_residual.ensures.1 ∙ rw (← class_cleared a.header a.octet, ← c.in_err-class.ensures)

pub returns-then-octet-asked-ne0 : goal.returns-then-octet-asked-ne0
returns-then-octet-asked-ne0 c =
    let a = c.args in
    rw (← class_cleared a.header a.octet, ← c.in_ok-class.ensures, ← c.head_of-asked.ensures.1, ne_eqb _ _ c.if-octet-asked-ne0.true)

pub returns : goal.returns
returns c =
    let a = c.args in
    rw (← class_cleared a.header a.octet, ← c.in_ok-class.ensures, ← c.head_of-asked.ensures.1, eq-eqb _ _ c.if-octet-asked-ne0.false)
