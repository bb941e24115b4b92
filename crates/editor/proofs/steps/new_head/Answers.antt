-- `new_head` meets its contract: 11 where there is no header, and then 8 and 9 as of any header that is to be written.
use borrow.Author.Tests.{eq-eqb, ne_eqb}
use Rattle.editor.proofs.steps.new_head.Goals as goal

pub returns-then-new-eq0 : goal.returns-then-new-eq0
returns-then-new-eq0 c = rw (eq-eqb _ 0 c.if-new-eq0.true)

pub returns : goal.returns
returns c = rw (ne_eqb _ 0 c.if-new-eq0.false) c.head_writing.ensures
