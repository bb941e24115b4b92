-- `common_by_length` meets its contract: its test is that of the definition.
use borrow.Author.Tests.{eq-eqb, ne_eqb}
use Rattle.reader.proofs.finding.common_by_length.Goals as goal

pub returns-then-header-eq-END_MARK : goal.returns-then-header-eq-END_MARK
returns-then-header-eq-END_MARK c = rw (eq-eqb _ _ c.if-header-eq-END_MARK.true)

pub returns : goal.returns
returns c = rw (ne_eqb _ _ c.if-header-eq-END_MARK.false) c.contents.ensures
