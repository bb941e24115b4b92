-- `verdict` meets its contract: its tests are those of the definition, in their order.
use borrow.Author.Tests.{eq-eqb, ne_eqb, lt-ltb, le-ltb}
use Rattle.annex.specs.Reading.{verdict_by}
use Rattle.reader.proofs.verdict.verdict.Goals.{then-n-eq0-via-then-n-eq0, then-n-eq0-via-else-n-eq0+then-n-gt-MOST_OCTETS}
use Rattle.reader.proofs.verdict.verdict.Goals as goal

pub returns-then-n-eq0 : goal.returns-then-n-eq0
unfolding verdict_by
returns-then-n-eq0 c =
    elim c.then-n-eq0.branch [
      | then-n-eq0-via-then-n-eq0 w ↦ rw (eq-eqb _ _ w.if-n-eq0.true)
      | then-n-eq0-via-else-n-eq0+then-n-gt-MOST_OCTETS w ↦ rw (ne_eqb _ _ w.if-n-eq0.false, lt-ltb _ _ w.if-n-gt-MOST_OCTETS.true)
    ]

pub returns : goal.returns
unfolding verdict_by
returns c = rw (ne_eqb _ _ c.if-n-eq0.false, le-ltb _ _ c.if-n-gt-MOST_OCTETS.false) c.message.ensures
