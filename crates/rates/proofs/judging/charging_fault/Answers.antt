-- `charging_fault` meets its contract: what the look-up of the kind asks is what the tables ask, and the tests come in their order.
use Rattle.std.proofs.Common.{arith, ◌∙◌, sym, eq-eqb, ne_eqb}
use Rattle.rates.specs.Asked.{by_asked}
use Rattle.laws.specs.Passed.{passed_on}
use Rattle.rates.proofs.judging.charging_fault.Goals.{else-asked-via-then-asked+else-check_sum-ne9, else-asked-via-else-asked}
use Rattle.rates.proofs.judging.charging_fault.Goals as goal

pub returns-in_default : goal.returns-in_default
returns-in_default c =
    let so = by_asked _ _ _ c.octet_at-kind.ensures c.asked_of.ensures (omega arith) in
    sym (so ∙ rw c.in_default.is)

pub returns-then-s-asked : goal.returns-then-s-asked
returns-then-s-asked c =
    let so = by_asked _ _ _ c.octet_at-kind.ensures c.asked_of.ensures (omega arith) in
    sym (so ∙ rw (c.in-Some.is, ne_eqb _ _ c.if-s-asked.true))

pub returns-in_err-drawn_fault : goal.returns-in_err-drawn_fault
returns-in_err-drawn_fault c =
    let so = by_asked _ _ _ c.octet_at-kind.ensures c.asked_of.ensures (omega arith) in
    passed_on c.from_residual.result c.in_err-drawn_fault.field-0.0 c.from_residual.ensures.1
    ∙ sym (so ∙ rw (c.in-Some.is, eq-eqb _ _ c.if-s-asked.false, ← c.drawn_fault.ensures, c.in_err-drawn_fault.was))

pub returns-then-check_sum-ne9 : goal.returns-then-check_sum-ne9
returns-then-check_sum-ne9 c =
    let so = by_asked _ _ _ c.octet_at-kind.ensures c.asked_of.ensures (omega arith) in
    sym (so
    ∙ rw (c.in-Some.is, eq-eqb _ _ c.if-s-asked.false, ← c.drawn_fault.ensures, c.in_ok-drawn_fault.was, c.if-asked.true, ← c.check_sum.ensures, ne_eqb _ _ c.if-check_sum-ne9.true))

pub returns : goal.returns
returns c =
    let so = by_asked _ _ _ c.octet_at-kind.ensures c.asked_of.ensures (omega arith) in
    sym (so
    ∙ rw (c.in-Some.is, eq-eqb _ _ c.if-s-asked.false, ← c.drawn_fault.ensures, c.in_ok-drawn_fault.was)
    (elim c.else-asked.branch [
      | else-asked-via-then-asked+else-check_sum-ne9 w ↦ rw (w.if-asked.true, ← w.check_sum.ensures, eq-eqb _ _ w.if-check_sum-ne9.false)
      | else-asked-via-else-asked w ↦ rw w.if-asked.false
    ]))
