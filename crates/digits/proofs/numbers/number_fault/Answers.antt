-- `number_fault` meets its contract: its tests are those of the definition, in their order, and the digits are those behind two octets.
use Prim.Native.Nat.{◌+◌}
use mathlib.Core.Path.{◌≡◌, ap, ◌∙◌}
use mathlib.Core.Bool.{false, ◌&&◌}
use borrow.Author.Tests.{eq-eqb, ne_eqb, le-ltb}
use lib.Dec.{eqb}
use lib.ListN.{length, drop}
use lib.Seq.{drop-drop}
use Rattle.annex.specs.Digits.{odd_of, number_fault_in}
use Rattle.digits.proofs.numbers.number_fault.Goals as goal
use Rattle.digits.proofs.numbers.number_fault.Goals.{else-odd-eq1-via-then-odd-eq1+else-n-eq2, else-odd-eq1-via-else-odd-eq1}

pub returns : goal.returns
unfolding number_fault_in
returns c =
    let s = c.octets_from-number.result.now in
    -- past bad form: not odd with no digit octet
    let digits_follow : eqb (odd_of s) 1 && eqb (length s) 2 ≡ false =
    elim c.else-odd-eq1.branch [
      | else-odd-eq1-via-then-odd-eq1+else-n-eq2 w ↦ rw (eq-eqb _ _ w.if-odd-eq1.true, ne_eqb _ _ w.if-n-eq2.false)
      | else-odd-eq1-via-else-odd-eq1 w ↦ rw (ne_eqb _ _ w.if-odd-eq1.false)
    ] in
    let a = c.args in
    let d : drop 2 s ≡ drop (a.at + 2) a.s.now = ap (drop 2) c.octets_from-number.ensures ∙ drop-drop 2 a.at a.s.now in
    rw (← c.octets_from-number.ensures, le-ltb _ _ c.if-n-lt2.false, digits_follow, d)
    (rw (c.count_of.ensures, d) at c.digits_fault.ensures)
