-- `control_fault` meets its contract: its tests are those of the definition, in their order, and the characters are those behind two
-- octets.
use native.Mathlib.Omega.{arith}
use mathlib.Core.Path.{◌≡◌, ap, ◌∙◌}
use Prim.Native.Nat.{◌+◌}
use borrow.Author.Tests.{le-leb}
use lib.ListN.{length, drop}
use lib.Seq.{drop-drop}
use Rattle.annex.specs.Orders.{control_fault}
use Rattle.orders.proofs.judging.control_fault.Goals as goal

pub returns : goal.returns
unfolding control_fault
returns c =
    let a = c.args in
    let d : drop 2 c.octets_from-own.result.now ≡ drop (a.at + 2) a.s.now =
    ap (drop 2) c.octets_from-own.ensures ∙ drop-drop 2 a.at a.s.now in
    let l = le-leb 3 (length c.octets_from-own.result.now) (omega (arith, c.if-own-le-REPEATED_HEAD.false)) in
    rw (← c.octets_from-own.ensures, l, le-leb _ _ c.if-own-gt-MOST_REPEATS.false, d) c.characters_fault.ensures
