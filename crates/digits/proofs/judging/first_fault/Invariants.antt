-- `first_fault` meets its contract. The invariant: the fault of all the halves is that of the halves from i on.
use Prim.Native.Nat.{◌+◌, ◌-◌, ◌*◌}
use mathlib.Core.Path.{◌≡◌}
use lib.ListN.{drop}
use Rattle.annex.specs.Digits.{halves, halves_fault, digits_fault}
use Rattle.digits.proofs.judging.first_fault.Given as goal

abbrev pub invariant-loop-i : goal.invariant-loop-i
invariant-loop-i l =
    digits_fault l.z l.n l.at l.s ≡ halves_fault l.z (l.n.0 - l.i) (2 * l.at + l.i) (drop l.i (halves l.s))
