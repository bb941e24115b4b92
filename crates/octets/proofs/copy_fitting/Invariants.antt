-- `copy_fitting` meets its contract: each turn writes one octet of s more.
use mathlib.Core.Path.{◌≡◌}
use lib.Seq.{paste}
use Rattle.octets.proofs.copy_fitting.Given as goal

abbrev pub invariant-loop-i : goal.invariant-loop-i
invariant-loop-i l = l.d ≡ paste l.initial.d l.at l.s l.i
