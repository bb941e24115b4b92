-- `unpack_fitting` meets its contract: before each turn the digits of the first i octets are stored; an odd last one is stored at the end.
use mathlib.Core.Path.{◌≡◌}
use Prim.Native.Nat.{◌*◌}
use lib.ListN.{take}
use lib.Seq.{sets}
use Rattle.annex.specs.Digits.{digits_of}
use Rattle.digits.proofs.packing.unpack_fitting.Given as goal

abbrev pub invariant-loop-i : goal.invariant-loop-i
invariant-loop-i l =
    l.values ≡ sets l.initial.values l.used (take (2 * l.i) (digits_of l.z l.count l.octets))
