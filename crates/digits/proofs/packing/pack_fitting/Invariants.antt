-- `pack_fitting` meets its contract: before each turn the octets of the first 2 i digits stand at the front of the room; an odd last digit
-- follows at the end.
use mathlib.Core.Path.{◌≡◌}
use lib.ListN.{take}
use lib.Seq.{sets}
use Rattle.annex.specs.Digits.{packed}
use Rattle.annex.specs.Memory.{low_octets}
use Rattle.digits.proofs.packing.pack_fitting.Given as goal

abbrev pub invariant-loop-i : goal.invariant-loop-i
invariant-loop-i l =
    l.room ≡ sets l.initial.room 0 (take l.i (low_octets (packed l.z l.digits)))
