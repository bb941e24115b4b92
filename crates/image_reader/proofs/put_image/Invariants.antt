-- `put_image` meets its contract. The invariant is `Imaging`: the common parameters from i on are left to store, from `at` on.
use Prim.Native.Nat.{◌-◌}
use lib.ListN.{length}
use Rattle.image_reader.proofs.Turns.{Imaging}
use Rattle.image_reader.proofs.put_image.Given as goal

abbrev pub invariant-loop-start : goal.invariant-loop-start
invariant-loop-start l = Imaging l.m l.initial.out l.count l.at l.i l.out

abbrev pub decreases-loop-start : goal.decreases-loop-start
decreases-loop-start l = length l.m - l.i
