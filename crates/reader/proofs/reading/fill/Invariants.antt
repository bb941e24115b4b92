-- `fill` meets its contract. The invariant is `Filling`: what the struct is to become of the whole message, it becomes of the parameters
-- from i on, for which there is room.
use Prim.Native.Nat.{◌-◌}
use lib.ListN.{length}
use Rattle.reader.proofs.Turns.{Filling}
use Rattle.reader.proofs.reading.fill.Given as goal

abbrev pub invariant-loop-start : goal.invariant-loop-start
invariant-loop-start l = Filling l.m l.filled l.i

abbrev pub decreases-loop-start : goal.decreases-loop-start
decreases-loop-start l = length l.m - l.i
