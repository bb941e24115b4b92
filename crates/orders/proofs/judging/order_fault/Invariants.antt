-- `order_fault` meets its contract: what is wrong with the whole is what is wrong from here on, and a mark tells whether a header has
-- stood.
use Prim.Native.Nat.{◌-◌}
use lib.ListN.{length}
use Rattle.orders.specs.Walked.{Going}
use Rattle.orders.proofs.judging.order_fault.Given as goal

abbrev pub invariant-loop-header : goal.invariant-loop-header
invariant-loop-header l = Going l.s l.seen l.at

abbrev pub decreases-loop-header : goal.decreases-loop-header
decreases-loop-header l = length l.s - l.at
