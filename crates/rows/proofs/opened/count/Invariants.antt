-- `count` meets its contract. The invariant: so many rows are counted, and those of the parameters from i on are left.
use Prim.Native.Nat.{◌+◌, ◌-◌, ◌≤◌}
use mathlib.Core.Path.{◌≡◌}
use lib.ListN.{length, drop}
use Rattle.annex.specs.Opened.{order_listing}
use Rattle.annex.specs.Ordering.{parameter_rows}
use Rattle.rows.proofs.opened.count.Given as goal

abbrev pub invariant-loop-own : goal.invariant-loop-own
invariant-loop-own l =
    (l.i ≤ length l.contents) × (l.n ≤ l.i) × (length (order_listing 0 l.contents) ≡ l.n + length (parameter_rows l.i (drop l.i l.contents)))

abbrev pub decreases-loop-own : goal.decreases-loop-own
decreases-loop-own l = length l.contents - l.i
