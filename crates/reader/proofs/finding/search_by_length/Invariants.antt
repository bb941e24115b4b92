-- `search_by_length` meets its contract. The invariant: what is found in the whole is found from i on, with so many left to be passed over.
use Prim.Native.Nat.{◌-◌}
use mathlib.Core.Path.{◌≡◌}
use lib.ListN.{length}
use Rattle.annex.specs.Walking.{search_from, search_in}
use Rattle.reader.proofs.finding.search_by_length.Given as goal

abbrev pub invariant-loop-end : goal.invariant-loop-end
invariant-loop-end l = search_in l.k l.t ≡ search_from l.k l.left l.i l.t

abbrev pub decreases-loop-end : goal.decreases-loop-end
decreases-loop-end l = length l.t - l.i
