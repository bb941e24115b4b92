-- `pairs_right` meets its contract: the pairs are right exactly if those that are left are.
use mathlib.Core.Path.{◌≡◌}
use lib.ListN.{length}
use Rattle.annex.specs.Profile.{pairs_right}
use Rattle.profile.proofs.added.pairs_right.Given as goal

abbrev pub invariant-loop-rest : goal.invariant-loop-rest
invariant-loop-rest l = pairs_right l.s ≡ pairs_right l.rest

abbrev pub decreases-loop-rest : goal.decreases-loop-rest
decreases-loop-rest l = length l.rest
