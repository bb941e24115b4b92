-- `open_pairs` meets its contract: the first pairs stand in their places, and the others are left.
use lib.ListN.{length}
use Rattle.profile.specs.Pairs.{Opening}
use Rattle.profile.proofs.open_pairs.Given as goal

abbrev pub invariant-loop-rest : goal.invariant-loop-rest
invariant-loop-rest l = Opening l.s l.class l.count l.rest

abbrev pub decreases-loop-rest : goal.decreases-loop-rest
decreases-loop-rest l = length l.rest
