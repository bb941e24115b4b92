-- `is_named` meets its contract: whether the name stands among all pairs is whether it stands among those that are left.
use mathlib.Core.Path.{◌≡◌}
use lib.ListN.{length}
use Rattle.annex.specs.Heads.{among}
use Rattle.profile.specs.Pairs.{names_in}
use Rattle.profile.proofs.added.is_named.Given as goal

abbrev pub invariant-loop-rest : goal.invariant-loop-rest
invariant-loop-rest l = among l.name (names_in l.s) ≡ among l.name (names_in l.rest)

abbrev pub decreases-loop-rest : goal.decreases-loop-rest
decreases-loop-rest l = length l.rest
