-- `run` ends: each case takes at least one octet.
use Rattle.std.proofs.Common.{length}
use Rattle.cases.proofs.run.Given as goal

abbrev pub decreases-loop-case : goal.decreases-loop-case
decreases-loop-case g l = length l.left
