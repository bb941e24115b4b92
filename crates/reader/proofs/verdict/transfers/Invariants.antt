-- `transfers` meets its contract. The invariant: the walk of the whole is the walk from i on, with what has been seen.
use Prim.Native.Nat.{◌≤◌, ◌-◌}
use mathlib.Core.Path.{◌≡◌}
use lib.ListN.{length, drop}
use Rattle.annex.specs.Walk.{Walker, walk, judging}
use Rattle.annex.specs.Reading.{transfers_verdict, transfer_step}
use Rattle.annex.specs.Answers.{Accepted, Answer}
use Rattle.reader.proofs.verdict.transfers.Given as goal

abbrev pub walker : Walker Answer
walker = judging transfer_step (λ seen p. Accepted p)

abbrev pub invariant-loop-i : goal.invariant-loop-i
invariant-loop-i l = (l.i ≤ length l.t) × (transfers_verdict l.t ≡ walk walker l.seen.0 0 l.i (drop l.i l.t))

abbrev pub decreases-loop-i : goal.decreases-loop-i
decreases-loop-i l = length l.t - l.i
