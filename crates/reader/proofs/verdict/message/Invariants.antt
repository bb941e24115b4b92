-- `message` meets its contract. The invariant: the walk of the whole is the walk from i on, with what has been seen.
use Prim.Native.Nat.{◌≤◌, ◌-◌}
use mathlib.Core.Path.{◌≡◌}
use lib.ListN.{length, drop}
use Rattle.annex.specs.Walk.{Walker, walk, judging}
use Rattle.annex.specs.Reading.{message_verdict, common_step, common_close}
use Rattle.annex.specs.Answers.{Answer}
use Rattle.reader.proofs.verdict.message.Given as goal

abbrev pub walker : Walker Answer
walker = judging common_step common_close

abbrev pub invariant-loop-i : goal.invariant-loop-i
invariant-loop-i l = (l.i ≤ length l.m) × (message_verdict l.m ≡ walk walker l.seen.0 0 l.i (drop l.i l.m))

abbrev pub decreases-loop-i : goal.decreases-loop-i
decreases-loop-i l = length l.m - l.i
