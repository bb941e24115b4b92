-- `items_sum` meets its contract. The invariant: what all transfer parameters come to, those left from i on come to, behind what is summed
-- up.
use Prim.Native.Nat.{◌≤◌, ◌-◌, ◌*◌}
use mathlib.Core.Path.{◌≡◌}
use lib.ListN.{length, drop}
use Rattle.annex.specs.Image.{items_front}
use Rattle.image_writer.specs.Over.{summed_from}
use Rattle.image_writer.proofs.items_sum.Given as goal

abbrev pub invariant-loop : goal.invariant-loop
invariant-loop l =
    (l.i ≤ length l.s) ×
    (l.contents ≤ 65538 * l.counter) ×
    (summed_from 0 0 0 (items_front l.count l.s) ≡ summed_from l.counter l.contents l.i (items_front (l.count - l.counter) (drop l.i l.s)))
