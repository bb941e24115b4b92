-- `is_over` meets its contract. The invariant: whether the whole is over a limit is told by the common parameters left from i on, behind
-- what is counted.
use Prim.Native.Nat.{◌≤◌, ◌-◌, ◌*◌}
use mathlib.Core.Path.{◌≡◌}
use lib.ListN.{length, drop}
use Rattle.annex.specs.Image.{parts_front}
use Rattle.image_writer.specs.Over.{over_by, over_from}
use Rattle.image_writer.proofs.is_over.Given as goal

abbrev pub invariant-loop : goal.invariant-loop
invariant-loop l =
    (l.i ≤ length l.s) ×
    (l.transfers ≤ 255 * l.counter) ×
    (l.contents ≤ 16712190 * l.counter) ×
    (over_by (length l.s) (parts_front l.count l.s)
    ≡ over_from (length l.s) l.counter l.transfers l.contents l.i (parts_front (l.count - l.counter) (drop l.i l.s)))
