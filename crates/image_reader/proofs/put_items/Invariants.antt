-- `put_items` meets its contract. The invariant: of the transfer data's parameters those from i on are left to store, from `at` on.
use Prim.Native.Nat.{◌≤◌, ◌+◌, ◌-◌}
use mathlib.Core.Path.{◌≡◌}
use lib.ListN.{length}
use Rattle.annex.specs.Heads.{most_values}
use Rattle.annex.specs.Records.{values_of}
use Rattle.annex.specs.Image.{image_items}
use Rattle.laws.specs.Runs.{Left}
use Rattle.reader.specs.Filling.{items_from, items_left}
use Rattle.image_reader.proofs.put_items.Given as goal

abbrev pub invariant-loop-start : goal.invariant-loop-start
invariant-loop-start l =
    Left (image_items (items_from l.t)) l.first l.initial.out (image_items (items_left l.t l.i)) l.at l.out ×
    (l.count + length (items_left l.t l.i) ≡ length (items_from l.t)) ×
    (length (values_of (items_left l.t l.i)) ≤ most_values)

abbrev pub decreases-loop-start : goal.decreases-loop-start
decreases-loop-start l = length l.t - l.i
