-- `put_transfers` meets its contract. The invariant: what the struct is to become of the whole transfer data, it becomes of what is left
-- of it from i on, for which there is room.
use Prim.Native.Nat.{◌-◌}
use mathlib.Core.Path.{◌≡◌}
use lib.ListN.{length}
use Rattle.reader.specs.Filling.{Room, items_from, items_left, filled_with}
use Rattle.reader.proofs.reading.Filled.put_transfers.Given as goal

abbrev pub invariant-loop-start : goal.invariant-loop-start
invariant-loop-start l =
    (filled_with l.fn.self.held (items_from l.t) l.fn.self.transfers l.fn.self.used
    ≡ filled_with l.self.held (items_left l.t l.i) l.self.transfers l.self.used) ×
    Room l.self (items_left l.t l.i)

abbrev pub decreases-loop-start : goal.decreases-loop-start
decreases-loop-start l = length l.t - l.i
