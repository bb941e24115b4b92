-- `with_transfers` meets its contract. The invariant: what is to become of all transfer parameters, becomes of those that are left.
use Prim.Native.Nat.{◌-◌}
use mathlib.Core.Path.{◌≡◌}
use lib.ListN.{length, drop}
use Rattle.annex.specs.Image.{items_front}
use Rattle.from_image.specs.Filling.{filled_by, Begun}
use Rattle.from_image.proofs.Filled.with_transfers.Given as goal

abbrev pub invariant-loop : goal.invariant-loop
invariant-loop l =
    Begun (length l.s) l.self
    × (filled_by l.fn.self (items_front l.count (drop l.fn.self.octets l.s))
    ≡ filled_by l.self (items_front (l.count - l.counter) (drop l.self.octets l.s)))
