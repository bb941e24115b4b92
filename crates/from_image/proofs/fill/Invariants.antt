-- `fill` meets its contract. The invariant: what the octets give in all, they give by what is filled in and the common parameters that are
-- left.
use Prim.Native.Nat.{◌-◌}
use mathlib.Core.Path.{◌≡◌}
use lib.ListN.{length, drop}
use Rattle.annex.specs.Image.{parts_front, imaged_by}
use Rattle.from_image.specs.Filling.{imaged_from, Begun}
use Rattle.from_image.proofs.fill.Given as goal

abbrev pub invariant-loop : goal.invariant-loop
invariant-loop l =
    Begun (length l.s) l.filled
    × (imaged_by (length l.s) (parts_front l.count l.s)
    ≡ imaged_from (length l.s) l.filled (parts_front (l.count - l.counter) (drop l.filled.octets l.s)))
