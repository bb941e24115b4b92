-- `put_row` meets its contract: there is room for the octets.
use Rattle.std.proofs.Common.{◌+◌, ◌≤◌, length, le-leb, arith, refl, drop-drop, ◌∙◌}
use Rattle.annex.specs.Packed.{carrier_row_octets}
use Rattle.laws.specs.Fronts.{sets_part}
use Rattle.carriers.proofs.put_row.Goals as goal

pub returns : goal.returns
unfolding Rattle.annex.specs.Memory.put
returns c =
    let room : c.args.at + 8 ≤ length c.args.table.now = omega (arith, c.requires) in
    let kept = rw c.octets_of.ensures at c.copy_in.ensures in
    kept.1 ∙ rw (kept.0, le-leb _ _ room, ← drop-drop 8 c.args.at c.args.table.now)
    (sets_part c.args.at 8 c.args.table.now (carrier_row_octets c.args.row) refl room)
