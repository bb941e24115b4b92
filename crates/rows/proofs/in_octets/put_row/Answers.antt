-- `put_row` meets its contract: its octets are stored as they are.
use Prim.Native.Nat.{◌+◌, ◌-◌}
use native.Mathlib.Omega.{arith}
use mathlib.Core.Path.{◌≡◌}
use Rattle.annex.specs.Packed.{row_octets, octets_to_a_row}
use Rattle.laws.specs.Fronts.{sets_part}
use Rattle.rows.proofs.in_octets.put_row.Goals as goal

pub returns : goal.returns
returns c =
    let a = c.args in
    let k = a.at + octets_to_a_row in
    let e : c.copy_from_slice.new.self ≡ row_octets a.row = rw (c.to_le_bytes.ensures, c.to_le_bytes-2.ensures) at c.copy_from_slice.ensures.after in
    rw e (sets_part a.at (k - a.at) a.table.now (row_octets a.row) (omega arith) c.requires)
