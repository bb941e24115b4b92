-- `put_transfer` meets its contract: the octets of the head are stored as they are.
use Prim.Native.Nat.{◌+◌, ◌-◌}
use native.Mathlib.Omega.{arith}
use mathlib.Core.Path.{◌≡◌}
use Rattle.annex.specs.Image.{image_head, octets_to_a_transfer_head}
use Rattle.laws.specs.Fronts.{sets_part}
use Rattle.image_reader.proofs.put_transfer.Goals as goal

pub returns : goal.returns
returns c =
    let a = c.args in
    let k = a.at + octets_to_a_transfer_head in
    let e : c.copy_from_slice.new.self ≡ image_head a.t = rw c.to_le_bytes.ensures at c.copy_from_slice.ensures.after in
    rw e (sets_part a.at (k - a.at) a.out.now (image_head a.t) (omega arith) c.requires)
