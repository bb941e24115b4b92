-- `put_contents` meets its contract: values that are held as contents are octets, and are copied to the front of the room.
use native.Mathlib.Omega.{arith}
use Rattle.laws.specs.Written.{octets_every}
use Rattle.octets.specs.Copied.{copied_front}
use Rattle.layout.proofs.put_contents.Goals as goal

pub returns-in-AsContents : goal.returns-in-AsContents
returns-in-AsContents c =
    let s = c.args.values.now in
    let fits = rw c.in-AsContents.is at c.requires in
    rw c.in-AsContents.is
    (copied_front c.args.room.now s c.copy_in.new.d c.copy_in.result fits (octets_every s (λ i. omega (arith, c.type_inv.values i))) c.copy_in.ensures)
