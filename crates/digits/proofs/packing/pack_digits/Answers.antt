-- `pack_digits` meets its contract: the octets that the digits take are those of the definition.
use native.Mathlib.Omega.{arith}
use mathlib.Core.Path.{◌≡◌, ap}
use borrow.Author.Tests.{lt-leb}
use lib.ListN.{length}
use Rattle.annex.specs.Digits.{packed}
use Rattle.annex.specs.declared.Octets.{Octets}
use Rattle.laws.specs.Joined.{length-packed}
use Rattle.digits.proofs.packing.pack_digits.Goals as goal

pub returns-else-fits : goal.returns-else-fits
returns-else-fits c =
    let a = c.args in
    let e : c.packed_len.result.0 ≡ length (packed a.z a.digits.now) =
    omega (arith, length-packed a.z a.digits.now, ap (λ (n : Octets). n.0) c.packed_len.ensures) in
    (rw e, rw (lt-leb c.packed_len.result.0 (length a.room.now) c.if-fits.false))
