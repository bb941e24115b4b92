-- `len_as` meets its contract: each way of holding has its length, and digits take half as many octets.
use native.Mathlib.Omega.{arith}
use mathlib.Core.Path.{ap}
use mathlib.Core.List.{List}
use Prim.Native.Nat.{ℕ}
use lib.ListN.{length, drop}
use Rattle.annex.specs.declared.Octets.{Octets}
use Rattle.annex.specs.declared.Alphabet.TheVariants.{Dialled, Numbered}
use Rattle.laws.specs.Joined.{length-packed}
use Rattle.layout.proofs.len_as.Goals as goal

pub returns-in-AsDigits : goal.returns-in-AsDigits
returns-in-AsDigits c =
    let s = c.args.values.now in
    rw c.in-AsDigits.is (omega (arith, ap (λ (n : Octets). n.0) c.packed_len.ensures, length-packed Dialled s))

pub returns-in-AsNumber : goal.returns-in-AsNumber
returns-in-AsNumber c =
    let s = c.args.values.now in
    rw c.in-AsNumber.is (omega (arith, ap (λ (n : Octets). n.0) c.packed_len-in-AsNumber.ensures, length-packed Numbered s))

pub returns-in-AsGeneric : goal.returns-in-AsGeneric
returns-in-AsGeneric c =
    let s = c.args.values.now in
    let n = ap (λ (l : List ℕ). length l) c.octets_from.ensures in
    rw c.in-AsGeneric.is (omega (arith, ap (λ (n : Octets). n.0) c.packed_len-in-AsGeneric.ensures, length-packed Numbered (drop 1 s)))
