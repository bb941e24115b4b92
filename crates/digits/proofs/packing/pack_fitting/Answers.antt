use Prim.Native.Nat.{◌+◌, ◌*◌, ◌/◌}
use native.Mathlib.Omega.{arith}
use mathlib.Core.Path.{◌≡◌, ◌∙◌}
use lib.ListN.{length, get_or}
use Rattle.annex.specs.Digits.{packed}
use Rattle.laws.specs.Written.{written_turn, written_end}
use Rattle.laws.specs.Joined.{length-packed}
use Rattle.digits.proofs.Pairs.{pair_octet, last_octet}
use Rattle.digits.proofs.packing.pack_fitting.Goals as goal

pub loop-i-preserved : goal.loop-i-preserved
loop-i-preserved c =
    let a = c.args in
    let i = c.loop-i.i in
    let ds = a.digits.now in
    let e : get_or (packed a.z ds) i 0 ≡ c.code_of.result + 16 * c.code_of-in-loop-i.result =
    rw (pair_octet a.z ds i (omega arith), ← c.code_of-in-loop-i.ensures, ← c.code_of.ensures) in
    rw c.loop-i.invariant (written_turn a.room.now (packed a.z ds) i _ (omega (arith, length-packed a.z ds)) (rw (e, c.joined.ensures)))

pub returns-else-digits-eq1 : goal.returns-else-digits-eq1
returns-else-digits-eq1 c =
    let ds = c.args.digits.now in
    let z = c.args.z in
    c.loop-i.invariant
    ∙ written_end c.args.room.now (packed z ds) c.loop-i.i (omega (arith, length-packed z ds))
    (omega (arith, length-packed z ds, c.requires))

pub returns-then-digits-eq1 : goal.returns-then-digits-eq1
returns-then-digits-eq1 c =
    let ds = c.args.digits.now in
    let z = c.args.z in
    let k = length ds / 2 in
    let i : c.loop-i.i ≡ k = omega arith in
    let e : get_or (packed z ds) k 0 ≡ c.code_of-then-digits-eq1.result =
    rw (last_octet z ds k (omega arith), ← c.code_of-then-digits-eq1.ensures) in
    rw (c.loop-i.invariant, i)
    (written_turn c.args.room.now (packed z ds) k _ (omega (arith, length-packed z ds)) (omega (arith, e, c.joined-then-digits-eq1.ensures))
    ∙ written_end c.args.room.now (packed z ds) (k + 1) (omega (arith, length-packed z ds))
    (omega (arith, length-packed z ds, c.requires)))
