use native.Mathlib.Omega.{arith}
use mathlib.Core.Path.{◌≡◌, ◌∙◌}
use Prim.Native.Nat.{◌+◌, ◌*◌, ◌/◌}
use lib.ListN.{take}
use lib.Seq.{take_all}
use Rattle.annex.specs.Digits.{digits_of}
use Rattle.laws.specs.Halves.{length-digits_of}
use Rattle.laws.specs.Stores.{sets-turn}
use Rattle.digits.proofs.Pairs.{sets-two, low_digit, high_digit}
use Rattle.digits.proofs.packing.unpack_fitting.Goals as goal

pub loop-i-preserved : goal.loop-i-preserved
loop-i-preserved c =
    let a = c.args in
    let s = a.octets.now in
    let i = c.loop-i.i in
    let n : 2 * (i + 1) ≡ 2 * i + 2 = omega arith in
    rw (c.loop-i.invariant, n)
    (sets-two a.values.now a.used (digits_of a.z a.count s) (2 * i) c.digit_of.result c.digit_of-in-loop-i.result
    (omega (arith, length-digits_of a.z a.count s (omega arith)))
    (rw (c.digit_of.ensures, ← low_digit a.z a.count s i (omega arith)))
    (rw (c.digit_of-in-loop-i.ensures, ← high_digit a.z a.count s i (omega arith))))

pub returns-else-count-eq1 : goal.returns-else-count-eq1
returns-else-count-eq1 c =
    let a = c.args in
    let ds = digits_of a.z a.count a.octets.now in
    let e : take (2 * c.loop-i.i) ds ≡ ds =
    take_all (2 * c.loop-i.i) ds (omega (arith, length-digits_of a.z a.count a.octets.now (omega arith))) in
    c.loop-i.invariant ∙ rw e

pub returns-then-count-eq1 : goal.returns-then-count-eq1
returns-then-count-eq1 c =
    let a = c.args in
    let s = a.octets.now in
    let ds = digits_of a.z a.count s in
    let k = a.count.0 / 2 in
    let i : c.loop-i.i ≡ k = omega arith in
    let n : a.count.0 ≡ 2 * k + 1 = omega arith in
    let l = length-digits_of a.z a.count s (omega arith) in
    let e : take (2 * k + 1) ds ≡ ds = take_all (2 * k + 1) ds (omega arith) in
    rw (
      c.loop-i.invariant,
      i,
      c.digit_of-then-count-eq1.ensures,
      low_digit a.z a.count s k (omega arith),
      sets-turn a.values.now a.used ds (2 * k) 0 (omega arith),
      e,
    )
