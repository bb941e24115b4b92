use Prim.Native.Nat.{◌+◌, ◌*◌, ◌/◌}
use native.Mathlib.Nat.{sub-zero, add-zero, add_assoc}
use native.Mathlib.Omega.{arith}
use mathlib.Core.Path.{◌≡◌, sym, ap, ◌∙◌}
use Rattle.annex.specs.Digits.{halves, digits_fault}
use Rattle.annex.specs.declared.HalfOctets.{HalfOctets}
use Rattle.laws.specs.Halves.{length-halves}
use Rattle.digits.proofs.Turns.{halves_turn, halves_end}
use Rattle.digits.proofs.judging.first_fault.Goals as goal

pub loop-i-init : goal.loop-i-init
unfolding digits_fault
loop-i-init c = simp (sub-zero, add-zero)

pub returns-then-not-half_right : goal.returns-then-not-half_right
returns-then-not-half_right c =
    let a = c.args in
    let i = c.loop-i.i in
    let s = a.s.now in
    let e : (2 * a.at + i) / 2 ≡ a.at + i / 2 = omega arith in
    let held = ap (λ (n : HalfOctets). n.0) c.of-end.ensures in
    sym
    (c.loop-i.invariant ∙ halves_turn _ _ i _ (halves s) (omega (arith, length-halves s, held))
    ∙ rw (← c.half_at-h.ensures, ← c.half_right.ensures, c.if-not-half_right.true, e))

pub loop-i-preserved : goal.loop-i-preserved
loop-i-preserved c =
    let s = c.args.s.now in
    let held = ap (λ (n : HalfOctets). n.0) c.of-end.ensures in
    c.loop-i.invariant ∙ halves_turn _ _ c.loop-i.i _ (halves s) (omega (arith, length-halves s, held))
    ∙ rw (← c.half_at-h.ensures, ← c.half_right.ensures, c.if-not-half_right.false, add_assoc)

pub returns : goal.returns
returns c =
    let s = c.args.s.now in
    let held = ap (λ (n : HalfOctets). n.0) c.of-end.ensures in
    sym (c.loop-i.invariant ∙ halves_end _ _ c.loop-i.i _ (halves s) (omega (arith, length-halves s, held)))
