use Prim.Native.Nat.{ℕ, suc, ◌+◌, ◌-◌}
use native.Mathlib.Omega.{arith}
use mathlib.Core.Path.{◌≡◌, sym, ap, ◌∙◌}
use borrow.Author.Tests.{eq-eqb, ne_eqb}
use lib.Dec.{eqb}
use lib.ListN.{length, drop}
use mathlib.Core.Bool.{cond}
use mathlib.Core.List.{List}
use Rattle.std.proofs.Common.{Some, ◌≤◌}
use Rattle.annex.specs.declared.Imaged.{Imaged}
use Rattle.from_image.specs.declared.Filled.{Filled}
use Rattle.annex.specs.Image.{parts_front, no_image}
use Rattle.from_image.specs.Filling.{imaged, imaged_from, imaged_start, Begun, parts_end}
use Rattle.from_image.proofs.fill.Goals as goal

-- none left
ended : (whole : Imaged) (n i : ℕ) (f : Filled) (s : List ℕ) → n ≤ i → Begun (length s) f
    → whole ≡ imaged_from (length s) f (parts_front (n - i) (drop f.octets s)) → whole ≡ cond (eqb f.octets (length s)) (imaged (Some f.held)) no_image
ended whole n i f s h b e =
    let none_left : n - i ≡ 0 = omega arith in
    e ∙ rw none_left (parts_end (length s) f (drop f.octets s) b)

pub loop-init : goal.loop-init
loop-init c =
    let s = c.args.s.now in
    let n : c.args.count - 0 ≡ c.args.count = omega arith in
    rw (c.none-filled.ensures, n) (
      record { octets = omega arith; commons = omega arith; places = omega arith; values = omega arith },
      imaged_start (length s) (parts_front c.args.count s),
    )

pub returns-in_err-filled : goal.returns-in_err-filled
returns-in_err-filled c =
    let s = c.args.s.now in
    let f = c.loop.filled in
    let n : c.args.count - c.loop.counter ≡ suc (c.args.count - (c.loop.counter + 1)) = omega (arith, c.loop-test.true) in
    let none = c.in_err-filled.ensures (c.args.count - (c.loop.counter + 1)) in
    rw c.from_residual.ensures
    (sym (c.loop.invariant.1 ∙ ap (λ (k : ℕ). imaged_from (length s) f (parts_front k (drop f.octets s))) n ∙ none))

pub returns-then-filled-s : goal.returns-then-filled-s
returns-then-filled-s c =
    let f = c.loop.filled in
    let e = ended _ c.args.count c.loop.counter f c.args.s.now c.loop-test.false c.loop.invariant.0 c.loop.invariant.1 in
    sym (e ∙ rw (eq-eqb f.octets _ c.if-filled-s.true))

pub returns-else-filled-s : goal.returns-else-filled-s
returns-else-filled-s c =
    let f = c.loop.filled in
    let e = ended _ c.args.count c.loop.counter f c.args.s.now c.loop-test.false c.loop.invariant.0 c.loop.invariant.1 in
    sym (e ∙ rw (ne_eqb f.octets _ c.if-filled-s.false))
