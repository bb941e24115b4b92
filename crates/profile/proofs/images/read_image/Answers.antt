-- `read_image` meets its contract: what does not keep the profile is refused by it, and all else is read as reading reads it.
use native.Mathlib.Omega.{arith}
use mathlib.Core.Path.{sym, ◌∙◌}
use Rattle.laws.specs.Written.{octets_every}
use Rattle.profile.specs.Telling.{image_outside, image_kept}
use Rattle.profile.proofs.images.read_image.Goals as goal

pub returns-then-not-keeps : goal.returns-then-not-keeps
returns-then-not-keeps c =
    let a = c.args in
    let octets = octets_every a.m.now (λ i. omega (arith, c.type_inv.m i)) in
    let outside = sym c.keeps.ensures ∙ c.if-not-keeps.true in
    rw c.profile_verdict.ensures (image_outside a.m.now octets outside a.image.now)

pub returns : goal.returns
returns c =
    let a = c.args in
    let octets = octets_every a.m.now (λ i. omega (arith, c.type_inv.m i)) in
    let kept = sym c.keeps.ensures ∙ c.if-not-keeps.false in
    image_kept a.m.now octets kept a.image.now _ _ c.read_image.ensures
