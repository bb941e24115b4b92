use Rattle.std.specs.Prelude.{ℕ, ◌<◌, Bool, List, [], ◌∷◌, length, ◌==◌}
use native.Mathlib.Omega.{arith}
use mathlib.Core.Path.{◌≡◌, sym, ◌∙◌}
use Rattle.annex.specs.Profile.{pairs_in, pairs_right}
use Rattle.laws.specs.Parts.{to_end}
use Rattle.profile.specs.Pairs.{right_next}
use Rattle.profile.proofs.added.pairs_right.Goals.{then-not-is_defined-via-then-not-is_defined, then-not-is_defined-via-else-not-is_defined+then-is_named}
use Rattle.profile.proofs.added.pairs_right.Goals as goal

pub returns-then-not-is_defined : goal.returns-then-not-is_defined
returns-then-not-is_defined c =
    let next = right_next c.loop-rest.rest.now 0 (omega (arith, c.in-len2-up.len_at_least)) in
    let told = c.is_defined.ensures in
    elim c.then-not-is_defined.branch [
      | then-not-is_defined-via-then-not-is_defined w ↦
          sym (c.loop-rest.invariant ∙ next ∙ rw (← told, w.if-not-is_defined.true))
      | then-not-is_defined-via-else-not-is_defined+then-is_named w ↦
          sym (c.loop-rest.invariant ∙ next
          ∙ rw (sym told ∙ w.if-not-is_defined.false, sym (rw to_end at w.is_named.ensures) ∙ w.if-is_named.true))
    ]

pub loop-rest-preserved : goal.loop-rest-preserved
loop-rest-preserved c =
    let next = right_next c.loop-rest.rest.now 0 (omega (arith, c.in-len2-up.len_at_least)) in
    let again = rw to_end at c.is_named.ensures in
    c.loop-rest.invariant ∙ next
    ∙ rw (sym c.is_defined.ensures ∙ c.if-not-is_defined.false, sym again ∙ c.if-is_named.false, to_end)

-- none is left: right where no octet is
over : (t : List ℕ) (b : Bool) → b ≡ (length t == 0) → length t < 2 → b ≡ pairs_right t
unfolding pairs_in
over [] b e l = e
over (x ∷ []) b e l = e
over (x ∷ y ∷ t) b e l = absurd (omega arith)

pub returns : goal.returns
returns c = over c.loop-rest.rest.now _ c.is_empty.ensures (omega (arith, c.in_default.len_below)) ∙ sym c.loop-rest.invariant
