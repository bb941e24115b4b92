use native.Mathlib.Omega.{arith}
use mathlib.Core.Path.{sym, ◌∙◌}
use borrow.Author.Tests.{eq-eqb, ne_eqb}
use Rattle.laws.specs.Parts.{to_end}
use Rattle.profile.specs.Pairs.{named_next, named_none}
use Rattle.profile.proofs.added.is_named.Goals as goal

pub returns-then-other-name : goal.returns-then-other-name
returns-then-other-name c =
    let name = c.args.name in
    let next = named_next name c.loop-rest.rest.now 0 (omega (arith, c.in-len2-up.len_at_least)) in
    sym (c.loop-rest.invariant ∙ next ∙ rw (eq-eqb name _ (sym c.if-other-name.true)))

pub loop-rest-preserved : goal.loop-rest-preserved
loop-rest-preserved c =
    let name = c.args.name in
    let next = named_next name c.loop-rest.rest.now 0 (omega (arith, c.in-len2-up.len_at_least)) in
    c.loop-rest.invariant ∙ next ∙ rw (ne_eqb name _ (λ e. c.if-other-name.false (sym e)), to_end)

pub returns : goal.returns
returns c =
    sym (c.loop-rest.invariant ∙ named_none c.args.name c.loop-rest.rest.now 0 (omega (arith, c.in_default.len_below)))
