-- `profile_verdict` meets its contract: reading's verdict comes first, and of what it accepts the profile is asked.
use native.Mathlib.Omega.{arith}
use mathlib.Core.Path.{sym, ◌∙◌}
use Rattle.laws.specs.Passed.{passed_on}
use Rattle.laws.specs.Written.{octets_every}
use Rattle.theorems.specs.Profiles.{end_last}
use Rattle.profile.specs.Answering.{verdict_refused, verdict_outside, verdict_inside}
use Rattle.profile.proofs.verdict.profile_verdict.Goals as goal

pub returns-in_err-n : goal.returns-in_err-n
returns-in_err-n c =
    let r = c.in_err-n.field-0.0 in
    passed_on c.from_residual.result r c.from_residual.ensures.1
    ∙ verdict_refused c.args.m.now r.0 r.1 (sym c.verdict.ensures ∙ c.in_err-n.was)

pub overflow_sub-result : goal.overflow_sub-result
overflow_sub-result c = (end_last c.args.m.now c.in_ok-n.n (sym c.verdict.ensures ∙ c.in_ok-n.was)).0

pub returns-then-not-keeps : goal.returns-then-not-keeps
returns-then-not-keeps c =
    let accepted = sym c.verdict.ensures ∙ c.in_ok-n.was in
    let octets = octets_every c.args.m.now (λ i. omega (arith, c.type_inv.m i)) in
    verdict_outside c.args.m.now octets c.in_ok-n.n accepted (sym c.keeps.ensures ∙ c.if-not-keeps.true)

pub returns : goal.returns
returns c =
    let accepted = sym c.verdict.ensures ∙ c.in_ok-n.was in
    let octets = octets_every c.args.m.now (λ i. omega (arith, c.type_inv.m i)) in
    verdict_inside c.args.m.now octets c.in_ok-n.n accepted (sym c.keeps.ensures ∙ c.if-not-keeps.false)
