-- `added_classes` meets its contract: of what the profile takes, D6's contents are its pairs, and are copied where they fit.
use Prim.Native.Nat.{ℕ}
use native.Mathlib.Omega.{arith}
use mathlib.Core.Path.{sym, ap, ◌∙◌}
use mathlib.Core.List.{List, ◌++◌}
use lib.ListN.{length, drop}
use Rattle.annex.specs.Answers.{Accepted}
use Rattle.laws.specs.Passed.{passed_on}
use Rattle.laws.specs.Written.{octets_every}
use Rattle.profile.specs.Answering.{copied_short, copied_whole}
use Rattle.profile.specs.Telling.{classes_passed, classes_absent, classes_short, classes_done}
use Rattle.profile.proofs.images.added_classes.Goals as goal

pub returns-in_err-profile_verdict : goal.returns-in_err-profile_verdict
returns-in_err-profile_verdict c =
    let a = c.args in
    let r = c.in_err-profile_verdict.field-0.0 in
    let w = classes_passed a.m.now r.0 r.1 (sym c.profile_verdict.ensures ∙ c.in_err-profile_verdict.was) a.out.now in
    (passed_on c.from_residual.result r c.from_residual.ensures.1 ∙ w.0, w.1)

pub returns-then-not-stands : goal.returns-then-not-stands
returns-then-not-stands c =
    let m = c.args.m.now in
    let octets = octets_every m (λ j. omega (arith, c.type_inv.m j)) in
    let taken = sym c.profile_verdict.ensures ∙ c.in_ok-profile_verdict.was in
    classes_absent m octets _ taken c.args.out.now (sym c.stands.ensures ∙ c.if-not-stands.true)

pub returns-then-not-copy_in : goal.returns-then-not-copy_in
returns-then-not-copy_in c =
    let m = c.args.m.now in
    let out = c.args.out.now in
    let octets = octets_every m (λ j. omega (arith, c.type_inv.m j)) in
    let taken = sym c.profile_verdict.ensures ∙ c.in_ok-profile_verdict.was in
    let stands = sym c.stands.ensures ∙ c.if-not-stands.false in
    let pairs = c.contents-pairs.ensures in
    let t = copied_short c.contents-pairs.result.now out _ _ c.copy_in.ensures c.if-not-copy_in.true in
    let d = classes_short m octets _ taken out stands (omega (arith, t.0, ap length pairs)) in
    (d.0, t.1 ∙ d.1)

pub returns : goal.returns
returns c =
    let m = c.args.m.now in
    let out = c.args.out.now in
    let octets = octets_every m (λ j. omega (arith, c.type_inv.m j)) in
    let taken = sym c.profile_verdict.ensures ∙ c.in_ok-profile_verdict.was in
    let stands = sym c.stands.ensures ∙ c.if-not-stands.false in
    let pairs = c.contents-pairs.ensures in
    let t = copied_whole c.contents-pairs.result.now out _ _ c.copy_in.ensures c.if-not-copy_in.false in
    let d = classes_done m octets _ taken out stands (omega (arith, t.0, ap length pairs)) in
    let same = ap (λ (x : List ℕ). x ++ drop (length x) out) pairs in
    (ap (λ (x : List ℕ). Accepted (length x)) pairs ∙ d.0, t.1 ∙ same ∙ d.1)
