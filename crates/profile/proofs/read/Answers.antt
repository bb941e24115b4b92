-- `read` meets its contract: what does not keep the profile is refused by it, and all else is read as reading reads it.
use Prim.Native.Nat.{ℕ}
use native.Mathlib.Omega.{arith}
use mathlib.Core.Path.{◌≡◌, sym, ap, ◌∙◌}
use mathlib.Core.Bool.{true}
use mathlib.Core.List.{List}
use Rattle.annex.specs.Allowed.{every, is_octet}
use Rattle.annex.specs.Profile.{profile_verdict}
use Rattle.annex.specs.Records.{reading_of}
use Rattle.annex.specs.Answers.{Accepted}
use Rattle.annex.specs.declared.Reading.{Reading}
use Rattle.laws.specs.Written.{octets_every}
use Rattle.profile.specs.Keeping.{keeps_plain}
use Rattle.profile.specs.Telling.{refused_with, read_outside, kept_taken, read_refused, reading_verdict, read_taken}
use Rattle.profile.proofs.read.Goals as goal

-- it keeps the profile, and reading accepts it
taken : (m : List ℕ) → every is_octet m ≡ true → keeps_plain m ≡ true → (r : Reading) → r ≡ reading_of m
    → (n : ℕ) → r.answer ≡ Accepted n → profile_verdict m ≡ Accepted n
taken m o k r e n a = kept_taken m o k n (sym (reading_verdict m r e) ∙ a)

pub returns-then-not-keeps : goal.returns-then-not-keeps
returns-then-not-keeps c =
    let m = c.args.m.now in
    let octets = octets_every m (λ i. omega (arith, c.type_inv.m i)) in
    c.refused.ensures ∙ ap refused_with c.profile_verdict.ensures ∙ read_outside m octets (sym c.keeps.ensures ∙ c.if-not-keeps.true)

pub returns-in_default : goal.returns-in_default
returns-in_default c =
    let m = c.args.m.now in
    let octets = octets_every m (λ i. omega (arith, c.type_inv.m i)) in
    let e = c.in_default.is in
    let v = sym (reading_verdict m c.read-answer.result c.read-answer.ensures) ∙ e in
    c.refused-in_default.ensures ∙ ap refused_with e ∙ read_refused m octets (sym c.keeps.ensures ∙ c.if-not-keeps.false) _ _ v

pub told-requires : goal.told-requires
told-requires c =
    let m = c.args.m.now in
    let octets = octets_every m (λ i. omega (arith, c.type_inv.m i)) in
    let kept = sym c.keeps.ensures ∙ c.if-not-keeps.false in
    (c.in-Ok.field-0, taken m octets kept c.read-answer.result c.read-answer.ensures _ c.in-Ok.is)

pub returns : goal.returns
returns c =
    let m = c.args.m.now in
    let octets = octets_every m (λ i. omega (arith, c.type_inv.m i)) in
    let kept = sym c.keeps.ensures ∙ c.if-not-keeps.false in
    let t = taken m octets kept c.read-answer.result c.read-answer.ensures _ c.in-Ok.is in
    rw (c.told.ensures, c.in-Ok.is)
    (read_taken m octets c.in-Ok.field-0 t c.read-answer.result c.read-answer.ensures)
