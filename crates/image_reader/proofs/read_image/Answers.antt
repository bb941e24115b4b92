-- `read_image` meets its contract: the verdict decides, and room for the longest image is room for this one.
use Prim.Native.Nat.{◌≤◌}
use native.Mathlib.Omega.{arith}
use mathlib.Core.Path.{◌≡◌, sym, ap, ◌∙◌}
use lib.ListN.{length}
use Rattle.annex.specs.Reading.{verdict_of, record_of}
use Rattle.annex.specs.Image.{image_of}
use Rattle.annex.specs.Answers.{Accepted}
use Rattle.laws.specs.Passed.{passed_on}
use Rattle.laws.specs.Runs.{puts_front}
use Rattle.laws.specs.Written.{octets_every}
use Rattle.theorems.specs.Images.{image_most}
use Rattle.theorems.specs.Messages.{message_read}
use Rattle.image_reader.specs.Answering.{read_refused, read_done}
use Rattle.image_reader.proofs.read_image.Goals as goal

pub returns-in_err-verdict : goal.returns-in_err-verdict
returns-in_err-verdict c =
    let a = c.args in
    let r = c.in_err-verdict.field-0.0 in
    let d = read_refused a.m.now a.image.now _ _ (sym c.verdict.ensures ∙ c.in_err-verdict.was) in
    (passed_on c.from_residual.result r c.from_residual.ensures.1 ∙ d.0, d.1)

pub put_image-requires : goal.put_image-requires
put_image-requires c =
    let accepted : (let m = c.args.m.now in
    verdict_of m ≡ Accepted (length m)) =
    let e = sym c.verdict.ensures ∙ c.in_ok-verdict.was in
    e ∙ ap Accepted (message_read _ _ e).length-given in
    let roomy : (let a = c.args in
    length (image_of (record_of a.m.now)) ≤ length a.image.now) =
    let m = c.args.m.now in
    let o = octets_every m (λ i. omega (arith, c.type_inv.m i)) in
    omega (arith, image_most m o (length m) (accepted), c.if-image-lt-MOST.false) in
    (accepted, roomy)

pub returns : goal.returns
returns c =
    let accepted : (let m = c.args.m.now in
    verdict_of m ≡ Accepted (length m)) =
    let e = sym c.verdict.ensures ∙ c.in_ok-verdict.was in
    e ∙ ap Accepted (message_read _ _ e).length-given in
    let roomy : (let a = c.args in
    length (image_of (record_of a.m.now)) ≤ length a.image.now) =
    let m = c.args.m.now in
    let o = octets_every m (λ i. omega (arith, c.type_inv.m i)) in
    omega (arith, image_most m o (length m) (accepted), c.if-image-lt-MOST.false) in
    let a = c.args in
    let d = read_done a.m.now a.image.now _ (accepted) (roomy) in
    let n : c.put_image.result ≡ length (image_of (record_of a.m.now)) = omega (arith, c.put_image.ensures.ends) in
    (ap Accepted n ∙ d.0, puts_front c.put_image.ensures (roomy) ∙ d.1)

pub put_short-requires : goal.put_short-requires
put_short-requires c =
    let accepted : (let m = c.args.m.now in
    verdict_of m ≡ Accepted (length m)) =
    let e = sym c.verdict.ensures ∙ c.in_ok-verdict.was in
    e ∙ ap Accepted (message_read _ _ e).length-given in
    accepted
