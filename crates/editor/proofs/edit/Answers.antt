-- `edit` meets its contract: its steps are those of the definition, and where it puts the new octets is where the edit's theorem has them.
use Prim.Native.Nat.{ℕ, ◌-◌, ◌≤◌, ◌<◌}
use native.Mathlib.Omega.{arith}
use mathlib.Core.Path.{◌≡◌, refl, sym, ◌∙◌}
use borrow.Author.Tests.{lt-ltb, le-ltb}
use lib.ListN.{length, take, drop}
use lib.Seq.{length-take-le}
use Rattle.std.specs.Prelude.{List, get_or}
use Rattle.annex.specs.Heads.{transfer_data}
use Rattle.annex.specs.Reading.{verdict_of}
use Rattle.annex.specs.Walking.{common_plain}
use Rattle.annex.specs.Answers.{Answer, Accepted, Found, At}
use Rattle.laws.specs.Passed.{passed_on}
use Rattle.laws.specs.Written.{octets_every}
use Rattle.editor.specs.Steps.{spot_in, head_answer, contents_answer, own_answer, data_inside, refused, Data, own_refused, own_left}
use Rattle.editor.specs.Splicing.{cut_placed, handed_edits}
use Rattle.editor.specs.Cuts.{cut}
use Rattle.editor.specs.declared.steps.Kind.{Kind}
use Rattle.editor.proofs.edit.Goals as goal

-- ---- the message and its transfer data

pub returns-then-buffer-n : goal.returns-then-buffer-n
returns-then-buffer-n c =
    refused c.args.kind _ c.requires _ _ _ _ _ (octets_every c.args.buffer.now (λ i. omega (arith, c.slice_known-1.given i))) refl
    (rw (lt-ltb _ _ c.if-buffer-n.true))

pub slice_bounds-verdict-end-2 : goal.slice_bounds-verdict-end-2
slice_bounds-verdict-end-2 c = sym (length-take-le _ _ c.if-buffer-n.false)

pub returns-in_err-verdict : goal.returns-in_err-verdict
returns-in_err-verdict c =
    let p = passed_on c.from_residual.result c.in_err-verdict.field-0.0 c.from_residual.ensures.1 in
    refused c.args.kind _ c.requires _ _ _ _ _ (octets_every c.args.buffer.now (λ i. omega (arith, c.slice_known-1.given i)))
    p
    (rw (le-ltb _ _ c.if-buffer-n.false, ← c.verdict.ensures, c.in_err-verdict.was) (sym p))

pub slice_bounds-common_by_length-end-2 : goal.slice_bounds-common_by_length-end-2
slice_bounds-common_by_length-end-2 c = sym (length-take-le _ _ c.if-buffer-n.false)

pub returns-in_default : goal.returns-in_default
returns-in_default c =
    refused c.args.kind _ c.requires _ _ _ _ _ (octets_every c.args.buffer.now (λ i. omega (arith, c.slice_known-1.given i))) refl
    (rw (
      le-ltb _ _ c.if-buffer-n.false,
      ← c.verdict.ensures,
      c.in_ok-verdict.was,
      ← c.common_by_length.ensures,
      c.in_default.is,
    ))

found : (d : List ℕ) (n s t j : ℕ) (m : Answer) (f : Found) → ((i : ℕ) → get_or d i 0 < 256) → n ≤ length d
    → m ≡ verdict_of (take n d) → m ≡ Accepted j → f ≡ common_plain transfer_data (take n d) → f ≡ At s t → Data d n s t
found d n s t j m f o l v a g w =
    record { octets = octets_every d o; within = l; given = j; message = sym v ∙ a; found = sym g ∙ w }

-- ---- the edit's own steps

left : (k : Kind) (new t : List ℕ) (j a z : ℕ) (h r : Answer) (f : Found) → h ≡ head_answer k new → h ≡ Accepted j
    → f ≡ spot_in k new t → f ≡ At a z → r ≡ contents_answer new → own_answer k new t ≡ r
left k new t j a z h r f e v g w q = own_left k new t j a z (sym e ∙ v) (sym g ∙ w) ∙ sym q

pub returns-in_err-head_answer : goal.returns-in_err-head_answer
returns-in_err-head_answer c =
    let p = passed_on c.from_residual-in_err-head_answer.result c.in_err-head_answer.field-0.0 c.from_residual-in_err-head_answer.ensures.1 in
    let w =
    found c.args.buffer.now c.args.n c.in-Some.start c.in-Some.end _ _ _ (λ i. omega (arith, c.slice_known-1.given i)) c.if-buffer-n.false
    c.verdict.ensures c.in_ok-verdict.was c.common_by_length.ensures c.in-Some.is in
    own_refused c.args.kind _ _ _ _ _ _ _ _ c.requires w
    p
    (rw (← c.head_answer.ensures, c.in_err-head_answer.was) (sym p))

pub slice_bounds-spot_in-start : goal.slice_bounds-spot_in-start
slice_bounds-spot_in-start c =
    let w =
    found c.args.buffer.now c.args.n c.in-Some.start c.in-Some.end _ _ _ (λ i. omega (arith, c.slice_known-1.given i)) c.if-buffer-n.false
    c.verdict.ensures c.in_ok-verdict.was c.common_by_length.ensures c.in-Some.is in
    (data_inside w).0

pub slice_bounds-spot_in-count : goal.slice_bounds-spot_in-count
slice_bounds-spot_in-count c =
    let w =
    found c.args.buffer.now c.args.n c.in-Some.start c.in-Some.end _ _ _ (λ i. omega (arith, c.slice_known-1.given i)) c.if-buffer-n.false
    c.verdict.ensures c.in_ok-verdict.was c.common_by_length.ensures c.in-Some.is in
    (data_inside w).0

pub slice_bounds-spot_in-end : goal.slice_bounds-spot_in-end
slice_bounds-spot_in-end c =
    let w =
    found c.args.buffer.now c.args.n c.in-Some.start c.in-Some.end _ _ _ (λ i. omega (arith, c.slice_known-1.given i)) c.if-buffer-n.false
    c.verdict.ensures c.in_ok-verdict.was c.common_by_length.ensures c.in-Some.is in
    (data_inside w).1

pub returns-in_default-spot_in : goal.returns-in_default-spot_in
returns-in_default-spot_in c =
    let w =
    found c.args.buffer.now c.args.n c.in-Some.start c.in-Some.end _ _ _ (λ i. omega (arith, c.slice_known-1.given i)) c.if-buffer-n.false
    c.verdict.ensures c.in_ok-verdict.was c.common_by_length.ensures c.in-Some.is in
    own_refused c.args.kind _ _ _ _ _ _ _ _ c.requires w refl
    (rw (
      ← c.head_answer.ensures,
      c.in_ok-head_answer.was,
      ← c.spot_in.ensures,
      c.in_default-spot_in.is,
      ← c.no_spot.ensures,
    ))

pub returns-in_err-contents_answer : goal.returns-in_err-contents_answer
returns-in_err-contents_answer c =
    let p = passed_on c.from_residual-in_err-contents_answer.result c.in_err-contents_answer.field-0.0 c.from_residual-in_err-contents_answer.ensures.1 in
    let w =
    found c.args.buffer.now c.args.n c.in-Some.start c.in-Some.end _ _ _ (λ i. omega (arith, c.slice_known-1.given i)) c.if-buffer-n.false
    c.verdict.ensures c.in_ok-verdict.was c.common_by_length.ensures c.in-Some.is in
    let l =
    left c.args.kind c.args.new.now (take (c.in-Some.end - c.in-Some.start) (drop c.in-Some.start c.args.buffer.now)) _ _ _ _ _ _
    c.head_answer.ensures c.in_ok-head_answer.was c.spot_in.ensures c.in-Some-spot_in.is c.contents_answer.ensures in
    own_refused c.args.kind _ _ _ _ _ _ _ _ c.requires w
    p
    (l ∙ c.in_err-contents_answer.was ∙ sym p)

-- ---- the last step

-- what it asks, whatever part of the stretch it is handed
pub splice_in-requires : goal.splice_in-requires
splice_in-requires c =
    let w =
    found c.args.buffer.now c.args.n c.in-Some.start c.in-Some.end _ _ _ (λ i. omega (arith, c.slice_known-1.given i)) c.if-buffer-n.false
    c.verdict.ensures c.in_ok-verdict.was c.common_by_length.ensures c.in-Some.is in
    let l =
    left c.args.kind c.args.new.now (take (c.in-Some.end - c.in-Some.start) (drop c.in-Some.start c.args.buffer.now)) _ _ _ _ _ _
    c.head_answer.ensures c.in_ok-head_answer.was c.spot_in.ensures c.in-Some-spot_in.is c.contents_answer.ensures in
    let p =
    cut c.args.kind c.args.new.now _ _ _ _ _ _ _ c.requires (octets_every c.args.new.now (λ i. omega (arith, c.type_inv.new i))) w
    (sym c.spot_in.ensures ∙ c.in-Some-spot_in.is) (l ∙ c.in_ok-contents_answer.was) in
    let q = cut_placed p in
    record { counted = q.counted; order = omega (arith, q.order); within = omega (arith, q.within, q.order); message = q.message; whole = q.whole }

pub returns : goal.returns
returns c =
    let w =
    found c.args.buffer.now c.args.n c.in-Some.start c.in-Some.end _ _ _ (λ i. omega (arith, c.slice_known-1.given i)) c.if-buffer-n.false
    c.verdict.ensures c.in_ok-verdict.was c.common_by_length.ensures c.in-Some.is in
    let l =
    left c.args.kind c.args.new.now (take (c.in-Some.end - c.in-Some.start) (drop c.in-Some.start c.args.buffer.now)) _ _ _ _ _ _
    c.head_answer.ensures c.in_ok-head_answer.was c.spot_in.ensures c.in-Some-spot_in.is c.contents_answer.ensures in
    let p =
    cut c.args.kind c.args.new.now _ _ _ _ _ _ _ c.requires (octets_every c.args.new.now (λ i. omega (arith, c.type_inv.new i))) w
    (sym c.spot_in.ensures ∙ c.in-Some-spot_in.is) (l ∙ c.in_ok-contents_answer.was) in
    handed_edits c.in-Some-spot_in.from c.in-Some-spot_in.to c.splice_in.ensures p (omega arith) (omega arith)
