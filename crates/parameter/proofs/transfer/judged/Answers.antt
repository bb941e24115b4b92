-- `judged` meets its contract: its tests are those of the definition, in their order, and the part handed on is the contents.
use Prim.Native.Nat.{ℕ, ◌+◌, ◌-◌, ◌<◌}
use native.Mathlib.Omega.{arith}
use mathlib.Core.Path.{◌≡◌, sym, ap, ◌∙◌}
use mathlib.Core.Bool.{true}
use mathlib.Core.List.{List}
use borrow.Author.Tests.{not-true, not-false, lt-ltb, le-ltb, lt-leb, le-leb}
use lib.Dec.{ltb}
use lib.ListN.{length, take, drop, get_or, length-take, length-drop}
use Rattle.annex.specs.Answers.{offset_of, refuse, sound_then, reading_at, cut_contents, Accepted, Fault}
use Rattle.annex.specs.Units.{lead_of, extent_of, contents_in, name_of, after_of}
use Rattle.annex.specs.Heads.{pli_right, often_of}
use Rattle.annex.specs.Contents.{fault_of}
use Rattle.annex.specs.Reading.{transfer_of, transfer_by}
use Rattle.laws.specs.Extents.{lead_one, lead_within}
use Rattle.laws.specs.Offsets.{fault_within, offset_within}
use Rattle.laws.specs.Parts.{from_to}
use Rattle.heads.specs.Asked.{right_head, wrong_head}
use Rattle.parameter.specs.Asked.{fault_of_lem}
use Rattle.parameter.proofs.transfer.judged.Goals as goal

pub slice_bounds-fault_under-count : goal.slice_bounds-fault_under-count
slice_bounds-fault_under-count c =
    let h = c.after_header-after.ensures in
    rw (h.1, h.0) (lead_within _ _)

-- whether the header is right, by what was looked up
pub returns-then-not-asked : goal.returns-then-not-asked
unfolding transfer_by
returns-then-not-asked c =
    rw c.head_number.ensures (sym (wrong_head 0 _ _ (sym c.requires.0 ∙ not-true _ c.if-not-asked.true)))

pub returns-then-often_of-times : goal.returns-then-often_of-times
unfolding transfer_by
returns-then-often_of-times c =
    let right : pli_right c.args.header ≡ true = sym c.requires.0 ∙ not-false _ c.if-not-asked.false in
    sym (right_head 0 _ _ right ∙ rw (← c.often_of.ensures, le-leb _ _ c.if-often_of-times.true))

-- past 10: what is left is 11 and the contents
past_10 : (times header most n : ℕ) (xs : List ℕ) → pli_right header ≡ true → most ≡ often_of (name_of header) → times < most
    → n ≡ after_of (extent_of header) (get_or xs 0 0) →
    transfer_of times header xs
    ≡ refuse (ltb (length xs) n) cut_contents 0
    (sound_then (reading_at (1 + lead_of (extent_of header))) (fault_of header (contents_in (extent_of header) (take n xs)))
    (Accepted n))
unfolding transfer_by
past_10 times header most n xs right often few after =
    right_head 0 _ _ right ∙ rw (← often, lt-leb _ _ few, ← after)

pub returns-then-xs-after : goal.returns-then-xs-after
returns-then-xs-after c =
    let a = c.args in
    let right : pli_right a.header ≡ true = sym c.requires.0 ∙ not-false _ c.if-not-asked.false in
    let past = past_10 a.times a.header c.often_of.result c.after_header-after.result.octets a.xs.now right c.often_of.ensures c.if-often_of-times.false (rw c.octet_at.ensures at c.after_header-after.ensures.0) in
    rw (past, lt-ltb _ _ c.if-xs-after.true)

-- where the contents start lies within the octets after the header
pub overflow_add-after : goal.overflow_add-after
overflow_add-after c = omega (arith, c.after_header-after.ensures.1, lead_one (extent_of c.args.header))

-- past 11: the part handed on is the contents
pub at_octet-requires : goal.at_octet-requires
at_octet-requires c =
    let h = c.after_header-after in
    let a = c.args in
    let xs = a.xs.now in
    let part : List ℕ = take (h.result.octets - h.result.lead) (drop h.result.lead xs) in
    let wrong : c.fault_under-f.result ≡ fault_of a.header part = c.fault_under-f.ensures ∙ fault_of_lem a.header a.asked c.requires part in
    let w = offset_within (length part) _ (fault_within a.header part) in
    let o = ap (λ (f : Fault). offset_of f) wrong in
    let n = length-take (h.result.octets - h.result.lead) (drop h.result.lead xs) in
    omega (arith, h.ensures.1, lead_one (extent_of a.header), length-drop h.result.lead xs)

pub returns : goal.returns
returns c =
    let h = c.after_header-after in
    let a = c.args in
    let xs = a.xs.now in
    let part : List ℕ = take (h.result.octets - h.result.lead) (drop h.result.lead xs) in
    let wrong : c.fault_under-f.result ≡ fault_of a.header part = c.fault_under-f.ensures ∙ fault_of_lem a.header a.asked c.requires part in
    let right : pli_right a.header ≡ true = sym c.requires.0 ∙ not-false _ c.if-not-asked.false in
    let past = past_10 a.times a.header c.often_of.result h.result.octets xs right c.often_of.ensures c.if-often_of-times.false (rw c.octet_at.ensures at h.ensures.0) in
    rw (past, le-ltb _ _ c.if-xs-after.false, ← h.ensures.1, ← from_to, ← wrong) c.at_octet.ensures

pub slice_bounds-fault_under-start : goal.slice_bounds-fault_under-start
slice_bounds-fault_under-start c =
    let h = c.after_header-after.ensures in
    rw (h.1, h.0) (lead_within _ _)
