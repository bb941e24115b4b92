-- `judged` meets its contract: its tests are those of the definition, in their order, and contents of the right length are too short for a
-- sum to wrap.
use Prim.Native.Nat.{ℕ, ◌+◌}
use native.Mathlib.Omega.{arith}
use mathlib.Core.Path.{◌≡◌, sym, ap, ◌∙◌}
use mathlib.Core.Bool.{not}
use mathlib.Core.List.{List}
use borrow.Author.Tests.{le-leb, lt-leb, not-true, not-false}
use lib.Dec.{leb}
use lib.ListN.{length}
use Rattle.annex.specs.Answers.{refuse, sound_then, header_at, repeated_name, cut_contents, Accepted}
use Rattle.annex.specs.Units.{name_of, lead_of}
use Rattle.annex.specs.Heads.{often_of}
use Rattle.annex.specs.Layout.{layout_item}
use Rattle.annex.specs.Allowed.{length_right, fault_in}
use Rattle.annex.specs.Records.{raw_item}
use Rattle.annex.specs.Writing.{item_writing}
use Rattle.laws.specs.Laid.{length-layout, length_small, lead_small}
use Rattle.heads.specs.Asked.{right_head, wrong_head}
use Rattle.layout.proofs.Holdings.{contents_as, fault_as_lem}
use Rattle.layout.proofs.judged.Goals as goal

pub returns-then-not-asked : goal.returns-then-not-asked
unfolding item_writing
returns-then-not-asked c =
    rw c.head_number.ensures
    (sym (wrong_head 0 c.args.t.header _ (sym c.requires.0.0 ∙ not-true _ c.if-not-asked.true)))

pub returns-then-often_of-times : goal.returns-then-often_of-times
unfolding item_writing
returns-then-often_of-times c =
    let past-9 : (let a = c.args in
    let i = raw_item a.t a.values.now in
    item_writing a.times 0 i
    ≡ refuse (leb (often_of (name_of a.t.header)) a.times) repeated_name 0
    (refuse (not (length_right i)) cut_contents 0 (sound_then (header_at 0) (fault_in i) (Accepted (0 + length (layout_item i)))))) =
    right_head 0 c.args.t.header _ (sym c.requires.0.0 ∙ not-false _ c.if-not-asked.false) in
    rw (past-9, ← c.often_of.ensures, le-leb _ _ c.if-often_of-times.true)

pub returns-then-not-length_right : goal.returns-then-not-length_right
unfolding item_writing
returns-then-not-length_right c =
    let past-9 : (let a = c.args in
    let i = raw_item a.t a.values.now in
    item_writing a.times 0 i
    ≡ refuse (leb (often_of (name_of a.t.header)) a.times) repeated_name 0
    (refuse (not (length_right i)) cut_contents 0 (sound_then (header_at 0) (fault_in i) (Accepted (0 + length (layout_item i)))))) =
    right_head 0 c.args.t.header _ (sym c.requires.0.0 ∙ not-false _ c.if-not-asked.false) in
    let past-10 : (let a = c.args in
    let i = raw_item a.t a.values.now in
    item_writing a.times 0 i
    ≡ refuse (not (length_right i)) cut_contents 0 (sound_then (header_at 0) (fault_in i) (Accepted (0 + length (layout_item i))))) =
    rw (past-9, ← c.often_of.ensures, lt-leb _ _ c.if-often_of-times.false) in
    rw (past-10, ← c.length_right.ensures, c.if-not-length_right.true)

pub overflow_add-lead : goal.overflow_add-lead
overflow_add-lead c = omega (arith, c.lead.ensures, lead_small c.extent_of.result)

pub overflow_add-lead-2 : goal.overflow_add-lead-2
overflow_add-lead-2 c =
    let i = raw_item c.args.t c.args.values.now in
    let few = length_small i (sym c.length_right.ensures ∙ c.if-not-length_right.false) in
    let s = ap (λ (x : List ℕ). length x) (contents_as c.args.held i c.requires.1) in
    omega (arith, c.len_as.ensures, c.lead.ensures, lead_small c.extent_of.result)

-- past 11: the fault decides
pub returns : goal.returns
unfolding item_writing
returns c =
    let past-9 : (let a = c.args in
    let i = raw_item a.t a.values.now in
    item_writing a.times 0 i
    ≡ refuse (leb (often_of (name_of a.t.header)) a.times) repeated_name 0
    (refuse (not (length_right i)) cut_contents 0 (sound_then (header_at 0) (fault_in i) (Accepted (0 + length (layout_item i)))))) =
    right_head 0 c.args.t.header _ (sym c.requires.0.0 ∙ not-false _ c.if-not-asked.false) in
    let past-10 : (let a = c.args in
    let i = raw_item a.t a.values.now in
    item_writing a.times 0 i
    ≡ refuse (not (length_right i)) cut_contents 0 (sound_then (header_at 0) (fault_in i) (Accepted (0 + length (layout_item i))))) =
    rw (past-9, ← c.often_of.ensures, lt-leb _ _ c.if-often_of-times.false) in
    let i = raw_item c.args.t c.args.values.now in
    let k = fault_as_lem c.args.held i c.requires.1 in
    let s = ap (λ (y : List ℕ). length y) (contents_as c.args.held i c.requires.1) in
    let e : c.len_as.result + (1 + c.lead.result) ≡ 0 + length (layout_item i) =
    omega (arith, length-layout i, c.len_as.ensures, c.lead.ensures, ap lead_of c.extent_of.ensures) in
    rw (past-10, ← c.length_right.ensures, c.if-not-length_right.false, ← k, ← c.values_fault-f.ensures)
    (c.at_header.ensures ∙ ap (λ n. sound_then (header_at 0) c.values_fault-f.result (Accepted n)) (omega arith))
