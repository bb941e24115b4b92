-- `contents_answer` meets its contract: the length is that of the length rule, and the part handed on is the contents.
use Prim.Native.Nat.{◌+◌}
use native.Mathlib.Omega.{arith}
use borrow.Author.Tests.{eq-eqb, ne_eqb}
use lib.ListN.{length-drop}
use lib.Seq.{get_or-drop, drop-drop}
use Rattle.laws.specs.Extents.{lead_within}
use Rattle.laws.specs.Parts.{to_end}
use Rattle.editor.proofs.steps.contents_answer.Goals as goal

pub returns-then-new-eq0 : goal.returns-then-new-eq0
returns-then-new-eq0 c = rw (eq-eqb _ 0 c.if-new-eq0.true)

pub returns-then-new-n : goal.returns-then-new-n
returns-then-new-n c =
    rw (
      ne_eqb _ 0 c.if-new-eq0.false,
      length-drop,
      get_or-drop,
      ← c.extent_of-e.ensures,
      ← c.octet_at.ensures,
      ← c.octets_after-n.ensures,
      ne_eqb _ _ c.if-new-n.true,
    )

pub overflow_add-start : goal.overflow_add-start
overflow_add-start c =
    let l =
    rw (← c.lead-start.ensures, ← c.octets_after-n.ensures) at
    (lead_within c.extent_of-e.result c.octet_at.result) in
    omega (arith, l, c.if-new-n.false)

pub slice_bounds-contents_fault-start : goal.slice_bounds-contents_fault-start
slice_bounds-contents_fault-start c =
    let l =
    rw (← c.lead-start.ensures, ← c.octets_after-n.ensures) at
    (lead_within c.extent_of-e.result c.octet_at.result) in
    omega (arith, l, c.if-new-n.false)

pub slice_bounds-contents_fault-count : goal.slice_bounds-contents_fault-count
slice_bounds-contents_fault-count c =
    let l =
    rw (← c.lead-start.ensures, ← c.octets_after-n.ensures) at
    (lead_within c.extent_of-e.result c.octet_at.result) in
    omega (arith, l, c.if-new-n.false)

-- past 11: the part handed on is the contents
pub returns : goal.returns
returns c =
    let new = c.args.new.now in
    rw (
      ne_eqb _ 0 c.if-new-eq0.false,
      length-drop,
      get_or-drop,
      ← c.extent_of-e.ensures,
      ← c.octet_at.ensures,
      ← c.octets_after-n.ensures,
      eq-eqb _ _ c.if-new-n.false,
      drop-drop,
      ← c.lead-start.ensures,
      ← to_end (1 + c.lead-start.result) new,
      ← c.contents_fault-f.ensures,
    )
    c.at_header.ensures
