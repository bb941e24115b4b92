use Prim.Native.Nat.{ℕ, ◌<◌, ◌-◌}
use native.Mathlib.Omega.{arith}
use mathlib.Core.Path.{◌≡◌, sym, ◌∙◌}
use lib.ListN.{length, get_or, take, drop}
use Rattle.annex.specs.Units.{common_extent_of}
use Rattle.annex.specs.Heads.{end_mark}
use Rattle.annex.specs.Walking.{stretch_at}
use Rattle.laws.specs.Written.{octets_every}
use Rattle.walk.specs.Stretches.{par_in, Whole, stretch_told}
use Rattle.reader.proofs.Turns.{filling_start, filling_end, filling_mark, Next, filling_next}
use Rattle.reader.proofs.reading.fill.Goals.{In-Some}
use Rattle.reader.proofs.reading.fill.Goals as goal

-- the stretch at i was found, so it lies within the message
here : (c : In-Some) → Whole common_extent_of c.args.m.now c.loop-start.i c.in-Some.start c.in-Some.to
here c = stretch_told _ _ _ (sym (c.stretch_at.ensures ∙ rw (c.common_extent_of.ensures, c.octet_at.ensures)) ∙ c.in-Some.is)

-- a parameter that is no end mark
next : (c : In-Some) → let m = c.args.m.now in
    let i = c.loop-start.i in
    let a = c.in-Some.start in
    let b = c.in-Some.to in
    (get_or m i 0 ≡ end_mark → ⊥) → Next m c.loop-start.filled b (get_or m i 0) (par_in m i b).own (take (b - a) (drop a m))
next c n = filling_next c.loop-start.invariant (here c) n

pub loop-start-init : goal.loop-start-init
loop-start-init c =
    let m = c.args.m.now in
    let o : (i : ℕ) → get_or m i 0 < 256 = λ i. omega (arith, c.type_inv.m i) in
    rw c.none-filled.ensures (filling_start m (length m) (octets_every m o) c.requires)

pub bounds-m-i : goal.bounds-m-i
bounds-m-i c = let w = here (goal.at.bounds-m-i c).In-Some in omega (arith, w.farther, w.within)

pub slice_bounds-put_common-count : goal.slice_bounds-put_common-count
slice_bounds-put_common-count c = let w = here (goal.at.slice_bounds-put_common-count c).In-Some in omega (arith, w.farther)

pub slice_bounds-put_common-start : goal.slice_bounds-put_common-start
slice_bounds-put_common-start c = let w = here (goal.at.slice_bounds-put_common-start c).In-Some in omega (arith, w.farther)

pub slice_bounds-put_common-end : goal.slice_bounds-put_common-end
slice_bounds-put_common-end c = (here (goal.at.slice_bounds-put_common-end c).In-Some).within

pub slice_bounds-put_common-count-then-header-ne-END_MARK : goal.slice_bounds-put_common-count-then-header-ne-END_MARK
slice_bounds-put_common-count-then-header-ne-END_MARK c = (here (goal.at.slice_bounds-put_common-count-then-header-ne-END_MARK c).In-Some).ordered

pub slice_bounds-put_common-start-then-header-ne-END_MARK : goal.slice_bounds-put_common-start-then-header-ne-END_MARK
slice_bounds-put_common-start-then-header-ne-END_MARK c = (here (goal.at.slice_bounds-put_common-start-then-header-ne-END_MARK c).In-Some).ordered

pub put_common-requires : goal.put_common-requires
put_common-requires c =
    let n = next (goal.at.put_common-requires c).In-Some c.if-header-ne-END_MARK.true in
    (n.place, n.room)

pub loop-start-smaller : goal.loop-start-smaller
loop-start-smaller c = let w = here (goal.at.loop-start-smaller c).In-Some in omega (arith, w.farther, w.within)

pub loop-start-smaller-then-header-ne-END_MARK : goal.loop-start-smaller-then-header-ne-END_MARK
loop-start-smaller-then-header-ne-END_MARK c =
    let w = here (goal.at.loop-start-smaller-then-header-ne-END_MARK c).In-Some in
    omega (arith, w.farther, w.within)

pub loop-start-preserved : goal.loop-start-preserved
loop-start-preserved c =
    filling_mark c.loop-start.invariant (here (goal.at.loop-start-preserved c).In-Some) c.if-header-ne-END_MARK.false

pub loop-start-preserved-then-header-ne-END_MARK : goal.loop-start-preserved-then-header-ne-END_MARK
loop-start-preserved-then-header-ne-END_MARK c =
    rw c.put_common.ensures
    (next (goal.at.loop-start-preserved-then-header-ne-END_MARK c).In-Some c.if-header-ne-END_MARK.true).put

pub returns : goal.returns
returns c =
    let m = c.args.m.now in
    let i = c.loop-start.i in
    let found : c.stretch_at.result ≡ stretch_at m i (common_extent_of (get_or m i 0)) =
    c.stretch_at.ensures ∙ rw (c.common_extent_of.ensures, c.octet_at.ensures) in
    filling_end c.loop-start.invariant (sym found ∙ c.in_default.is)
