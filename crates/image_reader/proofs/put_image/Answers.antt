use Prim.Native.Nat.{ℕ, ◌<◌, ◌-◌}
use native.Mathlib.Omega.{arith}
use mathlib.Core.Path.{◌≡◌, sym, ◌∙◌}
use lib.ListN.{length, get_or, take, drop}
use Rattle.annex.specs.Units.{common_extent_of}
use Rattle.annex.specs.Walking.{stretch_at}
use Rattle.annex.specs.Image.{image_of}
use Rattle.laws.specs.Written.{octets_every}
use Rattle.walk.specs.Stretches.{par_in, Whole, stretch_told}
use Rattle.image_reader.proofs.Turns.{imaging_start, imaging_end, imaging_mark, Next, imaging_next}
use Rattle.annex.specs.Heads.{end_mark}
use Rattle.image_reader.proofs.put_image.Goals.{In-Some}
use Rattle.image_reader.proofs.put_image.Goals as goal

-- the stretch at i was found, so it lies within the message
here : (c : In-Some) → Whole common_extent_of c.args.m.now c.loop-start.i c.in-Some.start c.in-Some.to
here c = stretch_told _ _ _ (sym (c.stretch_at.ensures ∙ rw (c.common_extent_of.ensures, c.octet_at.ensures)) ∙ c.in-Some.is)

-- a parameter that is no end mark
next : (c : In-Some) → let m = c.args.m.now in
    let l = c.loop-start in
    let a = c.in-Some.start in
    let b = c.in-Some.to in
    (get_or m l.i 0 ≡ end_mark → ⊥) → Next m c.args.out.now l.count l.at l.i b (get_or m l.i 0) (par_in m l.i b).own (take (b - a) (drop a m)) l.out
next c n = imaging_next c.loop-start.invariant (here c) n c.requires.1

pub loop-start-init : goal.loop-start-init
loop-start-init c =
    let m = c.args.m.now in
    let o : (i : ℕ) → get_or m i 0 < 256 = λ i. omega (arith, c.type_inv.m i) in
    imaging_start m c.args.out.now (length m) (octets_every m o) c.requires.0

pub bounds-m-i : goal.bounds-m-i
bounds-m-i c = let w = here (goal.at.bounds-m-i c).In-Some in omega (arith, w.farther, w.within)

pub overflow_add-i : goal.overflow_add-i
overflow_add-i c = let w = here (goal.at.overflow_add-i c).In-Some in omega (arith, w.farther, w.within)

pub slice_bounds-put_part-count : goal.slice_bounds-put_part-count
slice_bounds-put_part-count c = let w = here (goal.at.slice_bounds-put_part-count c).In-Some in omega (arith, w.farther)

pub slice_bounds-put_part-start : goal.slice_bounds-put_part-start
slice_bounds-put_part-start c = let w = here (goal.at.slice_bounds-put_part-start c).In-Some in omega (arith, w.farther)

pub slice_bounds-put_part-end : goal.slice_bounds-put_part-end
slice_bounds-put_part-end c = (here (goal.at.slice_bounds-put_part-end c).In-Some).within

pub slice_bounds-put_part-count-then-header-ne-END_MARK : goal.slice_bounds-put_part-count-then-header-ne-END_MARK
slice_bounds-put_part-count-then-header-ne-END_MARK c = (here (goal.at.slice_bounds-put_part-count-then-header-ne-END_MARK c).In-Some).ordered

pub slice_bounds-put_part-start-then-header-ne-END_MARK : goal.slice_bounds-put_part-start-then-header-ne-END_MARK
slice_bounds-put_part-start-then-header-ne-END_MARK c = (here (goal.at.slice_bounds-put_part-start-then-header-ne-END_MARK c).In-Some).ordered

pub slice_bounds-put_part-end-then-header-ne-END_MARK : goal.slice_bounds-put_part-end-then-header-ne-END_MARK
slice_bounds-put_part-end-then-header-ne-END_MARK c = (here (goal.at.slice_bounds-put_part-end-then-header-ne-END_MARK c).In-Some).within

pub put_part-at-requires : goal.put_part-at-requires
put_part-at-requires c =
    let n = next (goal.at.put_part-at-requires c).In-Some c.if-header-ne-END_MARK.true in
    (n.fits, n.places, n.values)

pub overflow_add-count : goal.overflow_add-count
overflow_add-count c = omega (arith, (next (goal.at.overflow_add-count c).In-Some c.if-header-ne-END_MARK.true).room)

pub loop-start-smaller : goal.loop-start-smaller
loop-start-smaller c = let w = here (goal.at.loop-start-smaller c).In-Some in omega (arith, w.farther, w.within)

pub loop-start-smaller-then-header-ne-END_MARK : goal.loop-start-smaller-then-header-ne-END_MARK
loop-start-smaller-then-header-ne-END_MARK c =
    let w = here (goal.at.loop-start-smaller-then-header-ne-END_MARK c).In-Some in
    omega (arith, w.farther, w.within)

pub loop-start-preserved : goal.loop-start-preserved
loop-start-preserved c =
    imaging_mark c.loop-start.invariant (here (goal.at.loop-start-preserved c).In-Some) c.if-header-ne-END_MARK.false

pub loop-start-preserved-then-header-ne-END_MARK : goal.loop-start-preserved-then-header-ne-END_MARK
loop-start-preserved-then-header-ne-END_MARK c =
    (next (goal.at.loop-start-preserved-then-header-ne-END_MARK c).In-Some c.if-header-ne-END_MARK.true).put _ _ c.put_part-at.ensures

pub bounds-out-0 : goal.bounds-out-0
unfolding image_of
bounds-out-0 c = omega (arith, c.loop-start.invariant.left.long, c.requires.1)

pub returns : goal.returns
returns c =
    let m = c.args.m.now in
    let l = c.loop-start in
    let found : c.stretch_at.result ≡ stretch_at m l.i (common_extent_of (get_or m l.i 0)) =
    c.stretch_at.ensures ∙ rw (c.common_extent_of.ensures, c.octet_at.ensures) in
    imaging_end l.invariant (sym found ∙ c.in_default.is)
