use Prim.Native.Nat.{◌≤◌, ◌+◌, ◌-◌}
use mathlib.Core.Path.{◌≡◌, refl, sym, ap, ◌∙◌}
use native.Mathlib.Omega.{arith}
use lib.ListN.{length, get_or, take, drop}
use Rattle.annex.specs.Heads.{most_transfers, most_values}
use Rattle.annex.specs.Units.{extent_of}
use Rattle.annex.specs.Items.{Item, item_of}
use Rattle.annex.specs.Records.{values_of}
use Rattle.annex.specs.Walking.{stretch_at}
use Rattle.annex.specs.declared.Transfer.{Transfer}
use Rattle.walk.specs.Stretches.{Whole, stretch_told}
use Rattle.reader.specs.Filling.{items_left, items_none, items_more, room_more, filled_turn, filled_end}
use Rattle.reader.proofs.reading.Filled.put_transfers.Goals.{In-Some}
use Rattle.reader.proofs.reading.Filled.put_transfers.Goals as goal

-- the stretch at i was found, so it lies within the transfer data
here : (c : In-Some) → Whole extent_of c.args.t.now c.loop-start.i c.in-Some.start c.in-Some.to
here c = stretch_told _ _ _ (sym (c.stretch_at.ensures ∙ rw (c.extent_of.ensures, c.octet_at.ensures)) ∙ c.in-Some.is)

-- the parameter at i
abbrev item_at : (c : In-Some) → Item
item_at c =
    let t = c.args.t.now in
    item_of (get_or t c.loop-start.i 0) (take (c.in-Some.to - c.in-Some.start) (drop c.in-Some.start t))

-- there is room for it and for those behind it
room : (c : In-Some) →
    let f = c.loop-start.self in
    let is = items_left c.args.t.now c.in-Some.to in
    (f.transfers + 1 + length is ≤ most_transfers) × (f.used + length (item_at c).values + length (values_of is) ≤ most_values)
room c = room_more (items_more (here c)) c.loop-start.invariant.1

pub bounds-t-i : goal.bounds-t-i
bounds-t-i c = let w = here (goal.at.bounds-t-i c).In-Some in omega (arith, w.farther, w.within)

pub slice_bounds-open_held-count : goal.slice_bounds-open_held-count
slice_bounds-open_held-count c = (here (goal.at.slice_bounds-open_held-count c).In-Some).ordered

pub slice_bounds-open_held-start : goal.slice_bounds-open_held-start
slice_bounds-open_held-start c = (here (goal.at.slice_bounds-open_held-start c).In-Some).ordered

pub slice_bounds-open_held-end : goal.slice_bounds-open_held-end
slice_bounds-open_held-end c = (here (goal.at.slice_bounds-open_held-end c).In-Some).within

pub open_held-x-requires : goal.open_held-x-requires
open_held-x-requires c = omega (arith, (room (goal.at.open_held-x-requires c).In-Some).1)

pub bounds-self-self : goal.bounds-self-self
bounds-self-self c = omega (arith, (room (goal.at.bounds-self-self c).In-Some).0)

pub loop-start-smaller : goal.loop-start-smaller
loop-start-smaller c = let w = here (goal.at.loop-start-smaller c).In-Some in omega (arith, w.farther, w.within)

pub loop-start-preserved : goal.loop-start-preserved
loop-start-preserved c =
    let n = (goal.at.loop-start-preserved c).In-Some in
    let m = room n in
    let o = c.open_held-x.ensures in
    let len_is = ap (λ (x : Transfer). x.len) o.head in (
      c.loop-start.invariant.0 ∙ rw (items_more (here n), filled_turn c.loop-start.self.held (item_at n) _ _ _, ← o.head, ← o.put, ← len_is),
      record { places = m.0; values = rw len_is m.1 },
    )

pub returns : goal.returns
returns c =
    let t = c.args.t.now in
    let i = c.loop-start.i in
    let found : c.stretch_at.result ≡ stretch_at t i (extent_of (get_or t i 0)) = c.stretch_at.ensures ∙ rw (c.extent_of.ensures, c.octet_at.ensures) in
    sym (c.loop-start.invariant.0 ∙ filled_end _ _ _ _ (items_none _ _ (sym found ∙ c.in_default.is)))
