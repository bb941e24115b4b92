use Prim.Native.Nat.{ℕ, ◌≤◌, ◌+◌, ◌-◌}
use native.Mathlib.Omega.{arith}
use mathlib.Core.Path.{◌≡◌, sym, ◌∙◌}
use mathlib.Core.List.{List, ◌∷◌, ◌++◌}
use lib.ListN.{length, get_or, take, drop, length-append}
use Rattle.annex.specs.Heads.{most_values}
use Rattle.annex.specs.Units.{extent_of}
use Rattle.annex.specs.Items.{Item, item_of}
use Rattle.annex.specs.Records.{values_of}
use Rattle.annex.specs.Image.{image_item, image_items}
use Rattle.annex.specs.Walking.{stretch_at}
use Rattle.laws.specs.Runs.{left_some, left_none, left_fits}
use Rattle.walk.specs.Stretches.{Whole, stretch_told}
use Rattle.reader.specs.Filling.{items_from, items_left, items_none, items_more}
use Rattle.image_reader.proofs.put_items.Goals.{In-Some}
use Rattle.image_reader.proofs.put_items.Goals as goal

-- the stretch at i was found, so it lies within the transfer data
here : (c : In-Some) → Whole extent_of c.args.t.now c.loop-start.i c.in-Some.start c.in-Some.to
here c = stretch_told _ _ _ (sym (c.stretch_at.ensures ∙ rw (c.extent_of.ensures, c.octet_at.ensures)) ∙ c.in-Some.is)

-- the parameter at i, and those behind it: its octets come first
record Turn (t : List ℕ) (i x count : ℕ) (y : Item) : Type 0 where
  octets : image_items (items_left t i) ≡ image_item y ++ image_items (items_left t x)
  counted : count + 1 + length (items_left t x) ≡ length (items_from t)
  values : length y.values + length (values_of (items_left t x)) ≤ most_values

turn_is : (t : List ℕ) (i x count : ℕ) (y : Item) → items_left t i ≡ y ∷ items_left t x
    → count + length (items_left t i) ≡ length (items_from t) → length (values_of (items_left t i)) ≤ most_values → Turn t i x count y
unfolding image_items values_of
turn_is t i x count y e n v =
    record {
      octets = rw e;
      counted = omega (arith, rw e at n);
      values = omega (arith, rw e at v, length-append y.values (values_of (items_left t x)));
    }

turn : (c : In-Some) → let t = c.args.t.now in
    let a = c.in-Some.start in
    let b = c.in-Some.to in
    Turn t c.loop-start.i b c.loop-start.count (item_of (get_or t c.loop-start.i 0) (take (b - a) (drop a t)))
turn c = turn_is _ _ _ _ _ (items_more (here c)) c.loop-start.invariant.1 c.loop-start.invariant.2

pub bounds-t-i : goal.bounds-t-i
bounds-t-i c = let w = here (goal.at.bounds-t-i c).In-Some in omega (arith, w.farther, w.within)

pub slice_bounds-put_item-count : goal.slice_bounds-put_item-count
slice_bounds-put_item-count c = (here (goal.at.slice_bounds-put_item-count c).In-Some).ordered

pub slice_bounds-put_item-start : goal.slice_bounds-put_item-start
slice_bounds-put_item-start c = (here (goal.at.slice_bounds-put_item-start c).In-Some).ordered

pub slice_bounds-put_item-end : goal.slice_bounds-put_item-end
slice_bounds-put_item-end c = (here (goal.at.slice_bounds-put_item-end c).In-Some).within

pub put_item-at-requires : goal.put_item-at-requires
put_item-at-requires c =
    let n = turn (goal.at.put_item-at-requires c).In-Some in
    (left_fits c.loop-start.invariant.0 _ _ n.octets c.requires.0, omega (arith, n.values))

pub overflow_add-count : goal.overflow_add-count
overflow_add-count c = omega (arith, (turn (goal.at.overflow_add-count c).In-Some).counted, c.requires.1)

pub loop-start-smaller : goal.loop-start-smaller
loop-start-smaller c =
    let w = here (goal.at.loop-start-smaller c).In-Some in
    omega (arith, w.farther, w.within)

pub loop-start-preserved : goal.loop-start-preserved
loop-start-preserved c =
    let n = turn (goal.at.loop-start-preserved c).In-Some in
    (left_some c.loop-start.invariant.0 _ _ n.octets _ _ c.put_item-at.ensures, n.counted, omega (arith, n.values))

pub returns : goal.returns
unfolding image_items
returns c =
    let t = c.args.t.now in
    let l = c.loop-start in
    let found : c.stretch_at.result ≡ stretch_at t l.i (extent_of (get_or t l.i 0)) =
    c.stretch_at.ensures ∙ rw (c.extent_of.ensures, c.octet_at.ensures) in
    let none = items_none _ _ (sym found ∙ c.in_default.is) in
    (omega (arith, rw none at l.invariant.1), left_none l.invariant.0 (rw none))
