use Prim.Native.Nat.{◌+◌, ◌-◌}
use native.Mathlib.Omega.{arith}
use mathlib.Core.Path.{◌≡◌, refl, ap, ◌∙◌}
use mathlib.Core.List.{List, [], ◌∷◌, ◌++◌}
use borrow.Author.Rules.{rules}
use borrow.Author.Tests.{le-leb}
use lib.ListN.{length, take, drop}
use Rattle.std.proofs.lemmas.List.{length_push}
use Rattle.annex.specs.Items.{Item}
use Rattle.annex.specs.Layout.{layout_item, layout_items}
use Rattle.annex.specs.Memory.{at_front}
use Rattle.annex.specs.Records.{item_from, held_at}
use Rattle.limits.specs.Along.{length_mapped}
use Rattle.limits.specs.Held.{items_held, items_here, for_turn, for_end}
use Rattle.laws.specs.Rooms.{laid_length, laid_count, laid_end, laid_fits, laid_room, laid_turn}
use Rattle.writer.proofs.put_items.Goals as goal

layout_next : (i : Item) (is : List Item) → layout_items (i ∷ is) ≡ layout_item i ++ layout_items is
unfolding layout_items
layout_next i is = refl

pub item_len-at-requires : goal.item_len-at-requires
item_len-at-requires c =
    let a = c.args in
    let q = a.q in
    let g = c.loop-t in
    let t = c.in-Some.t in
    let here = for_turn q a.first a.n c.into_iter-t-iterator.result (cc) g.yielded g.t-iterator g.yielded_by c.next.result c.next.new.self c.next.ensures.steps _ c.in-Some.is (search (rules, length_mapped)) (search rules) in
    here.few

pub overflow_add-at : goal.overflow_add-at
overflow_add-at c =
    let a = c.args in
    let q = a.q in
    let g = c.loop-t in
    let t = c.in-Some.t in
    let here = for_turn q a.first a.n c.into_iter-t-iterator.result (cc) g.yielded g.t-iterator g.yielded_by c.next.result c.next.new.self c.next.ensures.steps _ c.in-Some.is (search (rules, length_mapped)) (search rules) in
    let i = item_from t c.in-Some.values.now in
    let rest = items_held (drop (length g.yielded + 1) (held_at q a.first a.n)) in
    let left = ap (λ (is : List Item). layout_items is) here.items ∙ layout_next i rest in
    let fits = rw (items_here q a.first a.n) at c.requires.1 in
    omega (
      arith,
      c.item_len-at.ensures,
      laid_fits g.invariant fits (layout_item i) _ left,
      laid_length g.invariant fits,
      c.well_formed,
    )

pub loop-t-preserved : goal.loop-t-preserved
loop-t-preserved c =
    let a = c.args in
    let q = a.q in
    let g = c.loop-t in
    let t = c.in-Some.t in
    let here = for_turn q a.first a.n c.into_iter-t-iterator.result (cc) g.yielded g.t-iterator g.yielded_by c.next.result c.next.new.self c.next.ensures.steps _ c.in-Some.is (search (rules, length_mapped)) (search rules) in
    let i = item_from t c.in-Some.values.now in
    let rest = items_held (drop (length g.yielded + 1) (held_at q a.first a.n)) in
    let left = ap (λ (is : List Item). layout_items is) here.items ∙ layout_next i rest in
    let fits = rw (items_here q a.first a.n) at c.requires.1 in
    let put_is : c.put.new.room ≡ at_front (layout_item i) (take (length g.room - g.at) (drop g.at g.room)) =
    c.put.ensures.1 ∙ rw (c.put.ensures.0 ∙ le-leb _ _ (laid_room g.invariant fits (layout_item i) _ left)) in
    rw (length_push g.yielded (t, c.in-Some.values))
    (laid_turn g.invariant fits (layout_item i) _ left c.put.new.room c.item_len-at.result put_is c.item_len-at.ensures)

pub returns : goal.returns
unfolding layout_items
returns c =
    let a = c.args in
    let q = a.q in
    let g = c.loop-t in
    let fits = rw (items_here q a.first a.n) at c.requires.1 in
    let end = for_end q a.first a.n c.into_iter-t-iterator.result (cc) g.yielded g.t-iterator g.yielded_by c.next.result c.next.new.self c.next.ensures.steps c.in-None.is in
    let none : layout_items (items_held (drop (length g.yielded) (held_at q a.first a.n))) ≡ [] = rw end in
    rw (items_here q a.first a.n) (laid_count g.invariant fits none, laid_end g.invariant fits none)
