use Prim.Native.Nat.{◌<◌}
use native.Mathlib.Omega.{arith}
use mathlib.Core.Path.{◌≡◌, sym, ◌∙◌}
use borrow.Author.Rules.{rules}
use Rattle.std.proofs.lemmas.List.{length_push}
use Rattle.annex.specs.Units.{name_of}
use Rattle.annex.specs.Records.{raw_item, item_from}
use Rattle.annex.specs.Walk.{times_seen}
use Rattle.annex.specs.Writing.{item_writing}
use Rattle.laws.specs.Often.{few_often}
use Rattle.laws.specs.Laid.{own_header}
use Rattle.laws.specs.Passed.{passed_on}
use Rattle.theorems.specs.Writings.{ItemWritten, item_written}
use Rattle.limits.specs.Along.{length_mapped}
use Rattle.limits.specs.Held.{items_here, for_turn, for_end}
use Rattle.refusing.specs.Refusing.{placed_ok, items_placed, items_accepted, items_over}
use Rattle.refusing.proofs.items_refusal.Goals as goal

pub returns-in_err-len : goal.returns-in_err-len
returns-in_err-len c =
    let a = c.args in
    let q = a.q in
    let g = c.loop-t in
    let t = c.in-Some.t in
    let here = for_turn q a.first a.n c.into_iter-t-iterator.result (cc) g.yielded g.t-iterator g.yielded_by c.next.result c.next.new.self c.next.ensures.steps _ c.in-Some.is (search (rules, length_mapped)) (search rules) in
    let own = c.in-Some.values.now in
    let i = item_from t own in
    let header_is : i.header ≡ t.header = own_header (raw_item t own) in
    let judged : item_writing (times_seen g.seen.0 t.header) 0 i ≡ c.refusal.result = rw (← c.times.ensures) (sym c.refusal.ensures) in
    passed_on c.from_residual.result c.in_err-len.field-0.0 c.from_residual.ensures.1
    ∙ sym (rw (items_here q a.first a.n) (g.invariant.1
    ∙ rw here.items (items_placed g.seen.0 g.at _ i _ _ header_is judged _ (sym c.placed.ensures ∙ c.in_err-len.was))))

pub overflow_add-at : goal.overflow_add-at
overflow_add-at c =
    let a = c.args in
    let q = a.q in
    let g = c.loop-t in
    let t = c.in-Some.t in
    let here = for_turn q a.first a.n c.into_iter-t-iterator.result (cc) g.yielded g.t-iterator g.yielded_by c.next.result c.next.new.self c.next.ensures.steps _ c.in-Some.is (search (rules, length_mapped)) (search rules) in
    let own = c.in-Some.values.now in
    let i = item_from t own in
    let header_is : i.header ≡ t.header = own_header (raw_item t own) in
    let judged : item_writing (times_seen g.seen.0 t.header) 0 i ≡ c.refusal.result = rw (← c.times.ensures) (sym c.refusal.ensures) in
    let took = placed_ok g.at c.refusal.result c.in_ok-len.len (sym c.placed.ensures ∙ c.in_ok-len.was) in
    let taken : ItemWritten (times_seen g.seen.0 t.header) 0 i c.in_ok-len.len = item_written _ _ _ _ (judged ∙ took) in
    omega (arith, taken.behind, taken.short, here.place, g.invariant.0)

pub loop-t-preserved : goal.loop-t-preserved
loop-t-preserved c =
    let a = c.args in
    let q = a.q in
    let g = c.loop-t in
    let t = c.in-Some.t in
    let here = for_turn q a.first a.n c.into_iter-t-iterator.result (cc) g.yielded g.t-iterator g.yielded_by c.next.result c.next.new.self c.next.ensures.steps _ c.in-Some.is (search (rules, length_mapped)) (search rules) in
    let own = c.in-Some.values.now in
    let i = item_from t own in
    let header_is : i.header ≡ t.header = own_header (raw_item t own) in
    let judged : item_writing (times_seen g.seen.0 t.header) 0 i ≡ c.refusal.result = rw (← c.times.ensures) (sym c.refusal.ensures) in
    let took = placed_ok g.at c.refusal.result c.in_ok-len.len (sym c.placed.ensures ∙ c.in_ok-len.was) in
    let taken : ItemWritten (times_seen g.seen.0 t.header) 0 i c.in_ok-len.len = item_written _ _ _ _ (judged ∙ took) in
    let few : times_seen g.seen.0 t.header < 255 = omega (arith, taken.fewer, few_often (name_of i.header)) in
    rw (length_push g.yielded (t, c.in-Some.values)) (
      omega (arith, taken.behind, taken.short, g.invariant.0),
      g.invariant.1
          ∙ rw (here.items, c.count.ensures few) (items_accepted g.seen.0 g.at _ i _ _ header_is judged _ took),
    )

pub returns : goal.returns
returns c =
    let a = c.args in
    let q = a.q in
    let g = c.loop-t in
    let end = for_end q a.first a.n c.into_iter-t-iterator.result (cc) g.yielded g.t-iterator g.yielded_by c.next.result c.next.new.self c.next.ensures.steps c.in-None.is in
    sym (rw (items_here q a.first a.n) (g.invariant.1 ∙ rw (end, items_over g.seen.0 g.at)))
