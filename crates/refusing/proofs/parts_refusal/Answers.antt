use Prim.Native.Nat.{◌≤◌, ◌<◌}
use native.Mathlib.Omega.{arith}
use mathlib.Core.Path.{◌≡◌, refl, sym, ap, ◌∙◌}
use mathlib.Core.List.{[]}
use borrow.Author.Rules.{rules}
use lib.ListN.{length, get_or}
use Rattle.annex.specs.Answers.{Accepted}
use Rattle.annex.specs.Heads.{most_commons}
use Rattle.annex.specs.Records.{no_common, commons_in, raw_part}
use Rattle.annex.specs.Walk.{unseen, times_seen}
use Rattle.annex.specs.Writing.{part_writing, parts_writing}
use Rattle.laws.specs.Passed.{passed_on}
use Rattle.limits.specs.Along.{parts_start, parts_end, common_here, common_over, part_next, plain_turn, data_turn, length_mapped}
use Rattle.refusing.specs.Laying.{head_long}
use Rattle.refusing.specs.Refusing.{
  placed_ok,
  part_head_passed,
  data_passed,
  head_placed,
  plain_accepted,
  data_refused,
  data_accepted,
  parts_over,
}
use Rattle.refusing.proofs.parts_refusal.Goals as goal

pub loop-c-init : goal.loop-c-init
loop-c-init c = (omega arith, omega arith, rw c.none-seen.ensures (ap (parts_writing unseen 0) (parts_start c.args.q)))

pub returns-in_err-len : goal.returns-in_err-len
returns-in_err-len c =
    let q = c.args.q in
    let k = c.loop-c.c-index in
    let l : length q.common ≡ most_commons = search (rules, length_mapped) in
    let long : q.commons ≤ length q.common = omega (arith, c.requires.commons) in
    let h = common_here q k long c.loop-c-test.true in
    let x = get_or (commons_in q) k no_common in
    let judged : part_writing (times_seen c.loop-c.seen.0 x.header) 0 (raw_part x []) ≡ c.head_refusal.result =
    rw (← c.times.ensures) (sym c.head_refusal.ensures) in
    let refused = sym c.placed.ensures ∙ c.in_err-len.was in
    passed_on c.from_residual.result c.in_err-len.field-0.0 c.from_residual.ensures.1
    ∙ sym (c.loop-c.invariant.2
    ∙ rw (part_next q k h.0 long c.loop-c.first x h.1)
    (head_placed c.loop-c.seen.0 c.loop-c.at x _ _ _ judged _ refused))

pub overflow_add-at : goal.overflow_add-at
overflow_add-at c =
    let q = c.args.q in
    let k = c.loop-c.c-index in
    let l : length q.common ≡ most_commons = search (rules, length_mapped) in
    let long : q.commons ≤ length q.common = omega (arith, c.requires.commons) in
    let h = common_here q k long c.loop-c-test.true in
    let x = get_or (commons_in q) k no_common in
    let judged : part_writing (times_seen c.loop-c.seen.0 x.header) 0 (raw_part x []) ≡ c.head_refusal.result =
    rw (← c.times.ensures) (sym c.head_refusal.ensures) in
    let took = placed_ok c.loop-c.at c.head_refusal.result c.in_ok-len.len (sym c.placed.ensures ∙ c.in_ok-len.was) in
    let written : part_writing (times_seen c.loop-c.seen.0 x.header) 0 (raw_part x []) ≡ Accepted c.in_ok-len.len =
    judged ∙ took in
    let passed = part_head_passed _ x _ written in
    let few = head_long x.header in
    omega (arith, passed.1, few.1, h.0, c.loop-c.invariant.0)

pub loop-c-preserved-then-c : goal.loop-c-preserved-then-c
loop-c-preserved-then-c c =
    let q = c.args.q in
    let k = c.loop-c.c-index in
    let l : length q.common ≡ most_commons = search (rules, length_mapped) in
    let long : q.commons ≤ length q.common = omega (arith, c.requires.commons) in
    let h = common_here q k long c.loop-c-test.true in
    let x = get_or (commons_in q) k no_common in
    let judged : part_writing (times_seen c.loop-c.seen.0 x.header) 0 (raw_part x []) ≡ c.head_refusal.result =
    rw (← c.times.ensures) (sym c.head_refusal.ensures) in
    let took = placed_ok c.loop-c.at c.head_refusal.result c.in_ok-len.len (sym c.placed.ensures ∙ c.in_ok-len.was) in
    let written : part_writing (times_seen c.loop-c.seen.0 x.header) 0 (raw_part x []) ≡ Accepted c.in_ok-len.len =
    judged ∙ took in
    let passed = part_head_passed _ x _ written in
    let few = head_long x.header in
    let none : times_seen c.loop-c.seen.0 x.header < 255 = omega (arith, (part_head_passed _ x _ written).0) in
    let here = plain_turn q k h.0 long c.loop-c.first x h.1 c.loop-c.invariant.1 c.if-c.true in (
      omega (arith, passed.1, few.1, c.loop-c.invariant.0),
      here.sum,
      c.loop-c.invariant.2
          ∙ rw (here.parts, c.count.ensures none) (plain_accepted c.loop-c.seen.0 c.loop-c.at x _ _ _ written _ refl c.if-c.true),
    )

pub data_refusal-requires : goal.data_refusal-requires
data_refusal-requires c =
    let q = c.args.q in
    let k = c.loop-c.c-index in
    let l : length q.common ≡ most_commons = search (rules, length_mapped) in
    let long : q.commons ≤ length q.common = omega (arith, c.requires.commons) in
    let h = common_here q k long c.loop-c-test.true in
    let x = get_or (commons_in q) k no_common in
    let here = data_turn q k h.0 long c.loop-c.first x h.1 c.requires c.loop-c.invariant.1 c.if-c.false in
    (here.within, omega (arith, h.0, c.loop-c.invariant.0))

pub returns-in_err-at : goal.returns-in_err-at
returns-in_err-at c =
    let q = c.args.q in
    let k = c.loop-c.c-index in
    let l : length q.common ≡ most_commons = search (rules, length_mapped) in
    let long : q.commons ≤ length q.common = omega (arith, c.requires.commons) in
    let h = common_here q k long c.loop-c-test.true in
    let x = get_or (commons_in q) k no_common in
    let judged : part_writing (times_seen c.loop-c.seen.0 x.header) 0 (raw_part x []) ≡ c.head_refusal.result =
    rw (← c.times.ensures) (sym c.head_refusal.ensures) in
    let took = placed_ok c.loop-c.at c.head_refusal.result c.in_ok-len.len (sym c.placed.ensures ∙ c.in_ok-len.was) in
    let written : part_writing (times_seen c.loop-c.seen.0 x.header) 0 (raw_part x []) ≡ Accepted c.in_ok-len.len =
    judged ∙ took in
    let here = data_turn q k h.0 long c.loop-c.first x h.1 c.requires c.loop-c.invariant.1 c.if-c.false in
    let refused = sym c.data_refusal.ensures ∙ c.in_err-at.was in
    passed_on c.from_residual-in_err-at.result c.in_err-at.field-0.0 c.from_residual-in_err-at.ensures.1
    ∙ sym (c.loop-c.invariant.2
    ∙ rw here.parts (data_refused c.loop-c.seen.0 c.loop-c.at x _ _ _ written _ refl _ _ c.if-c.false refused))

pub loop-c-preserved : goal.loop-c-preserved
loop-c-preserved c =
    let q = c.args.q in
    let k = c.loop-c.c-index in
    let l : length q.common ≡ most_commons = search (rules, length_mapped) in
    let long : q.commons ≤ length q.common = omega (arith, c.requires.commons) in
    let h = common_here q k long c.loop-c-test.true in
    let x = get_or (commons_in q) k no_common in
    let judged : part_writing (times_seen c.loop-c.seen.0 x.header) 0 (raw_part x []) ≡ c.head_refusal.result =
    rw (← c.times.ensures) (sym c.head_refusal.ensures) in
    let took = placed_ok c.loop-c.at c.head_refusal.result c.in_ok-len.len (sym c.placed.ensures ∙ c.in_ok-len.was) in
    let written : part_writing (times_seen c.loop-c.seen.0 x.header) 0 (raw_part x []) ≡ Accepted c.in_ok-len.len =
    judged ∙ took in
    let none : times_seen c.loop-c.seen.0 x.header < 255 = omega (arith, (part_head_passed _ x _ written).0) in
    let here = data_turn q k h.0 long c.loop-c.first x h.1 c.requires c.loop-c.invariant.1 c.if-c.false in
    let e = sym c.data_refusal.ensures ∙ c.in_ok-at.was in (
      omega (arith, data_passed _ _ _ e, c.loop-c.invariant.0),
      here.sum,
      c.loop-c.invariant.2
          ∙ rw (here.parts, c.count.ensures none) (data_accepted c.loop-c.seen.0 c.loop-c.at x _ _ _ written _ refl _ c.if-c.false e),
    )

pub returns : goal.returns
returns c =
    let q = c.args.q in
    let k = c.loop-c.c-index in
    let l : length q.common ≡ most_commons = search (rules, length_mapped) in
    let long : q.commons ≤ length q.common = omega (arith, c.requires.commons) in
    let over = common_over q k long c.loop-c-test.false in
    c.ended.ensures
    ∙ rw (c.times-2.ensures, c.times-3.ensures) (sym (c.loop-c.invariant.2 ∙ rw (parts_end q k over c.loop-c.first) (parts_over c.loop-c.seen.0 c.loop-c.at)))
