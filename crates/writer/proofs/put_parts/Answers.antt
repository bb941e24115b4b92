use Prim.Native.Nat.{ℕ, ◌+◌, ◌≤◌}
use native.Mathlib.Omega.{arith}
use mathlib.Core.Path.{◌≡◌, sym, ap, ◌∙◌}
use mathlib.Core.List.{List, [], ◌∷◌, ◌++◌}
use borrow.Author.Rules.{rules}
use borrow.Author.Tests.{le-leb}
use lib.ListN.{length, get_or}
use Rattle.annex.specs.Heads.{end_mark, transfer_data, most_commons}
use Rattle.annex.specs.Items.{Item, Part}
use Rattle.annex.specs.Layout.{layout_part, layout}
use Rattle.annex.specs.Memory.{put, low_octets}
use Rattle.annex.specs.Records.{no_common, commons_in, value_head, raw_part, view}
use Rattle.annex.specs.declared.Common.{Common}
use Rattle.limits.specs.Along.{part_from, items_at, parts_at, parts_start, parts_end, common_here, common_over, plain_turn, data_turn, length_mapped}
use Rattle.refusing.specs.Laying.{data_laid, head_laid, plain_laid, data_laid_lem}
use Rattle.laws.specs.Rooms.{laid_start, laid_length, laid_fits, laid_room, laid_put, laid_turn, laid_last}
use Rattle.writer.proofs.put_parts.Goals as goal

-- the layout of a common parameter that is no C5, and of a C5, before those behind it
module _ (x : Common) where
  plain_left : (rest : List Part) → (x.header ≡ transfer_data → ⊥) → layout (part_from x [] ∷ rest) ≡ layout_part (raw_part x []) ++ layout rest
  unfolding layout
  plain_left rest u = ap (λ (l : List ℕ). l ++ layout rest) (plain_laid x [] u)

  data_left : (is : List Item) (rest : List Part) → x.header ≡ transfer_data → layout (part_from x is ∷ rest) ≡ data_laid is ++ layout rest
  unfolding layout
  data_left is rest e = ap (λ (l : List ℕ). l ++ layout rest) (data_laid_lem x is e)

pub loop-c-init : goal.loop-c-init
loop-c-init c =
    let a = c.args in
    let whole = layout (view a.q) in
    (omega arith, rw (← parts_start a.q) (laid_start a.room.now whole))

pub overflow_add-at : goal.overflow_add-at
overflow_add-at c =
    let q = c.args.q in
    let k = c.loop-c.c-index in
    let l : length q.common ≡ most_commons = search (rules, length_mapped) in
    let long : q.commons ≤ length q.common = omega (arith, c.requires.0.commons) in
    let h = common_here q k long c.loop-c-test.true in
    let x = get_or (commons_in q) k no_common in
    let here = plain_turn q k h.0 long c.loop-c.first x h.1 c.loop-c.invariant.0 c.if-c.true in
    let head = layout_part (raw_part x []) in
    let left = ap layout here.parts ∙ plain_left x (parts_at q (k + 1) c.loop-c.first) c.if-c.true in
    let fits = laid_fits c.loop-c.invariant.1 c.requires.1 head _ left in
    let long-is : c.head_len-at.result ≡ length head = c.head_len-at.ensures ∙ head_laid (value_head _ 0) ∙ sym (head_laid x) in
    omega (arith, long-is, fits, laid_length c.loop-c.invariant.1 c.requires.1, c.well_formed)

pub loop-c-preserved-then-c : goal.loop-c-preserved-then-c
loop-c-preserved-then-c c =
    let q = c.args.q in
    let k = c.loop-c.c-index in
    let l : length q.common ≡ most_commons = search (rules, length_mapped) in
    let long : q.commons ≤ length q.common = omega (arith, c.requires.0.commons) in
    let h = common_here q k long c.loop-c-test.true in
    let x = get_or (commons_in q) k no_common in
    let here = plain_turn q k h.0 long c.loop-c.first x h.1 c.loop-c.invariant.0 c.if-c.true in
    let head = layout_part (raw_part x []) in
    let left = ap layout here.parts ∙ plain_left x (parts_at q (k + 1) c.loop-c.first) c.if-c.true in
    let fits = laid_fits c.loop-c.invariant.1 c.requires.1 head _ left in
    let long-is : c.head_len-at.result ≡ length head = c.head_len-at.ensures ∙ head_laid (value_head _ 0) ∙ sym (head_laid x) in
    let head-put : (let l = c.loop-c in
    c.lay_head.new.room ≡ put l.room l.at (low_octets head)) =
    c.lay_head.ensures.1 ∙ rw (c.lay_head.ensures.0 ∙ le-leb _ _ fits) in
    (here.sum, rw head-put (laid_put c.loop-c.invariant.1 c.requires.1 head _ left c.head_len-at.result long-is))

pub put_data-at-requires : goal.put_data-at-requires
put_data-at-requires c =
    let q = c.args.q in
    let k = c.loop-c.c-index in
    let l : length q.common ≡ most_commons = search (rules, length_mapped) in
    let long : q.commons ≤ length q.common = omega (arith, c.requires.0.commons) in
    let h = common_here q k long c.loop-c-test.true in
    let x = get_or (commons_in q) k no_common in
    let here = data_turn q k h.0 long c.loop-c.first x h.1 c.requires.0 c.loop-c.invariant.0 c.if-c.false in
    let is = items_at q c.loop-c.first x.transfers in
    let left = ap layout here.parts ∙ data_left x is (parts_at q (k + 1) (c.loop-c.first + x.transfers)) c.if-c.false in
    (here.within, laid_room c.loop-c.invariant.1 c.requires.1 (data_laid _) _ left)

pub overflow_add-at-in-loop-c : goal.overflow_add-at-in-loop-c
overflow_add-at-in-loop-c c =
    let q = c.args.q in
    let k = c.loop-c.c-index in
    let l : length q.common ≡ most_commons = search (rules, length_mapped) in
    let long : q.commons ≤ length q.common = omega (arith, c.requires.0.commons) in
    let h = common_here q k long c.loop-c-test.true in
    let x = get_or (commons_in q) k no_common in
    let here = data_turn q k h.0 long c.loop-c.first x h.1 c.requires.0 c.loop-c.invariant.0 c.if-c.false in
    let is = items_at q c.loop-c.first x.transfers in
    let left = ap layout here.parts ∙ data_left x is (parts_at q (k + 1) (c.loop-c.first + x.transfers)) c.if-c.false in
    omega (
      arith,
      c.put_data-at.ensures.0,
      laid_fits c.loop-c.invariant.1 c.requires.1 (data_laid _) _ left,
      laid_length c.loop-c.invariant.1 c.requires.1,
      c.well_formed,
    )

pub loop-c-preserved : goal.loop-c-preserved
loop-c-preserved c =
    let q = c.args.q in
    let k = c.loop-c.c-index in
    let l : length q.common ≡ most_commons = search (rules, length_mapped) in
    let long : q.commons ≤ length q.common = omega (arith, c.requires.0.commons) in
    let h = common_here q k long c.loop-c-test.true in
    let x = get_or (commons_in q) k no_common in
    let here = data_turn q k h.0 long c.loop-c.first x h.1 c.requires.0 c.loop-c.invariant.0 c.if-c.false in
    let is = items_at q c.loop-c.first x.transfers in
    let left = ap layout here.parts ∙ data_left x is (parts_at q (k + 1) (c.loop-c.first + x.transfers)) c.if-c.false in (
      here.sum,
      laid_turn c.loop-c.invariant.1 c.requires.1 (data_laid _) _ left c.put_data-at.new.room c.put_data-at.result
          c.put_data-at.ensures.1 c.put_data-at.ensures.0,
    )

pub bounds-room-at : goal.bounds-room-at
unfolding layout
bounds-room-at c =
    let q = c.args.q in
    let k = c.loop-c.c-index in
    let l : length q.common ≡ most_commons = search (rules, length_mapped) in
    let over = common_over q k (omega (arith, c.requires.0.commons)) c.loop-c-test.false in
    let left : layout (parts_at q k c.loop-c.first) ≡ end_mark ∷ [] = ap layout (parts_end q k over c.loop-c.first) in
    omega (arith, laid_fits c.loop-c.invariant.1 c.requires.1 (end_mark ∷ []) [] left)

pub returns : goal.returns
unfolding layout
returns c =
    let q = c.args.q in
    let k = c.loop-c.c-index in
    let l : length q.common ≡ most_commons = search (rules, length_mapped) in
    let over = common_over q k (omega (arith, c.requires.0.commons)) c.loop-c-test.false in
    let left : layout (parts_at q k c.loop-c.first) ≡ end_mark ∷ [] = ap layout (parts_end q k over c.loop-c.first) in
    laid_last c.loop-c.invariant.1 c.requires.1 end_mark left
