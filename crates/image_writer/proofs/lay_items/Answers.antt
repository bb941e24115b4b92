use Prim.Native.Nat.{ℕ, suc, ◌≤◌, ◌<◌, ◌+◌, ◌-◌}
use native.Mathlib.Omega.{arith}
use mathlib.Core.Path.{◌≡◌, sym, ap, ◌∙◌}
use mathlib.Core.Bool.{Bool, true}
use mathlib.Core.List.{List}
use borrow.Author.Tests.{leb-true}
use lib.Dec.{leb}
use lib.ListN.{length, take, drop, length-drop}
use Rattle.annex.specs.Units.{name_of}
use Rattle.annex.specs.Items.{Item}
use Rattle.annex.specs.Layout.{layout_item}
use Rattle.annex.specs.Memory.{laid_at}
use Rattle.annex.specs.Records.{item_from}
use Rattle.annex.specs.Walk.{Seen, times_seen}
use Rattle.annex.specs.Image.{head_front, item_size, items_front, octets_to_a_transfer_head}
use Rattle.annex.specs.Answers.{Answer, Accepted}
use Rattle.annex.specs.declared.Transfer.{Transfer}
use Rattle.laws.specs.Often.{few_often}
use Rattle.laws.specs.Parts.{to_end}
use Rattle.laws.specs.Passed.{passed_on}
use Rattle.image_writer.specs.Served.{placed_ok, placed_err}
use Rattle.std.proofs.Common.{Err}
use Rattle.theorems.specs.Writings.{ItemWritten, item_written}
use Rattle.image_writer.specs.Drafts.{laid_length}
use Rattle.image_writer.specs.Walked.{ItemsServed, items_cut, item_refused, item_accepted, items_done}
use Rattle.image_writer.proofs.lay_items.Goals as goal

-- where some are left, one stands in front
one_left : (seen : Seen) (at i n k : ℕ) (s before : List ℕ) (b : Answer) (end : ℕ) (d : List ℕ) → k < n
    → ItemsServed seen at i before (items_front (suc (n - (k + 1))) (drop i s)) b end d
    → ItemsServed seen at i before (items_front (n - k) (drop i s)) b end d
one_left seen at i n k s before b end d m h =
    let e : n - k ≡ suc (n - (k + 1)) = omega arith in
    rw e h

-- the octets from index i on
module _ (s : List ℕ) (i : ℕ) where
  whole_of : (b x : Bool) → b ≡ leb (item_size (take (length s - i) (drop i s))) (length (take (length s - i) (drop i s))) → b ≡ x
      → leb (item_size (drop i s)) (length (drop i s)) ≡ x
  whole_of b x e f = sym (e ∙ ap (λ (d : List ℕ). leb (item_size d) (length d)) (to_end i s)) ∙ f

  head_of : (t : Transfer) → t ≡ head_front (take (length s - i) (drop i s)) → t ≡ head_front (drop i s)
  head_of t e = e ∙ ap head_front (to_end i s)

  ends_of : (t : Transfer) → t ≡ head_front (drop i s) → leb (item_size (drop i s)) (length (drop i s)) ≡ true
      → i + octets_to_a_transfer_head + t.len ≤ length s
  ends_of t e w =
      let l : t.len ≡ (head_front (drop i s)).len = ap (λ (u : Transfer). u.len) e in
      omega (arith, l, leb-true (item_size (drop i s)) (length (drop i s)) w, length-drop i s)

  values_of : (n : ℕ) → let k = i + octets_to_a_transfer_head in take (k + n - k) (drop k s) ≡ take n (drop k s)
  values_of n =
      let k = i + octets_to_a_transfer_head in
      let m : k + n - k ≡ n = omega arith in
      ap (λ (x : ℕ). take x (drop k s)) m

-- one more of an accepted one is counted in an octet
few_times : (times : ℕ) (x : Item) (n : ℕ) → ItemWritten times 0 x n → times + 1 < 256
few_times times x n w = omega (arith, w.fewer, few_often (name_of x.header))

pub returns-then-not-is_whole-clause-served : goal.returns-then-not-is_whole-clause-served
returns-then-not-is_whole-clause-served c =
    let s = c.args.s.now in
    let v = c.loop in
    let w = whole_of s v.i _ _ c.is_whole.ensures c.if-not-is_whole.true in
    v.invariant.3 _ _ v.draft v.invariant.2
    (one_left v.seen.0 v.at v.i c.args.count v.counter s _ _ _ v.draft c.loop-test.true
    (items_cut v.seen.0 v.at v.i (c.args.count - (v.counter + 1)) s _ v.draft w _ _ _))

pub returns-in_err-len-clause-served : goal.returns-in_err-len-clause-served
returns-in_err-len-clause-served c =
    let s = c.args.s.now in
    let v = c.loop in
    let t = c.transfer_head-t.result in
    let d = c.lay.new.room in
    let w = whole_of s v.i _ _ c.is_whole.ensures c.if-not-is_whole.false in
    let h = head_of s v.i t c.transfer_head-t.ensures in
    let e = placed_err v.at _ _ _ c.placed.ensures c.in_err-len.was in
    let kept : d ≡ v.draft = rw (sym c.lay.ensures.told ∙ e.1) at c.lay.ensures.put in
    let gone = passed_on c.from_residual.result c.in_err-len.field-0.0 c.from_residual.ensures.1 ∙ ap Err e.2 in
    rw gone
    (v.invariant.3 _ _ d (ap (λ (l : List ℕ). length l) kept ∙ v.invariant.2)
    (one_left v.seen.0 v.at v.i c.args.count v.counter s _ _ _ d c.loop-test.true
    (item_refused v.seen.0 v.at v.i (c.args.count - (v.counter + 1)) s _ d w t h _ (values_of s v.i t.len) _ (rw c.times.ensures at (sym c.lay.ensures.told)) _ _ _ e.1)))

pub overflow_add-at : goal.overflow_add-at
overflow_add-at c =
    let e = placed_ok c.loop.at _ _ _ c.placed.ensures c.in_ok-len.was in
    let taken = item_written _ _ _ _ (rw c.times.ensures at (sym c.lay.ensures.told) ∙ e) in
    omega (arith, taken.behind, taken.short, c.loop.invariant.1, c.requires)

pub loop-preserved : goal.loop-preserved
loop-preserved c =
    let s = c.args.s.now in
    let g = c.args in
    let v = c.loop in
    let t = c.transfer_head-t.result in
    let n = c.in_ok-len.len in
    let e = placed_ok v.at _ _ _ c.placed.ensures c.in_ok-len.was in
    let w = whole_of s v.i _ _ c.is_whole.ensures c.if-not-is_whole.false in
    let h = head_of s v.i t c.transfer_head-t.ensures in
    let told = rw c.times.ensures at (sym c.lay.ensures.told) in
    let taken = item_written _ _ _ _ (told ∙ e) in
    let small : times_seen v.seen.0 t.header < 255 = omega (arith, few_times _ _ _ taken) in
    let vs = take (v.i + octets_to_a_transfer_head + t.len - (v.i + octets_to_a_transfer_head)) (drop (v.i + octets_to_a_transfer_head) s) in
    let xs = layout_item (item_from t vs) in
    let d : c.lay.new.room ≡ laid_at (Accepted n) xs v.at v.draft = rw (sym c.lay.ensures.told ∙ e) at c.lay.ensures.put in
    let same : length c.lay.new.room ≡ length g.draft.now =
    ap (λ (y : List ℕ). length y) d ∙ laid_length v.draft v.at xs n ∙ v.invariant.2 in (
      ends_of s v.i t h w,
      omega (arith, taken.behind, taken.short, v.invariant.1),
      same,
      λ b end y m k.
          let later = rw (c.count.ensures small) at k in
          v.invariant.3 b end y m
          (one_left v.seen.0 v.at v.i g.count v.counter s _ b end y c.loop-test.true
          (item_accepted v.seen.0 v.at v.i (g.count - (v.counter + 1)) s end y w t h _ (values_of s v.i t.len) _ told n e v.draft (m ∙ sym v.invariant.2) b
          (rw (← d) later))),
    )

pub returns-clause-served : goal.returns-clause-served
returns-clause-served c =
    let v = c.loop in
    let z : c.args.count - v.counter ≡ 0 = omega arith in
    v.invariant.3 _ _ v.draft v.invariant.2 (rw z (items_done v.seen.0 v.at v.i (drop v.i c.args.s.now) v.draft))
