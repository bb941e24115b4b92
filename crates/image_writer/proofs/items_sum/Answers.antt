use Prim.Native.Nat.{ℕ, suc, ◌≤◌, ◌<◌, ◌+◌, ◌-◌}
use native.Mathlib.Omega.{arith}
use mathlib.Core.Path.{◌≡◌, sym, ap, ◌∙◌}
use mathlib.Core.Bool.{Bool, true, false}
use mathlib.Core.List.{List}
use borrow.Author.Tests.{leb-true}
use lib.Dec.{leb}
use lib.ListN.{length, get_or, take, drop, length-take, length-drop}
use lib.Seq.{get_or-drop}
use Rattle.annex.specs.Items.{contents_of}
use Rattle.annex.specs.Records.{raw_item, item_from}
use Rattle.annex.specs.Image.{head_front, item_size, items_front, octets_to_a_transfer_head}
use Rattle.annex.specs.declared.Transfer.{Transfer}
use Rattle.laws.specs.Laid.{own_values}
use Rattle.laws.specs.Parts.{to_end}
use Rattle.limits.specs.Limits.{contents_most}
use Rattle.image_writer.specs.Over.{summed_from, sum_cut, sum_turn, sum_end}
use Rattle.image_writer.proofs.items_sum.Goals as goal

-- the octets from i on, as `is_whole` and `transfer_head` were handed them
abbrev on : ℕ → List ℕ → List ℕ
on i s = take (length s - i) (drop i s)

whole_here : (i : ℕ) (s : List ℕ) (w b : Bool) → w ≡ leb (item_size (on i s)) (length (on i s)) → w ≡ b
    → leb (item_size (drop i s)) (length (drop i s)) ≡ b
whole_here i s w b e f = sym (e ∙ ap (λ (d : List ℕ). leb (item_size d) (length d)) (to_end i s)) ∙ f

head_here : (i : ℕ) (s : List ℕ) (t : Transfer) → t ≡ head_front (on i s) → t ≡ head_front (drop i s)
head_here i s t e = e ∙ ap head_front (to_end i s)

-- a parameter that is whole ends within the octets
ends : (i : ℕ) (s : List ℕ) → leb (item_size (drop i s)) (length (drop i s)) ≡ true
    → i + octets_to_a_transfer_head + (head_front (drop i s)).len ≤ length s
ends i s w = omega (arith, leb-true (item_size (drop i s)) (length (drop i s)) w, length-drop i s)

ends_here : (i : ℕ) (s : List ℕ) (w : Bool) (t : Transfer) → w ≡ leb (item_size (on i s)) (length (on i s)) → w ≡ true
    → t ≡ head_front (on i s) → i + octets_to_a_transfer_head + t.len ≤ length s
ends_here i s w t e f h =
    let l : t.len ≡ (head_front (drop i s)).len = ap (λ (t : Transfer). t.len) (head_here i s t h) in
    omega (arith, l, ends i s (whole_here i s w true e f))

-- the octets of its contents are few
few : (i : ℕ) (s : List ℕ) (t : Transfer) (vs : List ℕ) (n : ℕ) → t ≡ head_front (on i s) → ((k : ℕ) → get_or s k 0 < 256)
    → length vs ≤ t.len → n ≡ length (contents_of (item_from t vs)) → n ≤ 65538
few i s t vs n h g l e =
    let len_is : t.len ≡ (head_front (drop i s)).len = ap (λ (t : Transfer). t.len) (head_here i s t h) in
    let u : t.len < 65536 = omega (arith, len_is, get_or-drop i s 9 0, get_or-drop i s 10 0, g (i + 9), g (i + 10)) in
    omega (arith, e, contents_most (item_from t vs), ap (λ (l : List ℕ). length l) (own_values (raw_item t vs)), l)

-- the definition at a turn
becomes : (n k contents i : ℕ) (s : List ℕ) → k < n
    → summed_from 0 0 0 (items_front n s) ≡ summed_from k contents i (items_front (n - k) (drop i s))
    → summed_from 0 0 0 (items_front n s) ≡ summed_from k contents i (items_front (suc (n - (k + 1))) (drop i s))
becomes n k contents i s some told =
    let e : n - k ≡ suc (n - (k + 1)) = omega arith in
    told ∙ ap (λ (m : ℕ). summed_from k contents i (items_front m (drop i s))) e

pub overflow_add-contents : goal.overflow_add-contents
overflow_add-contents c =
    let i = c.loop.i in
    let s = c.args.s.now in
    let n = i + octets_to_a_transfer_head in
    let t = c.transfer_head-t.result in
    let vs = take (n + t.len - n) (drop n s) in
    omega (arith, few i s t vs _ c.transfer_head-t.ensures (λ k. omega (arith, c.type_inv.s k)) (omega (arith, length-take (n + t.len - n) (drop n s))) c.contents_len-contents.ensures)

pub loop-preserved : goal.loop-preserved
loop-preserved c =
    let v = c.loop in
    let i = v.i in
    let s = c.args.s.now in
    let k = c.args.count in
    let n = i + octets_to_a_transfer_head in
    let t = c.transfer_head-t.result in
    let vs = take (n + t.len - n) (drop n s) in
    let m : n + t.len - n ≡ t.len = omega arith in (
      omega (arith, ends_here i s _ _ c.is_whole.ensures c.if-not-is_whole.false c.transfer_head-t.ensures),
      omega (
        arith,
        few i s t vs _ c.transfer_head-t.ensures (λ k. omega (arith, c.type_inv.s k)) (omega (arith, length-take (n + t.len - n) (drop n s)))
            c.contents_len-contents.ensures,
        v.invariant.1,
      ),
      becomes k v.counter v.contents i s c.loop-test.true v.invariant.2
          ∙ sum_turn v.counter v.contents i (k - (v.counter + 1)) s (whole_here i s _ true c.is_whole.ensures c.if-not-is_whole.false) t
          (head_here i s t c.transfer_head-t.ensures) vs (ap (λ (x : ℕ). take x (drop n s)) m)
          ∙ rw (← c.contents_len-contents.ensures),
    )

pub returns-then-not-is_whole : goal.returns-then-not-is_whole
returns-then-not-is_whole c =
    let v = c.loop in
    let i = v.i in
    let s = c.args.s.now in
    sym
    (becomes c.args.count v.counter v.contents i s c.loop-test.true v.invariant.2
    ∙ sum_cut v.counter v.contents i (c.args.count - (v.counter + 1)) s (whole_here i s _ false c.is_whole.ensures c.if-not-is_whole.true))

pub returns : goal.returns
returns c =
    let v = c.loop in
    let n = c.args.count in
    let z : n - v.counter ≡ 0 = omega arith in
    let e : v.counter ≡ n = omega arith in
    record {
      told = sym (v.invariant.2 ∙ rw (z, e) (sum_end n v.contents v.i (drop v.i c.args.s.now)));
      few = omega arith;
      small = omega (arith, v.invariant.1);
      within = v.invariant.0;
    }
