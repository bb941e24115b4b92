use Prim.Native.Nat.{ℕ, suc, ◌≤◌, ◌<◌, ◌+◌, ◌-◌}
use native.Mathlib.Omega.{arith}
use mathlib.Core.Path.{◌≡◌, sym, ap, ◌∙◌}
use mathlib.Core.Bool.{not, ◌||◌}
use mathlib.Core.List.{List}
use Rattle.std.proofs.Common.{Option, Some, None}
use borrow.Author.Rules.{rules}
use borrow.Author.Tests.{eq-eqb, le-ltb}
use lib.Dec.{eqb, ltb}
use lib.ListN.{length, take, drop, length-drop}
use Rattle.annex.specs.Heads.{most_commons, most_transfers, most_transfer_octets}
use Rattle.annex.specs.Image.{common_front, parts_front, octets_to_a_common_head}
use Rattle.annex.specs.declared.Common.{Common}
use Rattle.laws.specs.Parts.{to_end}
use Rattle.image_writer.specs.declared.Sum.{Sum}
use Rattle.image_writer.specs.Over.{Summed, over_by, over_from, over_start, over_short, over_stop, over_turn, over_end}
use Rattle.image_writer.proofs.is_over.Goals as goal

-- the octets from i on, as a slice's function was handed them
abbrev on : ℕ → List ℕ → List ℕ
on i s = take (length s - i) (drop i s)

head_here : (i : ℕ) (s : List ℕ) (h : Common) → h ≡ common_front (on i s) → h ≡ common_front (drop i s)
head_here i s h e = e ∙ ap common_front (to_end i s)

-- there is a head
room_here : (i : ℕ) (s : List ℕ) → octets_to_a_common_head ≤ length s - i → octets_to_a_common_head ≤ length (drop i s)
room_here i s h = omega (arith, length-drop i s)

-- and the transfer parameters behind it
summed : (i : ℕ) (s : List ℕ) (k : ℕ) (x : Option Sum) → Summed k (on (i + octets_to_a_common_head) s) x
    → Summed k (drop (i + octets_to_a_common_head) s) x
summed i s k x h = rw (to_end (i + octets_to_a_common_head) s) at h

-- the parameter ends within the octets
ends : (i : ℕ) (s : List ℕ) (k : ℕ) (x : Sum) → Summed k (on (i + octets_to_a_common_head) s) (Some x)
    → octets_to_a_common_head ≤ length s - i → i + octets_to_a_common_head + x.octets ≤ length s
ends i s k x h e = omega (arith, (summed i s k (Some x) h).within, length-drop (i + octets_to_a_common_head) s)

-- what they come to is little
few : (s : List ℕ) (k : ℕ) (x : Sum) → Summed k s (Some x) → k ≤ 255 → (x.transfers ≤ 255) × (x.contents ≤ 16712190)
few s k x h e = (omega (arith, h.few), omega (arith, h.small))

-- the definition at a turn
becomes : (n k transfers contents i : ℕ) (s : List ℕ) → k < n
    → over_by (length s) (parts_front n s) ≡ over_from (length s) k transfers contents i (parts_front (n - k) (drop i s))
    → over_by (length s) (parts_front n s) ≡ over_from (length s) k transfers contents i (parts_front (suc (n - (k + 1))) (drop i s))
becomes n k transfers contents i s some told =
    let e : n - k ≡ suc (n - (k + 1)) = omega arith in
    told ∙ ap (λ (m : ℕ). over_from (length s) k transfers contents i (parts_front m (drop i s))) e

-- none is left
ended : (n k transfers contents i : ℕ) (s : List ℕ) → k ≡ n
    → over_by (length s) (parts_front n s) ≡ over_from (length s) k transfers contents i (parts_front (n - k) (drop i s))
    → over_by (length s) (parts_front n s)
    ≡ not (eqb i (length s)) || (ltb most_commons n || (ltb most_transfers transfers || ltb most_transfer_octets contents))
ended n k transfers contents i s all told =
    let z : n - k ≡ 0 = omega arith in
    told ∙ rw (z, all) (over_end (length s) n transfers contents i (drop i s))

pub loop-init : goal.loop-init
loop-init c =
    let a = c.args in
    let n : a.count - 0 ≡ a.count = omega arith in
    rw n (omega arith, omega arith, omega arith, over_start (length a.s.now) (parts_front a.count a.s.now))

pub returns-then-s-i-lt-COMMON_HEAD : goal.returns-then-s-i-lt-COMMON_HEAD
returns-then-s-i-lt-COMMON_HEAD c =
    let v = c.loop in
    let s = c.args.s.now in
    sym
    (becomes c.args.count v.counter v.transfers v.contents v.i s c.loop-test.true v.invariant.3
    ∙ over_short _ v.counter v.transfers v.contents v.i (c.args.count - (v.counter + 1)) s
    (omega (arith, length-drop v.i s, c.if-s-i-lt-COMMON_HEAD.true)))

pub returns-in_default : goal.returns-in_default
returns-in_default c =
    let v = c.loop in
    let s = c.args.s.now in
    let h = c.common_head-c.result in
    sym
    (becomes c.args.count v.counter v.transfers v.contents v.i s c.loop-test.true v.invariant.3
    ∙ over_stop _ v.counter v.transfers v.contents v.i (c.args.count - (v.counter + 1)) s h (head_here v.i s h c.common_head-c.ensures)
    (room_here v.i s c.if-s-i-lt-COMMON_HEAD.false) (summed v.i s h.transfers None c.in_default.ensures))

pub loop-preserved : goal.loop-preserved
loop-preserved c =
    let v = c.loop in
    let s = c.args.s.now in
    let n = c.args.count in
    let h = c.common_head-c.result in
    let x = c.in-Some.sum in
    let little : h.transfers ≤ 255 = omega arith in (
      ends v.i s h.transfers x c.in-Some.ensures c.if-s-i-lt-COMMON_HEAD.false,
      omega (arith, (few _ _ _ c.in-Some.ensures little).0, v.invariant.1),
      omega (arith, (few _ _ _ c.in-Some.ensures little).1, v.invariant.2),
      becomes n v.counter v.transfers v.contents v.i s c.loop-test.true v.invariant.3
          ∙ over_turn _ v.counter v.transfers v.contents v.i (n - (v.counter + 1)) s h (head_here v.i s h c.common_head-c.ensures)
          (room_here v.i s c.if-s-i-lt-COMMON_HEAD.false) x (summed v.i s h.transfers (Some x) c.in-Some.ensures).told,
    )

pub returns-then-transfers-gt-MOST : goal.returns-then-transfers-gt-MOST
returns-then-transfers-gt-MOST c =
    let v = c.loop in
    let all : v.counter ≡ c.args.count = omega arith in
    let e = ended c.args.count v.counter v.transfers v.contents v.i c.args.s.now all v.invariant.3 in
    rw e (search rules)

pub returns-else-transfers-gt-MOST : goal.returns-else-transfers-gt-MOST
returns-else-transfers-gt-MOST c =
    let v = c.loop in
    let all : v.counter ≡ c.args.count = omega arith in
    let e = ended c.args.count v.counter v.transfers v.contents v.i c.args.s.now all v.invariant.3 in
    let u = c.if-transfers-gt-MOST.false in
    sym (e ∙ rw (eq-eqb _ _ u.0, le-ltb _ _ u.1, le-ltb _ _ u.2))
