use Prim.Native.Nat.{ℕ, suc, ◌≤◌, ◌<◌, ◌+◌, ◌-◌}
use native.Mathlib.Omega.{arith}
use mathlib.Core.Path.{◌≡◌, sym, ap, subst, ◌∙◌}
use mathlib.Core.List.{List, []}
use borrow.Author.Rules.{rules}
use lib.ListN.{length, take, drop, length-drop}
use Rattle.annex.specs.Layout.{layout_part}
use Rattle.annex.specs.Memory.{laid_at}
use Rattle.annex.specs.Records.{raw_part}
use Rattle.annex.specs.Walk.{unseen, times_seen}
use Rattle.annex.specs.Writing.{part_writing}
use Rattle.annex.specs.Image.{items_front, parts_front, common_front, octets_to_a_common_head}
use Rattle.annex.specs.Answers.{Answer, Accepted}
use Rattle.laws.specs.Parts.{to_end}
use Rattle.laws.specs.Passed.{passed_on}
use Rattle.image_writer.specs.Served.{placed_ok, placed_err}
use Rattle.std.proofs.Common.{Err}
use Rattle.refusing.specs.Laying.{head_long}
use Rattle.refusing.specs.Refusing.{part_head_passed}
use Rattle.image_writer.specs.Drafts.{laid_length, keeps_laid}
use Rattle.image_writer.specs.Walked.{
  PartsServed,
  parts_unfinished,
  DataServed,
  parts_cut,
  part_refused,
  plain_turn,
  data_stop,
  data_turn,
  data_most,
  parts_done,
}
use Rattle.image_writer.proofs.lay_parts.Goals.{then-c+in_ok-step, else-c}
use Rattle.image_writer.proofs.lay_parts.Goals as goal

-- one more is left
one_more : (n k : ℕ) → k < n → n - k ≡ suc (n - (k + 1))
one_more n k h = omega arith

pub returns-then-s-i-lt-COMMON_HEAD : goal.returns-then-s-i-lt-COMMON_HEAD
returns-then-s-i-lt-COMMON_HEAD c =
    let v = c.loop in
    let s = c.args.s.now in
    let e = one_more c.args.count v.counter c.loop-test.true in
    let short : length (drop v.i s) < octets_to_a_common_head = rw (length-drop v.i s) c.if-s-i-lt-COMMON_HEAD.true in
    v.invariant.3 _ _ v.draft v.invariant.2
    (rw e (parts_cut v.seen.0 v.at v.i (c.args.count - (v.counter + 1)) s 0 v.draft short (take v.at v.draft) _ _))

pub returns-in_err-len : goal.returns-in_err-len
returns-in_err-len c =
    let v = c.loop in
    let s = c.args.s.now in
    let h = c.common_head-c.result in
    let left = one_more c.args.count v.counter c.loop-test.true in
    let there : octets_to_a_common_head ≤ length (drop v.i s) = rw (length-drop v.i s) c.if-s-i-lt-COMMON_HEAD.false in
    let head : h ≡ common_front (drop v.i s) = c.common_head-c.ensures ∙ ap common_front (to_end v.i s) in
    let judged : part_writing (times_seen v.seen.0 h.header) 0 (raw_part h []) ≡ c.head_refusal.result = rw c.times.ensures at (sym c.head_refusal.ensures) in
    let e = placed_err v.at _ _ _ c.placed.ensures c.in_err-len.was in
    let gone = passed_on c.from_residual.result c.in_err-len.field-0.0 c.from_residual.ensures.1 ∙ ap Err e.2 in
    rw gone
    (v.invariant.3 _ _ v.draft v.invariant.2
    (rw left (part_refused v.seen.0 v.at v.i (c.args.count - (v.counter + 1)) s 0 v.draft h head there _ judged _ _ _ e.1)))

pub overflow_add-at : goal.overflow_add-at
overflow_add-at c =
    let v = c.loop in
    let h = c.common_head-c.result in
    let judged : part_writing (times_seen v.seen.0 h.header) 0 (raw_part h []) ≡ c.head_refusal.result = rw c.times.ensures at (sym c.head_refusal.ensures) in
    let taken = part_head_passed _ h _ (judged ∙ placed_ok v.at _ _ _ c.placed.ensures c.in_ok-len.was) in
    omega (arith, taken.1, head_long h.header, v.invariant.1, c.requires)

pub returns-in_err-step : goal.returns-in_err-step
returns-in_err-step c =
    let v = c.loop in
    let s = c.args.s.now in
    let h = c.common_head-c.result in
    let d = c.lay_data.new.draft in
    let r = c.in_err-step.field-0.0 in
    let left = one_more c.args.count v.counter c.loop-test.true in
    let there : octets_to_a_common_head ≤ length (drop v.i s) = rw (length-drop v.i s) c.if-s-i-lt-COMMON_HEAD.false in
    let head : h ≡ common_front (drop v.i s) = c.common_head-c.ensures ∙ ap common_front (to_end v.i s) in
    let judged : part_writing (times_seen v.seen.0 h.header) 0 (raw_part h []) ≡ c.head_refusal.result = rw c.times.ensures at (sym c.head_refusal.ensures) in
    let taken = placed_ok v.at _ _ _ c.placed.ensures c.in_ok-len.was in
    let long : length d ≡ length v.draft = search rules in
    let gave = rw (to_end (v.i + octets_to_a_common_head) s) at c.in_err-step.ensures.served in
    rw (passed_on c.from_residual-in_err-step.result r c.from_residual-in_err-step.ensures.1)
    (v.invariant.3 _ _ d (long ∙ v.invariant.2)
    (rw left (data_stop v.seen.0 v.at v.i (c.args.count - (v.counter + 1)) s _ d h head there _ judged _ taken c.if-c.true v.draft 0 d r.0 r.1 gave)))

pub loop-preserved : goal.loop-preserved
loop-preserved c =
    let v = c.loop in
    let s = c.args.s.now in
    let h = c.common_head-c.result in
    let n = c.in_ok-len.len in
    let left = one_more c.args.count v.counter c.loop-test.true in
    let there : octets_to_a_common_head ≤ length (drop v.i s) = rw (length-drop v.i s) c.if-s-i-lt-COMMON_HEAD.false in
    let head : h ≡ common_front (drop v.i s) = c.common_head-c.ensures ∙ ap common_front (to_end v.i s) in
    let judged : part_writing (times_seen v.seen.0 h.header) 0 (raw_part h []) ≡ c.head_refusal.result = rw c.times.ensures at (sym c.head_refusal.ensures) in
    let accepted = placed_ok v.at _ _ _ c.placed.ensures c.in_ok-len.was in
    let small : times_seen v.seen.0 h.header < 255 = omega (arith, (part_head_passed _ h _ (judged ∙ accepted)).0) in
    elim c.if-c.branch [
      | then-c+in_ok-step w ↦
          let x = w.in_ok-step.step in
          let d = w.lay_data.new.draft in
          let long : length d ≡ length v.draft = search rules in
          let same : length d ≡ length c.args.draft.now = long ∙ v.invariant.2 in
          let items = items_front h.transfers (drop (v.i + octets_to_a_common_head) s) in
          let gave : DataServed v.at (take v.at v.draft) items (Accepted x.behind) x.octets d =
          rw (to_end (v.i + octets_to_a_common_head) s) at w.in_ok-step.ensures.served in
          let most : x.behind ≤ v.at + 257 = data_most v.at (take v.at v.draft) items x.behind x.octets d gave in
          let ends : v.i + octets_to_a_common_head + x.octets ≤ length s =
          omega (
            arith,
            rw (to_end (v.i + octets_to_a_common_head) s) at w.in_ok-step.ensures.within,
            length-drop (v.i + octets_to_a_common_head) s,
            c.if-s-i-lt-COMMON_HEAD.false,
          ) in
          rw (w.at-is, w.i-is, w.draft-is) (
            ends,
            omega (arith, most, v.invariant.1),
            same,
            λ b end z m u.
                v.invariant.3 b end z m
                (rw left (data_turn v.seen.0 v.at v.i (c.args.count - (v.counter + 1)) s end z h head there _ judged _ accepted w.if-c.true v.draft
                x.octets d x.behind gave (m ∙ sym same) b (rw (c.count.ensures small) at u))),
          )
      | else-c w ↦
          let d = w.lay_head.new.room in
          let taken = part_head_passed _ h _ (judged ∙ accepted) in
          let is : d ≡ laid_at (Accepted n) (layout_part (raw_part h [])) v.at v.draft =
          keeps_laid v.draft v.at (layout_part (raw_part h [])) n w.lay_head.result d w.lay_head.ensures.0 w.lay_head.ensures.1 in
          let same : length d ≡ length c.args.draft.now =
          ap (λ (z : List ℕ). length z) is ∙ laid_length v.draft v.at (layout_part (raw_part h [])) n ∙ v.invariant.2 in
          rw (w.at-is, w.i-is, w.draft-is) (
            omega (arith, c.if-s-i-lt-COMMON_HEAD.false),
            omega (arith, taken.1, head_long h.header, v.invariant.1),
            same,
            λ b end z m u.
                v.invariant.3 b end z m
                (rw left (plain_turn v.seen.0 v.at v.i (c.args.count - (v.counter + 1)) s end z h head there _ judged n accepted w.if-c.false v.draft
                (m ∙ sym v.invariant.2) b (rw (← is) (rw (c.count.ensures small) at u)))),
          )
    ]

pub returns-in_err-behind : goal.returns-in_err-behind
returns-in_err-behind c =
    let v = c.loop in
    let d = c.lay_end.new.draft in
    let r = c.in_err-behind.field-0.0 in
    let long : length d ≡ length v.draft = search rules in
    let z : c.args.count - v.counter ≡ 0 = omega (arith, c.loop-test.false) in
    let e = sym (rw (c.times-class.ensures, c.times-kind.ensures) at c.lay_end.ensures.told) ∙ c.in_err-behind.was in
    rw (passed_on c.from_residual-in_err-behind.result r c.from_residual-in_err-behind.ensures.1)
    (v.invariant.3 _ _ d (long ∙ v.invariant.2)
    (rw z (parts_unfinished v.seen.0 v.at v.i (drop v.i c.args.s.now) _ r.0 r.1 _ d e)))

pub returns : goal.returns
returns c =
    let v = c.loop in
    let d = c.lay_end.new.draft in
    let long : length d ≡ length v.draft = search rules in
    let z : c.args.count - v.counter ≡ 0 = omega (arith, c.loop-test.false) in
    subst (λ (b : Answer). PartsServed unseen 0 0 [] (parts_front c.args.count c.args.s.now) b v.i d) c.in_ok-behind.was
    (v.invariant.3 _ _ d (long ∙ v.invariant.2)
    (rw (z, rw (c.times-class.ensures, c.times-kind.ensures) at c.lay_end.ensures.told, c.lay_end.ensures.put) (parts_done v.seen.0 v.at v.i (drop v.i c.args.s.now) v.draft)))
