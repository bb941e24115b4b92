use Rattle.std.specs.Prelude.{List, ◌&&◌, ltb}
use Prim.Native.Nat.{ℕ, ◌≤◌, ◌+◌, ◌-◌, ◌%◌, ◌<◌}
use Rattle.annex.specs.Answers.{Answer}
use Rattle.annex.specs.Walk.{Seen, times_seen}
use Rattle.laws.specs.Passed.{passed_on, shifted_ok, shifted_err}
use mathlib.Core.Path.{◌≡◌, refl, sym, ◌∙◌}
use borrow.Author.Rules.{rules}
use borrow.Author.Tests.{lt-ltb, le-ltb}
use native.Mathlib.Omega.{arith}
use lib.ListN.{length, get_or, take, drop, length-drop, length-take}
use Rattle.annex.specs.Reading.{common_of, common_step, message_verdict_by}
use Rattle.annex.specs.Contents.{fault_of}
use Rattle.annex.specs.Heads.{user_class, signal_kind}
use Rattle.laws.specs.Parts.{to_end}
use Rattle.laws.specs.Walks.{walk_end, walk_refused, walk_accepted}
use Rattle.laws.specs.Offsets.{fault_within}
use Rattle.laws.specs.Steps.{common_place, common_within, common_taken, place_told}
use Rattle.reader.proofs.verdict.message.Invariants.{walker}
use Rattle.reader.proofs.verdict.message.Goals as goal

pub loop-i-init : goal.loop-i-init
unfolding message_verdict_by
loop-i-init c = search rules

pub common-requires : goal.common-requires
common-requires c = simp (length-take, length-drop) (omega arith)

-- the step of the walk is what is judged here
step : (m : List ℕ) (seen : Seen) (i times class kind : ℕ) (a : Answer)
    → a ≡ common_of times (ltb 0 class && ltb 0 kind) (get_or m i 0) (take (length m - (i + 1)) (drop (i + 1) m))
    → times ≡ times_seen seen (get_or m i 0) → class ≡ times_seen seen user_class → kind ≡ times_seen seen signal_kind
    → common_step seen (get_or m i 0) (drop (i + 1) m) ≡ a
step m seen i times class kind a e f g h = rw (e, f, g, h, to_end)

pub shift-requires : goal.shift-requires
shift-requires c =
    let m = c.args.m.now in
    let i = c.loop-i.i in
    let e = step m c.loop-i.seen.0 i _ _ _ c.common.result c.common.ensures c.times-in-loop-i-2.ensures c.times.ensures c.times-in-loop-i.ensures in
    let seen = c.loop-i.seen.0 in
    let w =
    place_told (length (drop (i + 1) m) + 2) _
    (common_place fault_of fault_within (get_or seen (get_or m i 0 % 64) 0) (ltb 0 (get_or seen 1 0) && ltb 0 (get_or seen 6 0)) (get_or m i 0)
    (drop (i + 1) m)) in
    omega (arith, rw length-drop at (rw e at w))

pub returns-in_err-n : goal.returns-in_err-n
returns-in_err-n c =
    let e = step c.args.m.now c.loop-i.seen.0 c.loop-i.i _ _ _ c.common.result c.common.ensures c.times-in-loop-i-2.ensures c.times.ensures c.times-in-loop-i.ensures in
    let r = c.in_err-n.field-0.0 in
    let w = shifted_err c.loop-i.i c.common.result r (sym c.shift.ensures ∙ c.in_err-n.was) in
    passed_on c.from_residual.result r c.from_residual.ensures.1
    ∙ sym (c.loop-i.invariant.1 ∙ walk_refused walker _ _ _ _ _ _ c.loop-i-test.true (e ∙ w.1) ∙ w.2)

pub overflow_add-i : goal.overflow_add-i
overflow_add-i c =
    let e =
    step c.args.m.now c.loop-i.seen.0 c.loop-i.i _ _ _ c.common.result c.common.ensures c.times-in-loop-i-2.ensures c.times.ensures c.times-in-loop-i.ensures
    ∙ shifted_ok c.loop-i.i c.common.result c.in_ok-n.n (sym c.shift.ensures ∙ c.in_ok-n.was) in
    let within : c.in_ok-n.n ≤ length (drop (c.loop-i.i + 1) c.args.m.now) = common_within fault_of _ _ _ _ _ e in
    omega (arith, rw length-drop at within)

pub loop-i-preserved : goal.loop-i-preserved
loop-i-preserved c =
    let e =
    step c.args.m.now c.loop-i.seen.0 c.loop-i.i _ _ _ c.common.result c.common.ensures c.times-in-loop-i-2.ensures c.times.ensures c.times-in-loop-i.ensures
    ∙ shifted_ok c.loop-i.i c.common.result c.in_ok-n.n (sym c.shift.ensures ∙ c.in_ok-n.was) in
    let within : c.in_ok-n.n ≤ length (drop (c.loop-i.i + 1) c.args.m.now) = common_within fault_of _ _ _ _ _ e in
    let small : times_seen c.loop-i.seen.0 (get_or c.args.m.now c.loop-i.i 0) < 255 = omega (arith, (common_taken fault_of _ _ _ _ _ e).1.once) in (
      omega (arith, rw length-drop at within),
      rw (c.count.ensures small) (c.loop-i.invariant.1 ∙ walk_accepted walker _ _ _ _ _ _ c.loop-i-test.true e within refl),
    )

pub returns-then-times-gt0 : goal.returns-then-times-gt0
returns-then-times-gt0 c =
    rw (c.loop-i.invariant.1, walk_end walker _ _ _ _ c.loop-i-test.false, ← c.times-2.ensures, lt-ltb _ _ c.if-times-gt0.true)

pub returns : goal.returns
returns c =
    rw (c.loop-i.invariant.1, walk_end walker _ _ _ _ c.loop-i-test.false, ← c.times-2.ensures, le-ltb _ _ c.if-times-gt0.false)
