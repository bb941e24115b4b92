use Rattle.std.specs.Prelude.{List}
use Prim.Native.Nat.{ℕ, ◌+◌, ◌-◌, ◌%◌, ◌<◌}
use Rattle.annex.specs.Answers.{Answer, Accepted}
use Rattle.annex.specs.Walk.{Seen, times_seen}
use Rattle.laws.specs.Passed.{passed_on, shifted_ok, shifted_err}
use mathlib.Core.Path.{◌≡◌, refl, sym, ◌∙◌}
use borrow.Author.Rules.{rules}
use native.Mathlib.Omega.{arith}
use lib.ListN.{length, get_or, take, drop, length-drop}
use Rattle.annex.specs.Units.{name_of}
use Rattle.annex.specs.Reading.{transfer_of, transfer_step, transfers_verdict_by}
use Rattle.laws.specs.Often.{few_often}
use Rattle.laws.specs.Parts.{to_end}
use Rattle.laws.specs.Walks.{walk_end, walk_refused, walk_accepted}
use Rattle.laws.specs.Offsets.{fault_within}
use Rattle.laws.specs.Steps.{TransferTaken, transfer_taken, transfer_place, place_told}
use Rattle.annex.specs.Contents.{fault_of}
use Rattle.reader.proofs.verdict.transfers.Invariants.{walker}
use Rattle.reader.proofs.verdict.transfers.Goals as goal

pub loop-i-init : goal.loop-i-init
unfolding transfers_verdict_by
loop-i-init c = search rules

-- the step of the walk is what is judged here
step : (t : List ℕ) (seen : Seen) (i times : ℕ) (a : Answer) → a ≡ transfer_of times (get_or t i 0) (take (length t - (i + 1)) (drop (i + 1) t))
    → times ≡ times_seen seen (get_or t i 0) → transfer_step seen (get_or t i 0) (drop (i + 1) t) ≡ a
step t seen i times a e f = rw (e, f, to_end)

taken : (t : List ℕ) (seen : Seen) (i n : ℕ) → transfer_step seen (get_or t i 0) (drop (i + 1) t) ≡ Accepted n
    → TransferTaken fault_of (get_or seen (get_or t i 0 % 64) 0) (get_or t i 0) (drop (i + 1) t) n
taken t seen i n e = transfer_taken fault_of _ _ _ _ e

pub shift-requires : goal.shift-requires
shift-requires c =
    let e = step c.args.t.now c.loop-i.seen.0 c.loop-i.i _ c.transfer.result c.transfer.ensures c.times.ensures in
    let t = c.args.t.now in
    let i = c.loop-i.i in
    let w =
    place_told (length (drop (i + 1) t)) _
    (transfer_place fault_of fault_within (get_or c.loop-i.seen.0 (get_or t i 0 % 64) 0) (get_or t i 0) (drop (i + 1) t)) in
    omega (arith, simp length-drop at (rw e at w))

pub returns-in_err-n : goal.returns-in_err-n
returns-in_err-n c =
    let e = step c.args.t.now c.loop-i.seen.0 c.loop-i.i _ c.transfer.result c.transfer.ensures c.times.ensures in
    let r = c.in_err-n.field-0.0 in
    let w = shifted_err c.loop-i.i c.transfer.result r (sym c.shift.ensures ∙ c.in_err-n.was) in
    passed_on c.from_residual.result r c.from_residual.ensures.1
    ∙ sym (c.loop-i.invariant.1 ∙ walk_refused walker _ _ _ _ _ _ c.loop-i-test.true (e ∙ w.1) ∙ w.2)

pub overflow_add-i : goal.overflow_add-i
overflow_add-i c =
    let e = step c.args.t.now c.loop-i.seen.0 c.loop-i.i _ c.transfer.result c.transfer.ensures c.times.ensures in
    let w = taken c.args.t.now c.loop-i.seen.0 c.loop-i.i c.in_ok-n.n (e ∙ shifted_ok c.loop-i.i c.transfer.result c.in_ok-n.n (sym c.shift.ensures ∙ c.in_ok-n.was)) in
    omega (arith, rw length-drop at w.within)

pub loop-i-preserved : goal.loop-i-preserved
loop-i-preserved c =
    let e =
    step c.args.t.now c.loop-i.seen.0 c.loop-i.i _ c.transfer.result c.transfer.ensures c.times.ensures
    ∙ shifted_ok c.loop-i.i c.transfer.result c.in_ok-n.n (sym c.shift.ensures ∙ c.in_ok-n.was) in
    let w = taken c.args.t.now c.loop-i.seen.0 c.loop-i.i c.in_ok-n.n e in
    let small : times_seen c.loop-i.seen.0 (get_or c.args.t.now c.loop-i.i 0) < 255 = omega (arith, w.often, few_often (name_of (get_or c.args.t.now c.loop-i.i 0))) in (
      omega (arith, rw length-drop at w.within),
      rw (c.count.ensures small) (c.loop-i.invariant.1 ∙ walk_accepted walker _ _ _ _ _ _ c.loop-i-test.true e w.within refl),
    )

pub returns : goal.returns
returns c = rw (c.loop-i.invariant.1, walk_end walker _ _ _ _ c.loop-i-test.false)
