-- `data_refusal` meets its contract: the parameters come first, and 14 is told from the place behind them.
use Prim.Native.Nat.{◌+◌, ◌-◌, ◌≤◌, ◌<◌}
use native.Mathlib.Omega.{arith}
use mathlib.Core.Path.{◌≡◌, sym, ◌∙◌}
use borrow.Author.Tests.{lt-ltb, le-ltb}
use Rattle.annex.specs.Heads.{most_transfer_octets}
use Rattle.annex.specs.Walk.{unseen}
use Rattle.annex.specs.Writing.{items_writing, data_writing}
use Rattle.annex.specs.Answers.{Accepted}
use Rattle.laws.specs.Passed.{passed_on}
use Rattle.limits.specs.Along.{items_at}
use Rattle.refusing.specs.Refusing.{items_behind}
use Rattle.refusing.proofs.data_refusal.Goals as goal

pub returns-in_err-end : goal.returns-in_err-end
unfolding data_writing
returns-in_err-end c =
    passed_on c.from_residual.result c.in_err-end.field-0.0 c.from_residual.ensures.1
    ∙ sym (rw (← c.items_refusal.ensures, c.in_err-end.was))

pub overflow_sub-end : goal.overflow_sub-end
overflow_sub-end c =
    let taken : (let a = c.args in
    items_writing unseen (a.at + 2) (items_at a.q a.first a.n) ≡ Accepted c.in_ok-end.end) =
    sym c.items_refusal.ensures ∙ c.in_ok-end.was in
    let a = c.args in
    omega (arith, items_behind (items_at a.q a.first a.n) unseen (a.at + 2) _ (taken))

pub returns-then-end-start-gt-MOST_OCTETS : goal.returns-then-end-start-gt-MOST_OCTETS
unfolding data_writing
returns-then-end-start-gt-MOST_OCTETS c =
    let a = c.args in
    let taken : items_writing unseen (a.at + 2) (items_at a.q a.first a.n) ≡ Accepted c.in_ok-end.end =
    sym c.items_refusal.ensures ∙ c.in_ok-end.was in
    let over : most_transfer_octets < c.in_ok-end.end - (a.at + 2) = omega (arith, c.if-end-start-gt-MOST_OCTETS.true) in
    rw (taken, lt-ltb _ _ over)

pub returns : goal.returns
unfolding data_writing
returns c =
    let a = c.args in
    let taken : items_writing unseen (a.at + 2) (items_at a.q a.first a.n) ≡ Accepted c.in_ok-end.end =
    sym c.items_refusal.ensures ∙ c.in_ok-end.was in
    let under : c.in_ok-end.end - (a.at + 2) ≤ most_transfer_octets = omega (arith, c.if-end-start-gt-MOST_OCTETS.false) in
    rw (taken, le-ltb _ _ under)
