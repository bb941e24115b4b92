-- `lay_data` meets its contract: the parameters come first, 14 is told from the place behind them, and the two octets before them are
-- stored last.
use Prim.Native.Nat.{ℕ, ◌+◌, ◌-◌}
use mathlib.Core.Path.{◌≡◌, refl, ap, ◌∙◌}
use mathlib.Core.List.{List}
use borrow.Author.Rules.{rules}
use lib.ListN.{length, set}
use Rattle.annex.specs.Image.{items_front}
use Rattle.annex.specs.Answers.{Accepted}
use Rattle.laws.specs.Passed.{passed_on}
use Rattle.image_writer.specs.Walked.{ItemsGave, data_stops, data_over, data_behind, data_done}
use Rattle.image_writer.proofs.lay_data.Goals as goal

pub returns-in_err-step-clause-served : goal.returns-in_err-step-clause-served
returns-in_err-step-clause-served c =
    let a = c.args in
    let e = c.in_err-step.was in
    rw (passed_on c.from_residual.result c.in_err-step.field-0.0 c.from_residual.ensures.1)
    (data_stops a.at a.draft.now 0 _ (items_front a.count a.s.now) _ _ (rw e at c.lay_items.ensures.served) _ _)

pub overflow_sub-len : goal.overflow_sub-len
overflow_sub-len c =
    let a = c.args in
    let x = c.in_ok-step.step in
    let gave : ItemsGave a.at a.draft.now (items_front a.count a.s.now) (Accepted x.behind) x.octets c.lay_items.new.draft =
    rw c.in_ok-step.was at c.lay_items.ensures.served in
    data_behind a.at a.draft.now x.octets _ (items_front a.count a.s.now) _ gave

pub returns-then-len-gt-MOST_OCTETS-clause-served : goal.returns-then-len-gt-MOST_OCTETS-clause-served
returns-then-len-gt-MOST_OCTETS-clause-served c =
    let a = c.args in
    let x = c.in_ok-step.step in
    let gave : ItemsGave a.at a.draft.now (items_front a.count a.s.now) (Accepted x.behind) x.octets c.lay_items.new.draft =
    rw c.in_ok-step.was at c.lay_items.ensures.served in
    data_over a.at a.draft.now x.octets _ (items_front a.count a.s.now) _ gave c.if-len-gt-MOST_OCTETS.true _ _

pub returns-clause-served : goal.returns-clause-served
returns-clause-served c =
    let a = c.args in
    let x = c.in_ok-step.step in
    let gave : ItemsGave a.at a.draft.now (items_front a.count a.s.now) (Accepted x.behind) x.octets c.lay_items.new.draft =
    rw c.in_ok-step.was at c.lay_items.ensures.served in
    let l : length c.lay_items.new.draft ≡ length a.draft.now = search rules in
    let d = c.store-2.ensures ∙ ap (λ (e : List ℕ). set e (a.at + 1) (x.behind - (a.at + 2))) c.store.ensures in
    rw d
    (data_done a.at a.draft.now x.octets _ (items_front a.count a.s.now) _ _ gave refl c.if-len-gt-MOST_OCTETS.false l)
