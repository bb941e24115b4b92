-- `record_refusal` meets its contract: 1 where the record is over its limits, and else what its parameters are refused with.
use mathlib.Core.Path.{◌≡◌, sym, ◌∙◌}
use mathlib.Core.Bool.{false}
use Rattle.limits.specs.Limits.{is_over, over_refused, under_whole, under_parts}
use Rattle.refusing.proofs.record_refusal.Goals as goal

pub returns-then-over_limits : goal.returns-then-over_limits
returns-then-over_limits c = sym (over_refused _ (sym c.over_limits.ensures ∙ c.if-over_limits.true))

pub parts_refusal-requires : goal.parts_refusal-requires
parts_refusal-requires c =
    let under : is_over c.args.held ≡ false = sym c.over_limits.ensures ∙ c.if-over_limits.false in
    under_whole _ under

pub returns : goal.returns
returns c =
    let under : is_over c.args.held ≡ false = sym c.over_limits.ensures ∙ c.if-over_limits.false in
    c.parts_refusal.ensures ∙ sym (under_parts _ under)
