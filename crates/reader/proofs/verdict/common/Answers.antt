-- `common` meets its contract: what follows 2 to 5 goes by the header, as in the definition.
use mathlib.Core.Path.{◌≡◌, sym, ◌∙◌}
use native.Mathlib.Omega.{arith}
use borrow.Author.Rules.{rules}
use borrow.Author.Tests.{ne_eqb}
use Rattle.annex.specs.Units.{after_of, common_extent_of}
use Rattle.annex.specs.Reading.{common_form}
use Rattle.annex.specs.Answers.{Accepted}
use Rattle.annex.specs.Contents.{fault_of}
use Rattle.laws.specs.Passed.{passed_on}
use Rattle.laws.specs.Steps.{form_taken, common_formed, common_refused}
use Rattle.reader.proofs.verdict.common.Goals as goal

pub returns-in_err-n : goal.returns-in_err-n
returns-in_err-n c =
    passed_on c.from_residual.result c.in_err-n.field-0.0 c.from_residual.ensures.1
    ∙ sym (common_refused fault_of _ _ _ _ _ _ (sym c.common_form.ensures ∙ c.in_err-n.was))

-- C5 has a length octet
pub transfer_data-requires : goal.transfer_data-requires
unfolding after_of common_extent_of
transfer_data-requires c =
    let t = form_taken _ _ _ _ (sym c.common_form.ensures ∙ c.in_ok-n.was) in
    (rw (t.size, c.in-197.is) (omega arith), t.within, search rules)

pub returns-in-0 : goal.returns-in-0
returns-in-0 c =
    rw (common_formed fault_of _ _ _ _ _ (sym c.common_form.ensures ∙ c.in_ok-n.was), c.in-0.is) c.end_mark.ensures

pub returns-in-197 : goal.returns-in-197
returns-in-197 c =
    rw (common_formed fault_of _ _ _ _ _ (sym c.common_form.ensures ∙ c.in_ok-n.was), c.in-197.is) c.transfer_data.ensures

pub returns-in_default : goal.returns-in_default
returns-in_default c =
    rw (common_formed fault_of _ _ _ _ _ (sym c.common_form.ensures ∙ c.in_ok-n.was), ne_eqb _ _ c.in_default.in_default-own.rest.0.1, ne_eqb _ _ c.in_default.in_default-own.rest.1)
