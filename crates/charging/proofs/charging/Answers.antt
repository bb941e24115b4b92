-- `charging` meets its contract: what was found is asked what it says.
use mathlib.Core.Path.{sym, ap, ◌∙◌}
use Rattle.annex.specs.Answers.{Is}
use Rattle.annex.specs.Rates.{charges_of}
use Rattle.laws.specs.Passed.{passed_on}
use Rattle.charging.specs.Answering.{not_found, found}
use Rattle.charging.proofs.charging.Goals as goal

pub returns-in_err-contents : goal.returns-in_err-contents
returns-in_err-contents c =
    let r = c.in_err-contents.field-0.0 in
    passed_on c.from_residual.result r c.from_residual.ensures.1 ∙ not_found c.args.m.now r.0 r.1 (sym c.in_err-contents.ensures.answer)

pub returns : goal.returns
returns c =
    ap Is (c.charges.ensures ∙ ap charges_of c.in_ok-contents.ensures.part) ∙ found c.args.m.now _ (sym c.in_ok-contents.ensures.answer)
