-- `values_fault` meets its contract: each arm is a case of the definition, and the look-up asks of contents what the definitions ask.
use mathlib.Core.Path.{◌∙◌}
use Rattle.parameter.specs.Asked.{fault_of_lem}
use Rattle.layout.proofs.values_fault.Goals as goal

pub returns-in-AsContents : goal.returns-in-AsContents
returns-in-AsContents c =
    rw c.in-AsContents.is
    (c.fault_under.ensures ∙ fault_of_lem c.args.t.header c.args.asked c.requires c.args.values.now)
