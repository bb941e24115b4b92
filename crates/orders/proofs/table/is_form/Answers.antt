-- `is_form` meets its contract: the bits are those of the list.
use native.Mathlib.Omega.{arith}
use mathlib.Core.Path.{◌∙◌}
use Rattle.orders.specs.Asked.{form_bits}
use Rattle.orders.proofs.table.is_form.Goals as goal

pub returns : goal.returns
returns c = c.has_form.ensures ∙ form_bits c.args.form (omega arith)
