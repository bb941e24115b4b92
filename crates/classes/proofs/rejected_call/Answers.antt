-- `rejected_call` meets its contract: over the numbers of each arm the class is computed.
use mathlib.Core.List.{[]}
use native.Mathlib.Omega.{arith}
use Rattle.classes.specs.Listed.{listed_class}
use Rattle.annex.specs.declared.Class.TheVariants.{Named, Spare}
use Rattle.annex.specs.Answers.{Is}
use Rattle.classes.proofs.Arms.{in_range}
use Rattle.classes.proofs.rejected_call.Goals as goal

pub returns-in-1-to-3 : goal.returns-in-1-to-3
unfolding listed_class
returns-in-1-to-3 c = in_range 0x68 (Is Named) [] 1 3 tt c.args.octet tt (omega arith) (omega arith)

pub returns-in_default : goal.returns-in_default
unfolding listed_class
returns-in_default c = in_range 0x68 (Is Spare) [] 0 1 tt c.args.octet tt (omega arith) (omega arith)

pub returns-in_default-2 : goal.returns-in_default-2
unfolding listed_class
returns-in_default-2 c = in_range 0x68 (Is Spare) [] 4 252 tt c.args.octet tt (omega arith) (omega arith)
