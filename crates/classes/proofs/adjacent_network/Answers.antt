-- `adjacent_network` meets its contract: over the numbers of each arm the class is computed.
use mathlib.Core.List.{[]}
use native.Mathlib.Omega.{arith}
use Rattle.classes.specs.Listed.{listed_class}
use Rattle.annex.specs.declared.Class.TheVariants.{Named, Spare}
use Rattle.annex.specs.Answers.{Is}
use Rattle.classes.proofs.Arms.{in_range}
use Rattle.classes.proofs.adjacent_network.Goals as goal

pub returns-in-2-to-7 : goal.returns-in-2-to-7
unfolding listed_class
returns-in-2-to-7 c = in_range 0x7E (Is Named) [] 2 6 tt c.args.octet tt (omega arith) (omega arith)

pub returns-in_default : goal.returns-in_default
unfolding listed_class
returns-in_default c = in_range 0x7E (Is Spare) [] 0 2 tt c.args.octet tt (omega arith) (omega arith)

pub returns-in_default-2 : goal.returns-in_default-2
unfolding listed_class
returns-in_default-2 c = in_range 0x7E (Is Spare) [] 8 248 tt c.args.octet tt (omega arith) (omega arith)
