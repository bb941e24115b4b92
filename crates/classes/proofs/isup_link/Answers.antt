-- `isup_link` meets its contract: over the numbers of each arm the class is computed.
use mathlib.Core.List.{[]}
use native.Mathlib.Omega.{arith}
use Rattle.annex.specs.declared.Class.TheVariants.{Named, Spare}
use Rattle.annex.specs.Answers.{Is}
use Rattle.classes.specs.Listed.{listed_class}
use Rattle.classes.proofs.Arms.{in_range}
use Rattle.classes.proofs.isup_link.Goals as goal

pub returns-in-0-to-2 : goal.returns-in-0-to-2
unfolding listed_class
returns-in-0-to-2 c = in_range 0x6F (Is Named) [] 0 3 tt c.args.octet tt (omega arith) (omega arith)

pub returns-in_default : goal.returns-in_default
unfolding listed_class
returns-in_default c = in_range 0x6F (Is Spare) [] 3 253 tt c.args.octet tt (omega arith) (omega arith)
