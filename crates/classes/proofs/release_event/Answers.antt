-- `release_event` meets its contract: over the numbers of each arm the class is computed.
use mathlib.Core.List.{[]}
use native.Mathlib.Omega.{arith}
use Rattle.annex.specs.declared.Class.TheVariants.{Named, Spare}
use Rattle.annex.specs.Answers.{Is}
use Rattle.classes.specs.Listed.{listed_class}
use Rattle.classes.proofs.Arms.{in_range}
use Rattle.classes.proofs.release_event.Goals as goal

pub returns-in_default : goal.returns-in_default
unfolding listed_class
returns-in_default c = in_range 0x42 (Is Spare) [] 7 1 tt c.args.octet tt (omega arith) (omega arith)

pub returns-in_default-2 : goal.returns-in_default-2
unfolding listed_class
returns-in_default-2 c = in_range 0x42 (Is Spare) [] 16 240 tt c.args.octet tt (omega arith) (omega arith)

pub returns-in-0-to-6 : goal.returns-in-0-to-6
unfolding listed_class
returns-in-0-to-6 c = in_range 0x42 (Is Named) [] 0 7 tt c.args.octet tt (omega arith) (omega arith)

pub returns-in-0-to-6-2 : goal.returns-in-0-to-6-2
unfolding listed_class
returns-in-0-to-6-2 c = in_range 0x42 (Is Named) [] 8 8 tt c.args.octet tt (omega arith) (omega arith)
