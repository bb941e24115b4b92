-- `section_mbi` meets its contract: over the halves of each arm the class is computed.
use native.Mathlib.Omega.{arith}
use Rattle.classes.specs.Listed.{listed_class}
use Rattle.annex.specs.declared.Class.TheVariants.{Named, Spare}
use Rattle.annex.specs.Answers.{Is}
use Rattle.classes.proofs.Arms.{in_halves}
use Rattle.classes.proofs.section_mbi.Goals as goal

pub returns-in-1-to-12-2 : goal.returns-in-1-to-12-2
unfolding listed_class
returns-in-1-to-12-2 c =
    in_halves 0x75 (Is Named) 1 12 1 12 tt c.args.octet (omega arith) (omega arith) (omega arith)
    (omega arith)

pub returns-in_default-2 : goal.returns-in_default-2
unfolding listed_class
returns-in_default-2 c =
    in_halves 0x75 (Is Spare) 1 12 0 1 tt c.args.octet (omega arith) (omega arith) (omega arith) (omega arith)

pub returns-in_default-2-2 : goal.returns-in_default-2-2
unfolding listed_class
returns-in_default-2-2 c =
    in_halves 0x75 (Is Spare) 1 12 13 3 tt c.args.octet (omega arith) (omega arith) (omega arith)
    (omega arith)

pub returns-in_default : goal.returns-in_default
unfolding listed_class
returns-in_default c = in_halves 0x75 (Is Spare) 0 1 0 16 tt c.args.octet (omega arith) (omega arith) (omega arith) (omega arith)

pub returns-in_default-3 : goal.returns-in_default-3
unfolding listed_class
returns-in_default-3 c =
    in_halves 0x75 (Is Spare) 13 3 0 16 tt c.args.octet (omega arith) (omega arith) (omega arith) (omega arith)
