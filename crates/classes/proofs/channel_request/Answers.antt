-- `channel_request` meets its contract: over the numbers of each arm the class is computed.
use mathlib.Core.List.{[], ◌∷◌}
use native.Mathlib.Omega.{arith}
use Rattle.classes.specs.Listed.{listed_class}
use Rattle.annex.specs.declared.Class.TheVariants.{Named, Spare}
use Rattle.annex.specs.Answers.{Is}
use Rattle.classes.proofs.Arms.{at_keys, in_range}
use Rattle.classes.proofs.channel_request.Goals as goal

pub returns-in_default : goal.returns-in_default
unfolding listed_class
returns-in_default c = in_range 0x6E (Is Spare) [] 1 1 tt c.args.octet tt (omega arith) (omega arith)

pub returns-in_default-2 : goal.returns-in_default-2
unfolding listed_class
returns-in_default-2 c = in_range 0x6E (Is Spare) [] 4 4 tt c.args.octet tt (omega arith) (omega arith)

pub returns-in_default-3 : goal.returns-in_default-3
unfolding listed_class
returns-in_default-3 c = in_range 0x6E (Is Spare) [] 11 245 tt c.args.octet tt (omega arith) (omega arith)

pub returns-in-0-2 : goal.returns-in-0-2
unfolding listed_class
returns-in-0-2 c = in_range 0x6E (Is Named) [] 2 2 tt c.args.octet tt (omega arith) (omega arith)

pub returns-in-0-3 : goal.returns-in-0-3
unfolding listed_class
returns-in-0-3 c = in_range 0x6E (Is Named) [] 8 3 tt c.args.octet tt (omega arith) (omega arith)

pub returns-in-0 : goal.returns-in-0
unfolding listed_class
returns-in-0 c = at_keys 0x6E (Is Named) (0 ∷ []) tt _ c.in-0.in-0-own.keys1
