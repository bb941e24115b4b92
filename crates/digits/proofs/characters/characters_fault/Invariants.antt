-- `characters_fault` meets its contract: what is wrong from the offset on is what is wrong from here on.
use mathlib.Core.Path.{◌≡◌}
use lib.ListN.{drop}
use Rattle.digits.specs.Characters.{known_fault}
use Rattle.digits.proofs.characters.characters_fault.Given as goal

abbrev pub invariant-loop-i : goal.invariant-loop-i
invariant-loop-i l = known_fault l.are l.from (drop l.from l.s) ≡ known_fault l.are l.i (drop l.i l.s)
