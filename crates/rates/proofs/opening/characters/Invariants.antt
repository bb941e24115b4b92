-- `characters` meets its contract: the number so far, with the characters from here on behind it, is the whole.
use Rattle.std.proofs.Common.{◌≡◌, ◌-◌, ◌≤◌, length, drop}
use Rattle.rates.specs.Characters.{characters_after, most}
use Rattle.rates.proofs.opening.characters.Given as goal

abbrev pub invariant-loop-x : goal.invariant-loop-x
invariant-loop-x l =
    record {
      whole : characters_after l.number (l.width - length l.yielded) (drop (length l.yielded) l.s) ≡ characters_after 0 l.width l.s;
      small : l.number ≤ most (length l.yielded);
    }
