-- `half_at` meets its contract: the half at i is in octet i / 2, low where i is even, high where it is odd.
use borrow.Author.Rules.{rules}
use Rattle.laws.specs.Halves.{halves_even, halves_odd}
use Rattle.codes.proofs.half_at.Goals as goal

pub returns-then-i-eq0 : goal.returns-then-i-eq0
returns-then-i-eq0 c = rw (halves_even c.args.octets.now c.args.i c.if-i-eq0.true) (search rules)

pub returns-else-i-eq0 : goal.returns-else-i-eq0
returns-else-i-eq0 c = rw (halves_odd c.args.octets.now c.args.i c.if-i-eq0.false) (search rules)
