-- `next` meets its contract: what an entry holds ends where the next of its level starts.
use borrow.Author.Tests.{lt-ltb}
use Rattle.annex.specs.Entering.{entry_next}
use Rattle.entries.proofs.cursor.next.Goals as goal

pub returns-in-Some : goal.returns-in-Some
unfolding entry_next
returns-in-Some c = rw (← c.inside.ensures, c.in-Some.is, lt-ltb _ _ c.if-c.true)
