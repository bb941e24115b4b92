-- `is_sought` meets its contract: each arm is a case of the definition.
use Rattle.reader.proofs.finding.is_sought.Goals as goal

pub returns-in-Header : goal.returns-in-Header
returns-in-Header c = rw c.in-Header.is

pub returns-in-Name : goal.returns-in-Name
returns-in-Name c = rw c.in-Name.is
