-- `extent_by` meets its contract: each arm is a case of the definition.
use Rattle.reader.proofs.finding.extent_by.Goals as goal

pub returns-in-Header : goal.returns-in-Header
returns-in-Header c = rw c.in-Header.is c.common_extent_of.ensures

pub returns-in-Name : goal.returns-in-Name
returns-in-Name c = rw c.in-Name.is c.extent_of.ensures
