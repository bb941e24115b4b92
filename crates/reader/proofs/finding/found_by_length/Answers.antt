-- `found_by_length` meets its contract: each arm is a case of the definition.
use Rattle.reader.proofs.finding.found_by_length.Goals as goal

pub returns-in-Header : goal.returns-in-Header
returns-in-Header c = rw c.in-Header.is c.common_by_length.ensures

pub returns-in-Name : goal.returns-in-Name
returns-in-Name c = rw c.in-Name.is c.transfer_by_length.ensures
