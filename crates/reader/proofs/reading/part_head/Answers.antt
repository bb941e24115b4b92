-- `part_head` meets its contract: its tests are those of the definition, in their order.
use borrow.Author.Tests.{eq-eqb, ne_eqb}
use Rattle.reader.proofs.reading.part_head.Goals as goal

pub returns-then-header-eq-TRANSFER_DATA : goal.returns-then-header-eq-TRANSFER_DATA
returns-then-header-eq-TRANSFER_DATA c = rw (eq-eqb _ _ c.if-header-eq-TRANSFER_DATA.true) c.transfer_data.ensures

pub returns-then-is_call : goal.returns-then-is_call
returns-then-is_call c =
    rw (ne_eqb _ _ c.if-header-eq-TRANSFER_DATA.false, ← c.is_call.ensures, c.if-is_call.true, ← c.call_value.ensures) c.call_number.ensures

pub returns : goal.returns
returns c =
    rw (ne_eqb _ _ c.if-header-eq-TRANSFER_DATA.false, ← c.is_call.ensures, c.if-is_call.false, ← c.octet_at.ensures) c.octet.ensures
