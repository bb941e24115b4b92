-- `put_rows` meets its contract. The invariant: the rows of the entries that are left are left to store behind the direction's.
use Rattle.std.proofs.Common.{length}
use Rattle.annex.specs.Packed.{octets_to_a_carrier_row, carrier_rows_octets}
use Rattle.laws.specs.Runs.{Left}
use Rattle.carriers.specs.Rows.{rows_behind}
use Rattle.carriers.proofs.put_rows.Given as goal

abbrev pub invariant-loop-c : goal.invariant-loop-c
invariant-loop-c l =
    Left (carrier_rows_octets (rows_behind l.start l.s 0)) octets_to_a_carrier_row l.initial.table
    (carrier_rows_octets (rows_behind l.start l.s (length l.yielded))) l.place l.table
