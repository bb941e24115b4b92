-- `put_order` meets its contract. The invariant: the rows from the cursor on are left to store, as many as there are turns left.
use Rattle.std.proofs.Common.{◌≡◌, ◌+◌, ◌*◌, length}
use Rattle.annex.specs.Ordering.{order_rows_from}
use Rattle.annex.specs.Packed.{octets_to_a_row, rows_octets}
use Rattle.annex.specs.Walking.{first_cursor}
use Rattle.laws.specs.Runs.{Left}
use Rattle.rows.proofs.in_octets.put_order.Given as goal

abbrev pub invariant-loop-k : goal.invariant-loop-k
invariant-loop-k l =
    (l.k + length (order_rows_from l.m l.c) ≡ l.count)
    × Left (rows_octets (order_rows_from l.m first_cursor)) 0 l.initial.table (rows_octets (order_rows_from l.m l.c)) (l.k * octets_to_a_row) l.table
