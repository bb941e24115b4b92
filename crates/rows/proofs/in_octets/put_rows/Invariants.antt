-- `put_rows` meets its contract. The invariant: the rows from the cursor on are left to store.
use Rattle.std.proofs.Common.{◌-◌, length}
use Rattle.annex.specs.Packed.{rows_octets}
use Rattle.annex.specs.Walking.{first_cursor}
use Rattle.laws.specs.Runs.{Left}
use Rattle.walk.specs.Cursors.{rows_from}
use Rattle.walk.specs.Ahead.{Ahead}
use Rattle.rows.proofs.in_octets.put_rows.Given as goal

abbrev pub invariant-loop-c : goal.invariant-loop-c
invariant-loop-c l = Ahead l.m l.c × Left (rows_octets (rows_from l.m first_cursor)) 0 l.initial.table (rows_octets (rows_from l.m l.c)) l.place l.table

abbrev pub decreases-loop-c : goal.decreases-loop-c
decreases-loop-c l = length l.m - l.c.at
