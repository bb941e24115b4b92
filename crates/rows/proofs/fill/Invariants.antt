-- `fill` meets its contract. The invariant: behind the rows that are stored, those from the cursor on are left.
use Rattle.std.proofs.Common.{◌≡◌, ◌≤◌, ◌++◌, length, take}
use Rattle.annex.specs.Walking.{first_cursor}
use Rattle.rows.proofs.fill.Given as goal

abbrev pub invariant-loop-row : goal.invariant-loop-row
invariant-loop-row g l =
    let w = g.W.Walk in
    (l.row-index ≤ length l.rows) × (length l.rows ≡ length l.fn.rows) × w.ahead l.m l.c
    × (take l.row-index l.rows ++ w.left l.m l.c ≡ w.left l.m first_cursor)
