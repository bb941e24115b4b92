-- A cursor, behind k rows, and the rows of a message that are left.
use Rattle.std.specs.Prelude.{ℕ, zero, suc, ◌≡◌, refl, List, ◌++◌, take, drop}
use Rattle.annex.specs.Spans.{transfer_rows, common_rows}
use Rattle.annex.specs.Walk.{common_size, transfer_size, pars}
use Rattle.annex.specs.Walking.{first_cursor}
use Rattle.annex.specs.declared.Row.{Row}
use Rattle.annex.specs.declared.Cursor.{Cursor}

-- behind k rows, where `next` goes from each to the one behind it
unfoldable pub cursor_at : (Cursor → Cursor) → ℕ → Cursor
cursor_at next zero = first_cursor
cursor_at next (suc k) = next (cursor_at next k)

pub cursor_none : (next : Cursor → Cursor) → cursor_at next 0 ≡ first_cursor
unfolding cursor_at
cursor_none next = refl

pub cursor_more : (next : Cursor → Cursor) (k : ℕ) → cursor_at next (suc k) ≡ next (cursor_at next k)
unfolding cursor_at
cursor_more next k = refl

-- the rows that are left: those up to the end of C5, and those behind it
unfoldable pub rows_from : List ℕ → Cursor → List Row
rows_from m c =
    transfer_rows 0 (pars transfer_size 0 c.at (drop c.at (take c.end m)))
    ++ common_rows (pars common_size 0 c.end (drop c.end m))
