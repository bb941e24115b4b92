-- The rows of a connection order from a cursor on, by the length rule alone, in octets of any kind: what the functions give that serve its
-- listing. No rule of the documents; in an accepted message the rows from the first cursor on are those of Opened.
use Rattle.std.specs.Prelude.{ℕ, zero, suc, ◌+◌, cond, List, [], ◌∷◌, map, eqb, leb, ltb, length, get_or, take, drop}
use Rattle.annex.specs.Answers.{start_of, stop_of}
use Rattle.annex.specs.Units.{name_of}
use Rattle.annex.specs.Heads.{connection_order}
use Rattle.annex.specs.Orders.{order_size}
use Rattle.annex.specs.Opened.{parameter_row, order_listing}
use Rattle.annex.specs.Walk.{pars}
use Rattle.annex.specs.Walking.{transfer_plain, cursor_to, no_row}
use Rattle.annex.specs.declared.Cursor.{Cursor}
use Rattle.annex.specs.declared.Row.{Row}

-- from the first octet of E0's contents to behind their last; at 0 none, where there is no E0
abbrev pub order_span : List ℕ → Cursor
order_span m =
    let f = transfer_plain (name_of connection_order) 0 m in
    cursor_to (start_of f) (stop_of f)

-- the octets from a cursor on; none where it is past its end, or that is past the message
abbrev pub order_left : List ℕ → Cursor → List ℕ
order_left m c = cond (ltb (length m) c.end) [] (drop c.at (take c.end m))

-- the rows of parameters in octets that start at the place p of a message
abbrev pub parameter_rows : ℕ → List ℕ → List Row
parameter_rows p xs = map (parameter_row 0) (pars order_size 0 p xs)

-- how many octets the first of them takes, its header among them: 0 where it is cut, or there is none
unfoldable pub taken_of : List ℕ → ℕ
taken_of [] = 0
taken_of (h ∷ xs) = cond (leb (order_size h xs) (length xs)) (suc (order_size h xs)) 0

-- all rows of the order
abbrev pub order_rows_plain : List ℕ → List Row
order_rows_plain m = order_listing (order_span m).at (order_left m (order_span m))

-- the rows from a cursor on; one at 0 stands before the form
unfoldable pub order_rows_from : List ℕ → Cursor → List Row
order_rows_from m c = cond (eqb c.at 0) (order_rows_plain m) (parameter_rows c.at (order_left m c))

-- the first of them
abbrev pub order_row_here : List ℕ → Cursor → Row
order_row_here m c = get_or (order_rows_from m c) 0 no_row

-- behind a parameter that takes n octets; where it is cut the order ends
abbrev pub order_behind : Cursor → ℕ → Cursor
order_behind c zero = cursor_to c.at c.at
order_behind c (suc n) = cursor_to (c.at + suc n) c.end

-- the cursor behind its first row
unfoldable pub order_next : List ℕ → Cursor → Cursor
order_next m c =
    cond (eqb c.at 0) (cursor_to ((order_span m).at + 1) (order_span m).end) (order_behind c (taken_of (order_left m c)))
