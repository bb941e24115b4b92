-- The connection order of a message, listed beside its record: document 02, request b. Reading's numbers, then 16 where there is no E0,
-- then 15; a row to the form and one to each parameter: message offset, header, and how many octets follow it, of the form none.
use Rattle.std.specs.Prelude.{ℕ, ◌+◌, List, [], ◌∷◌, map, ltb, length, get_or, drop}
use Rattle.annex.specs.Answers.{start_of, no_room, refuse, and_then, room_after, Answer, Accepted, Found}
use Rattle.annex.specs.Units.{name_of}
use Rattle.annex.specs.Heads.{connection_order}
use Rattle.annex.specs.Orders.{OrderParameter, order_parameter, OpenedOrder, order_size}
use Rattle.annex.specs.Walk.{Par, pars}
use Rattle.annex.specs.Finding.{transfer_found, find_answer, find_part}
use Rattle.annex.specs.declared.Row.{Row}

-- ---- contents opened

-- the parameters behind the form, with their offsets in the contents
abbrev pub order_pars : List ℕ → List Par
order_pars s = pars order_size 0 1 (drop 1 s)

-- without its offset
abbrev pub parameter_of : Par → OrderParameter
parameter_of q = order_parameter q.head q.own

-- the order that contents say
abbrev pub opened_order : List ℕ → OpenedOrder
opened_order s = record { form = get_or s 0 0; parameters = map parameter_of (order_pars s) }

-- ---- its listing

-- the rows of contents that start at the place p of a message
abbrev pub form_row : ℕ → ℕ → Row
form_row p form = record { offset = p; header = form; len = 0 }

abbrev pub parameter_row : ℕ → Par → Row
parameter_row p q = record { offset = p + q.place; header = q.head; len = length q.own }

unfoldable pub order_listing : ℕ → List ℕ → List Row
order_listing p [] = []
order_listing p (form ∷ xs) = form_row p form ∷ map (parameter_row p) (pars order_size 0 1 xs)

-- the most of them: under no form may more than four headers stand
abbrev pub most_order_rows : ℕ
most_order_rows = 5

-- ---- of a message

-- where E0's contents stand
abbrev pub order_found : List ℕ → Found
order_found m = transfer_found (name_of connection_order) 0 m

-- the rows of its order, none where there is none
unfoldable pub order_rows_of : List ℕ → List Row
order_rows_of m = order_listing (start_of (order_found m)) (find_part m (order_found m))

-- the row count, or number and place
unfoldable pub order_answer : List ℕ → ℕ → Answer
order_answer m room =
    and_then (find_answer m (order_found m))
    (λ _. refuse (ltb room (length (order_rows_of m))) no_room 0 (Accepted (length (order_rows_of m))))

-- what the table then holds: the rows at its front, those past the last as before; unchanged where refused
unfoldable pub order_table : List ℕ → List Row → List Row
order_table m table = room_after (order_answer m (length table)) (order_rows_of m) table
