-- Octets gone over by the length rule alone, with no other check: what the functions give, on any octets, that serve reading, finding,
-- listing and editing. No rule of document 01; in an accepted message it comes to what Finding and Spans say.
use Rattle.std.specs.Prelude.{ℕ, zero, suc, ◌+◌, ◌-◌, Bool, cond, List, [], ◌∷◌, map, eqb, leb, ltb, length, get_or, take, drop}
use Rattle.annex.specs.Units.{name_of, after_of, lead_of, extent_of, common_extent_of}
use Rattle.annex.specs.Heads.{end_mark, transfer_data, kth}
use Rattle.annex.specs.Walk.{Par, size_by, pars}
use Rattle.annex.specs.declared.Extent.{Extent}
use Rattle.annex.specs.declared.Key.{Key}
use Rattle.annex.specs.declared.Key.TheVariants.{Header, Name}
use Rattle.annex.specs.Answers.{Found, At, Nowhere}
use Rattle.annex.specs.declared.Row.{Row}
use Rattle.annex.specs.declared.Cursor.{Cursor}

-- ---- one parameter

-- how many octets after the header at i are its own, if its PLI says e
abbrev pub after_at : List ℕ → ℕ → Extent → ℕ
after_at t i e = after_of e (get_or t (i + 1) 0)

-- where its contents stand, the header at i, if its PLI says e; nowhere where it is cut, or where the octets end before i
unfoldable pub stretch_at : List ℕ → ℕ → Extent → Found
stretch_at t i e =
    let n = after_at t i e in
    cond (ltb i (length t)) (cond (leb n (length t - (i + 1))) (At (i + 1 + lead_of e) (i + 1 + n)) Nowhere) Nowhere

-- ---- the one that a key asks for

-- whether it asks for the header x, which of those it asks for, and what the PLI of x says
abbrev pub is_sought : Key → ℕ → Bool
is_sought (Header h) x = eqb x h
is_sought (Name n which) x = eqb n (name_of x)

abbrev pub which_of : Key → ℕ
which_of (Header h) = 0
which_of (Name n which) = which

abbrev pub extent_by : Key → ℕ → Extent
extent_by (Header h) x = common_extent_of x
extent_by (Name n which) x = extent_of x

-- a parameter from its header to its end
abbrev pub whole_of : Par → Found
whole_of q = At q.place (q.place + 1 + length q.own)

-- behind so many that it asks for
unfoldable pub sought_in : Key → ℕ → List Par → Found
sought_in k which [] = Nowhere
sought_in k which (q ∷ qs) = cond (is_sought k q.head) (kth which (whole_of q) (λ w. sought_in k w qs)) (sought_in k which qs)

-- in the octets t from the octet i on
abbrev pub search_from : Key → ℕ → ℕ → List ℕ → Found
search_from k which i t = sought_in k which (pars (size_by (extent_by k)) 0 i (drop i t))

abbrev pub search_in : Key → List ℕ → Found
search_in k t = search_from k (which_of k) 0 t

-- the contents of a parameter of t
abbrev pub contents_at : Key → List ℕ → Found → Found
contents_at k t (At i e) = At (i + 1 + lead_of (extent_by k (get_or t i 0))) e
contents_at k t Nowhere = Nowhere

abbrev pub contents_found : Key → List ℕ → Found
contents_found k t = contents_at k t (search_in k t)

-- of a common parameter: the end mark has no contents to be found
abbrev pub common_plain : ℕ → List ℕ → Found
common_plain h m = cond (eqb h end_mark) Nowhere (contents_found (Header h) m)

-- of a transfer parameter with the name x, in the transfer data t
abbrev pub transfer_search : ℕ → ℕ → List ℕ → Found
transfer_search x which t = contents_found (Name x which) t

-- what is found in a part that starts at s, told of the whole
abbrev pub moved : ℕ → Found → Found
moved s (At a e) = At (s + a) (s + e)
moved s Nowhere = Nowhere

-- in the transfer data that was found in m
abbrev pub in_data : ℕ → ℕ → List ℕ → Found → Found
in_data x which m (At s e) = moved s (transfer_search x which (take (e - s) (drop s m)))
in_data x which m Nowhere = Nowhere

-- and so in m
abbrev pub transfer_plain : ℕ → ℕ → List ℕ → Found
transfer_plain x which m = in_data x which m (contents_found (Header transfer_data) m)

-- by a key
abbrev pub plain_by : Key → List ℕ → Found
plain_by (Header h) m = common_plain h m
plain_by (Name x which) m = transfer_plain x which m

-- ---- a cursor over a message: the row at it, and the next one

abbrev pub cursor_to : ℕ → ℕ → Cursor
cursor_to at end = record { at = at; end = end }

abbrev pub first_cursor : Cursor
first_cursor = cursor_to 0 0

-- what the PLI of the next header says: in C5 by the transfer rule, else by the common one
abbrev pub extent_in : Cursor → ℕ → Extent
extent_in c h = cond (ltb c.at c.end) (extent_of h) (common_extent_of h)

abbrev pub extent_here : List ℕ → Cursor → Extent
extent_here m c = extent_in c (get_or m c.at 0)

unfoldable pub stretch_here : List ℕ → Cursor → Found
stretch_here m c = stretch_at m c.at (extent_here m c)

-- what a place without a row is read as
abbrev pub no_row : Row
no_row = record { offset = 0; header = 0; len = 0 }

abbrev pub row_between : List ℕ → Cursor → Found → Row
row_between m c (At s e) = record { offset = c.at; header = get_or m c.at 0; len = e - s }
row_between m c Nowhere = no_row

-- the row of the next parameter
unfoldable pub row_here : List ℕ → Cursor → Row
row_here m c = row_between m c (stretch_here m c)

abbrev pub next_behind : List ℕ → Cursor → Found → Cursor
next_behind m c (At s e) =
    cond (ltb c.at c.end) (cursor_to e c.end) (cond (eqb (get_or m c.at 0) transfer_data) (cursor_to s e) (cursor_to e e))
next_behind m c Nowhere = cursor_to (length m) (length m)

-- behind the next parameter, and behind a C5's header and length octet
unfoldable pub next_of : List ℕ → Cursor → Cursor
next_of m c = next_behind m c (stretch_here m c)

-- ---- one after the other

-- the cursors of a walk over n octets, from one on: each is the next of the one before, as long as it stands within the octets; so many at most
abbrev pub steps_by : (Cursor → Cursor) → ℕ → ℕ → Cursor → List Cursor
steps_by next n zero c = []
steps_by next n (suc k) c = cond (ltb c.at n) (c ∷ steps_by next n k (next c)) []

unfoldable pub steps_from : (Cursor → Cursor) → ℕ → Cursor → List Cursor
steps_from next n c = steps_by next n (n - c.at) c

-- the rows from a cursor on
unfoldable pub rows_left : List ℕ → Cursor → List Row
rows_left m c = map (row_here m) (steps_from (next_of m) (length m) c)
