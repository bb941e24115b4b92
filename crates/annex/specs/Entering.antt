-- The entries of CC from a cursor on, by the length rule alone, in octets of any kind: what the functions give that serve its check and its
-- listing. `at` is the offset of the next tag, `end` where the carrier entry ends that it stands in; between carrier entries `end` is `at`.
-- No rule of the documents; in contents of the right form the entries from the first cursor on are those of Carriers.
use Rattle.std.specs.Prelude.{ℕ, ◌-◌, Bool, cond, ◌&&◌, List, ltb, length, get_or, take, drop}
use Rattle.annex.specs.Answers.{start_of, stop_of, Found, At, Nowhere}
use Rattle.annex.specs.Carriers.{holds_code}
use Rattle.annex.specs.Walking.{stretch_at, cursor_to, steps_from}
use Rattle.annex.specs.declared.CountingUnit.TheVariants.{Octet}
use Rattle.annex.specs.declared.Cursor.{Cursor}
use Rattle.annex.specs.declared.Extent.TheVariants.{Counted}

-- behind the direction octet
abbrev pub first_entry : Cursor
first_entry = cursor_to 1 1

-- the next tag stands in a carrier entry
abbrev pub in_carrier : Cursor → Bool
in_carrier c = ltb c.at c.end

-- what the next entry holds: nowhere where it is cut by the end of its carrier entry or of CC, or there is none
unfoldable pub entry_stretch : List ℕ → Cursor → Found
entry_stretch s c =
    cond (in_carrier c) (cond (ltb (length s) c.end) Nowhere (stretch_at (take c.end s) c.at (Counted Octet)))
    (stretch_at s c.at (Counted Octet))

-- behind a dependent entry; and in a carrier entry, behind its length octet
abbrev pub entry_behind : List ℕ → Cursor → Found → Cursor
entry_behind s c (At a b) = cond (in_carrier c) (cursor_to b c.end) (cursor_to a b)
entry_behind s c Nowhere = cursor_to (length s) (length s)

unfoldable pub entry_next : List ℕ → Cursor → Cursor
entry_next s c = entry_behind s c (entry_stretch s c)

-- the octets that the next entry holds
abbrev pub entry_inside : List ℕ → Cursor → List ℕ
entry_inside s c =
    let f = entry_stretch s c in
    take (stop_of f - start_of f) (drop (start_of f) s)

-- it holds a code
abbrev pub is_code_here : List ℕ → Cursor → Bool
is_code_here s c = in_carrier c && holds_code (get_or s c.at 0)

-- the entries one after the other, a cursor to each
unfoldable pub cursors_from : List ℕ → Cursor → List Cursor
cursors_from s c = steps_from (entry_next s) (length s) c
