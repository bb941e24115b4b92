-- The carriers of a message, told beside its record: document 02, request g. What the contents of a CC may say, and how that is laid out;
-- the entries of contents in their order; and for a message reading's numbers, then 16 where that CC is not there, then 15. A row to the
-- direction and one to each entry, each dependent entry right behind the carrier entry that it stands in; and the digits of a code.
use Rattle.std.specs.Prelude.{ℕ, ◌+◌, ◌*◌, ◌/◌, ◌%◌, Bool, true, cond, not, ◌&&◌, List, [], ◌∷◌, ◌++◌, map, eqb, leb, ltb, length, get_or}
use Rattle.annex.specs.Answers.{start_of, no_room, absent, refuse, and_then, room_after, Answer, Accepted, Found}
use Rattle.annex.specs.Units.{name_of}
use Rattle.annex.specs.Heads.{carriers}
use Rattle.annex.specs.Digits.{is_digit_in, packed}
use Rattle.annex.specs.Carriers.{
  most_direction,
  lowest_carrier,
  lowest_dependent,
  is_tag,
  holds_code,
  inside_of,
  odd_count,
  code_digits,
  dependents_in,
  carriers_in,
}
use Rattle.annex.specs.Layout.{lay_all}
use Rattle.annex.specs.Allowed.{every}
use Rattle.annex.specs.Walk.{Par}
use Rattle.annex.specs.Finding.{transfer_found, find_answer, find_part}
use Rattle.annex.specs.declared.Alphabet.TheVariants.{Decimal}
use Rattle.annex.specs.declared.CarrierRow.{CarrierRow}

-- ---- what a CC may say

-- a dependent entry: of a code its digits, first digit first, else the octets that it carries
pub record Dependent : Type 0 where
  pub tag : ℕ
  pub values : List ℕ

-- a carrier entry
pub record Carrier : Type 0 where
  pub tag : ℕ
  pub dependents : List Dependent

pub record OpenedCarriers : Type 0 where
  pub direction : ℕ
  pub entries : List Carrier

-- a tag of its level; digits 0 to 9
abbrev pub dependent_right : Dependent → Bool
dependent_right d = is_tag lowest_dependent d.tag && cond (holds_code d.tag) (every (is_digit_in Decimal) d.values) true

abbrev pub carrier_right : Carrier → Bool
carrier_right e = is_tag lowest_carrier e.tag && every dependent_right e.dependents

-- a direction of two bits
unfoldable pub carriers_right : OpenedCarriers → Bool
carriers_right c = leb c.direction most_direction && every carrier_right c.entries

-- ---- laid out

-- at either level: the tag, how many octets it holds, and these
abbrev pub lay_entry : ℕ → List ℕ → List ℕ
lay_entry t s = t ∷ length s ∷ s

-- a code: the odd mark comes of the digits
unfoldable pub code_octets : List ℕ → List ℕ
code_octets ds = odd_count * (length ds % 2) ∷ packed Decimal ds

abbrev pub dependent_octets : Dependent → List ℕ
dependent_octets d = cond (holds_code d.tag) (code_octets d.values) d.values

abbrev pub lay_dependent : Dependent → List ℕ
lay_dependent d = lay_entry d.tag (dependent_octets d)

abbrev pub lay_carrier : Carrier → List ℕ
lay_carrier e = lay_entry e.tag (lay_all lay_dependent e.dependents)

unfoldable pub lay_carriers : OpenedCarriers → List ℕ
lay_carriers c = c.direction ∷ lay_all lay_carrier c.entries

-- ---- contents opened

abbrev pub open_dependent : Par → Dependent
open_dependent q = record { tag = q.head; values = cond (holds_code q.head) (code_digits (inside_of q)) (inside_of q) }

abbrev pub open_carrier : Par → Carrier
open_carrier q = record { tag = q.head; dependents = map open_dependent (dependents_in q) }

-- what contents say
unfoldable pub opened_carriers : List ℕ → OpenedCarriers
opened_carriers s = record { direction = get_or s 0 0; entries = map open_carrier (carriers_in s) }

-- ---- the entries in their order

-- with their level: 0 the direction, 1 a carrier entry, 2 a dependent entry
pub record Entry : Type 0 where
  pub level : ℕ
  pub par : Par

abbrev pub entry : ℕ → Par → Entry
entry level q = record { level = level; par = q }

-- the direction octet, as an entry without anything behind its tag; and what is read where there is no entry
abbrev pub direction_entry : ℕ → Entry
direction_entry d = entry 0 (record { place = 0; head = d; own = [] })

abbrev pub no_entry : Entry
no_entry = direction_entry 0

-- a carrier entry before those in it
unfoldable pub flat_entries : List Par → List Entry
flat_entries [] = []
flat_entries (q ∷ qs) = entry 1 q ∷ (map (entry 2) (dependents_in q) ++ flat_entries qs)

-- those of contents
unfoldable pub entries_of : List ℕ → List Entry
entries_of s = direction_entry (get_or s 0 0) ∷ flat_entries (carriers_in s)

-- one that holds a code, and its digits
abbrev pub is_code_entry : Entry → Bool
is_code_entry e = eqb e.level 2 && holds_code e.par.head

abbrev pub digits_in : Entry → List ℕ
digits_in e = code_digits (inside_of e.par)

-- the row of an entry of contents that start at the place p of a message
abbrev pub entry_row : ℕ → Entry → CarrierRow
entry_row p e =
    record {
      level = e.level;
      tag = e.par.head;
      offset = p + e.par.place;
      len = length (inside_of e.par);
      digits = cond (is_code_entry e) (length (digits_in e)) 0;
    }

-- ---- of a message

-- where the contents stand of the CC with the number `which`, counted from 0
abbrev pub carriers_found : ℕ → List ℕ → Found
carriers_found which m = transfer_found (name_of carriers) which m

-- its entries, and their rows
abbrev pub entries_found : ℕ → List ℕ → List Entry
entries_found which m = entries_of (find_part m (carriers_found which m))

unfoldable pub carrier_rows_of : ℕ → List ℕ → List CarrierRow
carrier_rows_of which m = map (entry_row (start_of (carriers_found which m))) (entries_found which m)

-- the most of them: of the 255 octets of transfer data three are CC's header, length octet and direction, and no entry has fewer than two
abbrev pub most_carrier_rows : ℕ
most_carrier_rows = 1 + 252 / 2

-- and the most digits of a code: of the 253 octets of contents six are the direction, two tags, two length octets and the code's first
-- octet
abbrev pub most_carrier_digits : ℕ
most_carrier_digits = 2 * 247

-- the row count, or number and place
unfoldable pub carriers_answer : List ℕ → ℕ → ℕ → Answer
carriers_answer m which room =
    and_then (find_answer m (carriers_found which m))
    (λ _. refuse (ltb room (length (carrier_rows_of which m))) no_room 0 (Accepted (length (carrier_rows_of which m))))

-- the entry in row number `row`, counted from 0
abbrev pub entry_found : ℕ → ℕ → List ℕ → Entry
entry_found which row m = get_or (entries_found which m) row no_entry

-- how many digits the code of an entry has: 16 where it has none, then 15
abbrev pub code_answer : Entry → ℕ → Answer
code_answer e room =
    refuse (not (is_code_entry e)) absent 0
    (refuse (ltb room (length (digits_in e))) no_room 0
    (Accepted (length (digits_in e))))

-- of the code in that row, or number and place: 16 also where there is no such row
unfoldable pub digits_answer : List ℕ → ℕ → ℕ → ℕ → Answer
digits_answer m which row room =
    and_then (find_answer m (carriers_found which m)) (λ _. code_answer (entry_found which row m) room)

-- what the room then holds: the digits at its front, one an octet, octets past them as before; unchanged where refused
unfoldable pub digits_given : List ℕ → ℕ → ℕ → List ℕ → List ℕ
digits_given m which row room =
    room_after (digits_answer m which row (length room)) (digits_in (entry_found which row m)) room
