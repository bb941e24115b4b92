-- The charging information of a message, beside its record: document 02, request a. Reading's numbers, then 16 where there is no F7, or
-- what F7 says; and the same as octets for Rust and C.
use Rattle.std.specs.Prelude.{ℕ, List, [], ◌∷◌, ◌++◌, map, ltb, length, Err}
use Rattle.annex.specs.Answers.{no_room, refuse, room_after, Answer, Accepted, ChargingAnswer, Is, Found}
use Rattle.annex.specs.Units.{name_of}
use Rattle.annex.specs.Heads.{charging_information}
use Rattle.annex.specs.Rates.{fields, charges_of, value_of}
use Rattle.annex.specs.Finding.{transfer_found, find_answer, find_part}
use Rattle.annex.specs.Image.{two_octets}
use Rattle.annex.specs.declared.Charges.{Charges}

-- ---- the answer

-- where F7's contents stand
abbrev pub charging_found : List ℕ → Found
charging_found m = transfer_found (name_of charging_information) 0 m

-- what contents say that were found, or why they were not
abbrev pub charging_by : Answer → List ℕ → ChargingAnswer
charging_by (Accepted n) s = Is (charges_of s)
charging_by (Err r) s = Err r

-- of a message
unfoldable pub charging_of : List ℕ → ChargingAnswer
charging_of m = charging_by (find_answer m (charging_found m)) (find_part m (charging_found m))

-- ---- its numbers

-- the numbers that an answer gives, none where refused
-- the fields in their order
abbrev pub field_numbers : Charges → List ℕ
field_numbers c = map (λ f. value_of f c) fields

abbrev pub charging_given_of : ChargingAnswer → List ℕ
charging_given_of (Is c) = c.kind ∷ field_numbers c
charging_given_of (Err r) = []

-- ---- for Rust and C

-- the octets that are given
abbrev pub charging_octets : ℕ
charging_octets = 23

-- each number in two octets
abbrev pub all_in_two : List ℕ → List ℕ
all_in_two [] = []
all_in_two (n ∷ ns) = two_octets n ++ all_in_two ns

-- the kind in one octet, and each field in two, the least first
abbrev pub charge_octets : Charges → List ℕ
charge_octets c = c.kind ∷ all_in_two (field_numbers c)

-- how many octets are given, or number and place: 15 where the room is shorter comes last
abbrev pub octet_charging_by : ChargingAnswer → ℕ → Answer
octet_charging_by (Is c) room = refuse (ltb room charging_octets) no_room 0 (Accepted charging_octets)
octet_charging_by (Err r) room = Err r

-- the octets, and none where refused
abbrev pub charge_octets_by : ChargingAnswer → List ℕ
charge_octets_by (Is c) = charge_octets c
charge_octets_by (Err r) = []

-- of a message, for a room of so many octets
unfoldable pub octet_charging : List ℕ → ℕ → Answer
octet_charging m room = octet_charging_by (charging_of m) room

-- what the room then holds: the octets at its front, and behind them what was there; unchanged where refused
unfoldable pub octet_charged : List ℕ → List ℕ → List ℕ
octet_charged m room = room_after (octet_charging m (length room)) (charge_octets_by (charging_of m)) room
