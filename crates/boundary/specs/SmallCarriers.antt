-- The places, counts and rows that the functions about carriers tell are below 2^16; and with room for the most rows
-- or digits it is never 15.
use Rattle.std.specs.Prelude.{ℕ, ◌*◌, ◌/◌, ◌≤◌, ◌≡◌, refl, Bool, true, false, not, List, ltb, length, Err}
use Rattle.std.proofs.Common.{arith}
use Rattle.std.proofs.lemmas.List.{length-map}
use Rattle.annex.specs.Allowed.{every, is_octet}
use Rattle.annex.specs.Answers.{number_of, no_room, absent, refuse, and_then, Answer, Accepted, Refused}
use Rattle.annex.specs.Finding.{find_answer, find_part}
use Rattle.annex.specs.Heads.{carriers}
use Rattle.annex.specs.Packed.{packed_answer, octets_to_a_carrier_row, octet_carriers}
use Rattle.annex.specs.Promises.{TkCarriersPromise, TkCarrierDigitsPromise}
use Rattle.annex.specs.Transit.{
  Entry,
  is_code_entry,
  digits_in,
  most_carrier_rows,
  most_carrier_digits,
  carriers_found,
  carrier_rows_of,
  carriers_answer,
  entry_found,
  digits_answer,
}
use Rattle.annex.specs.Units.{name_of}
use Rattle.annex.specs.declared.Key.TheVariants.{Name}
use Rattle.laws.specs.Entries.{code_few, entries_of_few}
use Rattle.theorems.specs.Carried.{carriers_roomy, digits_roomy}
use Rattle.boundary.specs.Small.{Upto, farthest, upto_refuse, upto_then, find_upto, told_upto}

-- ---- rows

pub carriers_upto : (m : List ℕ) (which room : ℕ) → Upto farthest (octet_carriers m which room)
unfolding carriers_answer carrier_rows_of
carriers_upto m which room =
    let k = Name (name_of carriers) which in
    let n = length (carrier_rows_of which m) in
    told_upto m k (ltb (room / octets_to_a_carrier_row) n) n
    (simp length-map (omega (arith, (find_upto m k).1, entries_of_few (find_part m (carriers_found which m)))))

-- with room for 127 rows the table is refused for what is wrong with the message alone, or for want of that CC, never for want of room
pub carriers_number : (m : List ℕ) → every is_octet m ≡ true → (which : ℕ) (table : List ℕ)
    → octets_to_a_carrier_row * most_carrier_rows ≤ length table → (r : ℕ) (now : List ℕ) → TkCarriersPromise m which table r now
    → r / 4294967296 ≡ number_of (find_answer m (carriers_found which m))
carriers_number m o which table l r now p =
    rw (p.0, carriers_roomy m o which (length table / octets_to_a_carrier_row) (omega arith)) (go (find_answer m (carriers_found which m)))
  where
    go : (a : Answer) → packed_answer (and_then a (λ _. Accepted (length (carrier_rows_of which m)))) / 4294967296 ≡ number_of a
    go (Accepted n) = omega arith
    go (Err r) = omega arith

-- ---- digits

-- two digits to an octet
abbrev most_told : ℕ
most_told = 2 * farthest

pub digits_upto : (m : List ℕ) (which row room : ℕ) → Upto most_told (digits_answer m which row room)
unfolding digits_answer
digits_upto m which row room =
    upto_then (find_answer m (carriers_found which m)) _ farthest most_told (omega arith) told.0
    (λ q _. by (is_code_entry e) (λ t. omega (arith, told.1, code_few (find_part m (carriers_found which m)) row t)))
  where
    e : Entry
    e = entry_found which row m

    n : ℕ
    n = length (digits_in e)

    told : Upto farthest (find_answer m (carriers_found which m)) × (length (find_part m (carriers_found which m)) ≤ farthest)
    told = find_upto m (Name (name_of carriers) which)

    by : (b : Bool) → (b ≡ true → n ≤ most_told) → Upto most_told (refuse (not b) absent 0 (refuse (ltb room n) no_room 0 (Accepted n)))
    by true f = upto_refuse (ltb room n) no_room 0 most_told (Accepted n) (omega arith) (omega arith, f refl)
    by false f = (omega arith, omega arith)

-- with room for 494 digits they are refused for what is wrong with the message alone, or for want of that CC or of a code in that row
pub digits_number : (m : List ℕ) → every is_octet m ≡ true → (which row : ℕ) (room : List ℕ) → most_carrier_digits ≤ length room
    → (r : ℕ) (now : List ℕ) → TkCarrierDigitsPromise m which row room r now
    → r / 4294967296
    ≡ number_of
    (and_then (find_answer m (carriers_found which m)) (λ _. refuse (not (is_code_entry (entry_found which row m))) absent 0 (Accepted 0)))
digits_number m o which row room l r now p =
    rw (p.0, digits_roomy m o which row (length room) l) (go (find_answer m (carriers_found which m)) (is_code_entry (entry_found which row m)))
  where
    n : ℕ
    n = length (digits_in (entry_found which row m))

    go : (a : Answer) (b : Bool) → packed_answer (and_then a (λ _. refuse (not b) absent 0 (Accepted n))) / 4294967296
        ≡ number_of (and_then a (λ _. refuse (not b) absent 0 (Accepted 0)))
    go (Accepted k) true = omega arith
    go (Accepted k) false = omega arith
    go (Err r) b = omega arith
