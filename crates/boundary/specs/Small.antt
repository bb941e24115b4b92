-- Places and values are below 2^16 in every answer that is packed, so that nothing of it is lost: packed, its number, place and value can
-- be told again.
use Rattle.std.specs.Prelude.{ℕ, ◌+◌, ◌-◌, ◌/◌, ◌%◌, ◌≤◌, ◌<◌, ◌≡◌, refl, Bool, true, false, cond, List, [], ◌∷◌, eqb, ltb, length, take, drop, Err}
use Rattle.std.proofs.Common.{arith, length-take, length-drop}
use Rattle.annex.specs.Answers.{
  bad_form,
  no_room,
  start_of,
  number_of,
  place_of,
  given_of,
  refuse,
  and_then,
  class_value_of,
  class_given_of,
  Answer,
  Accepted,
  Refused,
  ChargingAnswer,
  Is,
  Found,
  At,
  Nowhere,
  ClassAnswer,
}
use Rattle.annex.specs.Units.{name_of}
use Rattle.annex.specs.Heads.{clear, charging_information, connection_order, most_octets, zeroes_of}
use Rattle.annex.specs.Contents.{fault_of}
use Rattle.annex.specs.Allowed.{every, is_octet}
use Rattle.annex.specs.Reading.{verdict_of, record_of}
use Rattle.annex.specs.Opened.{order_found, order_rows_of, order_answer}
use Rattle.annex.specs.Packed.{one_number, packed_answer, octets_to_a_row, octet_spans, octet_order}
use Rattle.annex.specs.Finding.{found_answer, found_part, find_answer, find_part, found_by}
use Rattle.annex.specs.Spans.{rows_of, spans_by}
use Rattle.annex.specs.Editing.{Edit, editing_of}
use Rattle.annex.specs.Charging.{charging_found, charging_by, charging_of, charging_octets, octet_charging_by, octet_charging}
use Rattle.annex.specs.Classes.{ClassList, class_lists, class_by, class_in, class_of}
use Rattle.annex.specs.declared.Key.{Key}
use Rattle.annex.specs.declared.Key.TheVariants.{Name}
use Rattle.annex.specs.declared.Class.{Class}
use Rattle.annex.specs.declared.Class.TheVariants.{Named, HeldBack, Spare}
use Rattle.laws.specs.Few.{rows_few, order_few}
use Rattle.laws.specs.Offsets.{fault_within}
use Rattle.laws.specs.Steps.{PlaceTo, refuse_place, then_place, place_told, place_up, verdict_place}
use Rattle.laws.specs.Places.{record_place}
use Rattle.annex.specs.Walking.{plain_by}
use Rattle.laws.specs.Finding.{Inside, plain_inside, plain_found}
use Rattle.theorems.specs.Messages.{message_read}
use Rattle.theorems.specs.Layouts.{laid_then_read}
use Rattle.theorems.specs.Edits.{OfOctets, edited_allowed}

-- ---- what is packed

-- neither the place nor the count is over n
abbrev pub Upto : ℕ → Answer → Type 0
Upto n a = (place_of a ≤ n) × (given_of a ≤ n)

pub parts_back : (k p v : ℕ) → p < 65536 → v < 65536
    → (one_number k p v / 4294967296 ≡ k) × (one_number k p v / 65536 % 65536 ≡ p) × (one_number k p v % 65536 ≡ v)
parts_back k p v h l = (omega arith, omega arith, omega arith)

pub answer_back : (a : Answer) → Upto 65535 a
    → (packed_answer a / 4294967296 ≡ number_of a) × (packed_answer a / 65536 % 65536 ≡ place_of a) × (packed_answer a % 65536 ≡ given_of a)
answer_back (Accepted n) u = parts_back 0 0 n (omega arith) (omega (arith, u.1))
answer_back (Err r) u = parts_back r.0 r.1 0 (omega (arith, u.0)) (omega arith)

-- ---- refusals in their order

pub upto_more : (a : Answer) (k n : ℕ) → k ≤ n → Upto k a → Upto n a
upto_more a k n h u = (omega (arith, u.0), omega (arith, u.1))

pub upto_refuse : (b : Bool) (k p n : ℕ) (a : Answer) → p ≤ n → Upto n a → Upto n (refuse b k p a)
upto_refuse true k p n a h u = (h, omega arith)
upto_refuse false k p n a h u = u

pub upto_then : (a : Answer) (f : ℕ → Answer) (k n : ℕ) → k ≤ n → Upto k a → ((q : ℕ) → q ≤ k → Upto n (f q)) → Upto n (and_then a f)
upto_then (Accepted q) f k n h u g = g q u.1
upto_then (Err r) f k n h u g = (omega (arith, u.0), omega arith)

-- ---- reading

-- as far behind the last octet as a place can be told
abbrev pub farthest : ℕ
farthest = most_octets + 2

-- neither the place nor the length that a verdict tells is over it
pub verdict_upto : (m : List ℕ) → Upto farthest (verdict_of m)
verdict_upto m = (place_told farthest (verdict_of m) (verdict_place fault_of fault_within m), go (verdict_of m) refl)
  where
    go : (a : Answer) → verdict_of m ≡ a → given_of a ≤ farthest
    go (Accepted n) e = omega (arith, (message_read m n e).length-given, (message_read m n e).few)
    go (Err r) e = omega arith

-- ---- rows

pub rows_upto : (m : List ℕ) (room : ℕ) → Upto farthest (octet_spans m room)
unfolding spans_by
rows_upto m room =
    let given = Accepted (length (rows_of m)) in
    let full = ltb (room / octets_to_a_row) (length (rows_of m)) in
    upto_then (verdict_of m) (λ _. refuse full no_room 0 given) farthest farthest (omega arith) (verdict_upto m)
    (λ q _. upto_refuse full no_room 0 farthest given (omega arith) (omega arith, omega (arith, rows_few m)))

-- ---- finding

-- where the contents start, and how many octets they have
module _ (m : List ℕ) where
  found_upto : (f : Found) → Inside (length m) f → (length m ≤ most_octets)
      → Upto most_octets (found_answer f) × (length (found_part m f) ≤ most_octets)
  found_upto (At s e) i l =
      let w = i.at s e refl in
      ((omega arith, omega arith), omega (arith, length-take (e - s) (drop s m), length-drop s m))
  found_upto Nowhere i l = ((omega arith, omega arith), omega arith)

  abbrev Told : Found → Type 0
  Told f = Upto farthest (find_answer m f) × (length (find_part m f) ≤ farthest)

  told_by_lem : (f g : Found) → ((n : ℕ) → verdict_of m ≡ Accepted n → f ≡ g) → Inside (length m) g → Told f
  told_by_lem f g same i = go (verdict_of m) refl (verdict_upto m)
    where
      go : (a : Answer) → verdict_of m ≡ a → Upto farthest a → Told f
      go (Accepted n) e u =
          let w = found_upto g i (message_read m n e).few in
          rw (e, same n e) ((omega (arith, w.0.0), omega (arith, w.0.1)), omega (arith, w.1))
      go (Err r) e u = rw e ((u.0, omega arith), omega arith)

  pub find_upto : (k : Key) → Told (found_by k m)
  find_upto k = told_by_lem (found_by k m) (plain_by k m) (plain_found k m) (plain_inside k m)

-- what is told of a parameter that was found: so many, where the room holds them
pub told_upto : (m : List ℕ) (k : Key) (full : Bool) (n : ℕ) → n ≤ farthest
    → Upto farthest (and_then (find_answer m (found_by k m)) (λ _. refuse full no_room 0 (Accepted n)))
told_upto m k full n few =
    upto_then (find_answer m (found_by k m)) (λ _. refuse full no_room 0 (Accepted n)) farthest farthest (omega arith) (find_upto m k).0
    (λ q _. upto_refuse full no_room 0 farthest (Accepted n) (omega arith) (omega arith, few))

-- ---- charging information

octets_upto : (a : ChargingAnswer) (room : ℕ) → place_of a ≤ farthest → Upto farthest (octet_charging_by a room)
octets_upto (Is c) room h =
    let given = Accepted charging_octets in
    upto_refuse (ltb room charging_octets) no_room 0 farthest given (omega arith) (omega arith, omega arith)
octets_upto (Err r) room h = (h, omega arith)

pub charging_upto : (m : List ℕ) (room : ℕ) → Upto farthest (octet_charging m room)
unfolding octet_charging charging_of
charging_upto m room =
    octets_upto (charging_of m) room (go (find_answer m (charging_found m)) (find_upto m (Name (name_of charging_information) 0)).0)
  where
    go : (a : Answer) → Upto farthest a → place_of (charging_by a (find_part m (charging_found m))) ≤ farthest
    go (Accepted n) u = omega arith
    go (Err r) u = u.0

-- ---- the rows of a connection order

pub order_upto : (m : List ℕ) (room : ℕ) → Upto farthest (octet_order m room)
unfolding order_answer order_rows_of
order_upto m room =
    let k = Name (name_of connection_order) 0 in
    let n = length (order_rows_of m) in
    told_upto m k (ltb (room / octets_to_a_row) n) n
    (omega (arith, (find_upto m k).1, order_few (start_of (order_found m)) (find_part m (order_found m))))

-- ---- editing

editing_place : (e : Edit) (d : List ℕ) (n : ℕ) → PlaceTo farthest (editing_of e d n)
unfolding editing_of
editing_place e d n =
    let m = take n d in
    refuse_place farthest (ltb (length d) n) no_room 0 _ (omega arith)
    (then_place farthest (verdict_of m) _ (verdict_place fault_of fault_within m)
    (λ q. place_up 0 farthest _ (omega arith) (record_place e (record_of m) (length d))))

-- the message so edited is that of an allowed record
pub editing_upto : (e : Edit) (d : List ℕ) (n : ℕ) → every is_octet d ≡ true → OfOctets e → Upto farthest (editing_of e d n)
editing_upto e d n o w = (place_told farthest (editing_of e d n) (editing_place e d n), go (editing_of e d n) refl)
  where
    go : (a : Answer) → editing_of e d n ≡ a → given_of (editing_of e d n) ≤ farthest
    go (Accepted k) f =
        let t = edited_allowed e d n k o w f in
        rw f (omega (arith, t.1, (laid_then_read _ t.0).3))
    go (Err r) f = rw f (omega arith)

-- ---- classes

class_value : (c : Class) → class_value_of c ≤ 2
class_value Named = omega arith
class_value HeldBack = omega arith
class_value Spare = omega arith

abbrev Few : ClassAnswer → Type 0
Few a = (place_of a ≡ 0) × (class_given_of a ≤ 2)

pub class_few : (h x : ℕ) → Few (class_of h x)
unfolding class_of
class_few h x = among_few class_lists
  where
    one : (b c : Bool) (k : Class) (rest : ClassAnswer) → Few rest → Few (cond b (cond c (Is k) (Refused bad_form 0)) rest)
    one true true k rest u = (refl, class_value k)
    one true false k rest u = (refl, omega arith)
    one false c k rest u = u

    among_few : (ls : List ClassList) → Few (class_in ls h x)
    among_few [] = (refl, omega arith)
    among_few (l ∷ ls) = one (eqb h l.header) (clear (zeroes_of h) x) (class_by l x) (class_in ls h x) (among_few ls)
