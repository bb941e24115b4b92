-- The three demands. Each is one statement, `Demand1` to `Demand3`, about what the functions promise (annex: Promises), and so about every
-- program that keeps the promises, ours among them; `demand-1` to `demand-3`, in the file Proved, prove them.
--
-- A function answers `r`; `now` is what it leaves in the memory it was lent. A slice of octets is a list of numbers, each below 256
-- (`Octetwise`), and a struct has arrays of their lengths, with numbers that fit their fields (`FitsStruct`): that is what the types say.
use Rattle.std.specs.Prelude.{ℕ, ◌+◌, ◌*◌, ◌/◌, ◌%◌, ◌≤◌, ◌<◌, ◌≡◌, Bool, true, false, List, [], ◌∷◌, ◌++◌, ◌↔◌, length, get_or, take, drop}
use Rattle.annex.specs.Answers.{bad_digit, absent, outside_profile, number_of, Answer, Accepted, Refused, ChargingAnswer, Is, ClassAnswer, Sound}
use Rattle.annex.specs.Units.{name_of}
use Rattle.annex.specs.Heads.{among, end_mark, sequence, sequence_number, charging_information, connection_order, carriers}
use Rattle.annex.specs.Rates.{charges_of, charged_contents, Chargeable}
use Rattle.annex.specs.Orders.{OpenedOrder, lay_order, order_right}
use Rattle.annex.specs.Contents.{fault_of}
use Rattle.annex.specs.Items.{Item, Part, contents_of}
use Rattle.annex.specs.Layout.{layout}
use Rattle.annex.specs.Allowed.{every, times_in, is_octet, items_in, names_of, Allowed, Writable, headers_of}
use Rattle.annex.specs.Records.{pack, is_whole, view}
use Rattle.annex.specs.Finding.{common_found, transfer_found, find_answer}
use Rattle.annex.specs.Editing.{Edit, edited, editing_of}
use Rattle.annex.specs.Classes.{class_of}
use Rattle.annex.specs.Charging.{octet_charging}
use Rattle.annex.specs.Profile.{OfPairs, adjacent_network, added_class, InProfile, network_value, profile_of, classes_answer}
use Rattle.annex.specs.Transit.{OpenedCarriers, lay_carriers, carriers_right, most_carrier_rows, digits_answer}
use Rattle.annex.specs.Packed.{
  image_reading,
  image_writing,
  profile_image_reading,
  profile_image_writing,
  octet_spans,
  octet_order,
  octet_carriers,
  octets_to_a_carrier_row,
  carrier_rows_octets,
}
use Rattle.annex.specs.BadHalves.{ShownAt}
use Rattle.annex.specs.Walking.{no_row}
use Rattle.annex.specs.Opened.{form_row}
use Rattle.annex.specs.Opening.{has_room, values_with}
use Rattle.annex.specs.Promises.{
  ReadPromise,
  FindCommonPromise,
  FindCommonAnswerPromise,
  FindTransferPromise,
  FindTransferAnswerPromise,
  SpansPromise,
  OctetSpansPromise,
  OrderCheckPromise,
  OrderPromise,
  OctetOrderPromise,
  WritePromise,
  EditPromise,
  OctetChargingPromise,
  CarriersPromise,
  CarrierDigitsPromise,
  ProfileVerdictPromise,
  ProfileReadPromise,
  ProfileWritePromise,
  ProfileImageReadPromise,
  ProfileImageWritePromise,
  ClassesPromise,
  ImageReadPromise,
  ImageWritePromise,
  TkReadPromise,
  TkWritePromise,
  TkRowsPromise,
  TkFindCommonPromise,
  TkFindTransferPromise,
  TkClassPromise,
  TkChargingPromise,
  TkOrderPromise,
  TkCarriersPromise,
  TkCarrierDigitsPromise,
  TkProfileReadPromise,
  TkProfileWritePromise,
  TkClassesPromise,
  TkEditPromise,
  Gives,
  Stores,
  VerdictPromise,
  SpansCheckPromise,
  RecordRefusalPromise,
  FromImagePromise,
  ClassPromise,
  ChargingPromise,
}
use Rattle.annex.specs.declared.Charges.{Charges}
use Rattle.annex.specs.declared.Profile.{Profile}
use Rattle.annex.specs.declared.ProfileReading.{ProfileReading}
use Rattle.annex.specs.declared.Reading.{Reading}
use Rattle.annex.specs.declared.Record.{Record}
use Rattle.annex.specs.declared.Row.{Row}
use Rattle.laws.specs.Members.{sum_of}
use Rattle.theorems.specs.Views.{FitsStruct}
use Rattle.theorems.specs.Reasons.{NoReason}
use Rattle.theorems.specs.Edits.{OfOctets}
use Rattle.theorems.specs.InPlace.{InPlace}
use Rattle.theorems.specs.Listings.{part_contents, part_rows}
use Rattle.theorems.specs.Ordered.{told_rows, octets_told, stretches_of, Following}
use Rattle.theorems.specs.Carried.{told_carrier_rows, told_codes, no_carrier_row, is_code_row}
use Rattle.tight.specs.Told.{HasNumber, ClassHasNumber, ChargingHasNumber}

abbrev pub Octetwise : List ℕ → Type 0
Octetwise m = every is_octet m ≡ true

abbrev pub IsAccepted : Answer → Type 0
IsAccepted a = (n : ℕ) × (a ≡ Accepted n)

abbrev pub IsGiven : ChargingAnswer → Type 0
IsGiven a = (c : Charges) × (a ≡ Is c)

-- ---- Demand 1

-- The software ends and does nothing undefined on whatever octets, records or lent memory it is handed: a public function has no
-- `requires`, and that it keeps its promise is proved for all inputs. No call relies on an earlier check by the caller: a promise speaks of
-- what that call was handed and of nothing else. Each refusal has a number and a place, fixed by the definition that the promise cites: no
-- other answer keeps it, and the number is not 0, which stands for accepted. And a refusal leaves lent memory as it was:

-- where the answer refuses
abbrev pub Kept : {A : Type 0} → Answer → List A → List A → Type 0
Kept r before now = (k p : ℕ) → r ≡ Refused k p → now ≡ before

-- what is asked of a function that answers: one answer keeps its promise, and where it refuses, it has a number
pub record Answering (P : Answer → Type 0) : Type 0 where
  pub fixed : (r s : Answer) → P r → P s → r ≡ s
  pub numbered : (r : Answer) → P r → HasNumber r

-- of one that is lent memory too: one answer and one content of it, and what it was lent stays where it refuses
pub record Lending {A : Type 0} (before : List A) (P : Answer → List A → Type 0) : Type 0 where
  pub fixed : (r s : Answer) (now then : List A) → P r now → P s then → (r ≡ s) × (now ≡ then)
  pub numbered : (r : Answer) (now : List A) → P r now → HasNumber r
  pub kept : (r : Answer) (now : List A) → P r now → Kept r before now

-- the number in an answer packed for Rust and C, 0 where it accepts
abbrev pub packed_number : ℕ → ℕ
packed_number r = r / 4294967296

-- and its place
abbrev pub packed_place : ℕ → ℕ
packed_place r = r / 65536 % 65536

-- of a function for Rust and C, whose number is that of an answer
pub record PackedAnswering (number : ℕ) (P : ℕ → Type 0) : Type 0 where
  pub fixed : (r s : ℕ) → P r → P s → r ≡ s
  pub told : (r : ℕ) → P r → packed_number r ≡ number

pub record PackedLending (before : List ℕ) (d : Answer) (P : ℕ → List ℕ → Type 0) : Type 0 where
  pub fixed : (r s : ℕ) (now then : List ℕ) → P r now → P s then → (r ≡ s) × (now ≡ then)
  pub told : (r : ℕ) (now : List ℕ) → P r now → packed_number r ≡ number_of d
  pub numbered : HasNumber d
  pub kept : (r : ℕ) (now : List ℕ) → P r now → 0 < packed_number r → now ≡ before

-- And the place of a 13 shows the first bad octet of the message (document 02, request e), whichever function reads it; there is one such
-- place at most. Of its own new parameter an edit tells the place 0.
pub record Showing (m : List ℕ) : Type 0 where
  pub one_place : (p q : ℕ) → ShownAt m p → ShownAt m q → p ≡ q
  pub verdict : (p : ℕ) → VerdictPromise m (Refused bad_digit p) → ShownAt m p
  pub read : (q : Record) (p : ℕ) → ReadPromise m (record { answer = Refused bad_digit p; «record» = q }) → ShownAt m p
  pub find_common : (h p : ℕ) → FindCommonAnswerPromise m h (Refused bad_digit p) → ShownAt m p
  pub find_transfer : (x which p : ℕ) → FindTransferAnswerPromise m x which (Refused bad_digit p) → ShownAt m p
  pub check : (room p : ℕ) → SpansCheckPromise m room (Refused bad_digit p) → ShownAt m p
  pub check_order : (room p : ℕ) → OrderCheckPromise m room (Refused bad_digit p) → ShownAt m p
  pub charging : (p : ℕ) → ChargingPromise m (Refused bad_digit p) → ShownAt m p
  pub profile_verdict : (p : ℕ) → ProfileVerdictPromise m (Refused bad_digit p) → ShownAt m p
  pub profile_read : (q : Record) (t : Profile) (p : ℕ)
      → ProfileReadPromise m (record { answer = Refused bad_digit p; «record» = q; profile = t }) → ShownAt m p
  pub spans : (table now : List Row) (p : ℕ) → SpansPromise m table (Refused bad_digit p) now → ShownAt m p
  pub octet_spans_holds : (table now : List ℕ) (p : ℕ) → OctetSpansPromise m table (Refused bad_digit p) now → ShownAt m p
  pub order : (table now : List Row) (p : ℕ) → OrderPromise m table (Refused bad_digit p) now → ShownAt m p
  pub octet_order_holds : (table now : List ℕ) (p : ℕ) → OctetOrderPromise m table (Refused bad_digit p) now → ShownAt m p
  pub octet_charging_holds : (room now : List ℕ) (p : ℕ) → OctetChargingPromise m room (Refused bad_digit p) now → ShownAt m p
  pub carriers : (which : ℕ) (table now : List ℕ) (p : ℕ) → CarriersPromise m which table (Refused bad_digit p) now → ShownAt m p
  pub carrier_digits : (which row : ℕ) (room now : List ℕ) (p : ℕ) → CarrierDigitsPromise m which row room (Refused bad_digit p) now
      → ShownAt m p
  pub read_image : (room now : List ℕ) (p : ℕ) → ImageReadPromise m room (Refused bad_digit p) now → ShownAt m p
  pub profile_read_image : (room now : List ℕ) (p : ℕ) → ProfileImageReadPromise m room (Refused bad_digit p) now → ShownAt m p
  pub added_classes : (room now : List ℕ) (p : ℕ) → ClassesPromise m room (Refused bad_digit p) now → ShownAt m p
  pub edit : (e : Edit) (d : List ℕ) (n : ℕ) → take n d ≡ m → (p : ℕ) (now : List ℕ) → EditPromise e d n (Refused bad_digit p) now
      → (v : Answer) → VerdictPromise m v → (IsAccepted v → p ≡ 0) × ((k q : ℕ) → v ≡ Refused k q → ShownAt m p)
  pub tk_read : (room : List ℕ) (r : ℕ) (now : List ℕ) → TkReadPromise m room r now → packed_number r ≡ bad_digit → ShownAt m (packed_place r)
  pub tk_rows : (table : List ℕ) (r : ℕ) (now : List ℕ) → TkRowsPromise m table r now → packed_number r ≡ bad_digit
      → ShownAt m (packed_place r)
  pub tk_find_common : (h r : ℕ) → TkFindCommonPromise m h r → packed_number r ≡ bad_digit → ShownAt m (packed_place r)
  pub tk_find_transfer : (x which r : ℕ) → TkFindTransferPromise m x which r → packed_number r ≡ bad_digit → ShownAt m (packed_place r)
  pub tk_charging : (room : List ℕ) (r : ℕ) (now : List ℕ) → TkChargingPromise m room r now → packed_number r ≡ bad_digit
      → ShownAt m (packed_place r)
  pub tk_order : (table : List ℕ) (r : ℕ) (now : List ℕ) → TkOrderPromise m table r now → packed_number r ≡ bad_digit
      → ShownAt m (packed_place r)
  pub tk_carriers : (which : ℕ) (table : List ℕ) (r : ℕ) (now : List ℕ) → TkCarriersPromise m which table r now
      → packed_number r ≡ bad_digit → ShownAt m (packed_place r)
  pub tk_carrier_digits : (which row : ℕ) (room : List ℕ) (r : ℕ) (now : List ℕ) → TkCarrierDigitsPromise m which row room r now
      → packed_number r ≡ bad_digit → ShownAt m (packed_place r)
  pub tk_profile_read : (room : List ℕ) (r : ℕ) (now : List ℕ) → TkProfileReadPromise m room r now → packed_number r ≡ bad_digit
      → ShownAt m (packed_place r)
  pub tk_added_classes : (room : List ℕ) (r : ℕ) (now : List ℕ) → TkClassesPromise m room r now → packed_number r ≡ bad_digit
      → ShownAt m (packed_place r)
  pub tk_edit : (e : Edit) (d : List ℕ) (n : ℕ) → take n d ≡ m → (r : ℕ) (now : List ℕ) → TkEditPromise e d n r now
      → packed_number r ≡ bad_digit → (v : Answer) → VerdictPromise m v
      → (IsAccepted v → packed_place r ≡ 0) × ((k q : ℕ) → v ≡ Refused k q → ShownAt m (packed_place r))

pub record Demand1 : Type 0 where
  pub verdict : (m : List ℕ) → Answering (VerdictPromise m)
  pub read : (m : List ℕ) → Answering (λ a. (q : Record) × ReadPromise m (record { answer = a; «record» = q }))
  pub find_common : (m : List ℕ) (h : ℕ) → Answering (FindCommonAnswerPromise m h)
  pub find_transfer : (m : List ℕ) (x which : ℕ) → Answering (FindTransferAnswerPromise m x which)
  pub check : (m : List ℕ) (room : ℕ) → Answering (SpansCheckPromise m room)
  pub check_order : (m : List ℕ) (room : ℕ) → Answering (OrderCheckPromise m room)
  pub record_refusal : (q : Record) → Answering (RecordRefusalPromise q)
  pub from_image : (image : List ℕ) → Answering (λ a. (q : Record) × FromImagePromise image (record { answer = a; held = q }))
  pub class : (h x : ℕ) (r s : ClassAnswer) → ClassPromise h x r → ClassPromise h x s → ClassHasNumber r × (r ≡ s)
  pub charging : (m : List ℕ) (r s : ChargingAnswer) → ChargingPromise m r → ChargingPromise m s → ChargingHasNumber r × (r ≡ s)
  pub profile_verdict : (m : List ℕ) → Answering (ProfileVerdictPromise m)
  pub profile_read : (m : List ℕ)
      → Answering (λ a. (q : Record) × (t : Profile) × ProfileReadPromise m (record { answer = a; «record» = q; profile = t }))
  pub spans : (m : List ℕ) (table : List Row) → Lending table (SpansPromise m table)
  pub octet_spans_holds : (m table : List ℕ) → Lending table (OctetSpansPromise m table)
  pub order : (m : List ℕ) (table : List Row) → Lending table (OrderPromise m table)
  pub octet_order_holds : (m table : List ℕ) → Lending table (OctetOrderPromise m table)
  pub write : (q : Record) (room : List ℕ) → Lending room (WritePromise q room)
  pub edit : (e : Edit) (d : List ℕ) (n : ℕ) → Lending d (EditPromise e d n)
  pub octet_charging_holds : (m room : List ℕ) → Lending room (OctetChargingPromise m room)
  pub carriers : (m : List ℕ) (which : ℕ) (table : List ℕ) → Lending table (CarriersPromise m which table)
  pub carrier_digits : (m : List ℕ) (which row : ℕ) (room : List ℕ) → Lending room (CarrierDigitsPromise m which row room)
  pub read_image : (m room : List ℕ) → Lending room (ImageReadPromise m room)
  pub write_image : (image room : List ℕ) → Lending room (ImageWritePromise image room)
  pub profile_write : (q : Record) (room : List ℕ) → Lending room (ProfileWritePromise q room)
  pub profile_read_image : (m room : List ℕ) → Lending room (ProfileImageReadPromise m room)
  pub profile_write_image : (image room : List ℕ) → Lending room (ProfileImageWritePromise image room)
  pub added_classes : (m room : List ℕ) → Lending room (ClassesPromise m room)
  pub tk_read : (m room : List ℕ) → PackedLending room (image_reading m (length room)) (TkReadPromise m room)
  pub tk_write : (image room : List ℕ) → PackedLending room (image_writing image (length room)) (TkWritePromise image room)
  pub tk_rows : (m table : List ℕ) → PackedLending table (octet_spans m (length table)) (TkRowsPromise m table)
  pub tk_find_common : (m : List ℕ) (h : ℕ) → PackedAnswering (number_of (find_answer m (common_found h m))) (TkFindCommonPromise m h)
  pub tk_find_transfer : (m : List ℕ) (x which : ℕ)
      → PackedAnswering (number_of (find_answer m (transfer_found x which m))) (TkFindTransferPromise m x which)
  pub tk_class : (h x : ℕ) → PackedAnswering (number_of (class_of h x)) (TkClassPromise h x)
  pub tk_charging : (m room : List ℕ) → PackedLending room (octet_charging m (length room)) (TkChargingPromise m room)
  pub tk_order : (m table : List ℕ) → PackedLending table (octet_order m (length table)) (TkOrderPromise m table)
  pub tk_carriers : (m : List ℕ) (which : ℕ) (table : List ℕ)
      → PackedLending table (octet_carriers m which (length table)) (TkCarriersPromise m which table)
  pub tk_carrier_digits : (m : List ℕ) (which row : ℕ) (room : List ℕ)
      → PackedLending room (digits_answer m which row (length room)) (TkCarrierDigitsPromise m which row room)
  pub tk_profile_read : (m room : List ℕ) → PackedLending room (profile_image_reading m (length room)) (TkProfileReadPromise m room)
  pub tk_profile_write : (image room : List ℕ)
      → PackedLending room (profile_image_writing image (length room)) (TkProfileWritePromise image room)
  pub tk_added_classes : (m room : List ℕ) → PackedLending room (classes_answer m (length room)) (TkClassesPromise m room)
  pub tk_edit : (e : Edit) (d : List ℕ) (n : ℕ) → PackedLending d (editing_of e d n) (TkEditPromise e d n)
  pub showing : (m : List ℕ) → Showing m
  -- the functions that serve these: what does not fit is not stored
  pub stores : (fits : Bool) (stored before : List ℕ) (r : Bool) (now : List ℕ) → Stores fits stored before r now → r ≡ false → now ≡ before
  pub opens : (i : Item) (used : ℕ) (before now : List ℕ) → Gives (values_with i used before) now → has_room i used before ≡ false
      → now ≡ before

-- ---- Demand 2

pub record Demand2 : Type 0 where
  -- A message is accepted exactly if some record, laid out by document 01, gives those octets.
  pub accepted : (m : List ℕ) → Octetwise m → (r : Reading) → ReadPromise m r
      → IsAccepted r.answer ↔ ((s : List Part) × Allowed s × (layout s ≡ m))
  -- The answer is that record, in the struct that stands for it; there is one such record; and beside a refusal stands the empty one.
  pub that_record : (s : List Part) → Allowed s → (r : Reading) → ReadPromise (layout s) r
      → r ≡ record { answer = Accepted (length (layout s)); «record» = pack s }
  pub stands_for : (s : List Part) → Allowed s → (is_whole (pack s) ≡ true) × (view (pack s) ≡ s)
  pub one_record : (s t : List Part) → Allowed s → Allowed t → layout s ≡ layout t → s ≡ t
  pub none : (m : List ℕ) (r : Reading) → ReadPromise m r → (k p : ℕ) → r.answer ≡ Refused k p → r.«record» ≡ pack []
  -- Writing it gives the message back: in any room that suffices, and past the message the room stays.
  pub written_back : (m : List ℕ) → Octetwise m → (r : Reading) → ReadPromise m r → IsAccepted r.answer
      → (room : List ℕ) → length m ≤ length room → (w : Answer) (now : List ℕ) → WritePromise r.«record» room w now
      → (w ≡ Accepted (length m)) × (now ≡ m ++ drop (length m) room)
  -- Each record that the rules allow is written where the lent room suffices, and no other struct is: its message, and past it the room.
  pub written : (q : Record) → FitsStruct q → (room : List ℕ) (w : Answer) (now : List ℕ) → WritePromise q room w now
      → IsAccepted w ↔ ((is_whole q ≡ true) × Writable (view q) × (length (layout (view q)) ≤ length room))
  pub written_allowed : (s : List Part) → Writable s → (room : List ℕ) → length (layout s) ≤ length room
      → (w : Answer) (now : List ℕ) → WritePromise (pack s) room w now
      → (w ≡ Accepted (length (layout s))) × (now ≡ layout s ++ drop (length (layout s)) room)
  pub message : (q : Record) → FitsStruct q → (room : List ℕ) (n : ℕ) (now : List ℕ) → WritePromise q room (Accepted n) now
      → (n ≡ length (layout (view q))) × (now ≡ layout (view q) ++ drop n room)
  -- And it reads back as itself.
  pub reads_back : (q : Record) → FitsStruct q → (room : List ℕ) (n : ℕ) (now : List ℕ) → WritePromise q room (Accepted n) now
      → (r : Reading) → ReadPromise (take n now) r → r ≡ record { answer = Accepted n; «record» = pack (view q) }
  -- A listing tells that record: a row to each of its parameters and one to the end mark, in a table that has room for so many.
  pub listed : (s : List Part) → Allowed s → (table : List Row) → 1 + length s + length (items_in s) ≤ length table
      → (r : Answer) (now : List Row) → SpansPromise (layout s) table r now
      → (r ≡ Accepted (1 + length s + length (items_in s))) × (now ≡ part_rows 0 s ++ drop (1 + length s + length (items_in s)) table)
  -- And finding hands out the contents of its parameters: of a common one, and of that one of the transfer parameters with a name (document
  -- 02, request g: which one, counted from 0). There is one to be found exactly if the record has it, and beside a refusal stands the empty
  -- stretch.
  pub found_common : (s : List Part) → Allowed s → (ahead : List Part) (q : Part) (behind : List Part) → s ≡ ahead ++ (q ∷ behind)
      → (part : List ℕ) → FindCommonPromise (layout s) q.header part → part ≡ part_contents q
  pub found_transfer : (s : List Part) → Allowed s → (front : List Item) (one : Item) (back : List Item) → items_in s ≡ front ++ (one ∷ back)
      → (which : ℕ) → times_in (name_of one.header) (names_of front) ≡ which
      → (part : List ℕ) → FindTransferPromise (layout s) (name_of one.header) which part → part ≡ contents_of one
  pub common_there : (s : List Part) → Allowed s → (h : ℕ) → (h ≡ end_mark → ⊥) → (r : Answer) → FindCommonAnswerPromise (layout s) h r
      → IsAccepted r ↔ (among h (headers_of s) ≡ true)
  pub transfer_there : (s : List Part) → Allowed s → (x which : ℕ) (r : Answer) → FindTransferAnswerPromise (layout s) x which r
      → IsAccepted r ↔ (which < times_in x (names_of (items_in s)))
  pub common_empty : (m : List ℕ) (h k p : ℕ) → FindCommonAnswerPromise m h (Refused k p)
      → (part : List ℕ) → FindCommonPromise m h part → part ≡ []
  pub transfer_empty : (m : List ℕ) (x which k p : ℕ) → FindTransferAnswerPromise m x which (Refused k p)
      → (part : List ℕ) → FindTransferPromise m x which part → part ≡ []
  -- Of its sequence nothing is carried unread (document 02, request d): its number is 1, its mark 0 or 1, and finding hands out the one
  -- octet of both.
  pub sequenced : (s : List Part) → Allowed s → (ahead : List Part) (q : Part) (behind : List Part) → s ≡ ahead ++ (q ∷ behind)
      → q.header ≡ sequence → (part : List ℕ) → FindCommonPromise (layout s) sequence part
      → (q.value ≡ sequence_number) × (q.more_data ≤ 1) × (part ≡ (128 * q.more_data + sequence_number) ∷ [])
  -- And the charging answer tells what the contents of its first F7 say (document 02, request a). It is given exactly if there is one. What
  -- is told may be said, and F7's contents are drawn from it; and what F7 was drawn from is told.
  pub charged : (s : List Part) → Allowed s → (front : List Item) (one : Item) (back : List Item) → items_in s ≡ front ++ (one ∷ back)
      → one.header ≡ charging_information → times_in (name_of charging_information) (names_of front) ≡ 0
      → (r : ChargingAnswer) → ChargingPromise (layout s) r
      → (r ≡ Is (charges_of one.values)) × Chargeable (charges_of one.values)
      × (charged_contents (get_or one.values 0 0) (charges_of one.values) ≡ one.values)
  pub charged_so : (s : List Part) → Allowed s → (front : List Item) (one : Item) (back : List Item) → items_in s ≡ front ++ (one ∷ back)
      → one.header ≡ charging_information → times_in (name_of charging_information) (names_of front) ≡ 0
      → (x : ℕ) → x < 256 → (c : Charges) → Chargeable c → one.values ≡ charged_contents x c
      → (r : ChargingAnswer) → ChargingPromise (layout s) r → r ≡ Is c
  pub charging_there : (s : List Part) → Allowed s → (r : ChargingAnswer) → ChargingPromise (layout s) r
      → IsGiven r ↔ (0 < times_in (name_of charging_information) (names_of (items_in s)))
  -- And its connection order is told beside it (document 02, request b). Nothing is wrong with contents of E0 exactly if some order that
  -- the tables allow lays out to them; there is one such order; and each E0 of the record has it.
  pub order_contents : (t : List ℕ) → (fault_of connection_order t ≡ Sound) ↔ ((o : OpenedOrder) × (order_right o ≡ true) × (lay_order o ≡ t))
  pub order_only : (o q : OpenedOrder) → order_right o ≡ true → order_right q ≡ true → lay_order o ≡ lay_order q → o ≡ q
  pub ordered : (s : List Part) → Allowed s → (front : List Item) (one : Item) (back : List Item) → items_in s ≡ front ++ (one ∷ back)
      → one.header ≡ connection_order → (o : OpenedOrder) × (order_right o ≡ true) × (lay_order o ≡ one.values)
  -- The listing tells the order of the first E0, whose contents start where finding says: a row to its form and one to each of its
  -- parameters, in a table that has room for so many. 16 is answered exactly if there is no E0.
  pub order_listed_lem : (s : List Part) → Allowed s → (front : List Item) (one : Item) (back : List Item) → items_in s ≡ front ++ (one ∷ back)
      → one.header ≡ connection_order → times_in (name_of connection_order) (names_of front) ≡ 0
      → (o : OpenedOrder) → order_right o ≡ true → lay_order o ≡ one.values
      → (start : ℕ) → FindTransferAnswerPromise (layout s) (name_of connection_order) 0 (Accepted start)
      → (table : List Row) → 1 + length o.parameters ≤ length table → (r : Answer) (now : List Row) → OrderPromise (layout s) table r now
      → (r ≡ Accepted (1 + length o.parameters)) × (now ≡ told_rows start o ++ drop (1 + length o.parameters) table)
  pub order_there : (s : List Part) → Allowed s → (room : ℕ) (r : Answer) → OrderCheckPromise (layout s) room r
      → (r ≡ Refused absent 0) ↔ (times_in (name_of connection_order) (names_of (items_in s)) ≡ 0)
  -- And its rows add up: the stretches of the message that they name, each behind the one before it, are the contents from end to end; and
  -- the first is the form's, with no octets behind it.
  pub order_rows : (m : List ℕ) → Octetwise m → (table : List Row) (n : ℕ) (now : List Row) → OrderPromise m table (Accepted n) now
      → (part : List ℕ) → FindTransferPromise m (name_of connection_order) 0 part
      → (start : ℕ) → FindTransferAnswerPromise m (name_of connection_order) 0 (Accepted start)
      → (stretches_of m (take n now) ≡ part) × Following start (take n now) × (sum_of octets_told (take n now) ≡ length part)
      × (get_or (take n now) 0 no_row ≡ form_row start (get_or part 0 0))
  -- And its carriers are told beside it (document 02, request g). Nothing is wrong with contents of CC exactly if some carriers that may be
  -- said lay out to them; there are no others; and each CC of the record has them.
  pub carriers_contents : (t : List ℕ)
      → (fault_of carriers t ≡ Sound) ↔ ((c : OpenedCarriers) × (carriers_right c ≡ true) × (lay_carriers c ≡ t))
  pub carriers_only : (c d : OpenedCarriers) → carriers_right c ≡ true → carriers_right d ≡ true → lay_carriers c ≡ lay_carriers d → c ≡ d
  pub carried : (s : List Part) → Allowed s → (front : List Item) (one : Item) (back : List Item) → items_in s ≡ front ++ (one ∷ back)
      → one.header ≡ carriers → (c : OpenedCarriers) × (carriers_right c ≡ true) × (lay_carriers c ≡ one.values)
  -- The listing tells the carriers of that CC, whose contents start where finding says: a row to the direction, and one to each carrier
  -- entry before those to the dependent entries in it, in a table that has room for so many. 16 is answered exactly if there is no such
  -- CC; and no listing has more than 127 rows.
  pub carriers_listed : (s : List Part) → Allowed s → (front : List Item) (one : Item) (back : List Item)
      → items_in s ≡ front ++ (one ∷ back) → one.header ≡ carriers → (which : ℕ) → times_in (name_of carriers) (names_of front) ≡ which
      → (c : OpenedCarriers) → carriers_right c ≡ true → lay_carriers c ≡ one.values
      → (start : ℕ) → FindTransferAnswerPromise (layout s) (name_of carriers) which (Accepted start) →
      let rows = told_carrier_rows start c in
      (table : List ℕ) → octets_to_a_carrier_row * length rows ≤ length table
      → (r : Answer) (now : List ℕ) → CarriersPromise (layout s) which table r now
      → (r ≡ Accepted (length rows)) × (now ≡ carrier_rows_octets rows ++ drop (octets_to_a_carrier_row * length rows) table)
  pub carriers_there : (s : List Part) → Allowed s → (which : ℕ) (table : List ℕ) (r : Answer) (now : List ℕ)
      → CarriersPromise (layout s) which table r now
      → (r ≡ Refused absent 0) ↔ (times_in (name_of carriers) (names_of (items_in s)) ≤ which)
  pub carriers_few : (m : List ℕ) → Octetwise m → (which : ℕ) (table : List ℕ) (n : ℕ) (now : List ℕ)
      → CarriersPromise m which table (Accepted n) now → n ≤ most_carrier_rows
  -- And the digits of a code are told by its row, in room that suffices; of any other row 16 is answered.
  pub code_told : (s : List Part) → Allowed s → (front : List Item) (one : Item) (back : List Item) → items_in s ≡ front ++ (one ∷ back)
      → one.header ≡ carriers → (which : ℕ) → times_in (name_of carriers) (names_of front) ≡ which
      → (c : OpenedCarriers) → carriers_right c ≡ true → lay_carriers c ≡ one.values → (start row : ℕ) →
      let code = get_or (told_codes c) row [] in
      is_code_row (get_or (told_carrier_rows start c) row no_carrier_row) ≡ true → (room : List ℕ) → length code ≤ length room
      → (r : Answer) (now : List ℕ) → CarrierDigitsPromise (layout s) which row room r now
      → (r ≡ Accepted (length code)) × (now ≡ code ++ drop (length code) room)
  pub code_none : (s : List Part) → Allowed s → (front : List Item) (one : Item) (back : List Item) → items_in s ≡ front ++ (one ∷ back)
      → one.header ≡ carriers → (which : ℕ) → times_in (name_of carriers) (names_of front) ≡ which
      → (c : OpenedCarriers) → carriers_right c ≡ true → lay_carriers c ≡ one.values → (start row : ℕ)
      → is_code_row (get_or (told_carrier_rows start c) row no_carrier_row) ≡ false
      → (room : List ℕ) (r : Answer) (now : List ℕ) → CarrierDigitsPromise (layout s) which row room r now → r ≡ Refused absent 0
  -- And by the mobile call profile (document 02, request f) a message is accepted exactly if some record that is allowed and in the
  -- profile lays out to these octets. The answer is that record, the only one (`one-record` above says so), and what it tells. What
  -- reading refuses is refused the same; the message of a record that is not in the profile is refused with 20, at its end mark; and
  -- beside a refusal stands the empty record, and what that tells.
  pub profile_accepted : (m : List ℕ) → Octetwise m → (r : ProfileReading) → ProfileReadPromise m r
      → IsAccepted r.answer ↔ ((s : List Part) × Allowed s × InProfile s × (layout s ≡ m))
  pub profile_record : (s : List Part) → Allowed s → InProfile s → (r : ProfileReading) → ProfileReadPromise (layout s) r
      → r ≡ record { answer = Accepted (length (layout s)); «record» = pack s; profile = profile_of s }
  pub profile_passed : (m : List ℕ) (k p : ℕ) → VerdictPromise m (Refused k p) → (r : ProfileReading) → ProfileReadPromise m r
      → r.answer ≡ Refused k p
  pub profile_outside : (s : List Part) → Allowed s → (InProfile s → ⊥) → (r : ProfileReading) → ProfileReadPromise (layout s) r
      → (p : ℕ) × (r.answer ≡ Refused outside_profile p) × (drop p (layout s) ≡ end_mark ∷ [])
  pub profile_none : (m : List ℕ) (r : ProfileReading) → ProfileReadPromise m r → (k p : ℕ) → r.answer ≡ Refused k p
      → (r.«record» ≡ pack []) × (r.profile ≡ profile_of [])
  -- The network told is the one that 7E says. D6's contents are pairs laid out, and the pairs told are the only ones that lay out to them.
  pub profile_network : (s : List Part) → Allowed s → InProfile s → (front : List Item) (one : Item) (back : List Item)
      → items_in s ≡ front ++ (one ∷ back) → one.header ≡ adjacent_network
      → (one.values ≡ network_value (profile_of s).network ∷ []) × (0 < network_value (profile_of s).network)
  pub profile_pairs : (s : List Part) → Allowed s → InProfile s → (front : List Item) (one : Item) (back : List Item)
      → items_in s ≡ front ++ (one ∷ back) → one.header ≡ added_class → OfPairs one.values
  pub profile_classes : (s : List Part) → Allowed s → InProfile s → (front : List Item) (one : Item) (back : List Item)
      → items_in s ≡ front ++ (one ∷ back) → one.header ≡ added_class
      → (c : OfPairs one.values) → take (profile_of s).classes (profile_of s).class ≡ c.pairs
  pub profile_unclassed : (s : List Part) → Allowed s → times_in (name_of added_class) (names_of (items_in s)) ≡ 0 → (profile_of s).classes ≡ 0
  -- Writing that record by the profile gives the message back. Each record that may be written and is in the profile is written where
  -- the lent room suffices, and no other struct is: its message, and past it the room. And by the profile it reads back as itself. What
  -- refuses a struct, room aside, refuses it here; and one that may be written but is not in the profile is refused with 20, where the
  -- end mark would stand, whatever the room.
  pub profile_written_back : (m : List ℕ) → Octetwise m → (r : ProfileReading) → ProfileReadPromise m r → IsAccepted r.answer
      → (room : List ℕ) → length m ≤ length room → (w : Answer) (now : List ℕ) → ProfileWritePromise r.«record» room w now
      → (w ≡ Accepted (length m)) × (now ≡ m ++ drop (length m) room)
  pub profile_written_lem : (q : Record) → FitsStruct q → (room : List ℕ) (w : Answer) (now : List ℕ) → ProfileWritePromise q room w now
      → IsAccepted w ↔ ((is_whole q ≡ true) × Writable (view q) × InProfile (view q) × (length (layout (view q)) ≤ length room))
  pub profile_written_allowed : (s : List Part) → Writable s → InProfile s → (room : List ℕ) → length (layout s) ≤ length room
      → (w : Answer) (now : List ℕ) → ProfileWritePromise (pack s) room w now
      → (w ≡ Accepted (length (layout s))) × (now ≡ layout s ++ drop (length (layout s)) room)
  pub profile_message : (q : Record) → FitsStruct q → (room : List ℕ) (n : ℕ) (now : List ℕ) → ProfileWritePromise q room (Accepted n) now
      → (n ≡ length (layout (view q))) × (now ≡ layout (view q) ++ drop n room)
  pub profile_reads_back : (q : Record) → FitsStruct q → (room : List ℕ) (n : ℕ) (now : List ℕ)
      → ProfileWritePromise q room (Accepted n) now → (r : ProfileReading) → ProfileReadPromise (take n now) r
      → r ≡ record { answer = Accepted n; «record» = pack (view q); profile = profile_of (view q) }
  pub profile_write_passed : (q : Record) (k p : ℕ) → RecordRefusalPromise q (Refused k p) → (room : List ℕ) (w : Answer) (now : List ℕ)
      → ProfileWritePromise q room w now → w ≡ Refused k p
  pub profile_write_outside : (q : Record) → is_whole q ≡ true → Writable (view q) → (InProfile (view q) → ⊥)
      → (room : List ℕ) (w : Answer) (now : List ℕ) → ProfileWritePromise q room w now
      → (p : ℕ) × (w ≡ Refused outside_profile p) × (drop p (layout (view q)) ≡ end_mark ∷ [])
  -- The pairs as octets are D6's contents, where the lent room suffices for them. 16 is answered exactly if there is no D6.
  pub classes_told : (s : List Part) → Allowed s → InProfile s → (front : List Item) (one : Item) (back : List Item)
      → items_in s ≡ front ++ (one ∷ back) → one.header ≡ added_class
      → (room : List ℕ) → length one.values ≤ length room → (r : Answer) (now : List ℕ) → ClassesPromise (layout s) room r now
      → (r ≡ Accepted (length one.values)) × (now ≡ one.values ++ drop (length one.values) room)
  pub classes_there : (s : List Part) → Allowed s → InProfile s → (room : List ℕ) (r : Answer) (now : List ℕ)
      → ClassesPromise (layout s) room r now → (r ≡ Refused absent 0) ↔ (times_in (name_of added_class) (names_of (items_in s)) ≡ 0)

-- ---- Demand 3

-- e replaces or removes that one of the transfer parameters with its name (document 02, request g: which one, counted from 0), or appends
-- one, in a buffer d whose first n octets hold the message of the record s.
pub record Demand3 : Type 0 where
  -- It gives exactly the octets that demand 2 gives for the record so edited, which may be written: those that writing it gives, and that
  -- read as it.
  pub edited_octets : (s : List Part) → Allowed s → (e : Edit) → OfOctets e → (d : List ℕ) → Octetwise d → (n : ℕ) → take n d ≡ layout s
      → (k : ℕ) (now : List ℕ) → EditPromise e d n (Accepted k) now
      → Writable (edited e s) × (k ≡ length (layout (edited e s))) × (take k now ≡ layout (edited e s))
  pub as_written : (s : List Part) → Allowed s → (e : Edit) → OfOctets e → (d : List ℕ) → Octetwise d → (n : ℕ) → take n d ≡ layout s
      → (k : ℕ) (now : List ℕ) → EditPromise e d n (Accepted k) now
      → (room : List ℕ) → k ≤ length room → (w : Answer) (out : List ℕ) → WritePromise (pack (edited e s)) room w out
      → (w ≡ Accepted k) × (take k out ≡ take k now)
  -- Octets before it keep their values, save the transfer data's length octet; those after it only move.
  pub in_its_place : (e : Edit) → OfOctets e → (d : List ℕ) → Octetwise d → (n k : ℕ) (now : List ℕ) → EditPromise e d n (Accepted k) now
      → InPlace e d n k now
  -- It is refused exactly when document 01 lists a reason: accepted exactly if none of them holds.
  pub unless_a_reason : (e : Edit) (d : List ℕ) (n : ℕ) (r : Answer) (now : List ℕ) → EditPromise e d n r now
      → IsAccepted r ↔ NoReason e d n
