-- The promises by number, place and value. Where a function answers an enum, keeping its promise is the same as this: the number, the place
-- and the value of its answer, which `Answers` and `Charging` state for every case, are those of the definition's, and a refusal has a
-- number.
use Rattle.std.specs.Prelude.{ℕ, ◌≡◌, refl, List, ◌∷◌, ◌↔◌, length, get_or, drop, Err}
use Rattle.std.proofs.Common.{arith, sym, ap, ◌∙◌}
use Rattle.annex.specs.Answers.{number_of, place_of, given_of, class_value_of, class_given_of, Answer, Accepted, Refused, ChargingAnswer, Is, ClassAnswer}
use Rattle.annex.specs.Items.{Part}
use Rattle.annex.specs.Reading.{verdict_of, record_of}
use Rattle.annex.specs.Records.{read_by, reading_of}
use Rattle.annex.specs.Writing.{struct_writing, writing_of, written_of}
use Rattle.annex.specs.Image.{imaged_of}
use Rattle.annex.specs.Finding.{common_found, transfer_found, find_answer}
use Rattle.annex.specs.Spans.{spans_of, table_of}
use Rattle.annex.specs.Editing.{Edit, editing_of, buffer_of}
use Rattle.annex.specs.Classes.{class_of}
use Rattle.annex.specs.Rates.{field_row, value_of}
use Rattle.annex.specs.Charging.{charging_of, field_numbers, charging_given_of, octet_charging, octet_charged}
use Rattle.annex.specs.Opened.{order_answer, order_table}
use Rattle.annex.specs.Transit.{digits_answer, digits_given}
use Rattle.annex.specs.Profile.{
  profile_verdict,
  profile_writing,
  profile_written,
  profile_by,
  profile_reading,
  classes_answer,
  classes_given,
}
use Rattle.annex.specs.Packed.{
  image_reading,
  image_read,
  image_writing,
  image_written,
  profile_image_reading,
  profile_image_read,
  profile_image_writing,
  profile_image_written,
  octet_spans,
  octet_table,
  octet_order,
  octet_order_table,
  octet_carriers,
  octet_carriers_table,
}
use Rattle.annex.specs.Promises.{
  VerdictPromise,
  ReadPromise,
  FindCommonAnswerPromise,
  FindTransferAnswerPromise,
  SpansCheckPromise,
  SpansPromise,
  OctetSpansPromise,
  OrderCheckPromise,
  OrderPromise,
  OctetOrderPromise,
  WritePromise,
  RecordRefusalPromise,
  EditPromise,
  ClassPromise,
  ChargingPromise,
  OctetChargingPromise,
  CarriersPromise,
  CarrierDigitsPromise,
  ProfileVerdictPromise,
  ProfileReadPromise,
  ProfileWritePromise,
  ProfileImageReadPromise,
  ProfileImageWritePromise,
  ClassesPromise,
  ImageReadPromise,
  ImageWritePromise,
  FromImagePromise,
}
use Rattle.annex.specs.declared.Charges.{Charges}
use Rattle.annex.specs.declared.Class.{Class}
use Rattle.annex.specs.declared.Class.TheVariants.{Named, HeldBack, Spare}
use Rattle.annex.specs.declared.Imaged.{Imaged}
use Rattle.annex.specs.declared.ProfileReading.{ProfileReading}
use Rattle.annex.specs.declared.Reading.{Reading}
use Rattle.annex.specs.declared.Record.{Record}
use Rattle.annex.specs.declared.Row.{Row}
use Rattle.laws.specs.Drawings.{at_place, same_charges}
use Rattle.tight.specs.Told.{
  HasNumber,
  ClassHasNumber,
  ChargingHasNumber,
  verdict_told,
  find_told,
  spans_told,
  struct_told,
  writing_told,
  editing_told,
  read_image_told,
  write_image_told,
  imaged_told,
  class_told,
  charging_told,
  octet_charging_told,
  order_told,
  carriers_told,
  carrier_digits_told,
  profile_verdict_told,
  profile_writing_told,
  profile_image_reading_told,
  profile_image_writing_told,
  classes_told,
}

-- ---- an answer by its number, place and value

-- r is right by d, which a definition gives
pub record Right (d r : Answer) : Type 0 where
  pub told : HasNumber r
  pub number : number_of r ≡ number_of d
  pub place : place_of r ≡ place_of d
  pub value : given_of r ≡ given_of d

same_answer_lem : (d r : Answer) → HasNumber d → Right d r → r ≡ d
same_answer_lem (Accepted n) (Accepted k) t e = ap Accepted e.value
same_answer_lem (Accepted n) (Err r) t e = absurd (omega (arith, e.told, e.number))
same_answer_lem (Err r) (Accepted k) t e = absurd (omega (arith, e.number))
same_answer_lem (Err r) (Err w) t e = rw (e.number, e.place)

pub right : (d r : Answer) → HasNumber d → (r ≡ d) ↔ Right d r
right d r t =
    (λ e. record { told = rw e t; number = ap number_of e; place = ap place_of e; value = ap given_of e }, same_answer_lem d r t)

-- and lent memory, or a record, beside it
right_with : {A : Type 0} (d r : Answer) (x y : A) → HasNumber d → ((r ≡ d) × (y ≡ x)) ↔ (Right d r × (y ≡ x))
right_with d r x y t = let e = right d r t in (λ p. (e.0 p.0, p.1), λ p. (e.1 p.0, p.1))

-- ---- the promises

pub verdict_numbers : (m : List ℕ) (r : Answer) → VerdictPromise m r ↔ Right (verdict_of m) r
verdict_numbers m r = right (verdict_of m) r (verdict_told m)

pub common_numbers : (m : List ℕ) (h : ℕ) (r : Answer) → FindCommonAnswerPromise m h r ↔ Right (find_answer m (common_found h m)) r
common_numbers m h r = right (find_answer m (common_found h m)) r (find_told m (common_found h m))

pub transfer_numbers : (m : List ℕ) (x which : ℕ) (r : Answer)
    → FindTransferAnswerPromise m x which r ↔ Right (find_answer m (transfer_found x which m)) r
transfer_numbers m x which r = right (find_answer m (transfer_found x which m)) r (find_told m (transfer_found x which m))

pub check_numbers : (m : List ℕ) (room : ℕ) (r : Answer) → SpansCheckPromise m room r ↔ Right (spans_of m room) r
check_numbers m room r = right (spans_of m room) r (spans_told m room)

pub order_check_numbers : (m : List ℕ) (room : ℕ) (r : Answer) → OrderCheckPromise m room r ↔ Right (order_answer m room) r
order_check_numbers m room r = right (order_answer m room) r (order_told m room)

pub refusal_numbers : (held : Record) (r : Answer) → RecordRefusalPromise held r ↔ Right (struct_writing held) r
refusal_numbers held r = right (struct_writing held) r (struct_told held)

pub listing_numbers : (m : List ℕ) (table : List Row) (r : Answer) (now : List Row)
    → SpansPromise m table r now ↔ (Right (spans_of m (length table)) r × (now ≡ table_of m table))
listing_numbers m table r now = right_with (spans_of m (length table)) r (table_of m table) now (spans_told m (length table))

pub octet_listing_numbers : (m table : List ℕ) (r : Answer) (now : List ℕ)
    → OctetSpansPromise m table r now ↔ (Right (octet_spans m (length table)) r × (now ≡ octet_table m table))
octet_listing_numbers m table r now = right_with (octet_spans m (length table)) r (octet_table m table) now (spans_told m _)

pub order_numbers : (m : List ℕ) (table : List Row) (r : Answer) (now : List Row)
    → OrderPromise m table r now ↔ (Right (order_answer m (length table)) r × (now ≡ order_table m table))
order_numbers m table r now = right_with (order_answer m (length table)) r (order_table m table) now (order_told m (length table))

pub octet_order_numbers : (m table : List ℕ) (r : Answer) (now : List ℕ)
    → OctetOrderPromise m table r now ↔ (Right (octet_order m (length table)) r × (now ≡ octet_order_table m table))
octet_order_numbers m table r now = right_with (octet_order m (length table)) r (octet_order_table m table) now (order_told m _)

pub writing_numbers : (held : Record) (room : List ℕ) (r : Answer) (now : List ℕ)
    → WritePromise held room r now ↔ (Right (writing_of held (length room)) r × (now ≡ written_of held room))
writing_numbers held room r now = right_with (writing_of held (length room)) r (written_of held room) now (writing_told held (length room))

pub edit_numbers : (e : Edit) (buffer : List ℕ) (n : ℕ) (r : Answer) (now : List ℕ)
    → EditPromise e buffer n r now ↔ (Right (editing_of e buffer n) r × (now ≡ buffer_of e buffer n))
edit_numbers e buffer n r now = right_with (editing_of e buffer n) r (buffer_of e buffer n) now (editing_told e buffer n)

pub imaging_numbers : (m room : List ℕ) (r : Answer) (now : List ℕ)
    → ImageReadPromise m room r now ↔ (Right (image_reading m (length room)) r × (now ≡ image_read m room))
imaging_numbers m room r now = right_with (image_reading m (length room)) r (image_read m room) now (read_image_told m (length room))

pub image_writing_numbers : (image room : List ℕ) (r : Answer) (now : List ℕ)
    → ImageWritePromise image room r now ↔ (Right (image_writing image (length room)) r × (now ≡ image_written image room))
image_writing_numbers image room r now =
    right_with (image_writing image (length room)) r (image_written image room) now (write_image_told image (length room))

pub octet_charging_numbers : (m room : List ℕ) (r : Answer) (now : List ℕ)
    → OctetChargingPromise m room r now ↔ (Right (octet_charging m (length room)) r × (now ≡ octet_charged m room))
octet_charging_numbers m room r now =
    right_with (octet_charging m (length room)) r (octet_charged m room) now (octet_charging_told m (length room))

pub carriers_numbers : (m : List ℕ) (which : ℕ) (table : List ℕ) (r : Answer) (now : List ℕ) → CarriersPromise m which table r now
    ↔ (Right (octet_carriers m which (length table)) r × (now ≡ octet_carriers_table m which table))
carriers_numbers m which table r now =
    right_with (octet_carriers m which (length table)) r (octet_carriers_table m which table) now (carriers_told m which _)

pub carrier_digits_numbers : (m : List ℕ) (which row : ℕ) (room : List ℕ) (r : Answer) (now : List ℕ)
    → CarrierDigitsPromise m which row room r now
    ↔ (Right (digits_answer m which row (length room)) r × (now ≡ digits_given m which row room))
carrier_digits_numbers m which row room r now =
    right_with (digits_answer m which row (length room)) r (digits_given m which row room) now
    (carrier_digits_told m which row (length room))

pub profile_verdict_numbers : (m : List ℕ) (r : Answer) → ProfileVerdictPromise m r ↔ Right (profile_verdict m) r
profile_verdict_numbers m r = right (profile_verdict m) r (profile_verdict_told m)

pub profile_writing_numbers : (held : Record) (room : List ℕ) (r : Answer) (now : List ℕ)
    → ProfileWritePromise held room r now ↔ (Right (profile_writing held (length room)) r × (now ≡ profile_written held room))
profile_writing_numbers held room r now =
    right_with (profile_writing held (length room)) r (profile_written held room) now (profile_writing_told held (length room))

pub profile_imaging_numbers : (m room : List ℕ) (r : Answer) (now : List ℕ)
    → ProfileImageReadPromise m room r now ↔ (Right (profile_image_reading m (length room)) r × (now ≡ profile_image_read m room))
profile_imaging_numbers m room r now =
    right_with (profile_image_reading m (length room)) r (profile_image_read m room) now (profile_image_reading_told m (length room))

pub profile_image_writing_numbers : (image room : List ℕ) (r : Answer) (now : List ℕ) → ProfileImageWritePromise image room r now
    ↔ (Right (profile_image_writing image (length room)) r × (now ≡ profile_image_written image room))
profile_image_writing_numbers image room r now =
    right_with (profile_image_writing image (length room)) r (profile_image_written image room) now
    (profile_image_writing_told image (length room))

pub classes_numbers : (m room : List ℕ) (r : Answer) (now : List ℕ)
    → ClassesPromise m room r now ↔ (Right (classes_answer m (length room)) r × (now ≡ classes_given m room))
classes_numbers m room r now =
    right_with (classes_answer m (length room)) r (classes_given m room) now (classes_told m (length room))

-- an answer with a record beside it
same_reading : (r d : Reading) → (r.answer ≡ d.answer) × (r.«record» ≡ d.«record») → r ≡ d
same_reading r d e =
    ap (λ a. record { answer = a; «record» = r.«record» }) e.0 ∙ ap (λ q. record { answer = d.answer; «record» = q }) e.1

same_imaged : (r d : Imaged) → (r.answer ≡ d.answer) × (r.held ≡ d.held) → r ≡ d
same_imaged r d e = ap (λ a. record { answer = a; held = r.held }) e.0 ∙ ap (λ q. record { answer = d.answer; held = q }) e.1

pub read_answer : (a : Answer) (r : List Part) → (read_by a r).answer ≡ a
read_answer (Accepted n) r = refl
read_answer (Err w) r = refl

pub read_numbers : (m : List ℕ) (r : Reading)
    → ReadPromise m r ↔ (Right (verdict_of m) r.answer × (r.«record» ≡ (reading_of m).«record»))
unfolding reading_of
read_numbers m r =
    let a = read_answer (verdict_of m) (record_of m) in
    let e = right_with (verdict_of m) r.answer (reading_of m).«record» r.«record» (verdict_told m) in (
      λ p. e.0 (ap (λ (q : Reading). q.answer) p ∙ a, ap (λ (q : Reading). q.«record») p),
      λ p. let b = e.1 p in same_reading r (reading_of m) (b.0 ∙ sym a, b.1),
    )

pub profile_answer : (a : Answer) (r : List Part) → (profile_by a r).answer ≡ a
profile_answer (Accepted n) r = refl
profile_answer (Err w) r = refl

same_profile : (r d : ProfileReading)
    → (r.answer ≡ d.answer) × (r.«record» ≡ d.«record») × (r.profile ≡ d.profile) → r ≡ d
same_profile r d e = rw (← e.0, ← e.1, ← e.2)

pub profile_numbers : (m : List ℕ) (r : ProfileReading) → ProfileReadPromise m r
    ↔ (Right (profile_verdict m) r.answer × (r.«record» ≡ (profile_reading m).«record») × (r.profile ≡ (profile_reading m).profile))
unfolding profile_reading
profile_numbers m r =
    let a = profile_answer (profile_verdict m) (record_of m) in
    let e = right (profile_verdict m) r.answer (profile_verdict_told m) in (
      λ p. (
        e.0 (ap (λ (q : ProfileReading). q.answer) p ∙ a),
        ap (λ (q : ProfileReading). q.«record») p,
        ap (λ (q : ProfileReading). q.profile) p,
      ),
      λ p. same_profile r (profile_reading m) (e.1 p.0 ∙ sym a, p.1, p.2),
    )

pub imaged_numbers : (image : List ℕ) (r : Imaged)
    → FromImagePromise image r ↔ (Right (imaged_of image).answer r.answer × (r.held ≡ (imaged_of image).held))
imaged_numbers image r =
    let e = right_with (imaged_of image).answer r.answer (imaged_of image).held r.held (imaged_told image) in (
      λ p. e.0 (ap (λ (q : Imaged). q.answer) p, ap (λ (q : Imaged). q.held) p),
      λ p. same_imaged r (imaged_of image) (e.1 p),
    )

-- ---- the class answer

pub record RightClass (d r : ClassAnswer) : Type 0 where
  pub told : ClassHasNumber r
  pub number : number_of r ≡ number_of d
  pub place : place_of r ≡ place_of d
  pub value : class_given_of r ≡ class_given_of d

same_class_lem : (c b : Class) → class_value_of c ≡ class_value_of b → c ≡ b
same_class_lem Named Named e = refl
same_class_lem Named HeldBack e = absurd (omega arith)
same_class_lem Named Spare e = absurd (omega arith)
same_class_lem HeldBack Named e = absurd (omega arith)
same_class_lem HeldBack HeldBack e = refl
same_class_lem HeldBack Spare e = absurd (omega arith)
same_class_lem Spare Named e = absurd (omega arith)
same_class_lem Spare HeldBack e = absurd (omega arith)
same_class_lem Spare Spare e = refl

same_class_answer : (d r : ClassAnswer) → ClassHasNumber d → RightClass d r → r ≡ d
same_class_answer (Is c) (Is b) t e = ap Is (same_class_lem b c e.value)
same_class_answer (Is c) (Err r) t e = absurd (omega (arith, e.told, e.number))
same_class_answer (Err r) (Is b) t e = absurd (omega (arith, e.number))
same_class_answer (Err r) (Err w) t e = rw (e.number, e.place)

pub class_numbers : (h x : ℕ) (r : ClassAnswer) → ClassPromise h x r ↔ RightClass (class_of h x) r
class_numbers h x r = (
  λ e. record { told = rw e (class_told h x); number = ap number_of e; place = ap place_of e; value = ap class_given_of e },
  same_class_answer (class_of h x) r (class_told h x),
)

-- ---- the charging answer

pub record RightCharging (d r : ChargingAnswer) : Type 0 where
  pub told : ChargingHasNumber r
  pub number : number_of r ≡ number_of d
  pub place : place_of r ≡ place_of d
  pub value : charging_given_of r ≡ charging_given_of d

same_numbers : (c b : Charges) → c.kind ∷ field_numbers c ≡ b.kind ∷ field_numbers b → c ≡ b
same_numbers c b e =
    same_charges c b (ap (λ l. get_or l 0 0) e)
    (λ f. sym (at_place (λ g. value_of g c) 0 f) ∙ ap (λ l. get_or (drop 1 l) (field_row f).place 0) e ∙ at_place (λ g. value_of g b) 0 f)

same_charging_answer : (d r : ChargingAnswer) → ChargingHasNumber d → RightCharging d r → r ≡ d
same_charging_answer (Is c) (Is b) t e = ap Is (same_numbers b c e.value)
same_charging_answer (Is c) (Err r) t e = absurd (omega (arith, e.told, e.number))
same_charging_answer (Err r) (Is b) t e = absurd (omega (arith, e.number))
same_charging_answer (Err r) (Err w) t e = rw (e.number, e.place)

pub charging_numbers : (m : List ℕ) (r : ChargingAnswer) → ChargingPromise m r ↔ RightCharging (charging_of m) r
charging_numbers m r = (
  λ e. record { told = rw e (charging_told m); number = ap number_of e; place = ap place_of e; value = ap charging_given_of e },
  same_charging_answer (charging_of m) r (charging_told m),
)
