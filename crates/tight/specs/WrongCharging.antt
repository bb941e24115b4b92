-- Wrong programs that the promises about charging information shut out, each with the message at which it breaks its promise.
use Rattle.std.specs.Prelude.{ℕ, ◌≡◌, refl, List, [], ◌∷◌, ◌++◌}
use Rattle.std.proofs.Common.{arith, ap, ◌∙◌}
use Rattle.annex.specs.Units.{after_of, lead_of, common_extent_of, extent_of}
use Rattle.annex.specs.Heads.{value_allowed, name_used, pli_right, often_of, zeroes_of, form_of}
use Rattle.annex.specs.Rates.{is_kind, fields_of, numbers_drawn, drawn_fault, check_right, decimal, field_in, charges_of}
use Rattle.annex.specs.Contents.{charging_fault, fault_of}
use Rattle.annex.specs.Walk.{walk}
use Rattle.annex.specs.Reading.{
  common_form,
  end_of,
  transfer_by,
  transfers_verdict_by,
  data_by,
  common_by,
  message_verdict_by,
  verdict_by,
  commons_by,
  transfers_by,
}
use Rattle.annex.specs.Finding.{transfer_in, transfer_among, transfer_found}
use Rattle.annex.specs.Charging.{charging_of, charging_given_of, octet_charging, octet_charged}
use Rattle.annex.specs.Packed.{packed_answer}
use Rattle.annex.specs.Promises.{ChargingPromise, OctetChargingPromise, TkChargingPromise}
use Rattle.annex.specs.Bench.{K}
use Rattle.annex.specs.Answers.{Answer, Accepted, Is}
use Rattle.annex.specs.declared.Charges.{Charges}
use Rattle.tight.specs.WrongPacked.{lent, at}

-- MBI 12 alone, with the check digit 1
abbrev pub alone : List ℕ
alone = K ++ (0xC5 ∷ 0x06 ∷ 0xF7 ∷ 0x04 ∷ 0x00 ∷ 0x05 ∷ 0x12 ∷ 0x31 ∷ 0x00 ∷ [])

-- MBI 07, whose first half is the code 10; an information interval of 90 half seconds, a free time of 12, and the check digit 7
abbrev pub timed : List ℕ
timed =
    K ++ (0xC5 ∷ 0x0C ∷ 0xF7 ∷ 0x0A ∷ 0x00 ∷ 0x03 ∷ 0xA7 ∷ 0x30 ∷ 0x39 ∷ 0x30 ∷ 0x30 ∷ 0x31 ∷ 0x32 ∷ 0x37 ∷ 0x00 ∷ [])

-- what the definitions say, computed once: the kind and the fields, and the octets for Rust and C
record SaidCharging : Type 0 where
  given_alone : charging_given_of (charging_of alone) ≡ 5 ∷ 0 ∷ 0 ∷ 0 ∷ 0 ∷ 0 ∷ 0 ∷ 12 ∷ 0 ∷ 0 ∷ 0 ∷ 1 ∷ []
  given_timed : charging_given_of (charging_of timed) ≡ 3 ∷ 0 ∷ 0 ∷ 0 ∷ 0 ∷ 0 ∷ 0 ∷ 7 ∷ 90 ∷ 0 ∷ 12 ∷ 7 ∷ []
  octets_answer : octet_charging alone 23 ≡ Accepted 23
  octets_given : octet_charged alone (lent 23)
      ≡ 5 ∷ 0 ∷ 0 ∷ 0 ∷ 0 ∷ 0 ∷ 0 ∷ 0 ∷ 0 ∷ 0 ∷ 0 ∷ 0 ∷ 0 ∷ 12 ∷ 0 ∷ 0 ∷ 0 ∷ 0 ∷ 0 ∷ 0 ∷ 0 ∷ 1 ∷ 0 ∷ []

said_charging : SaidCharging
unfolding after_of lead_of common_extent_of extent_of name_used pli_right often_of zeroes_of form_of is_kind fields_of numbers_drawn drawn_fault
    check_right decimal field_in charges_of charging_fault fault_of walk transfer_by transfers_verdict_by value_allowed common_form end_of data_by
    common_by message_verdict_by verdict_by commons_by transfers_by transfer_in transfer_among transfer_found charging_of octet_charging octet_charged
said_charging = record { given_alone = refl; given_timed = refl; octets_answer = refl; octets_given = refl }

-- ---- charging: one that exchanges MBI's halves; one that gives times in seconds; one that takes the code 10 for 10

pub exchanged_halves_break : (c : Charges) → c.mbi ≡ 21 → ChargingPromise alone (Is c) → ⊥
exchanged_halves_break c h p =
    let z : c.mbi ≡ 12 = ap (at 7) (ap charging_given_of p ∙ said_charging.given_alone) in
    omega arith

pub seconds_break : (c : Charges) → c.information_interval ≡ 45 → ChargingPromise timed (Is c) → ⊥
seconds_break c h p =
    let z : c.information_interval ≡ 90 = ap (at 8) (ap charging_given_of p ∙ said_charging.given_timed) in
    omega arith

pub ten_for_zero_breaks : (c : Charges) → c.mbi ≡ 107 → ChargingPromise timed (Is c) → ⊥
ten_for_zero_breaks c h p =
    let z : c.mbi ≡ 7 = ap (at 7) (ap charging_given_of p ∙ said_charging.given_timed) in
    omega arith

-- ---- tk_charging: one that answers 0 for done, and not the count; one that touches nothing; one that writes a field's high octet first

pub tk_charging_answers_done : (now : List ℕ) → TkChargingPromise alone (lent 23) 0 now → ⊥
tk_charging_answers_done now p = let z : ◌≡◌ {A = ℕ} 0 23 = p.0 ∙ ap packed_answer said_charging.octets_answer in omega arith

pub tk_charging_touches_nothing : (r : ℕ) → TkChargingPromise alone (lent 23) r (lent 23) → ⊥
tk_charging_touches_nothing r p = let z : ◌≡◌ {A = ℕ} 0xEE 5 = ap (at 0) (p.1 ∙ said_charging.octets_given) in omega arith

-- MBI stands in two octets behind the kind and six fields
pub tk_charging_high_octet_first : (r : ℕ) (now : List ℕ) → at 13 now ≡ 0 → TkChargingPromise alone (lent 23) r now → ⊥
tk_charging_high_octet_first r now h p = let z : at 13 now ≡ 12 = ap (at 13) (p.1 ∙ said_charging.octets_given) in omega arith

-- octet_charging is shut out for the same: tk_charging packs its answer, and nothing else
charging_packed : (m room : List ℕ) (r : Answer) (now : List ℕ) → OctetChargingPromise m room r now
    → TkChargingPromise m room (packed_answer r) now
charging_packed m room r now p = (ap packed_answer p.0, p.1)

pub octets_untouched_break : (r : Answer) → OctetChargingPromise alone (lent 23) r (lent 23) → ⊥
octets_untouched_break r p = tk_charging_touches_nothing (packed_answer r) (charging_packed alone (lent 23) r (lent 23) p)

pub high_octet_first_breaks : (r : Answer) (now : List ℕ) → at 13 now ≡ 0 → OctetChargingPromise alone (lent 23) r now → ⊥
high_octet_first_breaks r now h p = tk_charging_high_octet_first (packed_answer r) now h (charging_packed alone (lent 23) r now p)
