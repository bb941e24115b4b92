-- Wrong programs that the promises about carriers shut out, each with the CC at which it breaks its promise.
use Rattle.std.specs.Prelude.{ℕ, ◌≡◌, refl, List, [], ◌∷◌, ◌++◌}
use Rattle.std.proofs.Common.{arith, ap, ◌∙◌}
use Rattle.annex.specs.Units.{after_of, lead_of, common_extent_of, extent_of}
use Rattle.annex.specs.Heads.{value_allowed, name_used, pli_right, often_of, zeroes_of, form_of}
use Rattle.annex.specs.Digits.{halves, digit_of, is_code, halves_fault, digits_fault, digits_of}
use Rattle.annex.specs.Carriers.{entries_formed, entries_fault, code_formed, code_fault, code_digits, carriers_formed, carriers_fault}
use Rattle.annex.specs.Contents.{fault_of}
use Rattle.annex.specs.Walk.{walk, pars}
use Rattle.annex.specs.Reading.{
  common_form,
  end_of,
  transfer_by,
  transfers_verdict_by,
  data_by,
  common_by,
  message_verdict_by,
  verdict_by,
  commons_by,
  transfers_by,
}
use Rattle.annex.specs.Finding.{transfer_in, transfer_among, transfer_found}
use Rattle.annex.specs.Transit.{flat_entries, entries_of, carrier_rows_of, carriers_answer, digits_answer, digits_given}
use Rattle.annex.specs.Packed.{packed_answer, carrier_rows_octets, octet_carriers, octet_carriers_table}
use Rattle.annex.specs.Promises.{CarriersPromise, CarrierDigitsPromise, TkCarriersPromise, TkCarrierDigitsPromise}
use Rattle.annex.specs.Bench.{K}
use Rattle.annex.specs.Answers.{Answer, Accepted, Refused}
use Rattle.tight.specs.WrongPacked.{lent, at}

-- two CC. The first, its contents from 8 on: direction 1, and F9 with FD, which carries an octet, and FE with the code 123. The second,
-- its contents from 21 on: direction 2, FA with nothing in it, and FE, here a carrier entry, with FE in it, with the code 20
abbrev pub transit : List ℕ
transit =
    K ++
    (0xC5 ∷ 0x18
    ∷ 0xCC ∷ 0x0B ∷ 0x01 ∷ 0xF9 ∷ 0x08 ∷ 0xFD ∷ 0x01 ∷ 0x55 ∷ 0xFE ∷ 0x03 ∷ 0x80 ∷ 0x21 ∷ 0x03
    ∷ 0xCC ∷ 0x09 ∷ 0x02 ∷ 0xFA ∷ 0x00 ∷ 0xFE ∷ 0x04 ∷ 0xFE ∷ 0x02 ∷ 0x00 ∷ 0x02
    ∷ 0x00 ∷ [])

-- what the definitions say, computed once
record SaidCarriers : Type 0 where
  count_first : octet_carriers transit 0 34 ≡ Accepted 4
  count_short : octet_carriers transit 0 31 ≡ Refused 15 0
  count_third : octet_carriers transit 2 34 ≡ Refused 16 0
  rows_first : octet_carriers_table transit 0 (lent 34)
      ≡ 0 ∷ 0x01 ∷ 8 ∷ 0 ∷ 0 ∷ 0 ∷ 0 ∷ 0
      ∷ 1 ∷ 0xF9 ∷ 9 ∷ 0 ∷ 8 ∷ 0 ∷ 0 ∷ 0
      ∷ 2 ∷ 0xFD ∷ 11 ∷ 0 ∷ 1 ∷ 0 ∷ 0 ∷ 0
      ∷ 2 ∷ 0xFE ∷ 14 ∷ 0 ∷ 3 ∷ 0 ∷ 3 ∷ 0
      ∷ 0xEE ∷ 0xEE ∷ []
  rows_short : octet_carriers_table transit 0 (lent 31) ≡ lent 31
  rows_second : octet_carriers_table transit 1 (lent 32)
      ≡ 0 ∷ 0x02 ∷ 21 ∷ 0 ∷ 0 ∷ 0 ∷ 0 ∷ 0
      ∷ 1 ∷ 0xFA ∷ 22 ∷ 0 ∷ 0 ∷ 0 ∷ 0 ∷ 0
      ∷ 1 ∷ 0xFE ∷ 24 ∷ 0 ∷ 4 ∷ 0 ∷ 0 ∷ 0
      ∷ 2 ∷ 0xFE ∷ 26 ∷ 0 ∷ 2 ∷ 0 ∷ 2 ∷ 0 ∷ []
  digits_first : digits_answer transit 0 3 4 ≡ Accepted 3
  digits_short : digits_answer transit 0 3 2 ≡ Refused 15 0
  digits_carried : digits_answer transit 0 2 4 ≡ Refused 16 0
  digits_entry : digits_answer transit 1 2 6 ≡ Refused 16 0
  digits_past : digits_answer transit 0 4 4 ≡ Refused 16 0
  digits_second : digits_answer transit 1 3 4 ≡ Accepted 2
  given_first : digits_given transit 0 3 (lent 4) ≡ 1 ∷ 2 ∷ 3 ∷ 0xEE ∷ []
  given_short : digits_given transit 0 3 (lent 2) ≡ lent 2
  given_second : digits_given transit 1 3 (lent 4) ≡ 2 ∷ 0 ∷ 0xEE ∷ 0xEE ∷ []

said_carriers : SaidCarriers
unfolding after_of lead_of common_extent_of extent_of name_used pli_right often_of zeroes_of form_of halves digit_of is_code halves_fault digits_fault
    digits_of entries_formed entries_fault code_formed code_fault code_digits carriers_formed carriers_fault fault_of walk pars transfer_by
    transfers_verdict_by value_allowed common_form end_of data_by common_by message_verdict_by verdict_by commons_by transfers_by transfer_in
    transfer_among transfer_found flat_entries entries_of carrier_rows_of carriers_answer digits_answer digits_given carrier_rows_octets
    octet_carriers_table
said_carriers =
    record {
      count_first = refl;
      count_short = refl;
      count_third = refl;
      rows_first = refl;
      rows_short = refl;
      rows_second = refl;
      digits_first = refl;
      digits_short = refl;
      digits_carried = refl;
      digits_entry = refl;
      digits_past = refl;
      digits_second = refl;
      given_first = refl;
      given_short = refl;
      given_second = refl;
    }

-- ---- tk_carriers: one that lists the first CC, whichever is asked for; one that leaves the direction's row out; one that lists dependent
-- entries before their carrier entry; one that gives them the level of a carrier entry

pub tk_carriers_of_the_first : (r : ℕ) (now : List ℕ) → at 1 now ≡ 0x01 → TkCarriersPromise transit 1 (lent 32) r now → ⊥
tk_carriers_of_the_first r now h p = omega (arith, ap (at 1) (p.1 ∙ said_carriers.rows_second))

pub tk_carriers_no_direction : (now : List ℕ) → TkCarriersPromise transit 0 (lent 34) 3 now → ⊥
tk_carriers_no_direction now p = omega (arith, p.0 ∙ ap packed_answer said_carriers.count_first)

pub tk_carriers_inside_out : (r : ℕ) (now : List ℕ) → at 9 now ≡ 0xFD → TkCarriersPromise transit 0 (lent 34) r now → ⊥
tk_carriers_inside_out r now h p = omega (arith, ap (at 9) (p.1 ∙ said_carriers.rows_first))

pub tk_carriers_one_level : (r : ℕ) (now : List ℕ) → at 16 now ≡ 1 → TkCarriersPromise transit 0 (lent 34) r now → ⊥
tk_carriers_one_level r now h p = omega (arith, ap (at 16) (p.1 ∙ said_carriers.rows_first))

-- one that counts offsets from the start of CC's contents; one that counts the length octet in; one that counts the filler as a digit; one
-- that takes a carrier entry FE for a code
pub tk_carriers_offsets_in_contents : (r : ℕ) (now : List ℕ) → at 2 now ≡ 0 → TkCarriersPromise transit 0 (lent 34) r now → ⊥
tk_carriers_offsets_in_contents r now h p = omega (arith, ap (at 2) (p.1 ∙ said_carriers.rows_first))

pub tk_carriers_length_octet : (r : ℕ) (now : List ℕ) → at 12 now ≡ 9 → TkCarriersPromise transit 0 (lent 34) r now → ⊥
tk_carriers_length_octet r now h p = omega (arith, ap (at 12) (p.1 ∙ said_carriers.rows_first))

pub tk_carriers_filler_counted : (r : ℕ) (now : List ℕ) → at 30 now ≡ 4 → TkCarriersPromise transit 0 (lent 34) r now → ⊥
tk_carriers_filler_counted r now h p = omega (arith, ap (at 30) (p.1 ∙ said_carriers.rows_first))

pub tk_carriers_entry_for_code : (r : ℕ) (now : List ℕ) → at 22 now ≡ 6 → TkCarriersPromise transit 1 (lent 32) r now → ⊥
tk_carriers_entry_for_code r now h p = omega (arith, ap (at 22) (p.1 ∙ said_carriers.rows_second))

-- one that clears the octets past the last row; one that takes the table's octets for rows; one that writes where it refuses; one that
-- calls an absent CC an empty listing
pub tk_carriers_past_cleared : (r : ℕ) (now : List ℕ) → at 32 now ≡ 0 → TkCarriersPromise transit 0 (lent 34) r now → ⊥
tk_carriers_past_cleared r now h p = omega (arith, ap (at 32) (p.1 ∙ said_carriers.rows_first))

pub tk_carriers_octets_for_rows : (now : List ℕ) → TkCarriersPromise transit 0 (lent 31) 4 now → ⊥
tk_carriers_octets_for_rows now p = omega (arith, p.0 ∙ ap packed_answer said_carriers.count_short)

pub tk_carriers_a_part : (r : ℕ) (now : List ℕ) → at 1 now ≡ 0x01 → TkCarriersPromise transit 0 (lent 31) r now → ⊥
tk_carriers_a_part r now h p = omega (arith, ap (at 1) (p.1 ∙ said_carriers.rows_short))

pub tk_carriers_empty_listing : (now : List ℕ) → TkCarriersPromise transit 2 (lent 34) 0 now → ⊥
tk_carriers_empty_listing now p = omega (arith, p.0 ∙ ap packed_answer said_carriers.count_third)

-- ---- tk_carrier_digits: one that gives the high half first; one that tells zero as 10; one that gives the filler as a digit; one that
-- takes the first CC, whichever is asked for

pub tk_digits_high_half_first : (r : ℕ) (now : List ℕ) → at 0 now ≡ 2 → TkCarrierDigitsPromise transit 0 3 (lent 4) r now → ⊥
tk_digits_high_half_first r now h p = omega (arith, ap (at 0) (p.1 ∙ said_carriers.given_first))

pub tk_digits_zero_as_ten : (r : ℕ) (now : List ℕ) → at 1 now ≡ 10 → TkCarrierDigitsPromise transit 1 3 (lent 4) r now → ⊥
tk_digits_zero_as_ten r now h p = omega (arith, ap (at 1) (p.1 ∙ said_carriers.given_second))

pub tk_digits_with_filler : (now : List ℕ) → TkCarrierDigitsPromise transit 0 3 (lent 4) 4 now → ⊥
tk_digits_with_filler now p = omega (arith, p.0 ∙ ap packed_answer said_carriers.digits_first)

pub tk_digits_of_the_first : (now : List ℕ) → TkCarrierDigitsPromise transit 1 3 (lent 4) 3 now → ⊥
tk_digits_of_the_first now p = omega (arith, p.0 ∙ ap packed_answer said_carriers.digits_second)

-- one that gives the digits of the row behind; one that counts rows from 1; one that gives no digits of a row that has no code; one that
-- takes a carrier entry FE for a code
pub tk_digits_of_the_next : (now : List ℕ) → TkCarrierDigitsPromise transit 0 2 (lent 4) 3 now → ⊥
tk_digits_of_the_next now p = omega (arith, p.0 ∙ ap packed_answer said_carriers.digits_carried)

pub tk_digits_rows_from_one : (now : List ℕ) → TkCarrierDigitsPromise transit 0 4 (lent 4) 3 now → ⊥
tk_digits_rows_from_one now p = omega (arith, p.0 ∙ ap packed_answer said_carriers.digits_past)

pub tk_digits_none_for_no_code : (now : List ℕ) → TkCarrierDigitsPromise transit 0 2 (lent 4) 0 now → ⊥
tk_digits_none_for_no_code now p = omega (arith, p.0 ∙ ap packed_answer said_carriers.digits_carried)

pub tk_digits_of_a_carrier_entry : (now : List ℕ) → TkCarrierDigitsPromise transit 1 2 (lent 6) 6 now → ⊥
tk_digits_of_a_carrier_entry now p = omega (arith, p.0 ∙ ap packed_answer said_carriers.digits_entry)

-- one that never says 15; one that gives as many digits as there is room for; one that clears the octets past them
pub tk_digits_room_not_asked : (now : List ℕ) → TkCarrierDigitsPromise transit 0 3 (lent 2) 3 now → ⊥
tk_digits_room_not_asked now p = omega (arith, p.0 ∙ ap packed_answer said_carriers.digits_short)

pub tk_digits_a_part : (r : ℕ) (now : List ℕ) → at 0 now ≡ 1 → TkCarrierDigitsPromise transit 0 3 (lent 2) r now → ⊥
tk_digits_a_part r now h p = omega (arith, ap (at 0) (p.1 ∙ said_carriers.given_short))

pub tk_digits_past_cleared : (r : ℕ) (now : List ℕ) → at 3 now ≡ 0 → TkCarrierDigitsPromise transit 0 3 (lent 4) r now → ⊥
tk_digits_past_cleared r now h p = omega (arith, ap (at 3) (p.1 ∙ said_carriers.given_first))

-- ---- carriers and carrier_digits

-- they are shut out for the same: the functions for Rust and C pack their answers, and nothing else
packed : {a r : Answer} {d now : List ℕ} → (r ≡ a) × (now ≡ d) → (packed_answer r ≡ packed_answer a) × (now ≡ d)
packed p = (ap packed_answer p.0, p.1)

pub carriers_of_the_first : (r : Answer) (now : List ℕ) → at 1 now ≡ 0x01 → CarriersPromise transit 1 (lent 32) r now → ⊥
carriers_of_the_first r now h p = tk_carriers_of_the_first (packed_answer r) now h (packed p)

pub carriers_no_direction : (now : List ℕ) → CarriersPromise transit 0 (lent 34) (Accepted 3) now → ⊥
carriers_no_direction now p = tk_carriers_no_direction now (packed p)

pub carriers_inside_out : (r : Answer) (now : List ℕ) → at 9 now ≡ 0xFD → CarriersPromise transit 0 (lent 34) r now → ⊥
carriers_inside_out r now h p = tk_carriers_inside_out (packed_answer r) now h (packed p)

pub carriers_offsets_in_contents : (r : Answer) (now : List ℕ) → at 2 now ≡ 0 → CarriersPromise transit 0 (lent 34) r now → ⊥
carriers_offsets_in_contents r now h p = tk_carriers_offsets_in_contents (packed_answer r) now h (packed p)

pub carriers_past_cleared : (r : Answer) (now : List ℕ) → at 32 now ≡ 0 → CarriersPromise transit 0 (lent 34) r now → ⊥
carriers_past_cleared r now h p = tk_carriers_past_cleared (packed_answer r) now h (packed p)

pub digits_high_half_first : (r : Answer) (now : List ℕ) → at 0 now ≡ 2 → CarrierDigitsPromise transit 0 3 (lent 4) r now → ⊥
digits_high_half_first r now h p = tk_digits_high_half_first (packed_answer r) now h (packed p)

pub digits_zero_as_ten : (r : Answer) (now : List ℕ) → at 1 now ≡ 10 → CarrierDigitsPromise transit 1 3 (lent 4) r now → ⊥
digits_zero_as_ten r now h p = tk_digits_zero_as_ten (packed_answer r) now h (packed p)

pub digits_of_the_next : (now : List ℕ) → CarrierDigitsPromise transit 0 2 (lent 4) (Accepted 3) now → ⊥
digits_of_the_next now p = tk_digits_of_the_next now (packed p)

pub digits_none_for_no_code : (now : List ℕ) → CarrierDigitsPromise transit 0 2 (lent 4) (Accepted 0) now → ⊥
digits_none_for_no_code now p = tk_digits_none_for_no_code now (packed p)
