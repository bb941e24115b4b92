-- Examples of charging information: document 02, request a: messages with F7 and what they say, each refusal on both sides of its limit,
-- edits, records, and the octets for Rust and C, under one statement; and how many octets each kind has.
use Rattle.std.specs.Prelude.{ℕ, ◌≡◌, refl, List, [], ◌∷◌, ◌++◌, map, length, replicate}
use Rattle.annex.specs.Units.{after_of, lead_of, common_extent_of, extent_of}
use Rattle.annex.specs.Heads.{value_allowed, name_used, pli_right, often_of, zeroes_of, form_of}
use Rattle.annex.specs.Rates.{is_kind, fields_of, drawn_for, numbers_drawn, drawn_fault, check_right, decimal, field_in, charges_of}
use Rattle.annex.specs.Contents.{charging_fault, fault_of}
use Rattle.annex.specs.Items.{Part, plain_item, value_part, data_part, holding_of, item_of, contents_of}
use Rattle.annex.specs.Layout.{layout_item, layout_items, layout_part, layout}
use Rattle.annex.specs.Allowed.{length_right, fault_in, value_fits}
use Rattle.annex.specs.Walk.{walk}
use Rattle.annex.specs.Reading.{
  common_form,
  end_of,
  transfer_by,
  transfers_verdict_by,
  data_by,
  common_by,
  message_verdict_by,
  verdict_by,
  commons_by,
  transfers_by,
  open_common_by,
  record_by,
}
use Rattle.annex.specs.Writing.{item_writing, items_writing, data_writing, part_writing, parts_writing, over_limits, record_writing}
use Rattle.annex.specs.Finding.{transfer_in, transfer_among, transfer_found}
use Rattle.annex.specs.Editing.{Edit, edit_refusal, instead, edited_items, edited, record_editing, editing_of, buffer_of}
use Rattle.annex.specs.Editing.Edit.{Replacing, Appending}
use Rattle.annex.specs.Charging.{charging_of, octet_charging, octet_charged}
use Rattle.annex.specs.Bench.{K}
use Rattle.annex.specs.Answers.{Answer, Accepted, Refused, ChargingAnswer, Is}

-- F7's contents in a message, and the answer; a message, and the answer; F7's contents in a message, lent octets, the answer and the octets
-- then; an edit of a message with so much room behind it, and the answer; a record, and the answer to writing it, room aside
pub data Case : Type 0 where
  Said : List ℕ → ChargingAnswer → Case
  Asked : List ℕ → ChargingAnswer → Case
  Given : List ℕ → List ℕ → Answer → List ℕ → Case
  Edited : Edit → List ℕ → ℕ → Answer → Case
  Written : List Part → Answer → Case

-- F7 with the contents s, and a message that holds it: its header at 6
abbrev f7 : List ℕ → List ℕ
f7 s = 0xF7 ∷ length s ∷ s

abbrev with : List ℕ → List ℕ
with s = K ++ ((0xC5 ∷ length (f7 s) ∷ f7 s) ++ (0x00 ∷ []))

abbrev record_with : List ℕ → List Part
record_with s = value_part 0x01 0x01 ∷ value_part 0x06 0x11 ∷ data_part (plain_item 0xF7 s ∷ []) ∷ []

-- lent octets
abbrev lent : ℕ → List ℕ
lent n = replicate n 0xEE

abbrev as_defined : Case → Case
as_defined (Said s a) = Said s (charging_of (with s))
as_defined (Asked m a) = Asked m (charging_of m)
as_defined (Given s room a now) = Given s room (octet_charging (with s) (length room)) (octet_charged (with s) room)
as_defined (Edited e m k a) = Edited e m k (editing_of e (m ++ lent k) (length m))
as_defined (Written r a) = Written r (record_writing r)

-- kind; unit fee, initial units; day, night, late night 1 and 2; MBI; information interval, information units, free time; check digit
abbrev says : ℕ → ℕ → ℕ → ℕ → ℕ → ℕ → ℕ → ℕ → ℕ → ℕ → ℕ → ℕ → ChargingAnswer
says k u i d n e l m v w f c =
    Is
    (record {
      kind = k;
      unit_fee = u;
      initial_units = i;
      day = d;
      night = n;
      late_night_1 = e;
      late_night_2 = l;
      mbi = m;
      information_interval = v;
      information_units = w;
      free_time = f;
      check_digit = c;
    })

-- initial units 12, 180 half seconds by day, 240 by night, 300 and 360 late at night
abbrev tariff : List ℕ
tariff =
    0x31 ∷ 0x32 ∷ 0x31 ∷ 0x38 ∷ 0x30 ∷ 0x32 ∷ 0x34 ∷ 0x30 ∷ 0x33 ∷ 0x30 ∷ 0x30 ∷ 0x33 ∷ 0x36 ∷ 0x30 ∷ []

-- so many octets of 30 behind the kind are too few or too many
abbrev long : ℕ → ℕ → Case
long k n = Said (0x00 ∷ k ∷ replicate n 0x30) (Refused 12 6)

-- MBI 12 and the check digit 1 for Rust and C
abbrev given : List ℕ
given = 5 ∷ (replicate 12 0 ++ (12 ∷ 0 ∷ (replicate 6 0 ++ (1 ∷ 0 ∷ []))))

abbrev cases : List Case
cases =
    -- the request's two
    Said (0x00 ∷ 0x05 ∷ 0x12 ∷ 0x31 ∷ []) (says 5 0 0 0 0 0 0 12 0 0 0 1) ∷
    Said (0x00 ∷ 0x05 ∷ 0x12 ∷ 0x32 ∷ []) (Refused 18 6) ∷
    -- a message for each kind
    Said (0xFF ∷ 0x01 ∷ (tariff ++ (0x38 ∷ []))) (says 1 0 12 180 240 300 360 0 0 0 0 8) ∷
    Said (0x07 ∷ 0x02 ∷ []) (says 2 0 0 0 0 0 0 0 0 0 0 0) ∷
    Said (0x00 ∷ 0x03 ∷ 0xA7 ∷ 0x30 ∷ 0x39 ∷ 0x30 ∷ 0x30 ∷ 0x31 ∷ 0x32 ∷ 0x37 ∷ []) (says 3 0 0 0 0 0 0 7 90 0 12 7) ∷
    Said (0x00 ∷ 0x04 ∷ 0x21 ∷ 0x31 ∷ 0x32 ∷ 0x33 ∷ 0x34 ∷ 0x30 ∷ 0x32 ∷ 0x30 ∷ 0x30 ∷ []) (says 4 0 0 0 0 0 0 21 0 1234 20 0) ∷
    Said (0x00 ∷ 0x05 ∷ 0x1A ∷ 0x33 ∷ []) (says 5 0 0 0 0 0 0 10 0 0 0 3) ∷
    Said (0x00 ∷ 0x08 ∷ 0xFF ∷ tariff) (says 8 255 12 180 240 300 360 0 0 0 0 0) ∷
    Said (0x00 ∷ 0x09 ∷ 0x0A ∷ (tariff ++ (0x30 ∷ 0x39 ∷ 0x30 ∷ 0x30 ∷ 0x31 ∷ 0x32 ∷ [])))
    (says 9 10 12 180 240 300 360 0 90 0 12 0) ∷
    Said (0x00 ∷ 0x0A ∷ 0x00 ∷ (tariff ++ (0x39 ∷ 0x39 ∷ 0x39 ∷ 0x39 ∷ 0x30 ∷ 0x31 ∷ 0x32 ∷ [])))
    (says 10 0 12 180 240 300 360 0 0 9999 12 0) ∷
    -- 12: fewer than two octets; the kinds beside those of the list; of each kind an octet too few and one too many; before 13
    Said [] (Refused 12 6) ∷
    Said (0x02 ∷ []) (Refused 12 6) ∷
    Said (0x00 ∷ 0x00 ∷ []) (Refused 12 6) ∷
    Said (0x00 ∷ 0x06 ∷ (tariff ++ (0x30 ∷ []))) (Refused 12 6) ∷
    Said (0x00 ∷ 0x07 ∷ 0x12 ∷ 0x31 ∷ []) (Refused 12 6) ∷
    Said (0x00 ∷ 0x0B ∷ 0x00 ∷ (tariff ++ (replicate 7 0x30))) (Refused 12 6) ∷
    long 1 14 ∷
    long 1 16 ∷
    long 2 1 ∷
    long 3 7 ∷
    long 3 9 ∷
    long 4 8 ∷
    long 4 10 ∷
    long 5 1 ∷
    long 5 3 ∷
    long 8 14 ∷
    long 8 16 ∷
    long 9 20 ∷
    long 9 22 ∷
    long 10 21 ∷
    long 10 23 ∷
    Said (0x00 ∷ 0x05 ∷ 0x02 ∷ 0x31 ∷ 0x30 ∷ []) (Refused 12 6) ∷
    -- 13: a half of MBI, low and high, below 1 and above 10; a character before 0 and behind 9, first and last; also where 18 would follow
    Said (0x00 ∷ 0x05 ∷ 0x10 ∷ 0x33 ∷ []) (Refused 13 10) ∷
    Said (0x00 ∷ 0x05 ∷ 0x01 ∷ 0x33 ∷ []) (Refused 13 10) ∷
    Said (0x00 ∷ 0x05 ∷ 0x1B ∷ 0x33 ∷ []) (Refused 13 10) ∷
    Said (0x00 ∷ 0x05 ∷ 0xB1 ∷ 0x33 ∷ []) (Refused 13 10) ∷
    Said (0x00 ∷ 0x05 ∷ 0x12 ∷ 0x2F ∷ []) (Refused 13 11) ∷
    Said (0x00 ∷ 0x05 ∷ 0x12 ∷ 0x3A ∷ []) (Refused 13 11) ∷
    Said (0x00 ∷ 0x05 ∷ 0x12 ∷ 0x01 ∷ []) (Refused 13 11) ∷
    Said (0x00 ∷ 0x08 ∷ 0x00 ∷ (0x2F ∷ replicate 13 0x30)) (Refused 13 11) ∷
    Said (0x00 ∷ 0x08 ∷ 0x00 ∷ (replicate 13 0x30 ++ (0x3A ∷ []))) (Refused 13 24) ∷
    -- 18: of each kind with a check digit; a kind without one is not added up
    Said (0x00 ∷ 0x01 ∷ (tariff ++ (0x39 ∷ []))) (Refused 18 6) ∷
    Said (0x00 ∷ 0x03 ∷ 0xA7 ∷ 0x30 ∷ 0x39 ∷ 0x30 ∷ 0x30 ∷ 0x31 ∷ 0x32 ∷ 0x36 ∷ []) (Refused 18 6) ∷
    Said (0x00 ∷ 0x04 ∷ 0x21 ∷ 0x31 ∷ 0x32 ∷ 0x33 ∷ 0x34 ∷ 0x30 ∷ 0x32 ∷ 0x30 ∷ 0x31 ∷ []) (Refused 18 6) ∷
    Said (0x00 ∷ 0x08 ∷ 0x00 ∷ replicate 14 0x30) (says 8 0 0 0 0 0 0 0 0 0 0 0) ∷
    -- 16: no F7, and no transfer data; reading's numbers come before it, and 11 before 12
    Asked (K ++ (0xC5 ∷ 0x02 ∷ 0x41 ∷ 0x01 ∷ 0x00 ∷ [])) (Refused 16 0) ∷
    Asked (K ++ (0x00 ∷ [])) (Refused 16 0) ∷
    Asked K (Refused 4 4) ∷
    Asked (K ++ (0xC5 ∷ 0x03 ∷ 0xF7 ∷ 0x02 ∷ 0x00 ∷ 0x00 ∷ [])) (Refused 11 6) ∷
    -- for Rust and C: octets behind the 23 stay; 15 where there are 22
    Given (0x00 ∷ 0x05 ∷ 0x12 ∷ 0x31 ∷ []) (lent 25) (Accepted 23) (given ++ lent 2) ∷
    Given (0x00 ∷ 0x05 ∷ 0x12 ∷ 0x31 ∷ []) (lent 23) (Accepted 23) given ∷
    Given (0x00 ∷ 0x05 ∷ 0x12 ∷ 0x31 ∷ []) (lent 22) (Refused 15 0) (lent 22) ∷
    Given (0x00 ∷ 0x05 ∷ 0x12 ∷ 0x32 ∷ []) (lent 22) (Refused 18 6) (lent 22) ∷
    -- edits: at 0, for the new parameter
    Edited (Replacing (f7 (0x00 ∷ 0x05 ∷ 0x12 ∷ 0x31 ∷ [])) 0) (with (0x00 ∷ 0x05 ∷ 0x1A ∷ 0x33 ∷ [])) 0 (Accepted 13) ∷
    Edited (Replacing (f7 (0x00 ∷ 0x06 ∷ [])) 0) (with (0x00 ∷ 0x02 ∷ [])) 0 (Refused 12 0) ∷
    Edited (Replacing (f7 (0x00 ∷ 0x05 ∷ 0x02 ∷ 0x31 ∷ [])) 0) (with (0x00 ∷ 0x02 ∷ [])) 0 (Refused 13 0) ∷
    Edited (Replacing (f7 (0x00 ∷ 0x05 ∷ 0x12 ∷ 0x32 ∷ [])) 0) (with (0x00 ∷ 0x02 ∷ [])) 0 (Refused 18 0) ∷
    Edited (Appending (f7 (0x00 ∷ 0x05 ∷ 0x12 ∷ 0x32 ∷ []))) (K ++ (0xC5 ∷ 0x00 ∷ 0x00 ∷ [])) 0 (Refused 18 0) ∷
    Edited (Appending (f7 (0x00 ∷ 0x02 ∷ []))) (K ++ (0xC5 ∷ 0x00 ∷ 0x00 ∷ [])) 4 (Accepted 11) ∷
    Edited (Appending (f7 (0x00 ∷ 0x02 ∷ []))) (K ++ (0xC5 ∷ 0x00 ∷ 0x00 ∷ [])) 3 (Refused 15 0) ∷
    -- records
    Written (record_with (0x00 ∷ 0x05 ∷ 0x12 ∷ 0x31 ∷ [])) (Accepted 13) ∷
    Written (record_with (0x00 ∷ 0x06 ∷ [])) (Refused 12 6) ∷
    Written (record_with (0x00 ∷ 0x05 ∷ 0x02 ∷ 0x31 ∷ [])) (Refused 13 6) ∷
    Written (record_with (0x00 ∷ 0x05 ∷ 0x12 ∷ 0x32 ∷ [])) (Refused 18 6) ∷ []

-- what the definitions say of each case is what the table says
pub tariffs : map as_defined cases ≡ cases
unfolding after_of lead_of common_extent_of extent_of name_used pli_right often_of zeroes_of form_of is_kind fields_of numbers_drawn drawn_fault
    check_right decimal field_in charges_of charging_fault fault_of holding_of item_of contents_of layout_item layout_items layout_part layout
    length_right fault_in value_fits walk transfer_by transfers_verdict_by value_allowed common_form end_of data_by common_by message_verdict_by
    verdict_by commons_by transfers_by open_common_by record_by item_writing items_writing data_writing part_writing parts_writing over_limits
    record_writing transfer_in transfer_among transfer_found edit_refusal instead edited_items edited record_editing editing_of buffer_of charging_of
    octet_charging octet_charged
tariffs = refl

-- how many octets follow the kind
pub lengths : map (λ k. length (drawn_for k)) (1 ∷ 2 ∷ 3 ∷ 4 ∷ 5 ∷ 8 ∷ 9 ∷ 10 ∷ []) ≡ 15 ∷ 0 ∷ 8 ∷ 9 ∷ 2 ∷ 15 ∷ 21 ∷ 22 ∷ []
unfolding fields_of
lengths = refl
