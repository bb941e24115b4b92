-- Examples of what 13 shows: document 02, request e: of each kind of contents a bad low half, a bad high half, bad filler and more than one
-- of these; the numbers that stay at the header; writing and edits; and which octets are bad, under one statement. The request's own
-- example is case 13 of the bench table; each character of F7 and E0 is in Tariffs and Circles.
use Rattle.std.specs.Prelude.{ℕ, ◌+◌, ◌≡◌, refl, cond, List, [], ◌∷◌, ◌++◌, map, length, replicate}
use Rattle.annex.specs.Units.{after_of, lead_of, common_extent_of, extent_of}
use Rattle.annex.specs.Heads.{value_allowed, name_used, pli_right, often_of, zeroes_of, form_of}
use Rattle.annex.specs.Digits.{halves, joined, code_of, is_code, halves_fault, digits_fault, packed, number_fault_in}
use Rattle.annex.specs.Rates.{is_kind, fields_of, numbers_drawn, drawn_fault, check_right}
use Rattle.annex.specs.Orders.{
  forms_of,
  layout_of,
  order_after,
  outside_fault,
  forward_fault,
  control_fault,
  logic_fault,
  layout_fault,
  own_fault,
  parameter_fault,
  parameters_fault,
  order_fault,
}
use Rattle.annex.specs.Contents.{calling_fault, generic_fault, dialled_fault, charging_fault, fault_of}
use Rattle.annex.specs.Items.{Item, marked_item, number_item, data_part, holding_of, item_of, contents_of}
use Rattle.annex.specs.Layout.{layout_item, layout_items, layout_part, layout}
use Rattle.annex.specs.Allowed.{length_right, fault_in, value_fits}
use Rattle.annex.specs.Walk.{walk, pars}
use Rattle.annex.specs.Reading.{
  common_form,
  end_of,
  verdict_of,
  transfer_by,
  transfers_verdict_by,
  data_by,
  common_by,
  message_verdict_by,
  verdict_by,
  commons_by,
  transfers_by,
  open_common_by,
  record_by,
}
use Rattle.annex.specs.Writing.{item_writing, items_writing, data_writing, part_writing, parts_writing, over_limits, record_writing}
use Rattle.annex.specs.Editing.{Edit, edit_refusal, instead, edited_items, edited, record_editing, editing_of}
use Rattle.annex.specs.Editing.Edit.{Replacing, Appending, Removing}
use Rattle.annex.specs.BadHalves.{pars_good, bad_at}
use Rattle.annex.specs.Bench.{M, K, record_of_k}
use Rattle.annex.specs.Answers.{Answer, Accepted, Refused}

-- transfer data in a message, and the answer; a message, and the answer; transfer parameters of a record, and the answer to writing it,
-- room aside; an edit of a message with no room behind it, and the answer; a header and contents, and the offsets of the bad octets
pub data Case : Type 0 where
  Read : List ℕ → Answer → Case
  Asked : List ℕ → Answer → Case
  Written : List Item → Answer → Case
  Edited : Edit → List ℕ → Answer → Case
  Holds : ℕ → List ℕ → List ℕ → Case

-- a message with transfer data, of which the first header stands at 6
abbrev with : List ℕ → List ℕ
with t = K ++ ((0xC5 ∷ length t ∷ t) ++ (0x00 ∷ []))

-- the offsets of the bad octets among those from the offset i on
abbrev bad_from : ℕ → List ℕ → ℕ → List ℕ → List ℕ
bad_from h s i [] = []
bad_from h s i (x ∷ xs) = cond (bad_at h s i) (i ∷ bad_from h s (i + 1) xs) (bad_from h s (i + 1) xs)

abbrev as_defined : Case → Case
as_defined (Read t a) = Read t (verdict_of (with t))
as_defined (Asked m a) = Asked m (verdict_of m)
as_defined (Written is a) = Written is (record_writing (record_of_k ++ (data_part is ∷ [])))
as_defined (Edited e m a) = Edited e m (editing_of e m (length m))
as_defined (Holds h s os) = Holds h s (bad_from h s 0 s)

abbrev cases : List Case
cases =
    -- PLI 10, digits from 8 on: low half, high half, both; a later octet; filler; digit and filler, in one octet and in two
    Read (0x90 ∷ 0x04 ∷ 0x20 ∷ 0x3A ∷ []) (Refused 13 8) ∷
    Read (0x90 ∷ 0x04 ∷ 0x01 ∷ 0x3A ∷ []) (Refused 13 8) ∷
    Read (0x90 ∷ 0x04 ∷ 0xFF ∷ 0xFF ∷ []) (Refused 13 8) ∷
    Read (0x90 ∷ 0x04 ∷ 0x21 ∷ 0xD1 ∷ []) (Refused 13 9) ∷
    Read (0x90 ∷ 0x03 ∷ 0x21 ∷ 0x1A ∷ []) (Refused 13 9) ∷
    Read (0x90 ∷ 0x03 ∷ 0x21 ∷ 0x10 ∷ []) (Refused 13 9) ∷
    Read (0x90 ∷ 0x03 ∷ 0x01 ∷ 0x1A ∷ []) (Refused 13 8) ∷
    Read (0x91 ∷ 0xC4 ∷ 0x21 ∷ 0x3D ∷ []) (Refused 13 9) ∷
    Read (0x95 ∷ 0x84 ∷ 0x21 ∷ 0x0A ∷ []) (Refused 13 9) ∷
    Read (0xA3 ∷ 0x01 ∷ 0x21 ∷ []) (Refused 13 8) ∷
    -- the longest: its last octet, and its first and its last
    Read (0x98 ∷ 0x3F ∷ (replicate 31 0x11 ++ (0x11 ∷ []))) (Refused 13 39) ∷
    Read (0x98 ∷ 0x3F ∷ (0x10 ∷ (replicate 30 0x11 ++ (0x11 ∷ [])))) (Refused 13 8) ∷
    -- D7, digits from 10 on; here 10 is spare, and 0 is a digit
    Read (0xD7 ∷ 0x03 ∷ 0x03 ∷ 0x11 ∷ 0x0A ∷ []) (Refused 13 10) ∷
    Read (0xD7 ∷ 0x03 ∷ 0x03 ∷ 0x11 ∷ 0xA0 ∷ []) (Refused 13 10) ∷
    Read (0xD7 ∷ 0x04 ∷ 0x03 ∷ 0x11 ∷ 0x21 ∷ 0x0D ∷ []) (Refused 13 11) ∷
    Read (0xD7 ∷ 0x04 ∷ 0x83 ∷ 0x11 ∷ 0x21 ∷ 0x10 ∷ []) (Refused 13 11) ∷
    Read (0xD7 ∷ 0x04 ∷ 0x83 ∷ 0x11 ∷ 0xA1 ∷ 0x10 ∷ []) (Refused 13 10) ∷
    -- DC as D7; DA from 11 on, behind 06, and unread behind another first octet
    Read (0xDC ∷ 0x03 ∷ 0x03 ∷ 0x11 ∷ 0x0A ∷ []) (Refused 13 10) ∷
    Read (0xDC ∷ 0x03 ∷ 0x03 ∷ 0x11 ∷ 0xA0 ∷ []) (Refused 13 10) ∷
    Read (0xDC ∷ 0x04 ∷ 0x83 ∷ 0x11 ∷ 0x21 ∷ 0x10 ∷ []) (Refused 13 11) ∷
    Read (0xDC ∷ 0x04 ∷ 0x83 ∷ 0x11 ∷ 0xE1 ∷ 0x10 ∷ []) (Refused 13 10) ∷
    Read (0xDA ∷ 0x04 ∷ 0x06 ∷ 0x03 ∷ 0x11 ∷ 0x0A ∷ []) (Refused 13 11) ∷
    Read (0xDA ∷ 0x04 ∷ 0x06 ∷ 0x03 ∷ 0x11 ∷ 0xA0 ∷ []) (Refused 13 11) ∷
    Read (0xDA ∷ 0x05 ∷ 0x06 ∷ 0x83 ∷ 0x11 ∷ 0x21 ∷ 0x10 ∷ []) (Refused 13 12) ∷
    Read (0xDA ∷ 0x05 ∷ 0x06 ∷ 0x83 ∷ 0x11 ∷ 0xA1 ∷ 0x10 ∷ []) (Refused 13 11) ∷
    Read (0xDA ∷ 0x04 ∷ 0x05 ∷ 0x03 ∷ 0x11 ∷ 0x0A ∷ []) (Accepted 13) ∷
    -- F7, fields from 10 on: a half of MBI and a character
    Read (0xF7 ∷ 0x04 ∷ 0x00 ∷ 0x05 ∷ 0x02 ∷ 0x2F ∷ []) (Refused 13 10) ∷
    Read (0xF7 ∷ 0x04 ∷ 0x00 ∷ 0x05 ∷ 0x12 ∷ 0x2F ∷ []) (Refused 13 11) ∷
    -- E0, the order from 8 on: two parameters, each with a bad octet; and digit and filler
    Read (0xE0 ∷ 0x0B ∷ 0x31 ∷ 0xD2 ∷ 0x30 ∷ 0x30 ∷ 0x3A ∷ 0xC9 ∷ 0x04 ∷ 0x00 ∷ 0x00 ∷ 0x31 ∷ 0x2F ∷ []) (Refused 13 12) ∷
    Read (0xE0 ∷ 0x0B ∷ 0x31 ∷ 0xD2 ∷ 0x30 ∷ 0x30 ∷ 0x39 ∷ 0xC9 ∷ 0x04 ∷ 0x00 ∷ 0x00 ∷ 0x31 ∷ 0x2F ∷ []) (Refused 13 18) ∷
    Read (0xE0 ∷ 0x05 ∷ 0x21 ∷ 0x91 ∷ 0x03 ∷ 0x0A ∷ 0x1A ∷ []) (Refused 13 11) ∷
    Read (0xE0 ∷ 0x07 ∷ 0x2E ∷ 0x92 ∷ 0x04 ∷ 0x83 ∷ 0x10 ∷ 0xA0 ∷ 0x10 ∷ []) (Refused 13 13) ∷
    -- behind other parameters, of C5 and before it; of two bad ones the first
    Read (0x41 ∷ 0x01 ∷ 0x90 ∷ 0x01 ∷ 0x00 ∷ []) (Refused 13 10) ∷
    Read (0x90 ∷ 0x01 ∷ 0x00 ∷ 0x98 ∷ 0x01 ∷ 0x00 ∷ []) (Refused 13 8) ∷
    Asked (0x83 ∷ 0x39 ∷ 0x30 ∷ 0x00 ∷ with (0x90 ∷ 0x02 ∷ 0x01 ∷ [])) (Refused 13 12) ∷
    -- other numbers stay at the header, also where an octet is bad
    Read (0xA3 ∷ 0x41 ∷ 0x00 ∷ []) (Refused 12 6) ∷
    Read (0xDC ∷ 0x03 ∷ 0x00 ∷ 0x08 ∷ 0x0A ∷ []) (Refused 12 6) ∷
    Read (0xF7 ∷ 0x04 ∷ 0x00 ∷ 0x05 ∷ 0x12 ∷ 0x32 ∷ []) (Refused 18 6) ∷
    Read (0xE0 ∷ 0x06 ∷ 0x2E ∷ 0x92 ∷ 0x03 ∷ 0x03 ∷ 0x11 ∷ 0x0A ∷ []) (Refused 12 6) ∷
    Read (0xE0 ∷ 0x04 ∷ 0x23 ∷ 0x91 ∷ 0x01 ∷ 0x00 ∷ []) (Refused 19 6) ∷
    Read (0x41 ∷ 0x01 ∷ 0x90 ∷ 0x03 ∷ 0x00 ∷ []) (Refused 11 8) ∷
    -- writing: at the header, of the second digit, and of a second parameter
    Written (marked_item 0x90 0 0 0 (1 ∷ 12 ∷ []) ∷ []) (Refused 13 6) ∷
    Written (marked_item 0x90 0 0 0 (1 ∷ []) ∷ number_item 0xD7 0x03 0x11 (0 ∷ 12 ∷ []) ∷ []) (Refused 13 9) ∷
    -- edits: of the message at its octet, of the new parameter at 0
    Edited (Appending (0x41 ∷ 0x01 ∷ [])) (with (0x90 ∷ 0x03 ∷ 0x21 ∷ 0x1A ∷ [])) (Refused 13 9) ∷
    Edited (Removing 0x10 0) (with (0x90 ∷ 0x01 ∷ 0x00 ∷ [])) (Refused 13 8) ∷
    Edited (Replacing (0x98 ∷ 0x02 ∷ 0x01 ∷ []) 0) M (Refused 13 0) ∷
    Edited (Replacing (0x98 ∷ 0x02 ∷ 0x01 ∷ []) 0) (with (0x90 ∷ 0x01 ∷ 0x00 ∷ [])) (Refused 13 8) ∷
    -- which octets are bad
    Holds 0x90 (0x03 ∷ 0x01 ∷ 0x1A ∷ []) (1 ∷ 2 ∷ []) ∷
    Holds 0x98 (0xC4 ∷ 0xBC ∷ 0xA9 ∷ []) [] ∷
    Holds 0xD7 (0x03 ∷ 0x11 ∷ 0xCB ∷ 0x09 ∷ []) [] ∷
    Holds 0xD7 (0x83 ∷ 0x11 ∷ 0xA1 ∷ 0x21 ∷ 0x10 ∷ []) (2 ∷ 4 ∷ []) ∷
    Holds 0xDC (0x83 ∷ 0x11 ∷ 0xA1 ∷ 0x00 ∷ []) (2 ∷ []) ∷
    Holds 0xDC (0x83 ∷ 0x18 ∷ 0xA1 ∷ 0x00 ∷ []) [] ∷
    Holds 0xDA (0x06 ∷ 0x03 ∷ 0x11 ∷ 0x00 ∷ 0x0A ∷ []) (4 ∷ []) ∷
    Holds 0xDA (0x07 ∷ 0x03 ∷ 0x11 ∷ 0x00 ∷ 0x0A ∷ []) [] ∷
    Holds 0xF7 (0x00 ∷ 0x05 ∷ 0x02 ∷ 0x2F ∷ []) (2 ∷ 3 ∷ []) ∷
    Holds 0xE0 (0x31 ∷ 0xD2 ∷ 0x30 ∷ 0x3A ∷ 0x30 ∷ 0xC9 ∷ 0x04 ∷ 0x00 ∷ 0x00 ∷ 0x3A ∷ 0x03 ∷ 0x41 ∷ 0x00 ∷ []) (3 ∷ 9 ∷ []) ∷
    Holds 0xE0 (0x2E ∷ 0x43 ∷ 0x80 ∷ 0x92 ∷ 0x04 ∷ 0x83 ∷ 0x10 ∷ 0xB1 ∷ 0x10 ∷ []) (7 ∷ 8 ∷ []) ∷
    Holds 0x87 (0x01 ∷ 0x00 ∷ []) [] ∷
    Holds 0x41 (0x01 ∷ []) [] ∷ []

-- what the definitions say of each case is what the table says
pub bad_digits : map as_defined cases ≡ cases
unfolding after_of lead_of common_extent_of extent_of name_used pli_right often_of zeroes_of form_of halves joined code_of is_code halves_fault
    digits_fault packed number_fault_in is_kind fields_of numbers_drawn drawn_fault check_right forms_of layout_of order_after outside_fault
    forward_fault control_fault logic_fault layout_fault own_fault parameter_fault parameters_fault order_fault calling_fault generic_fault
    dialled_fault charging_fault fault_of holding_of item_of contents_of layout_item layout_items layout_part layout length_right fault_in value_fits
    walk pars transfer_by transfers_verdict_by value_allowed common_form end_of data_by common_by message_verdict_by verdict_by commons_by transfers_by
    open_common_by record_by item_writing items_writing data_writing part_writing parts_writing over_limits record_writing edit_refusal instead
    edited_items edited record_editing editing_of pars_good bad_at
bad_digits = refl
