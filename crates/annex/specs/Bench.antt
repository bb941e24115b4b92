-- The bench table: document 01, "The bench table", cases 1 to 15, with case 13 as document 02's request e changes it, and the examples of
-- request d, under one statement. Case 1, M, is an example of request d too.
use Rattle.std.specs.Prelude.{ℕ, ◌≡◌, refl, List, [], ◌∷◌, ◌++◌, map, length, Err}
use Rattle.annex.specs.Units.{after_of, lead_of, common_extent_of, extent_of}
use Rattle.annex.specs.Heads.{value_allowed, name_used, pli_right, often_of, zeroes_of, form_of}
use Rattle.annex.specs.Digits.{halves, joined, digit_of, code_of, is_code, halves_fault, digits_fault, digits_of, packed, number_fault_in}
use Rattle.annex.specs.Contents.{calling_fault, generic_fault, dialled_fault, two_fault, fault_of}
use Rattle.annex.specs.Items.{Part, plain_item, marked_item, number_item, part, value_part, data_part, holding_of, item_of, contents_of}
use Rattle.annex.specs.Layout.{layout_item, layout_items, layout_part, layout}
use Rattle.annex.specs.Walk.{walk}
use Rattle.annex.specs.Reading.{
  common_form,
  end_of,
  verdict_of,
  record_of,
  transfer_by,
  transfers_verdict_by,
  data_by,
  common_by,
  message_verdict_by,
  verdict_by,
  commons_by,
  transfers_by,
  open_common_by,
  record_by,
}
use Rattle.annex.specs.Editing.{Edit, edit_refusal, instead, edited_items, edited, record_editing, editing_of, buffer_of}
use Rattle.annex.specs.Editing.Edit.{Replacing}
use Rattle.annex.specs.Answers.{Answer, Accepted, Refused}

-- a message, the answer to it and the record beside the answer; or an edit of a buffer that holds a message, the answer and the buffer then
pub data Case : Type 0 where
  Read : List ℕ → Answer → List Part → Case
  Edited : Edit → List ℕ → Answer → List ℕ → Case

-- the record beside an answer: none where refused
abbrev beside : Answer → List Part → List Part
beside (Accepted n) r = r
beside (Err w) r = []

-- a case with what the definitions say in the place of what the table says
abbrev as_defined : Case → Case
as_defined (Read m a r) = Read m (verdict_of m) (beside (verdict_of m) (record_of m))
as_defined (Edited e b a c) = Edited e b (editing_of e b (length b)) (buffer_of e b (length b))

abbrev pub M : List ℕ
M =
    0x01 ∷ 0x01 ∷ 0x83 ∷ 0x39 ∷ 0x30 ∷ 0x00 ∷ 0x04 ∷ 0x01 ∷ 0x06 ∷ 0x11 ∷ 0xC5 ∷ 0x0A ∷
    0x90 ∷ 0x04 ∷ 0x21 ∷ 0x3A ∷ 0x52 ∷ 0x81 ∷ 0x98 ∷ 0x03 ∷ 0x21 ∷ 0x0A ∷ 0x00 ∷ []

abbrev pub K : List ℕ
K = 0x01 ∷ 0x01 ∷ 0x06 ∷ 0x11 ∷ []

-- own call 12345, area 1203, dialled 120
abbrev pub record_of_m : List Part
record_of_m =
    value_part 0x01 0x01 ∷
    value_part 0x83 12345 ∷
    value_part 0x04 0x01 ∷
    value_part 0x06 0x11 ∷
    data_part (
    marked_item 0x90 0 0 0 (1 ∷ 2 ∷ 0 ∷ 3 ∷ []) ∷
    plain_item 0x52 (0x81 ∷ []) ∷
    marked_item 0x98 0 0 0 (1 ∷ 2 ∷ 0 ∷ []) ∷ []
    ) ∷ []

abbrev pub record_of_k : List Part
record_of_k = value_part 0x01 0x01 ∷ value_part 0x06 0x11 ∷ []

abbrev pub cases : List Case
cases =
    Read M (Accepted 23) record_of_m ∷
    Read (K ++ (0x00 ∷ [])) (Accepted 5) record_of_k ∷
    Read [] (Refused 1 0) [] ∷
    Read K (Refused 4 4) [] ∷
    Read (0x01 ∷ 0x02 ∷ 0x06 ∷ 0x11 ∷ 0x00 ∷ []) (Refused 5 0) [] ∷
    Read (0x01 ∷ 0x01 ∷ 0x00 ∷ []) (Refused 6 2) [] ∷
    Read (K ++ (0x00 ∷ 0x00 ∷ [])) (Refused 7 5) [] ∷
    Read (K ++ (0xC5 ∷ 0x01 ∷ 0x08 ∷ 0x00 ∷ [])) (Refused 8 6) [] ∷
    Read (K ++ (0xC5 ∷ 0x02 ∷ 0x81 ∷ 0x01 ∷ 0x00 ∷ [])) (Refused 9 6) [] ∷
    Read (K ++ (0xC5 ∷ 0x04 ∷ 0x41 ∷ 0x00 ∷ 0x41 ∷ 0x01 ∷ 0x00 ∷ [])) (Refused 10 8) [] ∷
    Read (K ++ (0xC5 ∷ 0x01 ∷ 0x41 ∷ 0x00 ∷ [])) (Refused 11 6) [] ∷
    Read (K ++ (0xC5 ∷ 0x02 ∷ 0x41 ∷ 0x02 ∷ 0x00 ∷ [])) (Refused 12 6) [] ∷
    Read (K ++ (0xC5 ∷ 0x03 ∷ 0x90 ∷ 0x01 ∷ 0x00 ∷ 0x00 ∷ [])) (Refused 13 8) [] ∷
    Read (K ++ (0xC5 ∷ 0x05 ∷ 0xD7 ∷ 0x03 ∷ 0x83 ∷ 0x11 ∷ 0x00 ∷ 0x00 ∷ [])) (Accepted 12)
    (value_part 0x01 0x01 ∷ value_part 0x06 0x11 ∷ data_part (number_item 0xD7 0x03 0x11 (0 ∷ []) ∷ []) ∷ []) ∷
    Edited (Replacing (0x98 ∷ 0x02 ∷ 0x21 ∷ []) 0) M (Accepted 22)
    (0x01 ∷ 0x01 ∷ 0x83 ∷ 0x39 ∷ 0x30 ∷ 0x00 ∷ 0x04 ∷ 0x01 ∷ 0x06 ∷ 0x11 ∷ 0xC5 ∷ 0x09 ∷
    0x90 ∷ 0x04 ∷ 0x21 ∷ 0x3A ∷ 0x52 ∷ 0x81 ∷ 0x98 ∷ 0x02 ∷ 0x21 ∷ 0x00 ∷ 0x00 ∷ []) ∷
    -- request d
    Read (K ++ (0x04 ∷ 0x81 ∷ 0x00 ∷ [])) (Accepted 7) (record_of_k ++ (part 0x04 1 1 [] ∷ [])) ∷
    Read (K ++ (0x04 ∷ 0x02 ∷ 0x00 ∷ [])) (Refused 5 4) [] ∷ []

-- what the definitions say of each case is what the table says
pub bench : map as_defined cases ≡ cases
unfolding after_of lead_of common_extent_of extent_of name_used pli_right often_of zeroes_of form_of halves joined digit_of code_of is_code halves_fault
    digits_fault digits_of packed number_fault_in calling_fault generic_fault dialled_fault two_fault fault_of holding_of item_of contents_of layout_item
    layout_items layout_part layout walk transfer_by transfers_verdict_by value_allowed common_form end_of data_by common_by message_verdict_by
    verdict_by commons_by transfers_by open_common_by record_by edit_refusal instead edited_items edited record_editing editing_of buffer_of
bench = refl
