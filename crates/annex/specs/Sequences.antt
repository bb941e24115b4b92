-- Examples of the sequence: document 02, request d: the octet of 04 read and written, each refusal on both sides of its limit and in its
-- order, the more-data mark in a record's image, and an edit of a message with one, under one statement. The request's own examples are
-- in the bench table.
use Rattle.std.specs.Prelude.{ℕ, ◌≡◌, refl, List, [], ◌∷◌, ◌++◌, map, length, replicate}
use Rattle.annex.specs.Units.{after_of, lead_of, common_extent_of, extent_of}
use Rattle.annex.specs.Heads.{value_allowed, name_used, pli_right, often_of, zeroes_of, form_of}
use Rattle.annex.specs.Contents.{fault_of}
use Rattle.annex.specs.Items.{Part, part, holding_of, item_of, contents_of, own_of}
use Rattle.annex.specs.Layout.{layout_item, layout_items, layout_part, layout}
use Rattle.annex.specs.Allowed.{length_right, fault_in, value_fits}
use Rattle.annex.specs.Walk.{walk}
use Rattle.annex.specs.Reading.{
  common_form,
  end_of,
  verdict_of,
  record_of,
  transfer_by,
  transfers_verdict_by,
  data_by,
  common_by,
  message_verdict_by,
  verdict_by,
  commons_by,
  transfers_by,
  open_common_by,
  record_by,
}
use Rattle.annex.specs.Records.{pad, values_of, pack, view_items, lengths_of, transfers_sum, view_parts, is_whole, view}
use Rattle.annex.specs.Writing.{
  item_writing,
  items_writing,
  data_writing,
  part_writing,
  parts_writing,
  over_limits,
  record_writing,
  struct_writing,
  writing_of,
}
use Rattle.annex.specs.Image.{image_item, image_items, image_part, image_parts, image_of, items_front, parts_front, is_within, imaged_of}
use Rattle.annex.specs.Packed.{image_reading, image_read, image_writing, image_written}
use Rattle.annex.specs.Editing.{Edit, edit_refusal, instead, edited_items, edited, record_editing, editing_of, buffer_of}
use Rattle.annex.specs.Editing.Edit.{Appending}
use Rattle.annex.specs.Bench.{K, record_of_k}
use Rattle.annex.specs.Answers.{Answer, Accepted, Refused}

-- the octet of 04 in a message, and the record; a message, and the answer; the number and mark of 04 in a record, and the octets that
-- it is written to; a record, and the answer to writing it, room aside; a message, lent octets, the answer and the image there; an image,
-- lent octets, the answer and the message there; an edit of a message with so many lent octets behind it, the answer and the buffer then
pub data Case : Type 0 where
  Opens : ℕ → List Part → Case
  Asked : List ℕ → Answer → Case
  Laid : ℕ → ℕ → List ℕ → Case
  Written : List Part → Answer → Case
  Imaged : List ℕ → List ℕ → Answer → List ℕ → Case
  Given : List ℕ → List ℕ → Answer → List ℕ → Case
  Edited : Edit → List ℕ → ℕ → Answer → List ℕ → Case

-- a message with 04, its header at 4, and a record
abbrev with : ℕ → List ℕ
with x = K ++ (0x04 ∷ x ∷ 0x00 ∷ [])

abbrev record_with : ℕ → ℕ → List Part
record_with n m = record_of_k ++ (part 0x04 n m [] ∷ [])

-- lent octets
abbrev lent : ℕ → List ℕ
lent n = replicate n 0xEE

abbrev as_defined : Case → Case
as_defined (Opens x r) = Opens x (record_of (with x))
as_defined (Asked m a) = Asked m (verdict_of m)
as_defined (Laid n m s) = Laid n m (layout (record_with n m))
as_defined (Written r a) = Written r (record_writing r)
as_defined (Imaged m room a now) = Imaged m room (image_reading m (length room)) (image_read m room)
as_defined (Given image room a now) = Given image room (image_writing image (length room)) (image_written image room)
as_defined (Edited e m k a now) = Edited e m k (editing_of e (m ++ lent k) (length m)) (buffer_of e (m ++ lent k) (length m))

-- the head of a common parameter in an image: header, value below 256, more-data mark, count
abbrev head : ℕ → ℕ → ℕ → ℕ → List ℕ
head h v m n = h ∷ v ∷ 0 ∷ 0 ∷ 0 ∷ m ∷ n ∷ []

-- K with 04 of the number n and the mark m
abbrev image : ℕ → ℕ → List ℕ
image n m = 3 ∷ (head 0x01 0x01 0 0 ++ (head 0x06 0x11 0 0 ++ head 0x04 n m 0))

abbrev cases : List Case
cases =
    -- bit 7 is the mark, bits 6-0 are the number
    Opens 0x01 (record_with 1 0) ∷
    Opens 0x81 (record_with 1 1) ∷
    -- 5: the numbers beside 1, the largest, and the number 1 with its bits mirrored or moved; with the mark and without
    Asked (with 0x00) (Refused 5 4) ∷
    Asked (with 0x01) (Accepted 7) ∷
    Asked (with 0x02) (Refused 5 4) ∷
    Asked (with 0x03) (Refused 5 4) ∷
    Asked (with 0x40) (Refused 5 4) ∷
    Asked (with 0x7F) (Refused 5 4) ∷
    Asked (with 0x80) (Refused 5 4) ∷
    Asked (with 0x81) (Accepted 7) ∷
    Asked (with 0x82) (Refused 5 4) ∷
    Asked (with 0xC0) (Refused 5 4) ∷
    Asked (with 0xC1) (Refused 5 4) ∷
    Asked (with 0xFF) (Refused 5 4) ∷
    -- 3 and 4 come before it, 6 and 7 behind it
    Asked (K ++ (0x04 ∷ 0x01 ∷ 0x04 ∷ 0x02 ∷ 0x00 ∷ [])) (Refused 3 6) ∷
    Asked (K ++ (0x04 ∷ [])) (Refused 4 4) ∷
    Asked (0x01 ∷ 0x01 ∷ 0x04 ∷ 0x02 ∷ 0x00 ∷ []) (Refused 5 2) ∷
    Asked (K ++ (0x04 ∷ 0x02 ∷ 0x00 ∷ 0x00 ∷ [])) (Refused 5 4) ∷
    -- the same numbers from a record
    Laid 1 0 (with 0x01) ∷
    Laid 1 1 (with 0x81) ∷
    Written (record_with 0 0) (Refused 5 4) ∷
    Written (record_with 1 0) (Accepted 7) ∷
    Written (record_with 2 0) (Refused 5 4) ∷
    Written (record_with 127 1) (Refused 5 4) ∷
    Written (record_with 128 0) (Refused 5 4) ∷
    Written (record_with 129 0) (Refused 5 4) ∷
    Written (record_with 257 0) (Refused 5 4) ∷
    -- 12: a mark over 1, after 3 and 5
    Written (record_with 1 1) (Accepted 7) ∷
    Written (record_with 1 2) (Refused 12 4) ∷
    Written (record_with 1 255) (Refused 12 4) ∷
    Written (record_with 2 2) (Refused 5 4) ∷
    Written (record_with 1 0 ++ (part 0x04 2 2 [] ∷ [])) (Refused 3 6) ∷
    -- for Rust and C: the mark stands between value and count; 0 for the others, and handed in with them it is not looked at
    Imaged (with 0x81) (lent 23) (Accepted 22) (image 1 1 ++ lent 1) ∷
    Imaged (with 0x01) (lent 22) (Accepted 22) (image 1 0) ∷
    Imaged (with 0x81) (lent 21) (Refused 15 0) (lent 21) ∷
    Imaged (with 0x02) (lent 22) (Refused 5 4) (lent 22) ∷
    Given (image 1 1) (lent 8) (Accepted 7) (with 0x81 ++ lent 1) ∷
    Given (image 1 0) (lent 7) (Accepted 7) (with 0x01) ∷
    Given (image 2 0) (lent 7) (Refused 5 4) (lent 7) ∷
    Given (image 1 2) (lent 7) (Refused 12 4) (lent 7) ∷
    Given (2 ∷ (head 0x01 0x01 255 0 ++ head 0x06 0x11 1 0)) (lent 5) (Accepted 5) (K ++ (0x00 ∷ [])) ∷
    Given (3 ∷ (head 0x01 0x01 0 0 ++ (head 0x06 0x11 0 0 ++ head 0xC5 0 2 0))) (lent 7) (Accepted 7) (K ++ (0xC5 ∷ 0x00 ∷ 0x00 ∷ [])) ∷
    Given (3 ∷ (head 0x01 0x01 0 0 ++ (head 0x06 0x11 0 0 ++ head 0x83 9 2 0))) (lent 9) (Accepted 9)
    (K ++ (0x83 ∷ 0x09 ∷ 0x00 ∷ 0x00 ∷ 0x00 ∷ [])) ∷
    -- an edit of the transfer data leaves 04 as it is, and is refused where 04 is
    Edited (Appending (0x41 ∷ 0x01 ∷ [])) (K ++ (0x04 ∷ 0x81 ∷ 0xC5 ∷ 0x00 ∷ 0x00 ∷ [])) 2 (Accepted 11)
    (K ++ (0x04 ∷ 0x81 ∷ 0xC5 ∷ 0x02 ∷ 0x41 ∷ 0x01 ∷ 0x00 ∷ [])) ∷
    Edited (Appending (0x41 ∷ 0x01 ∷ [])) (K ++ (0x04 ∷ 0x02 ∷ 0xC5 ∷ 0x00 ∷ 0x00 ∷ [])) 2 (Refused 5 4)
    (K ++ (0x04 ∷ 0x02 ∷ 0xC5 ∷ 0x00 ∷ 0x00 ∷ 0xEE ∷ 0xEE ∷ [])) ∷ []

-- what the definitions say of each case is what the table says
pub sequences : map as_defined cases ≡ cases
unfolding after_of lead_of common_extent_of extent_of name_used pli_right often_of zeroes_of form_of fault_of holding_of item_of contents_of own_of
    layout_item layout_items layout_part layout length_right fault_in value_fits walk transfer_by transfers_verdict_by value_allowed common_form end_of
    data_by common_by message_verdict_by verdict_by commons_by transfers_by open_common_by record_by pad values_of pack view_items lengths_of
    transfers_sum view_parts is_whole view item_writing items_writing data_writing part_writing parts_writing over_limits record_writing struct_writing
    writing_of image_item image_items image_part image_parts image_of items_front parts_front is_within imaged_of image_reading image_read image_writing
    image_written edit_refusal instead edited_items edited record_editing editing_of buffer_of
sequences = refl
