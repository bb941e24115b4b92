-- Examples of the mobile call profile: document 02, request f: messages and records on both sides of each of its rules, the order of
-- refusals, what is told beside the record, and the octets for Rust and C, under one statement.
use Rattle.std.specs.Prelude.{ℕ, ◌≡◌, refl, List, [], ◌∷◌, ◌++◌, map, length, replicate}
use Rattle.annex.specs.Units.{after_of, lead_of, common_extent_of, extent_of}
use Rattle.annex.specs.Heads.{value_allowed, name_used, pli_right, often_of, zeroes_of, form_of}
use Rattle.annex.specs.Contents.{fault_of}
use Rattle.annex.specs.Items.{Item, Part, plain_item, value_part, data_part, holding_of, item_of, contents_of, own_of}
use Rattle.annex.specs.Layout.{layout_item, layout_items, layout_part, layout}
use Rattle.annex.specs.Allowed.{length_right, fault_in, value_fits}
use Rattle.annex.specs.Walk.{walk}
use Rattle.annex.specs.Reading.{
  verdict_of,
  record_of,
  common_form,
  end_of,
  transfer_by,
  transfers_verdict_by,
  data_by,
  common_by,
  message_verdict_by,
  verdict_by,
  commons_by,
  transfers_by,
  open_common_by,
  record_by,
}
use Rattle.annex.specs.Records.{pad, values_of, pack, view_items, lengths_of, transfers_sum, view_parts, is_whole, view}
use Rattle.annex.specs.Writing.{
  item_writing,
  items_writing,
  data_writing,
  part_writing,
  parts_writing,
  over_limits,
  record_writing,
  struct_writing,
}
use Rattle.annex.specs.Image.{image_item, image_items, image_part, image_parts, image_of}
use Rattle.annex.specs.Packed.{image_reading, profile_image_reading}
use Rattle.annex.specs.Profile.{
  named_class,
  pair_octets,
  pairs_in,
  is_in_profile,
  profile_verdict,
  profile_refusal,
  profile_writing,
  network_of,
  values_under,
  classes_of,
  classes_answer,
  classes_given,
}
use Rattle.annex.specs.Answers.{Answer, Accepted, Refused}
use Rattle.annex.specs.declared.Network.{Network}
use Rattle.annex.specs.declared.Network.TheVariants.{Other, Phs, Mobile}
use Rattle.annex.specs.declared.AddedClass.{AddedClass}

-- a message, and the profile's verdict; one, and reading's own; one, and what is told beside its record; one, and the answer to reading it
-- to an image in so much room; a record, and the answer to writing it in so much; a message, lent octets, the answer about its added
-- classes, and the octets then
pub data Case : Type 0 where
  Judged : List ℕ → Answer → Case
  Carried : List ℕ → Answer → Case
  Told : List ℕ → Network → List AddedClass → Case
  Imaged : List ℕ → ℕ → Answer → Case
  Written : List Part → ℕ → Answer → Case
  Given : List ℕ → List ℕ → Answer → List ℕ → Case

-- a message of the signal kind k with the transfer data t; its end mark stands at 6 and as many octets as t has
abbrev of : ℕ → List ℕ → List ℕ
of k t = 0x01 ∷ 0x01 ∷ 0x06 ∷ k ∷ 0xC5 ∷ length t ∷ (t ++ (0x00 ∷ []))

-- 7E with x, FD with one octet, and D6 with s
abbrev from : ℕ → List ℕ
from x = 0x7E ∷ x ∷ []

abbrev region : List ℕ
region = 0xFD ∷ 0x01 ∷ 0x21 ∷ []

abbrev d6 : List ℕ → List ℕ
d6 s = 0xD6 ∷ length s ∷ s

-- call enquiries: one from PHS with no D6, one from PHS and one from a mobile network with D6
abbrev plain : List ℕ
plain = of 0x11 (from 2 ++ region)

abbrev phs_with : List ℕ → List ℕ
phs_with s = of 0x11 (from 2 ++ (region ++ d6 s))

abbrev mobile_with : List ℕ → List ℕ
mobile_with s = of 0x11 (from 3 ++ (region ++ d6 s))

-- all six names, out of their order
abbrev six : List ℕ
six = 0xFE ∷ 0x01 ∷ 0x02 ∷ 0x00 ∷ 0xFB ∷ 0xFF ∷ 0x01 ∷ 0x01 ∷ 0xFD ∷ 0xFD ∷ 0xFC ∷ 0x08 ∷ []

-- lent octets
abbrev lent : ℕ → List ℕ
lent n = replicate n 0xEE

-- the same enquiries as records
abbrev record_with : ℕ → List Item → List Part
record_with k is = value_part 0x01 0x01 ∷ value_part 0x06 k ∷ data_part is ∷ []

abbrev as_defined : Case → Case
as_defined (Judged m a) = Judged m (profile_verdict m)
as_defined (Carried m a) = Carried m (verdict_of m)
as_defined (Told m n cs) = Told m (network_of (record_of m)) (classes_of (record_of m))
as_defined (Imaged m room a) = Imaged m room (profile_image_reading m room)
as_defined (Written r room a) = Written r room (profile_writing (pack r) room)
as_defined (Given m room a now) = Given m room (classes_answer m (length room)) (classes_given m room)

abbrev pub cases : List Case
cases =
    -- each rule kept, and each broken alone
    Judged plain (Accepted 12) ∷
    Judged (mobile_with []) (Accepted 14) ∷
    Judged (of 0x12 (from 2 ++ region)) (Refused 20 11) ∷
    Judged (of 0x11 region) (Refused 20 9) ∷
    Judged (of 0x11 (from 0 ++ region)) (Refused 20 11) ∷
    Judged (of 0x11 (from 1 ++ region)) (Refused 20 11) ∷
    Judged (of 0x11 (from 4 ++ region)) (Refused 20 11) ∷
    Judged (of 0x11 (from 2)) (Refused 20 8) ∷
    Judged (of 0x11 (from 3 ++ d6 [])) (Refused 20 10) ∷
    Judged (of 0x11 (from 3 ++ region)) (Refused 20 11) ∷
    Judged (0x01 ∷ 0x01 ∷ 0x06 ∷ 0x11 ∷ 0x00 ∷ []) (Refused 20 4) ∷
    -- an empty FD is present, and the order of the parameters is free
    Judged (of 0x11 (0xFD ∷ 0x00 ∷ from 2)) (Accepted 11) ∷
    Judged (of 0x11 (d6 (0x01 ∷ 0xFE ∷ []) ++ (region ++ from 3))) (Accepted 16) ∷
    -- D6: no octet left over, a defined name, and each once; also from PHS
    Judged (phs_with []) (Accepted 14) ∷
    Judged (phs_with (0xFE ∷ [])) (Refused 20 14) ∷
    Judged (phs_with (0xFE ∷ 0x01 ∷ [])) (Accepted 16) ∷
    Judged (phs_with (0xFE ∷ 0x01 ∷ 0x02 ∷ [])) (Refused 20 16) ∷
    Judged (mobile_with (0x00 ∷ 0x01 ∷ [])) (Refused 20 15) ∷
    Judged (mobile_with (0x01 ∷ 0x00 ∷ [])) (Accepted 16) ∷
    Judged (mobile_with (0x02 ∷ 0x00 ∷ [])) (Accepted 16) ∷
    Judged (mobile_with (0x03 ∷ 0x01 ∷ [])) (Refused 20 15) ∷
    Judged (mobile_with (0xFA ∷ 0x01 ∷ [])) (Refused 20 15) ∷
    Judged (mobile_with (0xFB ∷ 0xFA ∷ [])) (Accepted 16) ∷
    Judged (mobile_with (0xFC ∷ 0x01 ∷ [])) (Accepted 16) ∷
    Judged (mobile_with (0xFD ∷ 0x01 ∷ [])) (Accepted 16) ∷
    Judged (mobile_with (0xFE ∷ 0xFF ∷ [])) (Accepted 16) ∷
    Judged (mobile_with (0xFF ∷ 0xFE ∷ [])) (Refused 20 15) ∷
    Judged (mobile_with (0x01 ∷ 0xFE ∷ 0x02 ∷ 0xFE ∷ [])) (Accepted 18) ∷
    Judged (mobile_with (0xFE ∷ 0x01 ∷ 0xFE ∷ 0x02 ∷ [])) (Refused 20 17) ∷
    Judged (mobile_with (0x01 ∷ 0x05 ∷ 0x02 ∷ 0x05 ∷ 0x01 ∷ 0x06 ∷ [])) (Refused 20 19) ∷
    Judged (mobile_with six) (Accepted 26) ∷
    Judged (mobile_with (six ++ (0xFB ∷ 0x00 ∷ []))) (Refused 20 27) ∷
    -- reading's numbers come first: 4, 6, 7, 11
    Judged (0x01 ∷ 0x01 ∷ 0x06 ∷ 0x12 ∷ []) (Refused 4 4) ∷
    Judged (0x01 ∷ 0x01 ∷ 0x00 ∷ []) (Refused 6 2) ∷
    Judged (of 0x12 region ++ (0x00 ∷ [])) (Refused 7 10) ∷
    Judged (of 0x11 (0xD6 ∷ 0x02 ∷ 0xFE ∷ [])) (Refused 11 6) ∷
    -- reading itself carries D6 unread
    Carried (mobile_with (0x05 ∷ 0x01 ∷ 0x05 ∷ [])) (Accepted 17) ∷
    -- what is told: the network; the pairs in the order of arrival, names before values
    Told plain Phs [] ∷
    Told (of 0x11 (from 1 ++ region)) Other [] ∷
    Told (of 0x11 region) Other [] ∷
    Told (mobile_with []) Mobile [] ∷
    Told (phs_with (0xFE ∷ 0x01 ∷ [])) Phs (named_class 0xFE 0x01 ∷ []) ∷
    Told (mobile_with (0x01 ∷ 0xFE ∷ [])) Mobile (named_class 0x01 0xFE ∷ []) ∷
    Told (mobile_with six) Mobile
    (named_class 0xFE 0x01 ∷ named_class 0x02 0x00 ∷ named_class 0xFB 0xFF ∷ named_class 0x01 0x01 ∷ named_class 0xFD 0xFD
    ∷ named_class 0xFC 0x08 ∷ []) ∷
    -- an image: 20 before 15
    Imaged plain 46 (Accepted 46) ∷
    Imaged plain 45 (Refused 15 0) ∷
    Imaged (of 0x12 (from 2 ++ region)) 0 (Refused 20 11) ∷
    -- records: the same rules; writing's numbers come first, 6 too, then 20, then 15
    Written (record_with 0x11 (plain_item 0x7E (2 ∷ []) ∷ plain_item 0xFD [] ∷ [])) 11 (Accepted 11) ∷
    Written (record_with 0x11 (plain_item 0x7E (2 ∷ []) ∷ plain_item 0xFD [] ∷ [])) 10 (Refused 15 0) ∷
    Written (record_with 0x12 (plain_item 0x7E (2 ∷ []) ∷ plain_item 0xFD [] ∷ [])) 0 (Refused 20 10) ∷
    Written (record_with 0x11 (plain_item 0x7E (1 ∷ []) ∷ plain_item 0xFD [] ∷ [])) 11 (Refused 20 10) ∷
    Written (record_with 0x11 (plain_item 0x7E (2 ∷ []) ∷ [])) 9 (Refused 20 8) ∷
    Written (record_with 0x11 (plain_item 0x7E (3 ∷ []) ∷ plain_item 0xFD [] ∷ [])) 11 (Refused 20 10) ∷
    Written (record_with 0x11 (plain_item 0x7E (3 ∷ []) ∷ plain_item 0xFD [] ∷ plain_item 0xD6 [] ∷ [])) 13 (Accepted 13) ∷
    Written (record_with 0x11 (plain_item 0x7E (3 ∷ []) ∷ plain_item 0xFD [] ∷ plain_item 0xD6 (0xFE ∷ 0x01 ∷ []) ∷ [])) 15 (Accepted 15) ∷
    Written (record_with 0x11 (plain_item 0x7E (3 ∷ []) ∷ plain_item 0xFD [] ∷ plain_item 0xD6 (0x05 ∷ 0x01 ∷ []) ∷ [])) 15 (Refused 20 14) ∷
    Written (record_with 0x11 (plain_item 0x7E (2 ∷ []) ∷ plain_item 0xFD [] ∷ plain_item 0xD6 (0x05 ∷ []) ∷ [])) 14 (Refused 20 13) ∷
    Written (record_with 0x11 (plain_item 0x7E [] ∷ [])) 0 (Refused 11 6) ∷
    Written (value_part 0x01 0x01 ∷ []) 0 (Refused 6 2) ∷
    -- D6's pairs for Rust and C: octets past them stay; 20, then 16 without D6, then 15; a refusal leaves all
    Given (mobile_with (0x01 ∷ 0xFE ∷ [])) (lent 3) (Accepted 2) (0x01 ∷ 0xFE ∷ 0xEE ∷ []) ∷
    Given (mobile_with (0x01 ∷ 0xFE ∷ [])) (lent 2) (Accepted 2) (0x01 ∷ 0xFE ∷ []) ∷
    Given (mobile_with (0x01 ∷ 0xFE ∷ [])) (lent 1) (Refused 15 0) (lent 1) ∷
    Given (mobile_with six) (lent 12) (Accepted 12) six ∷
    Given (phs_with []) [] (Accepted 0) [] ∷
    Given plain (lent 1) (Refused 16 0) (lent 1) ∷
    Given (of 0x12 (from 2)) [] (Refused 20 8) [] ∷
    Given (mobile_with (0x05 ∷ 0x01 ∷ [])) (lent 1) (Refused 20 15) (lent 1) ∷
    Given [] (lent 1) (Refused 1 0) (lent 1) ∷ []

-- what the definitions say of each case is what the table says
pub enquiries : map as_defined cases ≡ cases
unfolding after_of lead_of common_extent_of extent_of name_used pli_right often_of zeroes_of form_of fault_of holding_of item_of contents_of own_of
    layout_item layout_items layout_part layout length_right fault_in value_fits walk transfer_by transfers_verdict_by value_allowed common_form end_of
    data_by common_by message_verdict_by verdict_by commons_by transfers_by open_common_by record_by pad values_of pack view_items lengths_of
    transfers_sum view_parts is_whole view item_writing items_writing data_writing part_writing parts_writing over_limits record_writing struct_writing
    image_item image_items image_part image_parts image_of image_reading pair_octets pairs_in is_in_profile profile_verdict profile_refusal
    profile_writing profile_image_reading values_under classes_answer classes_given
enquiries = refl
