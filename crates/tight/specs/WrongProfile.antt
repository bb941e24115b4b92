-- Wrong programs that the promises about the mobile call profile shut out, each with the message or record at which it breaks its promise.
use Rattle.std.specs.Prelude.{ℕ, ◌+◌, ◌*◌, ◌≡◌, refl, List, [], ◌∷◌, ◌++◌, length, get_or, replicate}
use Rattle.std.proofs.Common.{arith, ◌∙◌}
use Rattle.std.proofs.Math.Path.{ap}
use Rattle.annex.specs.Answers.{number_of, place_of, given_of, Answer, Accepted, Refused}
use Rattle.annex.specs.Units.{after_of, lead_of, common_extent_of, extent_of}
use Rattle.annex.specs.Heads.{value_allowed, name_used, pli_right, often_of, zeroes_of, form_of}
use Rattle.annex.specs.Contents.{fault_of}
use Rattle.annex.specs.Items.{Part, plain_item, data_part, holding_of, item_of, contents_of, own_of}
use Rattle.annex.specs.Layout.{layout_item, layout_items, layout_part, layout}
use Rattle.annex.specs.Allowed.{length_right, fault_in, value_fits}
use Rattle.annex.specs.Walk.{walk}
use Rattle.annex.specs.Reading.{
  common_form,
  end_of,
  transfer_by,
  transfers_verdict_by,
  data_by,
  common_by,
  message_verdict_by,
  verdict_by,
  commons_by,
  transfers_by,
  open_common_by,
  record_by,
}
use Rattle.annex.specs.Records.{pad, values_of, pack, view_items, lengths_of, transfers_sum, view_parts, is_whole, view}
use Rattle.annex.specs.Writing.{
  item_writing,
  items_writing,
  data_writing,
  part_writing,
  parts_writing,
  over_limits,
  record_writing,
  struct_writing,
}
use Rattle.annex.specs.Image.{image_item, image_items, image_part, image_parts, image_of, items_front, parts_front, is_within, imaged_of}
use Rattle.annex.specs.Profile.{
  named_class,
  no_class,
  pair_octets,
  pairs_in,
  is_in_profile,
  profile_verdict,
  profile_refusal,
  profile_writing,
  profile_written,
  values_under,
  profile_reading,
  classes_answer,
  classes_given,
}
use Rattle.annex.specs.Packed.{
  packed_answer,
  image_reading,
  profile_image_reading,
  profile_image_read,
  profile_image_writing,
  profile_image_written,
}
use Rattle.annex.specs.Promises.{
  ProfileVerdictPromise,
  ProfileReadPromise,
  ProfileWritePromise,
  ProfileImageReadPromise,
  ProfileImageWritePromise,
  ClassesPromise,
  TkProfileReadPromise,
  TkProfileWritePromise,
  TkClassesPromise,
}
use Rattle.annex.specs.Bench.{K, record_of_k}
use Rattle.annex.specs.declared.AddedClass.{AddedClass}
use Rattle.annex.specs.declared.Network.{Network}
use Rattle.annex.specs.declared.Network.TheVariants.{Phs, Mobile}
use Rattle.annex.specs.declared.Profile.{Profile}
use Rattle.annex.specs.declared.ProfileReading.{ProfileReading}
use Rattle.annex.specs.declared.Record.{Record}
use Rattle.tight.specs.Wrong.{short}
use Rattle.tight.specs.WrongPacked.{lent, at}

-- call enquiries: 7E with the value x, an empty FD, and no D6; from a mobile network, with D6, whose header stands at 10
abbrev pub plain : ℕ → List ℕ
plain x = K ++ (0xC5 ∷ 0x04 ∷ 0x7E ∷ x ∷ 0xFD ∷ 0x00 ∷ 0x00 ∷ [])

abbrev pub mobile_with : List ℕ → List ℕ
mobile_with s = K ++ (0xC5 ∷ (6 + length s) ∷ 0x7E ∷ 0x03 ∷ 0xFD ∷ 0x00 ∷ 0xD6 ∷ length s ∷ (s ++ (0x00 ∷ [])))

-- one with two pairs, FE with 02 and 01 with FE, values that are names too; and its record
abbrev two : List ℕ
two = 0xFE ∷ 0x02 ∷ 0x01 ∷ 0xFE ∷ []

abbrev pub call : List ℕ
call = mobile_with two

abbrev pub record_of_call : List Part
record_of_call = record_of_k ++ (data_part (plain_item 0x7E (3 ∷ []) ∷ plain_item 0xFD [] ∷ plain_item 0xD6 two ∷ []) ∷ [])

-- one with a pair whose name is not defined and whose value is a name; its end mark stands at 14
abbrev pub misnamed : List ℕ
misnamed = mobile_with (0x05 ∷ 0x01 ∷ [])

-- what is told beside a record
abbrev told : Network → ℕ → List AddedClass → Profile
told n k cs = record { network = n; classes = k; class = cs }

-- what the definitions say, computed once
record SaidProfile : Type 0 where
  verdict_misnamed : profile_verdict misnamed ≡ Refused 20 14
  verdict_mobile : profile_verdict (plain 3) ≡ Refused 20 10
  verdict_phs : profile_verdict (plain 2) ≡ Accepted 11
  verdict_empty : profile_verdict (mobile_with []) ≡ Accepted 13
  verdict_over : profile_verdict (short ++ (0x00 ∷ [])) ≡ Refused 7 5
  held_call : (profile_reading call).«record» ≡ pack record_of_call
  told_call : (profile_reading call).profile ≡ told Mobile 2 (named_class 0xFE 0x02 ∷ named_class 0x01 0xFE ∷ replicate 4 no_class)
  told_phs : (profile_reading (plain 2)).profile ≡ told Phs 0 (replicate 6 no_class)
  writing_k : profile_writing (pack record_of_k) 4 ≡ Refused 20 4
  written_k : profile_written (pack record_of_k) (lent 5) ≡ lent 5
  writing_none : profile_writing (pack []) 0 ≡ Refused 6 0
  written_call : profile_written (pack record_of_call) (lent 17) ≡ call
  imaging_short : profile_image_reading short 0 ≡ Refused 20 4
  imaged_short : profile_image_read short (lent 15) ≡ lent 15
  imaging_call : profile_image_reading call 60 ≡ Accepted 60
  imaged_call : profile_image_read call (lent 60) ≡ image_of record_of_call
  from_k : profile_image_writing (image_of record_of_k) 4 ≡ Refused 20 4
  left_by_k : profile_image_written (image_of record_of_k) (lent 5) ≡ lent 5
  from_call : profile_image_writing (image_of record_of_call) 17 ≡ Accepted 17
  left_by_call : profile_image_written (image_of record_of_call) (lent 17) ≡ call
  classes_call : classes_answer call 4 ≡ Accepted 4
  given_call : classes_given call (lent 4) ≡ two
  classes_empty : classes_answer (mobile_with []) 0 ≡ Accepted 0

said_profile : SaidProfile
unfolding after_of lead_of common_extent_of extent_of name_used pli_right often_of zeroes_of form_of fault_of holding_of item_of contents_of own_of
    layout_item layout_items layout_part layout length_right fault_in value_fits walk transfer_by transfers_verdict_by value_allowed common_form end_of
    data_by common_by message_verdict_by verdict_by commons_by transfers_by open_common_by record_by pad values_of pack view_items lengths_of
    transfers_sum view_parts is_whole view item_writing items_writing data_writing part_writing parts_writing over_limits record_writing struct_writing
    image_item image_items image_part image_parts image_of items_front parts_front is_within imaged_of pair_octets pairs_in is_in_profile profile_verdict
    profile_refusal profile_writing profile_written values_under profile_reading classes_answer classes_given image_reading profile_image_reading
    profile_image_read profile_image_writing profile_image_written
said_profile =
    record {
      verdict_misnamed = refl;
      verdict_mobile = refl;
      verdict_phs = refl;
      verdict_empty = refl;
      verdict_over = refl;
      held_call = refl;
      told_call = refl;
      told_phs = refl;
      writing_k = refl;
      written_k = refl;
      writing_none = refl;
      written_call = refl;
      imaging_short = refl;
      imaged_short = refl;
      imaging_call = refl;
      imaged_call = refl;
      from_k = refl;
      left_by_k = refl;
      from_call = refl;
      left_by_call = refl;
      classes_call = refl;
      given_call = refl;
      classes_empty = refl;
    }

-- ---- verdict: one that takes D6's value for its name; one that takes a mobile call without D6; one that asks a call from PHS for D6; one
-- that refuses an empty D6

pub value_for_name : (n : ℕ) → ProfileVerdictPromise misnamed (Accepted n) → ⊥
value_for_name n p = omega (arith, ap number_of (p ∙ said_profile.verdict_misnamed))

pub mobile_without_d6 : (n : ℕ) → ProfileVerdictPromise (plain 3) (Accepted n) → ⊥
mobile_without_d6 n p = omega (arith, ap number_of (p ∙ said_profile.verdict_mobile))

pub phs_asked_for_d6 : (k q : ℕ) → ProfileVerdictPromise (plain 2) (Refused k q) → ⊥
phs_asked_for_d6 k q p = omega (arith, ap given_of (p ∙ said_profile.verdict_phs))

pub empty_d6_refused : (k q : ℕ) → ProfileVerdictPromise (mobile_with []) (Refused k q) → ⊥
empty_d6_refused k q p = omega (arith, ap given_of (p ∙ said_profile.verdict_empty))

-- of 20: one that tells it at the start; one at the header of the parameter that breaks the rule; one behind the end mark; one that tells
-- it before 7
pub outside_at_start : ProfileVerdictPromise misnamed (Refused 20 0) → ⊥
outside_at_start p = omega (arith, ap place_of (p ∙ said_profile.verdict_misnamed))

pub outside_at_header : ProfileVerdictPromise misnamed (Refused 20 10) → ⊥
outside_at_header p = omega (arith, ap place_of (p ∙ said_profile.verdict_misnamed))

pub outside_behind_end : ProfileVerdictPromise misnamed (Refused 20 15) → ⊥
outside_behind_end p = omega (arith, ap place_of (p ∙ said_profile.verdict_misnamed))

pub outside_first : (q : ℕ) → ProfileVerdictPromise (short ++ (0x00 ∷ [])) (Refused 20 q) → ⊥
outside_first q p = omega (arith, ap number_of (p ∙ said_profile.verdict_over))

-- ---- read: one that takes values for names; one that reverses the pairs' order; one that counts octets for pairs; one that takes a call
-- from PHS for a mobile one; one that gives an empty record

abbrev first_name : Profile → ℕ
first_name t = (get_or t.class 0 no_class).name

abbrev beside : ProfileReading → Profile
beside r = r.profile

module _ (r : ProfileReading) where
  pub told_values_for_names : first_name r.profile ≡ 0x02 → ProfileReadPromise call r → ⊥
  told_values_for_names h p = omega (arith, ap first_name (ap beside p ∙ said_profile.told_call))

  pub told_reversed : first_name r.profile ≡ 0x01 → ProfileReadPromise call r → ⊥
  told_reversed h p = omega (arith, ap first_name (ap beside p ∙ said_profile.told_call))

  pub told_octet_count : r.profile.classes ≡ 4 → ProfileReadPromise call r → ⊥
  told_octet_count h p = omega (arith, ap (λ (t : Profile). t.classes) (ap beside p ∙ said_profile.told_call))

  pub told_phs_as_mobile : r.profile.network ≡ Mobile → ProfileReadPromise (plain 2) r → ⊥
  told_phs_as_mobile h p =
      let z : ◌≡◌ {A = ℕ} 0 1 = cc (ap (λ (t : Profile). t.network) (ap beside p ∙ said_profile.told_phs)) in
      omega arith

  pub told_no_record : r.«record».commons ≡ 0 → ProfileReadPromise call r → ⊥
  unfolding pack
  told_no_record h p =
      let z = ap (λ (q : ProfileReading). q.«record») p ∙ said_profile.held_call in
      omega (arith, ap (λ (q : Record). q.commons) z)

-- ---- write: one that writes a record outside the profile; one that tells 15 before 20, one 20 before 6; one that touches nothing

pub profile_write_outside : (r : Answer) (rest : List ℕ) → ProfileWritePromise (pack record_of_k) (lent 5) r (0x01 ∷ rest) → ⊥
profile_write_outside r rest p = omega (arith, ap (at 0) (p.1 ∙ said_profile.written_k))

pub profile_write_room_first : (now : List ℕ) → ProfileWritePromise (pack record_of_k) (lent 4) (Refused 15 0) now → ⊥
profile_write_room_first now p = omega (arith, ap number_of (p.0 ∙ said_profile.writing_k))

pub profile_write_outside_first : (q : ℕ) (now : List ℕ) → ProfileWritePromise (pack []) [] (Refused 20 q) now → ⊥
profile_write_outside_first q now p = omega (arith, ap number_of (p.0 ∙ said_profile.writing_none))

pub profile_write_touches_nothing : (r : Answer) → ProfileWritePromise (pack record_of_call) (lent 17) r (lent 17) → ⊥
profile_write_touches_nothing r p = omega (arith, ap (at 0) (p.1 ∙ said_profile.written_call))

-- ---- tk_profile_read: one that answers 0 for done, and not the length; one that touches nothing; one that tells 15 before 20; one that
-- gives the image of a message outside the profile

pub tk_profile_read_answers_done : (now : List ℕ) → TkProfileReadPromise call (lent 60) 0 now → ⊥
tk_profile_read_answers_done now p = omega (arith, p.0 ∙ ap packed_answer said_profile.imaging_call)

pub tk_profile_read_touches_nothing : (r : ℕ) → TkProfileReadPromise call (lent 60) r (lent 60) → ⊥
unfolding image_of
tk_profile_read_touches_nothing r p = omega (arith, ap (at 0) (p.1 ∙ said_profile.imaged_call))

pub tk_profile_read_room_first : (now : List ℕ) → TkProfileReadPromise short [] (15 * 4294967296) now → ⊥
tk_profile_read_room_first now p = omega (arith, p.0 ∙ ap packed_answer said_profile.imaging_short)

pub tk_profile_read_outside : (r : ℕ) (rest : List ℕ) → TkProfileReadPromise short (lent 15) r (2 ∷ rest) → ⊥
tk_profile_read_outside r rest p = omega (arith, ap (at 0) (p.1 ∙ said_profile.imaged_short))

-- ---- tk_profile_write: one that answers 0 for done, and not the length; one that touches nothing; one that tells 15 before 20; one that
-- writes a record outside the profile

pub tk_profile_write_answers_done : (now : List ℕ) → TkProfileWritePromise (image_of record_of_call) (lent 17) 0 now → ⊥
tk_profile_write_answers_done now p = omega (arith, p.0 ∙ ap packed_answer said_profile.from_call)

pub tk_profile_write_touches_nothing : (r : ℕ) → TkProfileWritePromise (image_of record_of_call) (lent 17) r (lent 17) → ⊥
tk_profile_write_touches_nothing r p = omega (arith, ap (at 0) (p.1 ∙ said_profile.left_by_call))

pub tk_profile_write_room_first : (now : List ℕ) → TkProfileWritePromise (image_of record_of_k) (lent 4) (15 * 4294967296) now → ⊥
tk_profile_write_room_first now p = omega (arith, p.0 ∙ ap packed_answer said_profile.from_k)

pub tk_profile_write_outside : (r : ℕ) (rest : List ℕ) → TkProfileWritePromise (image_of record_of_k) (lent 5) r (0x01 ∷ rest) → ⊥
tk_profile_write_outside r rest p = omega (arith, ap (at 0) (p.1 ∙ said_profile.left_by_k))

-- ---- tk_added_classes: one that writes a value before its name; one that reverses the pairs' order; one that answers 0 for done, one the
-- count of pairs; one that touches nothing; one that tells 16 of an empty D6

pub tk_classes_value_first : (r : ℕ) (rest : List ℕ) → TkClassesPromise call (lent 4) r (0x02 ∷ rest) → ⊥
tk_classes_value_first r rest p = omega (arith, ap (at 0) (p.1 ∙ said_profile.given_call))

pub tk_classes_reversed : (r : ℕ) (rest : List ℕ) → TkClassesPromise call (lent 4) r (0x01 ∷ rest) → ⊥
tk_classes_reversed r rest p = omega (arith, ap (at 0) (p.1 ∙ said_profile.given_call))

pub tk_classes_answers_done : (now : List ℕ) → TkClassesPromise call (lent 4) 0 now → ⊥
tk_classes_answers_done now p = omega (arith, p.0 ∙ ap packed_answer said_profile.classes_call)

pub tk_classes_pair_count : (now : List ℕ) → TkClassesPromise call (lent 4) 2 now → ⊥
tk_classes_pair_count now p = omega (arith, p.0 ∙ ap packed_answer said_profile.classes_call)

pub tk_classes_touches_nothing : (r : ℕ) → TkClassesPromise call (lent 4) r (lent 4) → ⊥
tk_classes_touches_nothing r p = omega (arith, ap (at 0) (p.1 ∙ said_profile.given_call))

pub tk_classes_empty_as_absent : (now : List ℕ) → TkClassesPromise (mobile_with []) [] (16 * 4294967296) now → ⊥
tk_classes_empty_as_absent now p = omega (arith, p.0 ∙ ap packed_answer said_profile.classes_empty)

-- ---- read_image, write_image and added_classes

-- they are shut out for the same: the functions for Rust and C pack their answers, and nothing else
packed : {a r : Answer} {d now : List ℕ} → (r ≡ a) × (now ≡ d) → (packed_answer r ≡ packed_answer a) × (now ≡ d)
packed p = (ap packed_answer p.0, p.1)

pub profile_image_read_touches_nothing : (r : Answer) → ProfileImageReadPromise call (lent 60) r (lent 60) → ⊥
profile_image_read_touches_nothing r p = tk_profile_read_touches_nothing (packed_answer r) (packed p)

pub profile_image_read_room_first : (now : List ℕ) → ProfileImageReadPromise short [] (Refused 15 0) now → ⊥
profile_image_read_room_first now p = tk_profile_read_room_first now (packed p)

pub profile_image_read_outside : (r : Answer) (rest : List ℕ) → ProfileImageReadPromise short (lent 15) r (2 ∷ rest) → ⊥
profile_image_read_outside r rest p = tk_profile_read_outside (packed_answer r) rest (packed p)

pub profile_image_write_touches_nothing : (r : Answer) → ProfileImageWritePromise (image_of record_of_call) (lent 17) r (lent 17) → ⊥
profile_image_write_touches_nothing r p = tk_profile_write_touches_nothing (packed_answer r) (packed p)

pub profile_image_write_room_first : (now : List ℕ) → ProfileImageWritePromise (image_of record_of_k) (lent 4) (Refused 15 0) now → ⊥
profile_image_write_room_first now p = tk_profile_write_room_first now (packed p)

pub profile_image_write_outside : (r : Answer) (rest : List ℕ) → ProfileImageWritePromise (image_of record_of_k) (lent 5) r (0x01 ∷ rest) → ⊥
profile_image_write_outside r rest p = tk_profile_write_outside (packed_answer r) rest (packed p)

pub classes_value_first : (r : Answer) (rest : List ℕ) → ClassesPromise call (lent 4) r (0x02 ∷ rest) → ⊥
classes_value_first r rest p = tk_classes_value_first (packed_answer r) rest (packed p)

pub classes_reversed : (r : Answer) (rest : List ℕ) → ClassesPromise call (lent 4) r (0x01 ∷ rest) → ⊥
classes_reversed r rest p = tk_classes_reversed (packed_answer r) rest (packed p)

pub classes_pair_count : (now : List ℕ) → ClassesPromise call (lent 4) (Accepted 2) now → ⊥
classes_pair_count now p = tk_classes_pair_count now (packed p)

pub classes_empty_as_absent : (now : List ℕ) → ClassesPromise (mobile_with []) [] (Refused 16 0) now → ⊥
classes_empty_as_absent now p = tk_classes_empty_as_absent now (packed p)
