-- Wrong programs that the promises shut out, each with the input at which it breaks one: those that document 01 names under "How tight each
-- promise is", and two for every other public function. Those about a record's image and about the functions for Rust and C stand in
-- WrongPacked, the listing's in WrongRows, the classes' in WrongClasses, those about charging information in WrongCharging, those about
-- connection orders in WrongOrders, those about the mobile call profile in WrongProfile, those of the functions that serve these in
-- Constants.
use Rattle.std.specs.Prelude.{ℕ, ◌≡◌, refl, true, false, List, [], ◌∷◌, ◌++◌, length, get_or, replicate}
use Rattle.std.proofs.Common.{arith, ap, ◌∙◌}
use Rattle.annex.specs.Answers.{number_of, place_of, given_of, Answer, Accepted, Refused}
use Rattle.annex.specs.Units.{after_of, lead_of, common_extent_of, extent_of}
use Rattle.annex.specs.Heads.{value_allowed, among, name_used, pli_right, often_of, zeroes_of, form_of}
use Rattle.annex.specs.Digits.{halves, joined, digit_of, code_of, is_code, halves_fault, digits_fault, digits_of, packed, number_fault_in}
use Rattle.annex.specs.Carriers.{entries_formed, entries_fault, carriers_formed, carriers_fault}
use Rattle.annex.specs.Contents.{calling_fault, generic_fault, dialled_fault, two_fault, fault_of}
use Rattle.annex.specs.Items.{holding_of, item_of, contents_of, own_of}
use Rattle.annex.specs.Layout.{layout_item, layout_items, layout_part, layout}
use Rattle.annex.specs.Allowed.{length_right, fault_in, value_fits}
use Rattle.annex.specs.Walk.{walk, pars}
use Rattle.annex.specs.Reading.{
  common_form,
  end_of,
  verdict_of,
  transfer_by,
  transfers_verdict_by,
  data_by,
  common_by,
  message_verdict_by,
  verdict_by,
  commons_by,
  transfers_by,
  open_common_by,
  record_by,
}
use Rattle.annex.specs.Records.{pad, values_of, pack, view_items, lengths_of, transfers_sum, view_parts, is_whole, view, reading_of}
use Rattle.annex.specs.Writing.{
  item_writing,
  items_writing,
  data_writing,
  part_writing,
  parts_writing,
  over_limits,
  record_writing,
  struct_writing,
  writing_of,
  written_of,
}
use Rattle.annex.specs.Finding.{common_in, common_found, transfer_in, transfer_among, transfer_found, find_answer, find_part}
use Rattle.annex.specs.Spans.{transfer_rows, spans_of, common_rows_by, rows_by, spans_by}
use Rattle.annex.specs.Editing.{Edit, edit_refusal, instead, edited_items, edited, record_editing, editing_of, buffer_of}
use Rattle.annex.specs.Editing.Edit.{Replacing, Appending, Removing}
use Rattle.annex.specs.Promises.{
  VerdictPromise,
  ReadPromise,
  FindCommonPromise,
  FindCommonAnswerPromise,
  FindTransferPromise,
  FindTransferAnswerPromise,
  SpansCheckPromise,
  WritePromise,
  RecordRefusalPromise,
  EditPromise,
}
use Rattle.annex.specs.Bench.{M, K, record_of_k, record_of_m}
use Rattle.annex.specs.declared.Record.{Record}
use Rattle.annex.specs.declared.Reading.{Reading}

-- case 2: the shortest message; and two edits of M, a replacement and an append
abbrev pub short : List ℕ
short = K ++ (0x00 ∷ [])

abbrev pub shorter : Edit
shorter = Replacing (0x98 ∷ 0x02 ∷ 0x21 ∷ []) 0

abbrev pub another : Edit
another = Appending (0x41 ∷ 0x01 ∷ [])

-- 90 with three digits, of which the first is bad, and bad filler: its contents stand from 7 on, its first bad octet is at 8
abbrev pub bad : List ℕ
bad = K ++ (0xC5 ∷ 0x04 ∷ 0x90 ∷ 0x03 ∷ 0x20 ∷ 0x1A ∷ 0x00 ∷ [])

-- two CC, and an edit of the second
abbrev pub twice : List ℕ
twice = K ++ (0xC5 ∷ 0x06 ∷ 0xCC ∷ 0x01 ∷ 0x00 ∷ 0xCC ∷ 0x01 ∷ 0x01 ∷ 0x00 ∷ [])

abbrev pub second : Edit
second = Replacing (0xCC ∷ 0x01 ∷ 0x02 ∷ []) 1

-- M with two octets past it
abbrev pub roomy : List ℕ
roomy = M ++ (0xEE ∷ 0xEE ∷ [])

-- what the definitions say, computed once
pub record Said : Type 0 where
  pub verdict_cut : verdict_of K ≡ Refused 4 4
  pub verdict_bad : verdict_of bad ≡ Refused 13 8
  pub reading_short : (reading_of short).answer ≡ Accepted 5
  pub reading_m : (reading_of M).«record» ≡ pack record_of_m
  pub own_call : find_part M (common_found 0x83 M) ≡ 0x39 ∷ 0x30 ∷ 0x00 ∷ []
  pub own_call_at : find_answer M (common_found 0x83 M) ≡ Accepted 3
  pub no_partner : find_answer M (common_found 0x82 M) ≡ Refused 16 0
  pub dialled : find_part M (transfer_found 0x18 0 M) ≡ 0x03 ∷ 0x21 ∷ 0x0A ∷ []
  pub dialled_at : find_answer M (transfer_found 0x18 0 M) ≡ Accepted 19
  pub no_name : find_answer M (transfer_found 0x3F 0 M) ≡ Refused 16 0
  pub second_part : find_part twice (transfer_found 0x0C 1 twice) ≡ 0x01 ∷ []
  pub second_at : find_answer twice (transfer_found 0x0C 1 twice) ≡ Accepted 11
  pub no_room : spans_of M 8 ≡ Refused 15 0
  pub nothing_held : struct_writing (pack []) ≡ Refused 6 0
  pub least_held : struct_writing (pack record_of_k) ≡ Accepted 5
  pub written : written_of (pack record_of_k) (replicate 6 0xEE) ≡ short ++ (0xEE ∷ [])
  pub replaced_answer : editing_of shorter M 23 ≡ Accepted 22
  pub replaced_length : get_or (buffer_of shorter M 23) 11 0 ≡ 0x09
  pub appended_answer : editing_of another roomy 23 ≡ Accepted 25
  pub appended-length : get_or (buffer_of another roomy 23) 11 0 ≡ 0x0C
  pub appended_end : get_or (buffer_of another roomy 23) 24 0 ≡ 0x00
  pub removed_answer : editing_of (Removing 0x18 0) M 23 ≡ Accepted 19
  pub removed_length : get_or (buffer_of (Removing 0x18 0) M 23) 11 0 ≡ 0x06
  pub removed_rest : get_or (buffer_of (Removing 0x18 0) M 23) 19 0 ≡ 0x00
  pub second_replaced : get_or (buffer_of second twice 13) 8 0 ≡ 0x00
  pub second_removed : get_or (buffer_of (Removing 0x0C 1) twice 13) 8 0 ≡ 0x00

pub said : Said
unfolding after_of lead_of common_extent_of extent_of name_used pli_right often_of zeroes_of form_of halves joined digit_of code_of is_code halves_fault
    digits_fault digits_of packed number_fault_in calling_fault generic_fault dialled_fault two_fault entries_formed entries_fault carriers_formed
    carriers_fault fault_of holding_of item_of contents_of own_of layout_item layout_items layout_part layout length_right fault_in value_fits walk pars
    transfer_by transfers_verdict_by value_allowed common_form end_of data_by common_by message_verdict_by verdict_by commons_by transfers_by
    open_common_by record_by pad values_of pack view_items lengths_of transfers_sum view_parts is_whole view reading_of item_writing items_writing
    data_writing part_writing parts_writing over_limits record_writing struct_writing writing_of written_of common_in common_found transfer_in
    transfer_among transfer_found transfer_rows common_rows_by rows_by spans_by edit_refusal instead edited_items edited record_editing editing_of
    buffer_of
said =
    record {
      verdict_cut = refl;
      verdict_bad = refl;
      reading_short = refl;
      reading_m = refl;
      own_call = refl;
      own_call_at = refl;
      no_partner = refl;
      dialled = refl;
      dialled_at = refl;
      no_name = refl;
      second_part = refl;
      second_at = refl;
      no_room = refl;
      nothing_held = refl;
      least_held = refl;
      written = refl;
      replaced_answer = refl;
      replaced_length = refl;
      appended_answer = refl;
      appended-length = refl;
      appended_end = refl;
      removed_answer = refl;
      removed_length = refl;
      removed_rest = refl;
      second_replaced = refl;
      second_removed = refl;
    }

-- ---- verdict: one that accepts everything; one that places every refusal at 0; of 13, one that looks at the filler before the digits, one
-- that counts the place from the contents, and one that tells the header's

pub accepts_all : (n : ℕ) → VerdictPromise K (Accepted n) → ⊥
accepts_all n p = let z : ◌≡◌ {A = ℕ} 0 4 = ap number_of (p ∙ said.verdict_cut) in omega arith

pub places_at_0 : (k : ℕ) → VerdictPromise K (Refused k 0) → ⊥
places_at_0 k p = let z : ◌≡◌ {A = ℕ} 0 4 = ap place_of (p ∙ said.verdict_cut) in omega arith

pub filler_first : VerdictPromise bad (Refused 13 9) → ⊥
filler_first p = let z : ◌≡◌ {A = ℕ} 9 8 = ap place_of (p ∙ said.verdict_bad) in omega arith

pub counts_from_contents : VerdictPromise bad (Refused 13 1) → ⊥
counts_from_contents p = let z : ◌≡◌ {A = ℕ} 1 8 = ap place_of (p ∙ said.verdict_bad) in omega arith

pub tells_the_header : VerdictPromise bad (Refused 13 6) → ⊥
tells_the_header p = let z : ◌≡◌ {A = ℕ} 6 8 = ap place_of (p ∙ said.verdict_bad) in omega arith

-- ---- read: one that refuses everything; one that knows only case 2; one that opens only the first transfer parameter

pub always_refuses : (k p : ℕ) (held : Record) → ReadPromise short (record { answer = Refused k p; «record» = held }) → ⊥
always_refuses k p held e =
    let z : Refused k p ≡ Accepted 5 = ap (λ (r : Reading). r.answer) e ∙ said.reading_short in
    let w : ◌≡◌ {A = ℕ} 0 5 = ap given_of z in
    omega arith

pub always_case_2 : (a : Answer) → ReadPromise M (record { answer = a; «record» = pack record_of_k }) → ⊥
unfolding pack
always_case_2 a e =
    let z : pack record_of_k ≡ pack record_of_m = ap (λ (r : Reading). r.«record») e ∙ said.reading_m in
    let w : ◌≡◌ {A = ℕ} 2 5 = ap (λ (r : Record). r.commons) z in
    omega arith

-- by the digits 120 of M, which stand in the octets 21 0A: wherever and however a record carries them, one of its values is 21, and of M's
-- record, its digits open, none is
pub carries_the_rest : (r : Reading) → among 0x21 r.«record».values ≡ true → ReadPromise M r → ⊥
unfolding pack pad values_of
carries_the_rest r carried e =
    let z : r.«record» ≡ pack record_of_m = ap (λ (q : Reading). q.«record») e ∙ said.reading_m in
    let none : among 0x21 r.«record».values ≡ false = ap (λ (q : Record). among 0x21 q.values) z in
    let w : ◌≡◌ {A = ℕ} 0 1 = cc in
    omega arith

-- ---- finding: one that hands back nothing; one that hands back another stretch; one that finds the first, whichever is asked for

pub finds_no_common : FindCommonPromise M 0x83 [] → ⊥
finds_no_common p = let z : ◌≡◌ {A = ℕ} 0 3 = ap (λ (l : List ℕ). length l) (p ∙ said.own_call) in omega arith

pub finds_with_header : (rest : List ℕ) → FindCommonPromise M 0x83 (0x83 ∷ rest) → ⊥
finds_with_header rest p = let z : ◌≡◌ {A = ℕ} 0x83 0x39 = ap (λ (l : List ℕ). get_or l 0 0) (p ∙ said.own_call) in omega arith

pub common_always_there : (n : ℕ) → FindCommonAnswerPromise M 0x82 (Accepted n) → ⊥
common_always_there n p = let z : ◌≡◌ {A = ℕ} 0 16 = ap number_of (p ∙ said.no_partner) in omega arith

pub common_at_header : FindCommonAnswerPromise M 0x83 (Accepted 2) → ⊥
common_at_header p = let z : ◌≡◌ {A = ℕ} 2 3 = ap given_of (p ∙ said.own_call_at) in omega arith

pub finds_no_transfer : FindTransferPromise M 0x18 0 [] → ⊥
finds_no_transfer p = let z : ◌≡◌ {A = ℕ} 0 3 = ap (λ (l : List ℕ). length l) (p ∙ said.dialled) in omega arith

-- the count octet is contents
pub finds_digits_alone : FindTransferPromise M 0x18 0 (0x21 ∷ 0x0A ∷ []) → ⊥
finds_digits_alone p = let z : ◌≡◌ {A = ℕ} 2 3 = ap (λ (l : List ℕ). length l) (p ∙ said.dialled) in omega arith

pub transfer_always_there : (n : ℕ) → FindTransferAnswerPromise M 0x3F 0 (Accepted n) → ⊥
transfer_always_there n p = let z : ◌≡◌ {A = ℕ} 0 16 = ap number_of (p ∙ said.no_name) in omega arith

pub transfer_at_header : FindTransferAnswerPromise M 0x18 0 (Accepted 18) → ⊥
transfer_at_header p = let z : ◌≡◌ {A = ℕ} 18 19 = ap given_of (p ∙ said.dialled_at) in omega arith

pub finds_the_first : FindTransferPromise twice 0x0C 1 (0x00 ∷ []) → ⊥
finds_the_first p = let z : ◌≡◌ {A = ℕ} 0x00 0x01 = ap (λ (l : List ℕ). get_or l 0 0) (p ∙ said.second_part) in omega arith

pub tells_the_first : FindTransferAnswerPromise twice 0x0C 1 (Accepted 8) → ⊥
tells_the_first p = let z : ◌≡◌ {A = ℕ} 8 11 = ap given_of (p ∙ said.second_at) in omega arith

-- ---- rows: one that ignores the room (an invented count: WrongRows)

pub ignores_room : SpansCheckPromise M 8 (Accepted 9) → ⊥
ignores_room p = let z : ◌≡◌ {A = ℕ} 0 15 = ap number_of (p ∙ said.no_room) in omega arith

-- ---- write: one that answers the length and writes nothing; one that clears the room past the message

pub writes_nothing : (a : Answer) → WritePromise (pack record_of_k) (replicate 6 0xEE) a (replicate 6 0xEE) → ⊥
writes_nothing a p = let z : ◌≡◌ {A = ℕ} 0xEE 0x01 = ap (λ (l : List ℕ). get_or l 0 0) (p.1 ∙ said.written) in omega arith

pub clears_the_rest : (a : Answer) → WritePromise (pack record_of_k) (replicate 6 0xEE) a (short ++ (0x00 ∷ [])) → ⊥
clears_the_rest a p = let z : ◌≡◌ {A = ℕ} 0x00 0xEE = ap (λ (l : List ℕ). get_or l 5 0) (p.1 ∙ said.written) in omega arith

-- ---- record_refusal: one that refuses no record; one that refuses every record

pub refuses_no_record : (n : ℕ) → RecordRefusalPromise (pack []) (Accepted n) → ⊥
refuses_no_record n p = let z : ◌≡◌ {A = ℕ} 0 6 = ap number_of (p ∙ said.nothing_held) in omega arith

pub refuses_every_record : (k q : ℕ) → RecordRefusalPromise (pack record_of_k) (Refused k q) → ⊥
refuses_every_record k q p = let z : ◌≡◌ {A = ℕ} 0 5 = ap given_of (p ∙ said.least_held) in omega arith

-- ---- editing: one that claims success and does nothing; one that forgets C5's length octet; one that edits the first, whichever is told

-- each of the three edits changes that octet
pub replaced_differs : M ≡ buffer_of shorter M 23 → ⊥
replaced_differs e = let z : ◌≡◌ {A = ℕ} 0x0A 0x09 = ap (λ (l : List ℕ). get_or l 11 0) e ∙ said.replaced_length in omega arith

pub appended_differs : roomy ≡ buffer_of another roomy 23 → ⊥
appended_differs e = let z : ◌≡◌ {A = ℕ} 0x0A 0x0C = ap (λ (l : List ℕ). get_or l 11 0) e ∙ said.appended-length in omega arith

pub removed_differs : M ≡ buffer_of (Removing 0x18 0) M 23 → ⊥
removed_differs e = let z : ◌≡◌ {A = ℕ} 0x0A 0x06 = ap (λ (l : List ℕ). get_or l 11 0) e ∙ said.removed_length in omega arith

pub touches_nothing : (k : ℕ) → EditPromise shorter M 23 (Accepted k) M → ⊥
touches_nothing k p = replaced_differs p.1

pub forgets_length : (a : Answer) (now : List ℕ) → get_or now 11 0 ≡ 0x0A → EditPromise shorter M 23 a now → ⊥
forgets_length a now h p = let z : get_or now 11 0 ≡ 0x09 = ap (λ (l : List ℕ). get_or l 11 0) p.1 ∙ said.replaced_length in omega arith

pub appends_nothing : (k : ℕ) → EditPromise another roomy 23 (Accepted k) roomy → ⊥
appends_nothing k p = appended_differs p.1

-- the end mark moves on
pub loses_the_tail : (a : Answer) (now : List ℕ) → get_or now 24 0 ≡ 0xEE → EditPromise another roomy 23 a now → ⊥
loses_the_tail a now h p = let z : get_or now 24 0 ≡ 0x00 = ap (λ (l : List ℕ). get_or l 24 0) p.1 ∙ said.appended_end in omega arith

pub removes_nothing : (k : ℕ) → EditPromise (Removing 0x18 0) M 23 (Accepted k) M → ⊥
removes_nothing k p = removed_differs p.1

-- octets from the new end to the old are 0
pub leaves_the_rest : (a : Answer) (now : List ℕ) → get_or now 19 0 ≡ 0x03 → EditPromise (Removing 0x18 0) M 23 a now → ⊥
leaves_the_rest a now h p = let z : get_or now 19 0 ≡ 0x00 = ap (λ (l : List ℕ). get_or l 19 0) p.1 ∙ said.removed_rest in omega arith

-- the first of two stays where the second is replaced or removed
pub replaces_the_first : (a : Answer) (now : List ℕ) → get_or now 8 0 ≡ 0x02 → EditPromise second twice 13 a now → ⊥
replaces_the_first a now h p = let z : get_or now 8 0 ≡ 0x00 = ap (λ (l : List ℕ). get_or l 8 0) p.1 ∙ said.second_replaced in omega arith

pub removes_the_first : (a : Answer) (now : List ℕ) → get_or now 8 0 ≡ 0x01 → EditPromise (Removing 0x0C 1) twice 13 a now → ⊥
removes_the_first a now h p = let z : get_or now 8 0 ≡ 0x00 = ap (λ (l : List ℕ). get_or l 8 0) p.1 ∙ said.second_removed in omega arith
