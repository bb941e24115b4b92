-- Wrong programs that the promises about a record's image and the functions for Rust and C shut out, at least two for each function, each
-- with the input at which it breaks its promise; tk_charging's stand in WrongCharging, tk_order's in WrongOrders, those of tk_carriers and
-- tk_carrier_digits in WrongCarriers, those of the functions of the mobile call profile in WrongProfile.
use Rattle.std.specs.Prelude.{ℕ, ◌+◌, ◌*◌, ◌%◌, ◌<◌, ◌≡◌, refl, List, [], ◌∷◌, ◌++◌, get_or, replicate}
use Rattle.std.proofs.Common.{arith, ap, ◌∙◌}
use Rattle.annex.specs.Answers.{number_of, given_of, Answer, Accepted, Refused, Is}
use Rattle.annex.specs.Units.{after_of, lead_of, common_extent_of}
use Rattle.annex.specs.Heads.{value_allowed, zeroes_of}
use Rattle.annex.specs.Items.{own_of}
use Rattle.annex.specs.Layout.{layout_item, layout_items, layout_part, layout}
use Rattle.annex.specs.Allowed.{value_fits}
use Rattle.annex.specs.Walk.{walk}
use Rattle.annex.specs.Reading.{
  common_form,
  end_of,
  data_by,
  common_by,
  message_verdict_by,
  verdict_by,
  commons_by,
  open_common_by,
  record_by,
}
use Rattle.annex.specs.Records.{pad, values_of, pack, view_items, lengths_of, transfers_sum, view_parts, is_whole, view}
use Rattle.annex.specs.Writing.{part_writing, parts_writing, over_limits, record_writing, struct_writing, writing_of}
use Rattle.annex.specs.Image.{image_item, image_items, image_part, image_parts, image_of, items_front, parts_front, is_within, imaged_of}
use Rattle.annex.specs.Spans.{common_rows_by, rows_by, spans_by}
use Rattle.annex.specs.Editing.{Edit, editing_of}
use Rattle.annex.specs.Editing.Edit.{Removing}
use Rattle.annex.specs.Classes.{class_of}
use Rattle.annex.specs.Packed.{
  packed_answer,
  packed_class,
  image_reading,
  image_read,
  image_writing,
  image_written,
  rows_octets,
  octet_spans,
  octet_table,
}
use Rattle.annex.specs.Promises.{
  ImageReadPromise,
  ImageWritePromise,
  FromImagePromise,
  TkReadPromise,
  TkWritePromise,
  OctetSpansPromise,
  TkRowsPromise,
  TkFindCommonPromise,
  TkFindTransferPromise,
  TkClassPromise,
  TkEditPromise,
}
use Rattle.annex.specs.Bench.{M}
use Rattle.annex.specs.declared.Record.{Record}
use Rattle.annex.specs.declared.Imaged.{Imaged}
use Rattle.annex.specs.declared.Class.TheVariants.{HeldBack}
use Rattle.tight.specs.Wrong.{short, shorter, another, twice, second, roomy, said, replaced_differs, appended_differs, removed_differs}

-- the image of case 2's record, and with an octet left over
abbrev image_of_k : List ℕ
image_of_k = 2 ∷ 0x01 ∷ 0x01 ∷ 0 ∷ 0 ∷ 0 ∷ 0 ∷ 0 ∷ 0x06 ∷ 0x11 ∷ 0 ∷ 0 ∷ 0 ∷ 0 ∷ 0 ∷ []

abbrev over : List ℕ
over = image_of_k ++ (0 ∷ [])

-- one whose record has no signal kind
abbrev lacking : List ℕ
lacking = 1 ∷ 0x01 ∷ 0x01 ∷ 0 ∷ 0 ∷ 0 ∷ 0 ∷ 0 ∷ []

-- lent memory before a call
abbrev pub lent : ℕ → List ℕ
lent n = replicate n 0xEE

-- what the definitions say, computed once
record SaidPacked : Type 0 where
  back_k : (imaged_of image_of_k).answer ≡ Accepted 2
  back_over : (imaged_of over).answer ≡ Refused 1 0
  reading_k : image_reading short 15 ≡ Accepted 15
  read_k : image_read short (lent 15) ≡ image_of_k
  read_short : image_read short (lent 14) ≡ lent 14
  writing_k : image_writing image_of_k 6 ≡ Accepted 5
  written_k : image_written image_of_k (lent 6) ≡ short ++ (0xEE ∷ [])
  writing_over : image_writing over 6 ≡ Refused 1 0
  written_lacking : image_written lacking (lent 6) ≡ lent 6
  rows_short : octet_spans short 14 ≡ Refused 15 0
  table_short : octet_table short (lent 16) ≡ 0 ∷ 0 ∷ 0x01 ∷ 1 ∷ 0 ∷ 2 ∷ 0 ∷ 0x06 ∷ 1 ∷ 0 ∷ 4 ∷ 0 ∷ 0x00 ∷ 0 ∷ 0 ∷ 0xEE ∷ []
  held_back : class_of 0xD7 2 ≡ Is HeldBack
  no_list : class_of 0x01 1 ≡ Refused 17 0

said_packed : SaidPacked
unfolding after_of lead_of common_extent_of zeroes_of own_of layout_item layout_items layout_part layout value_fits walk value_allowed common_form end_of
    data_by common_by message_verdict_by verdict_by commons_by open_common_by record_by pad values_of pack view_items lengths_of transfers_sum view_parts
    is_whole view part_writing parts_writing over_limits record_writing struct_writing writing_of image_item image_items image_part image_parts image_of
    items_front parts_front is_within imaged_of common_rows_by rows_by spans_by class_of image_reading image_read image_writing image_written rows_octets
    octet_table
said_packed =
    record {
      back_k = refl;
      back_over = refl;
      reading_k = refl;
      read_k = refl;
      read_short = refl;
      writing_k = refl;
      written_k = refl;
      writing_over = refl;
      written_lacking = refl;
      rows_short = refl;
      table_short = refl;
      held_back = refl;
      no_list = refl;
    }

-- what lent memory holds at a place
abbrev pub at : ℕ → List ℕ → ℕ
at i l = get_or l i 0

-- ---- read_image: one that answers the length and writes nothing; one that writes as much as there is room for

pub images_nothing : (a : Answer) → ImageReadPromise short (lent 15) a (lent 15) → ⊥
images_nothing a p = let z : ◌≡◌ {A = ℕ} 0xEE 2 = ap (at 0) (p.1 ∙ said_packed.read_k) in omega arith

pub images_a_part : (a : Answer) (rest : List ℕ) → ImageReadPromise short (lent 14) a (2 ∷ rest) → ⊥
images_a_part a rest p = let z : ◌≡◌ {A = ℕ} 2 0xEE = ap (at 0) (p.1 ∙ said_packed.read_short) in omega arith

-- ---- from_image: one that refuses everything; one that leaves octets over

pub refuses_images : (k p : ℕ) (q : Record) → FromImagePromise image_of_k (record { answer = Refused k p; held = q }) → ⊥
refuses_images k p q e =
    let z : ◌≡◌ {A = ℕ} 0 2 = ap (λ (r : Imaged). given_of r.answer) e ∙ ap given_of said_packed.back_k in
    omega arith

pub leaves_octets_over : (n : ℕ) (q : Record) → FromImagePromise over (record { answer = Accepted n; held = q }) → ⊥
leaves_octets_over n q e =
    let z : ◌≡◌ {A = ℕ} 0 1 = ap (λ (r : Imaged). number_of r.answer) e ∙ ap number_of said_packed.back_over in
    omega arith

-- ---- tk_read: one that answers the length and writes nothing; one that gives the length as the place

pub tk_reads_nothing : (r : ℕ) → TkReadPromise short (lent 15) r (lent 15) → ⊥
tk_reads_nothing r p = let z : ◌≡◌ {A = ℕ} 0xEE 2 = ap (at 0) (p.1 ∙ said_packed.read_k) in omega arith

pub tk_length_as_place : (now : List ℕ) → TkReadPromise short (lent 15) (15 * 65536) now → ⊥
tk_length_as_place now p =
    let z : ◌≡◌ {A = ℕ} (15 * 65536) 15 = p.0 ∙ ap packed_answer said_packed.reading_k in
    omega arith

-- ---- tk_write: one that leaves octets over; one that answers the length and writes nothing

pub tk_writes_with_octets_over : (now : List ℕ) → TkWritePromise over (lent 6) 5 now → ⊥
tk_writes_with_octets_over now p =
    let z : ◌≡◌ {A = ℕ} 5 4294967296 = p.0 ∙ ap packed_answer said_packed.writing_over in
    omega arith

pub tk_writes_nothing : (r : ℕ) → TkWritePromise image_of_k (lent 6) r (lent 6) → ⊥
tk_writes_nothing r p = let z : ◌≡◌ {A = ℕ} 0xEE 0x01 = ap (at 0) (p.1 ∙ said_packed.written_k) in omega arith

-- write_image is shut out for the same: tk_write packs its answer, and nothing else. So is one that writes what stands before a refusal
writing_packed : (image room : List ℕ) (r : Answer) (now : List ℕ) → ImageWritePromise image room r now
    → TkWritePromise image room (packed_answer r) now
writing_packed image room r now p = (ap packed_answer p.0, p.1)

pub image_with_octets_over : (now : List ℕ) → ImageWritePromise over (lent 6) (Accepted 5) now → ⊥
image_with_octets_over now p = tk_writes_with_octets_over now (writing_packed over (lent 6) (Accepted 5) now p)

pub image_writes_nothing : (r : Answer) → ImageWritePromise image_of_k (lent 6) r (lent 6) → ⊥
image_writes_nothing r p = tk_writes_nothing (packed_answer r) (writing_packed image_of_k (lent 6) r (lent 6) p)

pub image_written_though_refused : (r : Answer) (rest : List ℕ) → ImageWritePromise lacking (lent 6) r (0x01 ∷ rest) → ⊥
image_written_though_refused r rest p = let z : ◌≡◌ {A = ℕ} 0x01 0xEE = ap (at 0) (p.1 ∙ said_packed.written_lacking) in omega arith

-- ---- tk_rows: one that writes a row's length before its offset, the high octet first, or takes the table's octets for rows

pub tk_length_first : (r : ℕ) (now : List ℕ) → at 0 now ≡ 1 → TkRowsPromise short (lent 16) r now → ⊥
tk_length_first r now h p = let z : at 0 now ≡ 0 = ap (at 0) (p.1 ∙ said_packed.table_short) in omega arith

pub tk_high_octet_first : (r : ℕ) (now : List ℕ) → at 5 now ≡ 0 → TkRowsPromise short (lent 16) r now → ⊥
tk_high_octet_first r now h p = let z : at 5 now ≡ 2 = ap (at 5) (p.1 ∙ said_packed.table_short) in omega arith

pub tk_octets_for_rows : (now : List ℕ) → TkRowsPromise short (lent 14) 3 now → ⊥
tk_octets_for_rows now p =
    let z : ◌≡◌ {A = ℕ} 3 (15 * 4294967296) = p.0 ∙ ap packed_answer said_packed.rows_short in
    omega arith

-- octet_spans is shut out for the same: tk_rows packs its answer, and nothing else
octets_packed : (m table : List ℕ) (r : Answer) (now : List ℕ) → OctetSpansPromise m table r now
    → TkRowsPromise m table (packed_answer r) now
octets_packed m table r now p = (ap packed_answer p.0, p.1)

pub octets_length_first : (r : Answer) (now : List ℕ) → at 0 now ≡ 1 → OctetSpansPromise short (lent 16) r now → ⊥
octets_length_first r now h p = tk_length_first (packed_answer r) now h (octets_packed short (lent 16) r now p)

pub octets_for_rows : (now : List ℕ) → OctetSpansPromise short (lent 14) (Accepted 3) now → ⊥
octets_for_rows now p = tk_octets_for_rows now (octets_packed short (lent 14) (Accepted 3) now p)

-- ---- finding: one that tells only where the contents start; one that tells where the header stands; one that gives 16 as the value; one
-- that finds the first, whichever is asked for

pub tk_common_no_length : TkFindCommonPromise M 0x83 (3 * 65536) → ⊥
tk_common_no_length p = let z : ◌≡◌ {A = ℕ} (3 * 65536) (3 * 65536 + 3) = p ∙ rw (said.own_call_at, said.own_call) in omega arith

pub tk_common_at_header : TkFindCommonPromise M 0x83 (2 * 65536 + 3) → ⊥
tk_common_at_header p = let z : ◌≡◌ {A = ℕ} (2 * 65536 + 3) (3 * 65536 + 3) = p ∙ rw (said.own_call_at, said.own_call) in omega arith

pub tk_transfer_at_header : TkFindTransferPromise M 0x18 0 (18 * 65536 + 3) → ⊥
tk_transfer_at_header p = let z : ◌≡◌ {A = ℕ} (18 * 65536 + 3) (19 * 65536 + 3) = p ∙ rw (said.dialled_at, said.dialled) in omega arith

pub tk_absent_as_value : TkFindTransferPromise M 0x3F 0 16 → ⊥
tk_absent_as_value p = let z : ◌≡◌ {A = ℕ} 16 (16 * 4294967296) = p ∙ rw said.no_name in omega arith

pub tk_finds_the_first : TkFindTransferPromise twice 0x0C 1 (8 * 65536 + 1) → ⊥
tk_finds_the_first p =
    let z : ◌≡◌ {A = ℕ} (8 * 65536 + 1) (11 * 65536 + 1) = p ∙ rw (said.second_at, said.second_part) in
    omega arith

-- ---- tk_class: one that calls what is held back spare; one that gives 17 as the value

pub tk_never_held_back : TkClassPromise 0xD7 2 2 → ⊥
tk_never_held_back p = let z : ◌≡◌ {A = ℕ} 2 1 = p ∙ ap packed_class said_packed.held_back in omega arith

pub tk_no_list_as_value : TkClassPromise 0x01 1 17 → ⊥
tk_no_list_as_value p = let z : ◌≡◌ {A = ℕ} 17 (17 * 4294967296) = p ∙ ap packed_class said_packed.no_list in omega arith

-- ---- editing: one that answers 0 for done, and not the new length; one that claims success and does nothing; one that edits the first,
-- whichever is told

answers_done : (e : Edit) (buffer : List ℕ) (n k : ℕ) → editing_of e buffer n ≡ Accepted k → 0 < k → k < 65536 → (now : List ℕ)
    → TkEditPromise e buffer n 0 now → ⊥
answers_done e buffer n k f l u now p = let z : ◌≡◌ {A = ℕ} 0 (0 + k % 65536) = p.0 ∙ ap packed_answer f in omega arith

pub tk_replaces_answers_done : (now : List ℕ) → TkEditPromise shorter M 23 0 now → ⊥
tk_replaces_answers_done = answers_done shorter M 23 22 said.replaced_answer (omega arith) (omega arith)

pub tk_appends_answers_done : (now : List ℕ) → TkEditPromise another roomy 23 0 now → ⊥
tk_appends_answers_done = answers_done another roomy 23 25 said.appended_answer (omega arith) (omega arith)

pub tk_removes_answers_done : (now : List ℕ) → TkEditPromise (Removing 0x18 0) M 23 0 now → ⊥
tk_removes_answers_done = answers_done (Removing 0x18 0) M 23 19 said.removed_answer (omega arith) (omega arith)

pub tk_replaces_nothing : (r : ℕ) → TkEditPromise shorter M 23 r M → ⊥
tk_replaces_nothing r p = replaced_differs p.1

pub tk_appends_nothing : (r : ℕ) → TkEditPromise another roomy 23 r roomy → ⊥
tk_appends_nothing r p = appended_differs p.1

pub tk_removes_nothing : (r : ℕ) → TkEditPromise (Removing 0x18 0) M 23 r M → ⊥
tk_removes_nothing r p = removed_differs p.1

pub tk_replaces_the_first : (r : ℕ) (now : List ℕ) → at 8 now ≡ 0x02 → TkEditPromise second twice 13 r now → ⊥
tk_replaces_the_first r now h p = let z : at 8 now ≡ 0x00 = ap (at 8) p.1 ∙ said.second_replaced in omega arith

pub tk_removes_the_first : (r : ℕ) (now : List ℕ) → at 8 now ≡ 0x01 → TkEditPromise (Removing 0x0C 1) twice 13 r now → ⊥
tk_removes_the_first r now h p = let z : at 8 now ≡ 0x00 = ap (at 8) p.1 ∙ said.second_removed in omega arith
