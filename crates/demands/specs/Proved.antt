-- The three demands hold, by what stands in `theorems` and `tight`.
use Rattle.std.specs.Prelude.{ℕ, ◌+◌, ◌≤◌, ◌<◌, ◌≡◌, refl, true, List, [], ◌∷◌, ◌++◌, ◌↔◌, ◌⊎◌, ltb, length, get_or, take, drop, Err}
use Rattle.std.proofs.Common.{arith, sym, ap, ◌∙◌, inl, inr, ltb-true, ltb-false, le-ltb, lt-ltb, ne_eqb, take_at}
use Rattle.std.proofs.Math.Seq.{take-append_seam}
use Rattle.annex.specs.Answers.{bad_digit, absent, room_after, number_of, start_of, Answer, Accepted, Refused, ChargingAnswer, Is, Found, At, Nowhere, ClassAnswer}
use Rattle.annex.specs.Units.{name_of}
use Rattle.annex.specs.Rates.{charges_of}
use Rattle.annex.specs.Orders.{OpenedOrder, lay_order, order_right}
use Rattle.annex.specs.Items.{Item, Part}
use Rattle.annex.specs.Layout.{layout}
use Rattle.annex.specs.Allowed.{times_in, items_in, names_of, Allowed, Writable, headers_of}
use Rattle.annex.specs.Reading.{verdict_of, record_of}
use Rattle.annex.specs.Records.{pack, is_whole, view, read_by, reading_of}
use Rattle.annex.specs.Writing.{struct_writing, writing_of, written_of}
use Rattle.annex.specs.Spans.{rows_of, spans_of, table_of, spans_by}
use Rattle.annex.specs.Finding.{common_found, transfer_found, find_answer, find_part}
use Rattle.annex.specs.Editing.{Edit, edited, editing_of, buffer_of}
use Rattle.annex.specs.Packed.{
  one_number,
  packed_answer,
  image_reading,
  image_read,
  image_writing,
  image_written,
  profile_image_reading,
  profile_image_read,
  profile_image_writing,
  profile_image_written,
  octet_spans,
  octets_by,
  octet_table,
  octet_order,
  octet_order_table,
  octet_carriers,
  octet_carriers_table,
  packed_length,
  packed_class,
}
use Rattle.annex.specs.Opened.{form_row, order_listing, order_found, order_rows_of, order_answer, order_table}
use Rattle.annex.specs.Transit.{lay_carriers, digits_answer, digits_given}
use Rattle.annex.specs.Charging.{charging_found, charging_by, charging_of, octet_charging, octet_charged}
use Rattle.annex.specs.Profile.{profile_writing, profile_written, classes_answer, classes_given}
use Rattle.annex.specs.Promises.{
  ReadPromise,
  FindTransferAnswerPromise,
  SpansPromise,
  WritePromise,
  EditPromise,
  FindCommonAnswerPromise,
  FindTransferPromise,
  ChargingPromise,
  OrderCheckPromise,
  OrderPromise,
}
use Rattle.annex.specs.declared.Check.TheVariants.{Charging}
use Rattle.annex.specs.declared.ProfileReading.{ProfileReading}
use Rattle.annex.specs.declared.Reading.{Reading}
use Rattle.annex.specs.declared.Record.{Record}
use Rattle.annex.specs.declared.Row.{Row}
use Rattle.annex.specs.Heads.{among, end_mark, charging_information, connection_order, form_of}
use Rattle.annex.specs.Contents.{fault_of}
use Rattle.annex.specs.BadHalves.{ShownAt}
use Rattle.annex.specs.Walking.{no_row}
use Rattle.annex.specs.Classes.{class_of}
use Rattle.annex.specs.declared.Imaged.{Imaged}
use Rattle.laws.specs.Leaves.{as_they_are}
use Rattle.laws.specs.Members.{sum_of}
use Rattle.laws.specs.Offsets.{fault_within}
use Rattle.laws.specs.Steps.{passed, then_passed, verdict_place}
use Rattle.theorems.specs.Charged.{item_charged, said_again}
use Rattle.theorems.specs.Ordered.{
  says,
  order_asked,
  item_ordered,
  told_rows,
  order_listed_lem,
  order_counted,
  octets_told,
  stretches_of,
  Following,
  rows_add_up,
}
use Rattle.theorems.specs.Carried.{carriers_asked, item_carried, says_carriers}
use Rattle.theorems.specs.Shown.{
  shown,
  one_shown,
  Passes,
  find_passes,
  spans_passes,
  image_passes,
  profile_passes,
  profile_read_passes,
  profile_image_passes,
  classes_passes,
  order_passes,
  carriers_passes,
  carrier_digits_passes,
  charging_passes,
  octet_charging_passes,
  edit_passes,
}
use Rattle.theorems.specs.Lists.{times_append, times_here}
use Rattle.theorems.specs.Records.{allowed_within, item_allowed, names_append}
use Rattle.theorems.specs.Messages.{read_then_laid}
use Rattle.theorems.specs.Layouts.{laid_then_read}
use Rattle.theorems.specs.Rounds.{same_record}
use Rattle.theorems.specs.Views.{FitsStruct, view_pack, whole_pack}
use Rattle.theorems.specs.Writings.{
  writable_allowed,
  allowed_writable,
  struct_written,
  struct_writes,
  with_room,
  room_after_lem,
  packed_writes,
  read_then_written,
  written_then_read,
}
use Rattle.theorems.specs.Reasons.{edited_in, edit_taken, edit_accepts}
use Rattle.theorems.specs.Edits.{OfOctets, edited_allowed}
use Rattle.theorems.specs.Buffers.{buffer_edited, buffer_refused}
use Rattle.theorems.specs.InPlace.{in_place}
use Rattle.theorems.specs.Places.{is_found, name_is, common_is}
use Rattle.theorems.specs.Listings.{part_rows, rows_of_record, rows_counted}
use Rattle.theorems.specs.Finds.{transfer_contents, common_contents, sequence_said}
use Rattle.tight.specs.Told.{
  verdict_told,
  find_told,
  spans_told,
  writing_told,
  editing_told,
  HasNumber,
  struct_told,
  imaged_told,
  read_image_told,
  write_image_told,
  class_told,
  charging_told,
  octet_charging_told,
  order_told,
  carriers_told,
  carrier_digits_told,
  profile_verdict_told,
  profile_writing_told,
  profile_image_reading_told,
  profile_image_writing_told,
  classes_told,
}
use Rattle.tight.specs.Numbers.{read_answer}
use Rattle.demands.specs.Demands.{
  Octetwise,
  IsAccepted,
  IsGiven,
  Kept,
  Answering,
  Lending,
  packed_number,
  packed_place,
  PackedAnswering,
  PackedLending,
  Showing,
  Demand1,
  Demand2,
  Demand3,
}
use Rattle.demands.specs.ProvedCarriers.{
  starts_so,
  told_there,
  carriers_listed_so,
  carriers_there_so,
  carriers_few_so,
  code_told_so,
  code_none_so,
}
use Rattle.demands.specs.ProvedProfile.{
  profile_verdict_so,
  profile_accepted_so,
  profile_record_so,
  profile_passed_so,
  profile_outside_so,
  profile_none_so,
  profile_network_so,
  profile_pairs_so,
  profile_classes_so,
  profile_unclassed_so,
  profile_back_so,
  profile_written_so,
  profile_allowed_so,
  profile_message_so,
  profile_reads_so,
  profile_write_passed_so,
  profile_write_outside_so,
  classes_told_so,
  classes_there_so,
}

-- an answer that refuses leaves the room
after_refusal : {A : Type 0} (a : Answer) (written room : List A) → Kept a room (room_after a written room)
after_refusal (Accepted n) written room k p e = absurd (let z : ◌≡◌ {A = ℕ} 0 1 = cc in omega arith)
after_refusal (Err r) written room k p e = refl

octets_kept : (width : ℕ) (a : Answer) (octets table : List ℕ) → Kept a table (octets_by width a octets table)
octets_kept width (Accepted n) octets table k p e = absurd (let z : ◌≡◌ {A = ℕ} 0 1 = cc in omega arith)
octets_kept width (Err r) octets table k p e = refl

-- a promise that says what the answer is, and what lent memory then holds
answering : {d : Answer} → HasNumber d → Answering (λ r. r ≡ d)
answering h = record { fixed = λ r s p q. p ∙ sym q; numbered = λ r p. rw p h }

lending : {A : Type 0} {d : Answer} {before left : List A} → HasNumber d → Kept d before left
    → Lending before (λ r now. (r ≡ d) × (now ≡ left))
lending h w =
    record {
      fixed = λ r s now then p q. (p.0 ∙ sym q.0, p.1 ∙ sym q.1);
      numbered = λ r now p. rw p.0 h;
      kept = λ r now p k q e. p.1 ∙ w k q (sym p.0 ∙ e);
    }

packed_number_lem : (a : Answer) → packed_number (packed_answer a) ≡ number_of a
packed_number_lem (Accepted n) = omega arith
packed_number_lem (Err r) = omega arith

length_number : (a : Answer) (len : ℕ) → packed_number (packed_length a len) ≡ number_of a
length_number (Accepted s) len = omega arith
length_number (Err r) len = omega arith

class_number : (a : ClassAnswer) → packed_number (packed_class a) ≡ number_of a
class_number a = omega arith

packed_answering : {n k : ℕ} → packed_number n ≡ k → PackedAnswering k (λ r. r ≡ n)
packed_answering e = record { fixed = λ r s p q. p ∙ sym q; told = λ r p. rw p e }

packed_kept : (a : Answer) (before left : List ℕ) → Kept a before left → 0 < number_of a → left ≡ before
packed_kept (Accepted n) before left w h = absurd (omega arith)
packed_kept (Err r) before left w h = w r.0 r.1 refl

packed_lending : {d : Answer} {before left : List ℕ} → HasNumber d → Kept d before left
    → PackedLending before d (λ r now. (r ≡ packed_answer d) × (now ≡ left))
packed_lending {d} {before} {left} h w =
    record {
      fixed = λ r s now then p q. (p.0 ∙ sym q.0, p.1 ∙ sym q.1);
      told = λ r now p. rw p.0 (packed_number_lem d);
      numbered = h;
      kept = λ r now p l. p.1 ∙ packed_kept d before left w (omega (arith, rw p.0 at l, packed_number_lem d));
    }

-- reading answers with the verdict
read_verdict : (m : List ℕ) (r : Reading) → ReadPromise m r → r.answer ≡ verdict_of m
unfolding reading_of
read_verdict m r p = ap (λ (x : Reading). x.answer) p ∙ read_answer (verdict_of m) (record_of m)

-- ---- the place of a 13

-- packed, a place of the message is whole
packed_shown : (m : List ℕ) (k p : ℕ) → k ≡ bad_digit → verdict_of m ≡ Refused bad_digit p → ShownAt m (packed_place (one_number k p 0))
packed_shown m k p e v =
    let few = (verdict_place fault_of fault_within m).at bad_digit p v in
    let same : p ≡ packed_place (one_number k p 0) = omega arith in
    rw same at (shown m p v)

refused_shown : (m : List ℕ) (a : Answer) → Passes m a → (r : ℕ) → packed_number r ≡ number_of a
    → ((k p : ℕ) → a ≡ Refused k p → r ≡ one_number k p 0) → packed_number r ≡ bad_digit → ShownAt m (packed_place r)
refused_shown m (Accepted n) w r e h f = absurd (omega arith)
refused_shown m (Err g) w r e h f =
    let number : g.0 ≡ bad_digit = sym e ∙ f in
    rw (h g.0 g.1 refl) (packed_shown m g.0 g.1 number (w g.1 (rw number)))

answer_shown : (m : List ℕ) (a : Answer) → Passes m a → (r : ℕ) → r ≡ packed_answer a → packed_number r ≡ bad_digit
    → ShownAt m (packed_place r)
answer_shown m a w r e = refused_shown m a w r (rw e (packed_number_lem a)) (λ k p f. e ∙ rw f)

find_shown : (m : List ℕ) (f : Found) (r : ℕ) → r ≡ packed_length (find_answer m f) (length (find_part m f)) → packed_number r ≡ bad_digit
    → ShownAt m (packed_place r)
find_shown m f r e = refused_shown m (find_answer m f) (find_passes m f) r (rw e (length_number (find_answer m f) _)) (λ k p g. e ∙ rw g)

-- an edit: of the message, or of its own new parameter, by a place x that is p in both
edit_shown : (e : Edit) (d : List ℕ) (n p x : ℕ) → editing_of e d n ≡ Refused bad_digit p
    → (p ≡ 0 → x ≡ 0) → (verdict_of (take n d) ≡ Refused bad_digit p → ShownAt (take n d) x)
    → (v : Answer) → v ≡ verdict_of (take n d) → (IsAccepted v → x ≡ 0) × ((k q : ℕ) → v ≡ Refused k q → ShownAt (take n d) x)
edit_shown e d n p x f own passed v w = go (edit_passes e d n p f)
  where
    go : (verdict_of (take n d) ≡ Refused bad_digit p) ⊎ (((q : ℕ) × (verdict_of (take n d) ≡ Accepted q)) × (p ≡ 0))
        → (IsAccepted v → x ≡ 0) × ((k q : ℕ) → v ≡ Refused k q → ShownAt (take n d) x)
    go (inl g) = (
      λ a. absurd (let h = sym a.1 ∙ w ∙ g in let z : ◌≡◌ {A = ℕ} 0 1 = cc in omega arith),
      λ k q h. passed g,
    )
    go (inr g) = (
      λ a. own g.1,
      λ k q h. absurd (let i = sym h ∙ w ∙ g.0.1 in let z : ◌≡◌ {A = ℕ} 0 1 = cc in omega arith),
    )

edit_packed : (e : Edit) (d : List ℕ) (n r : ℕ) → r ≡ packed_answer (editing_of e d n) → packed_number r ≡ bad_digit
    → (v : Answer) → v ≡ verdict_of (take n d)
    → (IsAccepted v → packed_place r ≡ 0) × ((k q : ℕ) → v ≡ Refused k q → ShownAt (take n d) (packed_place r))
edit_packed e d n r f g = go (editing_of e d n) refl f
  where
    go : (a : Answer) → editing_of e d n ≡ a → r ≡ packed_answer a → (v : Answer) → v ≡ verdict_of (take n d)
        → (IsAccepted v → packed_place r ≡ 0) × ((k q : ℕ) → v ≡ Refused k q → ShownAt (take n d) (packed_place r))
    go (Accepted k) h s = absurd (let i = rw s at g in omega arith)
    go (Err w) h s =
        let number : w.0 ≡ bad_digit = sym (packed_number_lem (Err w)) ∙ rw s at g in
        edit_shown e d n w.1 (packed_place r) (h ∙ rw number) (λ z. rw (s, z) (omega arith))
        (λ i. rw s (packed_shown (take n d) w.0 w.1 number i))

shows : (m : List ℕ) → Showing m
shows m =
    record {
      one_place = one_shown m;
      verdict = λ p e. shown m p (sym e);
      read = λ q p e. shown m p (sym (read_verdict m _ e));
      find_common = λ h p e. shown m p (find_passes m (common_found h m) p (sym e));
      find_transfer = λ x which p e. shown m p (find_passes m (transfer_found x which m) p (sym e));
      check = λ room p e. shown m p (spans_passes m room p (sym e));
      check_order = λ room p e. shown m p (order_passes m room p (sym e));
      charging = λ p e. shown m p (charging_passes m p (sym e));
      profile_verdict = λ p e. shown m p (profile_passes m p (sym e));
      profile_read = λ q t p e. shown m p (profile_read_passes m p (ap (λ (x : ProfileReading). x.answer) (sym e)));
      spans = λ table now p e. shown m p (spans_passes m (length table) p (sym e.0));
      octet_spans_holds = λ table now p e. shown m p (spans_passes m _ p (sym e.0));
      order = λ table now p e. shown m p (order_passes m (length table) p (sym e.0));
      octet_order_holds = λ table now p e. shown m p (order_passes m _ p (sym e.0));
      octet_charging_holds = λ room now p e. shown m p (octet_charging_passes m (length room) p (sym e.0));
      carriers = λ which table now p e. shown m p (carriers_passes m which _ p (sym e.0));
      carrier_digits = λ which row room now p e. shown m p (carrier_digits_passes m which row (length room) p (sym e.0));
      read_image = λ room now p e. shown m p (image_passes m (length room) p (sym e.0));
      profile_read_image = λ room now p e. shown m p (profile_image_passes m (length room) p (sym e.0));
      added_classes = λ room now p e. shown m p (classes_passes m (length room) p (sym e.0));
      edit = λ e d n s p now f. rw s at (edit_shown e d n p p (sym f.0) (λ z. z) (shown (take n d) p));
      tk_read = λ room r now e. answer_shown m (image_reading m (length room)) (image_passes m (length room)) r e.0;
      tk_rows = λ table r now e. answer_shown m (octet_spans m (length table)) (spans_passes m _) r e.0;
      tk_find_common = λ h r e. find_shown m (common_found h m) r e;
      tk_find_transfer = λ x which r e. find_shown m (transfer_found x which m) r e;
      tk_charging = λ room r now e. answer_shown m (octet_charging m (length room)) (octet_charging_passes m (length room)) r e.0;
      tk_order = λ table r now e. answer_shown m (octet_order m (length table)) (order_passes m _) r e.0;
      tk_carriers = λ which table r now e.
          answer_shown m (octet_carriers m which (length table)) (carriers_passes m which _) r e.0;
      tk_carrier_digits = λ which row room r now e.
          answer_shown m (digits_answer m which row (length room)) (carrier_digits_passes m which row (length room)) r e.0;
      tk_profile_read = λ room r now e.
          answer_shown m (profile_image_reading m (length room)) (profile_image_passes m (length room)) r e.0;
      tk_added_classes = λ room r now e. answer_shown m (classes_answer m (length room)) (classes_passes m (length room)) r e.0;
      tk_edit = λ e d n s r now f g. rw s at (edit_packed e d n r f.0 g);
    }

pub demand_1 : Demand1
unfolding table_of octet_table order_table octet_order_table written_of buffer_of octet_charged octet_carriers_table digits_given image_read
    image_written profile_written profile_image_read profile_image_written classes_given
demand_1 =
    record {
      verdict = λ m. answering (verdict_told m);
      read = λ m.
          record {
            fixed = λ r s p q. read_verdict m _ p.1 ∙ sym (read_verdict m _ q.1);
            numbered = λ r p. rw (read_verdict m _ p.1) (verdict_told m);
          };
      find_common = λ m h. answering (find_told m (common_found h m));
      find_transfer = λ m x which. answering (find_told m (transfer_found x which m));
      check = λ m room. answering (spans_told m room);
      check_order = λ m room. answering (order_told m room);
      record_refusal = λ q. answering (struct_told q);
      from_image = λ image.
          record {
            fixed = λ r s p q. ap (λ (x : Imaged). x.answer) (p.1 ∙ sym q.1);
            numbered = λ r p. rw (ap (λ (x : Imaged). x.answer) p.1) (imaged_told image);
          };
      class = λ h x r s p q. (rw p (class_told h x), p ∙ sym q);
      charging = λ m r s p q. (rw p (charging_told m), p ∙ sym q);
      profile_verdict = λ m. answering (profile_verdict_told m);
      profile_read = λ m.
          record {
            fixed = λ r s p q. profile_verdict_so m _ p.2 ∙ sym (profile_verdict_so m _ q.2);
            numbered = λ r p. rw (profile_verdict_so m _ p.2) (profile_verdict_told m);
          };
      spans = λ m table. lending (spans_told m (length table)) (after_refusal (spans_of m (length table)) (rows_of m) table);
      octet_spans_holds = λ m table. lending (spans_told m _) (octets_kept _ (octet_spans m (length table)) _ table);
      order = λ m table. lending (order_told m (length table)) (after_refusal (order_answer m (length table)) (order_rows_of m) table);
      octet_order_holds = λ m table. lending (order_told m _) (octets_kept _ (octet_order m (length table)) _ table);
      write = λ q room. lending (writing_told q (length room)) (after_refusal (writing_of q (length room)) _ room);
      edit = λ e d n. lending (editing_told e d n) (λ k q f. buffer_refused e d n k q f);
      octet_charging_holds = λ m room. lending (octet_charging_told m (length room)) (after_refusal (octet_charging m (length room)) _ room);
      carriers = λ m which table. lending (carriers_told m which _) (octets_kept _ (octet_carriers m which (length table)) _ table);
      carrier_digits = λ m which row room.
          lending (carrier_digits_told m which row (length room)) (after_refusal (digits_answer m which row (length room)) _ room);
      read_image = λ m room. lending (read_image_told m (length room)) (after_refusal (image_reading m (length room)) _ room);
      write_image = λ image room. lending (write_image_told image (length room)) (after_refusal (image_writing image (length room)) _ room);
      profile_write = λ q room. lending (profile_writing_told q (length room)) (after_refusal (profile_writing q (length room)) _ room);
      profile_read_image = λ m room.
          lending (profile_image_reading_told m (length room)) (after_refusal (profile_image_reading m (length room)) _ room);
      profile_write_image = λ image room.
          lending (profile_image_writing_told image (length room)) (after_refusal (profile_image_writing image (length room)) _ room);
      added_classes = λ m room. lending (classes_told m (length room)) (after_refusal (classes_answer m (length room)) _ room);
      tk_read = λ m room. packed_lending (read_image_told m (length room)) (after_refusal (image_reading m (length room)) _ room);
      tk_write = λ image room.
          packed_lending (write_image_told image (length room)) (after_refusal (image_writing image (length room)) _ room);
      tk_rows = λ m table. packed_lending (spans_told m _) (octets_kept _ (octet_spans m (length table)) _ table);
      tk_find_common = λ m h. packed_answering (length_number (find_answer m (common_found h m)) _);
      tk_find_transfer = λ m x which. packed_answering (length_number (find_answer m (transfer_found x which m)) _);
      tk_class = λ h x. packed_answering (class_number (class_of h x));
      tk_charging = λ m room.
          packed_lending (octet_charging_told m (length room)) (after_refusal (octet_charging m (length room)) _ room);
      tk_order = λ m table. packed_lending (order_told m _) (octets_kept _ (octet_order m (length table)) _ table);
      tk_carriers = λ m which table.
          packed_lending (carriers_told m which _) (octets_kept _ (octet_carriers m which (length table)) _ table);
      tk_carrier_digits = λ m which row room.
          packed_lending (carrier_digits_told m which row (length room)) (after_refusal (digits_answer m which row (length room)) _ room);
      tk_profile_read = λ m room.
          packed_lending (profile_image_reading_told m (length room)) (after_refusal (profile_image_reading m (length room)) _ room);
      tk_profile_write = λ image room.
          packed_lending (profile_image_writing_told image (length room)) (after_refusal (profile_image_writing image (length room)) _ room);
      tk_added_classes = λ m room. packed_lending (classes_told m (length room)) (after_refusal (classes_answer m (length room)) _ room);
      tk_edit = λ e d n. packed_lending (editing_told e d n) (λ k q f. buffer_refused e d n k q f);
      showing = shows;
      stores = λ fits stored before r now p f. rw f at p.1;
      opens = λ i used before now p f. p ∙ rw f;
    }

none_read : (m : List ℕ) (r : Reading) → ReadPromise m r → (k p : ℕ) → r.answer ≡ Refused k p → r.«record» ≡ pack []
unfolding reading_of
none_read m r p k q e = rw p (by (verdict_of m) (sym (read_verdict m r p) ∙ e))
  where
    by : (a : Answer) → a ≡ Refused k q → (read_by a (record_of m)).«record» ≡ pack []
    by (Accepted n) f = absurd (let z : ◌≡◌ {A = ℕ} 0 1 = cc in omega arith)
    by (Err r) f = refl

accepted_so : (m : List ℕ) → Octetwise m → (r : Reading) → ReadPromise m r
    → IsAccepted r.answer ↔ ((s : List Part) × Allowed s × (layout s ≡ m))
accepted_so m o r p = (
  λ w. let t = read_then_laid m o w.0 (sym (read_verdict m r p) ∙ w.1) in (record_of m, t.1, t.2),
  λ w. (length m, read_verdict m r p ∙ rw w.2 at (laid_then_read w.0 w.1).0),
)

-- a struct that was written: nothing refuses it, and the room suffices
wrote : (q : Record) (room : List ℕ) (n : ℕ) → writing_of q (length room) ≡ Accepted n → (struct_writing q ≡ Accepted n) × (n ≤ length room)
unfolding writing_of
wrote q room n e =
    let t = then_passed (struct_writing q) _ n e in
    let u = passed (ltb (length room) t.0) _ 0 n (Accepted t.0) t.2 in
    let same : t.0 ≡ n = cc in
    (rw same at t.1, rw same at (ltb-false (length room) t.0 u.0))

written_so : (q : Record) → FitsStruct q → (room : List ℕ) (w : Answer) (now : List ℕ) → WritePromise q room w now
    → IsAccepted w ↔ ((is_whole q ≡ true) × Writable (view q) × (length (layout (view q)) ≤ length room))
written_so q f room w now p = (
  λ a.
      let t = wrote q room a.0 (sym p.0 ∙ a.1) in
      let b = struct_written q f a.0 t.0 in
      (b.whole, b.writable, rw b.length-given at t.1),
  λ a.
      let n = length (layout (view q)) in
      (n, p.0 ∙ with_room q n (struct_writes q a.0 a.1) (length room) a.2),
)

message_so : (q : Record) → FitsStruct q → (room : List ℕ) (n : ℕ) (now : List ℕ) → WritePromise q room (Accepted n) now
    → (n ≡ length (layout (view q))) × (now ≡ layout (view q) ++ drop n room)
message_so q f room n now p =
    let t = wrote q room n (sym p.0) in
    ((struct_written q f n t.0).length-given, p.1 ∙ room_after_lem q n t.0 room t.1)

reads_so : (q : Record) → FitsStruct q → (room : List ℕ) (n : ℕ) (now : List ℕ) → WritePromise q room (Accepted n) now
    → (r : Reading) → ReadPromise (take n now) r → r ≡ record { answer = Accepted n; «record» = pack (view q) }
reads_so q f room n now p r s =
    let t = wrote q room n (sym p.0) in
    let b = message_so q f room n now p in
    let front : take n now ≡ layout (view q) = rw (b.1, b.0) (take-append_seam (layout (view q)) _) in
    s ∙ rw front (written_then_read q f n t.0)

listed_so : (s : List Part) → Allowed s → (table : List Row) → 1 + length s + length (items_in s) ≤ length table
    → (r : Answer) (now : List Row) → SpansPromise (layout s) table r now
    → (r ≡ Accepted (1 + length s + length (items_in s))) × (now ≡ part_rows 0 s ++ drop (1 + length s + length (items_in s)) table)
unfolding spans_by table_of
listed_so s a table l r now p =
    let rows = rows_of_record s a in
    let count : length (rows_of (layout s)) ≡ 1 + length s + length (items_in s) = rw rows (rows_counted s 0) in
    let given : spans_of (layout s) (length table) ≡ Accepted (1 + length s + length (items_in s)) =
    rw ((laid_then_read s a).0, count, le-ltb (length table) (1 + length s + length (items_in s)) l) in
    (p.0 ∙ given, p.1 ∙ rw (given, rows))

-- a finding is accepted exactly if something is found, and else hands out nothing
found_so : (m : List ℕ) (n : ℕ) → verdict_of m ≡ Accepted n → (f : Found) (r : Answer) → r ≡ find_answer m f
    → IsAccepted r ↔ (is_found f ≡ true)
found_so m n e (At b c) r p = (λ w. refl, λ w. (b, rw e at p))
found_so m n e Nowhere r p = (
  λ w. let q : r ≡ Refused absent 0 = rw e at p in let s = w.1 in absurd (let z : ◌≡◌ {A = ℕ} 0 1 = cc in omega arith),
  λ w. absurd (let z : ◌≡◌ {A = ℕ} 0 1 = cc in omega arith),
)

empty_so : (m : List ℕ) (f : Found) (k p : ℕ) → Refused k p ≡ find_answer m f → find_part m f ≡ []
empty_so m f k p q = go (verdict_of m) refl f q
  where
    go : (a : Answer) → verdict_of m ≡ a → (f : Found) → Refused k p ≡ find_answer m f → find_part m f ≡ []
    go (Accepted n) e (At b c) q = absurd (let s = rw e at q in let z : ◌≡◌ {A = ℕ} 0 1 = cc in omega arith)
    go (Accepted n) e Nowhere q = rw e
    go (Err r) e f q = rw e

common_so : (s : List Part) → Allowed s → (h : ℕ) → (h ≡ end_mark → ⊥) → (r : Answer) → FindCommonAnswerPromise (layout s) h r
    → IsAccepted r ↔ (among h (headers_of s) ≡ true)
common_so s a h n r p =
    let l = laid_then_read s a in
    let t = common_is h s a (ne_eqb end_mark h (λ e. n (sym e))) in
    let w = found_so (layout s) (length (layout s)) l.0 (common_found h (layout s)) r p in
    (λ x. sym t ∙ w.0 x, λ x. w.1 (t ∙ x))

transfer_so : (s : List Part) → Allowed s → (x which : ℕ) (r : Answer) → FindTransferAnswerPromise (layout s) x which r
    → IsAccepted r ↔ (which < times_in x (names_of (items_in s)))
transfer_so s a x which r p =
    let times = times_in x (names_of (items_in s)) in
    let t = name_is x which s a in
    let w = found_so (layout s) (length (layout s)) (laid_then_read s a).0 (transfer_found x which (layout s)) r p in
    (λ q. ltb-true which times (sym t ∙ w.0 q), λ q. w.1 (t ∙ lt-ltb which times q))

-- charging information is given exactly if F7 is found
given_so : (a : Answer) (part : List ℕ) (r : ChargingAnswer) → r ≡ charging_by a part → IsGiven r ↔ IsAccepted a
given_so (Accepted n) part r p = (λ w. (n, refl), λ w. (charges_of part, p))
given_so (Err g) part r p = (
  λ w. let s = w.1 in absurd (let z : ◌≡◌ {A = ℕ} 0 1 = cc in omega arith),
  λ w. let s = w.1 in absurd (let z : ◌≡◌ {A = ℕ} 0 1 = cc in omega arith),
)

charging_so : (s : List Part) → Allowed s → (r : ChargingAnswer) → ChargingPromise (layout s) r
    → IsGiven r ↔ (0 < times_in (name_of charging_information) (names_of (items_in s)))
unfolding charging_of
charging_so s a r p =
    let m = layout s in
    let g = given_so (find_answer m (charging_found m)) (find_part m (charging_found m)) r p in
    let t = transfer_so s a (name_of charging_information) 0 (find_answer m (charging_found m)) refl in
    (λ w. t.0 (g.0 w), λ w. g.1 (t.1 w))

charged_first : (s : List Part) → Allowed s → (front : List Item) (one : Item) (back : List Item) → items_in s ≡ front ++ (one ∷ back)
    → one.header ≡ charging_information → times_in (name_of charging_information) (names_of front) ≡ 0
    → (r : ChargingAnswer) → ChargingPromise (layout s) r → r ≡ Is (charges_of one.values)
unfolding charging_of form_of
charged_first s a front one back w h b r p =
    let m = layout s in
    let x = name_of charging_information in
    let there : 0 < times_in x (names_of (items_in s)) =
    rw (w, names_append front (one ∷ back), times_append, h) (omega (arith, times_here x (names_of back))) in
    let found = ((transfer_so s a x 0 (find_answer m (charging_found m)) refl).1 there).1 in
    let part = transfer_contents s a x 0 front one back w (ap name_of h) b in
    let values = (as_they_are Charging one (rw h)).contents in
    p ∙ rw (found, part, values)

order_listed_so : (s : List Part) → Allowed s → (front : List Item) (one : Item) (back : List Item) → items_in s ≡ front ++ (one ∷ back)
    → one.header ≡ connection_order → times_in (name_of connection_order) (names_of front) ≡ 0
    → (o : OpenedOrder) → order_right o ≡ true → lay_order o ≡ one.values
    → (start : ℕ) → FindTransferAnswerPromise (layout s) (name_of connection_order) 0 (Accepted start)
    → (table : List Row) → 1 + length o.parameters ≤ length table → (r : Answer) (now : List Row) → OrderPromise (layout s) table r now
    → (r ≡ Accepted (1 + length o.parameters)) × (now ≡ told_rows start o ++ drop (1 + length o.parameters) table)
unfolding order_rows_of order_answer order_table
order_listed_so s a front one back w h b o right e start at table l r now p =
    let m = layout s in
    let f = order_found m in
    let n = 1 + length o.parameters in
    let i = item_allowed s a front one back w in
    let part : find_part m f ≡ lay_order o =
    transfer_contents s a (name_of connection_order) 0 front one back w (ap name_of h) b ∙ (item_ordered one i h).0 ∙ sym e in
    let rows : order_rows_of m ≡ told_rows start o = ap (λ t. order_listing (start_of f) t) part ∙ order_listed_lem o right (start_of f)
    ∙ ap (λ k. told_rows k o) (starts_so m f start at) in
    let count : length (order_rows_of m) ≡ n = rw rows (order_counted start o) in
    let given : order_answer m (length table) ≡ Accepted n = rw (sym at, count, le-ltb (length table) n l) in
    (p.0 ∙ given, p.1 ∙ rw (given, rows))

order_there_so : (s : List Part) → Allowed s → (room : ℕ) (r : Answer) → OrderCheckPromise (layout s) room r
    → (r ≡ Refused absent 0) ↔ (times_in (name_of connection_order) (names_of (items_in s)) ≡ 0)
unfolding order_answer
order_there_so s a room r p =
    let n = length (order_rows_of (layout s)) in
    let t = told_there s a (name_of connection_order) 0 (ltb room n) n r p in
    (λ w. omega (arith, t.0 w), λ w. t.1 (omega arith))

order_rows_so : (m : List ℕ) → Octetwise m → (table : List Row) (n : ℕ) (now : List Row) → OrderPromise m table (Accepted n) now
    → (part : List ℕ) → FindTransferPromise m (name_of connection_order) 0 part
    → (start : ℕ) → FindTransferAnswerPromise m (name_of connection_order) 0 (Accepted start)
    → (stretches_of m (take n now) ≡ part) × Following start (take n now) × (sum_of octets_told (take n now) ≡ length part)
    × (get_or (take n now) 0 no_row ≡ form_row start (get_or part 0 0))
unfolding order_table
order_rows_so m o table n now p part q start at =
    let d = rows_add_up m o (length table) n (sym p.0) in
    let held : now ≡ order_rows_of m ++ drop n table = p.1 ∙ rw (sym p.0) in
    let rows : take n now ≡ order_rows_of m = rw held (take_at (order_rows_of m) (drop n table) n (sym d.count)) in
    rw (rows, q, ← starts_so m (order_found m) start at) (d.stretches, d.follow, d.sum, d.first)

allowed_so : (s : List Part) → Writable s → (room : List ℕ) → length (layout s) ≤ length room
    → (w : Answer) (now : List ℕ) → WritePromise (pack s) room w now
    → (w ≡ Accepted (length (layout s))) × (now ≡ layout s ++ drop (length (layout s)) room)
allowed_so s a room l w now p =
    let n = length (layout s) in
    let e = packed_writes s a in
    let v : view (pack s) ≡ s = view_pack s (writable_allowed s a).held in
    (p.0 ∙ with_room (pack s) n e (length room) l, p.1 ∙ rw v at (room_after_lem (pack s) n e room l))

pub demand_2 : Demand2
unfolding reading_of
demand_2 =
    record {
      accepted = accepted_so;
      that_record = λ s a r p. let l = laid_then_read s a in p ∙ rw (l.0, l.1);
      stands_for = λ s a. (whole_pack s a.held (allowed_within s a), view_pack s a.held);
      one_record = same_record;
      none = none_read;
      written_back = λ m o r p w room l a now q.
          let b = read_then_written m o w.0 (sym (read_verdict m r p) ∙ w.1) in
          let same : r.«record» ≡ (reading_of m).«record» = ap (λ (x : Reading). x.«record») p in
          (q.0 ∙ rw same (b.answer (length room) l), q.1 ∙ rw same (b.written room l));
      written = written_so;
      written_allowed = allowed_so;
      message = message_so;
      reads_back = reads_so;
      listed = listed_so;
      found_common = λ s a ahead q behind w part p. p ∙ common_contents s a ahead q behind w;
      found_transfer = λ s a front one back w which b part p.
          p ∙ transfer_contents s a (name_of one.header) which front one back w refl b;
      common_there = common_so;
      transfer_there = transfer_so;
      common_empty = λ m h k p a part q. q ∙ empty_so m (common_found h m) k p a;
      transfer_empty = λ m x which k p a part q. q ∙ empty_so m (transfer_found x which m) k p a;
      sequenced = λ s a ahead q behind w h part p.
          let e = sequence_said s a ahead q behind w h in
          let there = ap (λ (x : ℕ). find_part (layout s) (common_found x (layout s))) (sym h) in
          (e.number, e.mark, p ∙ there ∙ common_contents s a ahead q behind w ∙ e.contents);
      charged = λ s a front one back w h b r p.
          let i = item_allowed s a front one back w in
          let d = item_charged one i h in
          (charged_first s a front one back w h b r p, d.0, d.1);
      charged_so = λ s a front one back w h b x l c k e r p.
          charged_first s a front one back w h b r p ∙ ap (λ t. Is (charges_of t)) e ∙ ap Is (said_again x l c k).1;
      charging_there = charging_so;
      order_contents = λ t. rw (order_asked t) (says t).sound;
      order_only = λ o q r t e. sym ((says (lay_order q)).only o r e) ∙ (says (lay_order q)).only q t refl;
      ordered = λ s a front one back w h.
          let i = item_allowed s a front one back w in
          (says one.values).sound.0 (item_ordered one i h).1;
      order_listed_lem = order_listed_so;
      order_there = order_there_so;
      order_rows = order_rows_so;
      carriers_contents = λ t. rw (carriers_asked t) (says_carriers t).sound;
      carriers_only = λ c d r t e.
          sym ((says_carriers (lay_carriers d)).only c r e) ∙ (says_carriers (lay_carriers d)).only d t refl;
      carried = λ s a front one back w h.
          let i = item_allowed s a front one back w in
          (says_carriers one.values).sound.0 (item_carried one i h).1;
      carriers_listed = carriers_listed_so;
      carriers_there = carriers_there_so;
      carriers_few = carriers_few_so;
      code_told = code_told_so;
      code_none = code_none_so;
      profile_accepted = profile_accepted_so;
      profile_record = profile_record_so;
      profile_passed = profile_passed_so;
      profile_outside = profile_outside_so;
      profile_none = profile_none_so;
      profile_network = profile_network_so;
      profile_pairs = profile_pairs_so;
      profile_classes = profile_classes_so;
      profile_unclassed = profile_unclassed_so;
      profile_written_back = profile_back_so;
      profile_written_lem = profile_written_so;
      profile_written_allowed = profile_allowed_so;
      profile_message = profile_message_so;
      profile_reads_back = profile_reads_so;
      profile_write_passed = profile_write_passed_so;
      profile_write_outside = profile_write_outside_so;
      classes_told = classes_told_so;
      classes_there = classes_there_so;
    }

edited_so : (s : List Part) → Allowed s → (e : Edit) → OfOctets e → (d : List ℕ) → Octetwise d → (n : ℕ) → take n d ≡ layout s
    → (k : ℕ) (now : List ℕ) → EditPromise e d n (Accepted k) now
    → Writable (edited e s) × (k ≡ length (layout (edited e s))) × (take k now ≡ layout (edited e s))
edited_so s a e w d o n h k now p =
    let accepted = sym p.0 in
    let same : edited_in e d n ≡ edited e s = ap (edited e) (ap record_of h ∙ (laid_then_read s a).1) in
    let t = edited_allowed e d n k o w accepted in
    let message : take k now ≡ layout (edited_in e d n) = rw p.1 (buffer_edited e d n k o w accepted).message in
    (rw same at (allowed_writable (edited_in e d n) t.0), rw same at t.1, rw same at message)

pub demand_3 : Demand3
demand_3 =
    record {
      edited_octets = edited_so;
      as_written = λ s a e w d o n h k now p room l b out q.
          let t = edited_so s a e w d o n h k now p in
          let r = edited e s in
          let long = t.1 in
          let u = allowed_so r t.0 room (omega (arith, long)) b out q in
          let front : take k out ≡ layout r = rw (u.1, long) (take-append_seam (layout r) _) in
          (u.0 ∙ rw long, front ∙ sym t.2);
      in_its_place = λ e w d o n k now p. rw p.1 (in_place e d n k o w (sym p.0));
      unless_a_reason = λ e d n r now p. (
        λ a. (edit_taken e d n a.0 (sym p.0 ∙ a.1)).0,
        λ w. (length (layout (edited_in e d n)), p.0 ∙ edit_accepts e d n w),
      );
    }
