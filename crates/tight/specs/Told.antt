-- Every refusal has a number: by no definition is anything refused with 0, which stands for accepted.
use Prim.Native.Nat.{ℕ, zero, suc, ◌+◌, ◌-◌, ◌%◌, ◌<◌}
use Rattle.std.proofs.Common.{arith, Err}
use Rattle.std.specs.Prelude.{Bool, true, false, cond, not, ◌&&◌, ◌||◌, eqb, leb, ltb, length, get_or, take, drop}
use mathlib.Core.List.{List, [], ◌∷◌}
use Rattle.annex.specs.Answers.{
  over_the_limits,
  unlisted,
  repeated,
  cut_short,
  not_allowed,
  missing,
  left_over,
  unused_name,
  other_pli,
  repeated_name,
  cut_contents,
  bad_form,
  transfer_over,
  no_room,
  absent,
  outside_profile,
  refuse,
  sound_then,
  header_at,
  reading_at,
  and_then,
  shifted,
  formed_then,
  fault_then,
  Answer,
  Accepted,
  Refused,
  ChargingAnswer,
  Is,
  ClassAnswer,
  Fault,
  Sound,
  Bad,
  Found,
  At,
  Nowhere,
}
use Rattle.annex.specs.Units.{name_of, whole_count, after_of, lead_of, extent_of, common_extent_of, contents_in}
use Rattle.annex.specs.Heads.{
  among,
  clear,
  listed_headers,
  common_headers,
  end_mark,
  transfer_data,
  added_calling_number,
  withheld,
  most_octets,
  most_transfer_octets,
  name_used,
  pli_right,
  often_of,
  zeroes_of,
  form_of,
}
use Rattle.annex.specs.Digits.{halves, is_code, is_digit, halves_fault, digits_fault, count_of, odd_of, number_fault_in, number_fault}
use Rattle.annex.specs.Rates.{is_kind, is_right, drawn_for, kind_in, field_octets, drawn_fault, check_right}
use Rattle.annex.specs.Orders.{
  order_forms,
  layout_of,
  may_stand,
  order_after,
  order_size,
  is_figure,
  is_are_character,
  outside_fault,
  repeat_right,
  forward_fault,
  control_fault,
  logic_fault,
  layout_fault,
  ordered,
  own_fault,
  parameter_fault,
  parameters_fault,
  order_fault,
}
use Rattle.annex.specs.Carriers.{
  holds_code,
  inside_of,
  entries_fault,
  code_fault,
  dependent_fault,
  dependents_in,
  carrier_fault,
  carriers_in,
  carriers_formed,
  carriers_fault,
}
use Rattle.annex.specs.Contents.{
  presentation_of,
  calling_fault,
  generic_fault,
  dialled_fault,
  two_fault,
  charging_fault,
  check_fault,
  fault_by,
  fault_of,
}
use Rattle.annex.specs.Items.{Item, Part, held_as}
use Rattle.annex.specs.Layout.{layout_item, layout_items, layout_part, layout}
use Rattle.annex.specs.Allowed.{
  every,
  length_right,
  marks_right,
  fields_right,
  number_right,
  fault_as,
  fault_in,
  value_right,
  value_fits,
  headers_of,
  items_in,
  names_of,
  times_in,
}
use Rattle.annex.specs.Walk.{Seen, unseen, times_seen, counted, Par, Step, walk, judging, by_step}
use Rattle.annex.specs.Reading.{
  octet_allowed,
  common_form,
  end_of,
  whole_in,
  common_close,
  transfer_by,
  transfer_step,
  transfers_verdict,
  transfers_verdict_by,
  data_of,
  data_by,
  common_by,
  common_step,
  message_verdict,
  message_verdict_by,
  verdict_of,
  verdict_by,
  record_of,
}
use Rattle.annex.specs.Records.{pack, is_whole, view}
use Rattle.annex.specs.Writing.{
  head_writing,
  item_writing,
  items_writing,
  data_writing,
  part_writing,
  parts_writing,
  over_limits,
  record_writing,
  struct_writing,
  writing_of,
}
use Rattle.annex.specs.Image.{Front, image_of, parts_front, no_image, is_within, imaged_by, imaged_of}
use Rattle.annex.specs.Image.Front.{Taken, Short}
use Rattle.annex.specs.Finding.{found_answer, find_answer, find_part}
use Rattle.annex.specs.Packed.{image_reading, image_writing, profile_image_reading, profile_image_writing}
use Rattle.annex.specs.Opened.{order_found, order_rows_of, order_answer}
use Rattle.annex.specs.Transit.{is_code_entry, digits_in, carriers_found, carrier_rows_of, carriers_answer, entry_found, digits_answer}
use Rattle.annex.specs.Spans.{rows_of, spans_of, spans_by}
use Rattle.annex.specs.Editing.{Edit, new_header, new_after, new_head, new_contents, edit_refusal, edited, record_editing, editing_of}
use Rattle.annex.specs.Editing.Edit.{Replacing, Appending, Removing}
use Rattle.annex.specs.Classes.{ClassList, class_lists, class_by, class_in, class_of}
use Rattle.annex.specs.Charging.{charging_found, charging_octets, charging_by, charging_of, octet_charging_by, octet_charging}
use Rattle.annex.specs.Profile.{
  pair_octets,
  added_class,
  some,
  is_headed,
  is_in_profile,
  profiled,
  profile_verdict,
  profile_refusal,
  profile_writing,
  classes_of,
  classes_answer,
}
use Rattle.annex.specs.declared.Alphabet.{Alphabet}
use Rattle.annex.specs.declared.Alphabet.TheVariants.{Dialled, Numbered, Decimal}
use Rattle.annex.specs.declared.Check.{Check}
use Rattle.annex.specs.declared.Check.TheVariants.{Nothing, Long, Two, Charging, Order, Carriers}
use Rattle.annex.specs.declared.Class.{Class}
use Rattle.annex.specs.declared.Drawn.{Drawn}
use Rattle.annex.specs.declared.Form.{Form}
use Rattle.annex.specs.declared.Form.TheVariants.{Checked, Digits, Number, Calling, Generic}
use Rattle.annex.specs.declared.Holding.{Holding}
use Rattle.annex.specs.declared.Holding.TheVariants.{AsContents, AsDigits, AsNumber, AsGeneric}
use Rattle.annex.specs.declared.OrderLayout.{OrderLayout}
use Rattle.annex.specs.declared.OrderLayout.TheVariants.{
  TrunkKind,
  ReleaseKind,
  RedirectReason,
  SentDigits,
  ForwardNumber,
  AreControl,
  AreLogic,
  Guidance,
  WaitingTime,
}
use Rattle.annex.specs.declared.Record.{Record}

-- ---- answers

abbrev pub HasNumber : Answer → Type 0
HasNumber (Accepted n) = Unit {0}
HasNumber (Err r) = 0 < r.0

abbrev FaultHasNumber : Fault → Type 0
FaultHasNumber Sound = Unit {0}
FaultHasNumber (Err r) = 0 < r.0

abbrev pub ClassHasNumber : ClassAnswer → Type 0
ClassHasNumber (Is c) = Unit {0}
ClassHasNumber (Err r) = 0 < r.0

abbrev pub ChargingHasNumber : ChargingAnswer → Type 0
ChargingHasNumber (Is c) = Unit {0}
ChargingHasNumber (Err r) = 0 < r.0

refused : (b : Bool) (k p : ℕ) (a : Answer) → 0 < k → HasNumber a → HasNumber (refuse b k p a)
refused true k p a h t = h
refused false k p a h t = t

followed : (a : Answer) (f : ℕ → Answer) → HasNumber a → ((n : ℕ) → HasNumber (f n)) → HasNumber (and_then a f)
followed (Accepted n) f t g = g n
followed (Err r) f t g = t

sounded : (place : ℕ → ℕ → ℕ) (f : Fault) (a : Answer) → FaultHasNumber f → HasNumber a → HasNumber (sound_then place f a)
sounded place Sound a h t = t
sounded place (Err r) a h t = h

moved : (s : ℕ) (a : Answer) → HasNumber a → HasNumber (shifted s a)
moved s (Accepted n) t = record {}
moved s (Err r) t = t

either : (b : Bool) (a c : Answer) → HasNumber a → HasNumber c → HasNumber (cond b a c)
either true a c t u = t
either false a c t u = u

-- ---- faults of contents, and of what a record holds

formed : (b : Bool) (f : Fault) → FaultHasNumber f → FaultHasNumber (formed_then b f)
formed true f t = t
formed false f t = omega arith

one_of : (b : Bool) (f g : Fault) → FaultHasNumber f → FaultHasNumber g → FaultHasNumber (cond b f g)
one_of true f g t u = t
one_of false f g t u = u

halves_told : (z : Alphabet) (n i : ℕ) (hs : List ℕ) → FaultHasNumber (halves_fault z n i hs)
unfolding halves_fault
halves_told z n i [] = record {}
halves_told z zero i (h ∷ hs) = one_of (eqb h 0) (halves_fault z zero (i + 1) hs) _ (halves_told z zero (i + 1) hs) (omega arith)
halves_told z (suc n) i (h ∷ hs) = one_of (is_code z h) (halves_fault z n (i + 1) hs) _ (halves_told z n (i + 1) hs) (omega arith)

number_told : (z : Alphabet) (at : ℕ) (s : List ℕ) → FaultHasNumber (number_fault_in z at s)
unfolding number_fault_in digits_fault
number_told z at s =
    formed (not (ltb (length s) 2)) _
    (formed (not (eqb (odd_of s) 1 && eqb (length s) 2)) _
    (halves_told z (count_of s).0 _ (halves (drop 2 s))))

faulted : (f g : Fault) → FaultHasNumber f → FaultHasNumber g → FaultHasNumber (fault_then f g)
faulted Sound g t u = u
faulted (Err r) g t u = t

drawn_told : (at : ℕ) (ds : List Drawn) (xs : List ℕ) → FaultHasNumber (drawn_fault at ds xs)
unfolding drawn_fault
drawn_told at [] xs = record {}
drawn_told at (d ∷ ds) [] = record {}
drawn_told at (d ∷ ds) (x ∷ xs) = one_of (is_right d x) (drawn_fault (at + 1) ds xs) _ (drawn_told (at + 1) ds xs) (omega arith)

-- a connection order: its characters, its layouts, a parameter, and all of them
outside_told : (known : ℕ → Bool) (at : ℕ) (xs : List ℕ) → FaultHasNumber (outside_fault known at xs)
unfolding outside_fault
outside_told known at [] = record {}
outside_told known at (x ∷ xs) = one_of (known x) (outside_fault known (at + 1) xs) _ (outside_told known (at + 1) xs) (omega arith)

layout_told : (k : OrderLayout) (at : ℕ) (own : List ℕ) → FaultHasNumber (layout_fault k at own)
unfolding layout_fault digits_fault forward_fault control_fault logic_fault
layout_told TrunkKind at own = record {}
layout_told ReleaseKind at own = formed (eqb (get_or own 0 0) 1) Sound (record {})
layout_told RedirectReason at own = formed (leb 0x80 (get_or own 0 0)) Sound (record {})
layout_told SentDigits at own = halves_told Dialled (whole_count (get_or own 0 0)).0 _ (halves (drop 1 own))
layout_told ForwardNumber at own =
    formed (eqb (get_or (drop 1 own) 1 0 % 16) 0) _ (number_told Decimal (at + 1) (drop 1 own))
layout_told AreControl at own =
    formed (leb 3 (length (drop 1 own)) && repeat_right (drop 1 own)) _ (outside_told is_are_character (at + 1 + 2) (drop 2 (drop 1 own)))
layout_told AreLogic at own = formed (leb 2 (length (drop 1 own)) && repeat_right (drop 1 own)) Sound (record {})
layout_told Guidance at own = record {}
layout_told WaitingTime at own = outside_told is_figure at own

own_told : (k : OrderLayout) (at : ℕ) (xs : List ℕ) → FaultHasNumber (own_fault k at xs)
unfolding own_fault
own_told k at xs =
    let n = order_after k (get_or xs 0 0) in
    formed (leb n (length xs)) _ (layout_told k at (take n xs))

ordered_told : (b : Bool) → FaultHasNumber (ordered b)
ordered_told true = record {}
ordered_told false = omega arith

parameters_told : (form : ℕ) (before : List ℕ) (k at : ℕ) (xs : List ℕ) → FaultHasNumber (parameters_fault form before k at xs)
unfolding parameters_fault parameter_fault
parameters_told form before k at [] = record {}
parameters_told form before (suc k) at (x ∷ xs) = parameters_told form before k (at + 1) xs
parameters_told form before zero at (x ∷ xs) =
    faulted (parameter_fault form before (at + 1) x xs) _
    (faulted (ordered (may_stand form x && not (among x before))) _ (ordered_told (may_stand form x && not (among x before)))
    (own_told (layout_of x) (at + 1) xs))
    (parameters_told form (x ∷ before) (order_size x xs) (at + 1) xs)

order_fault_told : (s : List ℕ) → FaultHasNumber (order_fault s)
unfolding order_fault
order_fault_told [] = omega arith
order_fault_told (form ∷ xs) =
    faulted (ordered (among form order_forms)) _ (ordered_told (among form order_forms)) (parameters_told form [] 0 1 xs)

-- carriers: the digits of entries, at either level
entries_told : (fault : Par → Fault) → ((q : Par) → FaultHasNumber (fault q)) → (qs : List Par) → FaultHasNumber (entries_fault fault qs)
unfolding entries_fault
entries_told fault each [] = record {}
entries_told fault each (q ∷ qs) = faulted (fault q) _ (each q) (entries_told fault each qs)

dependent_told : (q : Par) → FaultHasNumber (dependent_fault q)
unfolding code_fault digits_fault
dependent_told q = one_of (holds_code q.head) _ Sound (halves_told Decimal _ _ (halves (drop 1 (inside_of q)))) (record {})

carriers_fault_told : (s : List ℕ) → FaultHasNumber (carriers_fault s)
unfolding carriers_fault
carriers_fault_told s =
    formed (carriers_formed s) _
    (entries_told carrier_fault (λ q. entries_told dependent_fault dependent_told (dependents_in q)) (carriers_in s))

check_told : (c : Check) (s : List ℕ) → FaultHasNumber (check_fault c s)
unfolding two_fault charging_fault
check_told Nothing s = record {}
check_told (Long n) s = formed (eqb (length s) n) Sound (record {})
check_told (Two mask) s = formed (eqb (length s) 2 && clear mask (get_or s 1 0)) Sound (record {})
check_told Charging s =
    formed (is_kind (kind_in s) && eqb (length s) (2 + length (drawn_for (kind_in s)))) _
    (faulted (drawn_fault 2 (drawn_for (kind_in s)) (field_octets s)) _ (drawn_told 2 (drawn_for (kind_in s)) (field_octets s))
    (one_of (check_right (kind_in s) (field_octets s)) Sound _ (record {}) (omega arith)))
check_told Order s = order_fault_told s
check_told Carriers s = carriers_fault_told s

form_told : (f : Form) (s : List ℕ) → FaultHasNumber (fault_by f s)
unfolding dialled_fault digits_fault calling_fault generic_fault
form_told (Checked c) s = check_told c s
form_told (Digits m) s = halves_told Dialled _ _ (halves (drop 1 s))
form_told Number s = number_told Numbered 0 s
form_told Calling s =
    one_of (eqb (presentation_of s) withheld) _ (number_fault 0 s)
    (formed (eqb (length s) 2 && (eqb (get_or s 0 0) 0 && ltb (get_or s 1 0) 16)) Sound (record {})) (number_told Numbered 0 s)
form_told Generic s =
    formed (not (eqb (length s) 0)) _
    (one_of (eqb (get_or s 0 0) added_calling_number) (number_fault 1 (drop 1 s)) Sound (number_told Numbered 1 (drop 1 s)) (record {}))

fault_told : (h : ℕ) (s : List ℕ) → FaultHasNumber (fault_of h s)
unfolding fault_of
fault_told h s = formed (clear (zeroes_of h) (get_or s 0 0)) (fault_by (form_of h) s) (form_told (form_of h) s)

values_told : (b : Bool) (ds : List ℕ) → FaultHasNumber (formed_then b (cond (every is_digit ds) Sound (Bad 13 0)))
values_told b ds = formed b _ (one_of (every is_digit ds) Sound _ (record {}) (omega arith))

held_told : (i : Item) → FaultHasNumber (fault_in i)
unfolding fault_in
held_told i = go (held_as i)
  where
    go : (a : Holding) → FaultHasNumber (fault_as a i)
    go AsContents = fault_told i.header i.values
    go (AsDigits m) = values_told (marks_right m i) i.values
    go (AsNumber w) = values_told (number_right w i) i.values
    go AsGeneric = values_told (fields_right i) (drop 1 i.values)

-- ---- reading

module _ (step : Step) (close : Seen → ℕ → Answer) (each : (seen : Seen) (h : ℕ) (xs : List ℕ) → HasNumber (step seen h xs))
    (last : (seen : Seen) (p : ℕ) → HasNumber (close seen p)) where
  walked : (xs : List ℕ) (seen : Seen) (k p : ℕ) → HasNumber (walk (judging step close) seen k p xs)
  unfolding walk
  walked [] seen k p = last seen p
  walked (x ∷ xs) seen (suc k) p = walked xs seen k (p + 1)
  walked (x ∷ xs) seen zero p = go (step seen x xs) (each seen x xs) (walked xs (counted seen x))
    where
      go : (a : Answer) → HasNumber a → ((k p : ℕ) → HasNumber (walk (judging step close) (counted seen x) k p xs))
          → HasNumber (by_step a (λ k q. Refused k (p + q)) (λ n. walk (judging step close) (counted seen x) n (p + 1) xs))
      go (Accepted n) t rest = rest n (p + 1)
      go (Err r) t rest = t

transfer_told : (seen : Seen) (h : ℕ) (xs : List ℕ) → HasNumber (transfer_step seen h xs)
unfolding transfer_by
transfer_told seen h xs =
    let n = after_of (extent_of h) (get_or xs 0 0) in
    let f = fault_of h (contents_in (extent_of h) (take n xs)) in
    refused (not (name_used h)) unused_name 0 _ (omega arith)
    (refused (not (pli_right h)) other_pli 0 _ (omega arith)
    (refused (leb (often_of (name_of h)) (times_seen seen h)) repeated_name 0 _ (omega arith)
    (refused (ltb (length xs) n) cut_contents 0 _ (omega arith)
    (sounded (reading_at (1 + lead_of (extent_of h))) f (Accepted n) (fault_told h (contents_in (extent_of h) (take n xs))) (record {})))))

data_told : (n : ℕ) (xs : List ℕ) → HasNumber (data_of n xs)
unfolding data_by transfers_verdict_by
data_told n xs =
    let t = contents_in (common_extent_of transfer_data) (take n xs) in
    followed (shifted 2 (transfers_verdict t)) (λ _. Accepted n)
    (moved 2 (transfers_verdict t) (walked transfer_step (λ seen p. Accepted p) transfer_told (λ seen p. record {}) t unseen 0 0))
    (λ _. record {})

form_kept : (times h : ℕ) (xs : List ℕ) → HasNumber (common_form times h xs)
unfolding common_form
form_kept times h xs =
    let n = after_of (common_extent_of h) (get_or xs 0 0) in
    refused (not (among h listed_headers)) unlisted 0 _ (omega arith)
    (refused (ltb 0 times) repeated 0 _ (omega arith)
    (refused (ltb (length xs) n) cut_short 0 _ (omega arith)
    (refused (not (octet_allowed h (get_or xs 0 0))) not_allowed 0 (Accepted n) (omega arith) (record {}))))

end_told : (whole : Bool) (xs : List ℕ) → HasNumber (end_of whole xs)
unfolding end_of
end_told whole xs =
    refused (not whole) missing 0 _ (omega arith) (refused (ltb 0 (length xs)) left_over 1 (Accepted 0) (omega arith) (record {}))

common_told : (seen : Seen) (h : ℕ) (xs : List ℕ) → HasNumber (common_step seen h xs)
unfolding common_by
common_told seen h xs =
    followed (common_form (times_seen seen h) h xs) _ (form_kept (times_seen seen h) h xs)
    (λ n. either (eqb h end_mark) (end_of (whole_in seen) xs) _ (end_told (whole_in seen) xs)
    (either (eqb h transfer_data) (data_of n xs) (Accepted n) (data_told n xs) (record {})))

close_told : (seen : Seen) (p : ℕ) → HasNumber (common_close seen p)
close_told seen p = refused (not (ltb 0 (times_seen seen end_mark))) cut_short p (Accepted p) (omega arith) (record {})

pub verdict_told : (m : List ℕ) → HasNumber (verdict_of m)
unfolding verdict_by message_verdict_by
verdict_told m =
    refused (eqb (length m) 0 || ltb most_octets (length m)) over_the_limits 0 (message_verdict m) (omega arith)
    (walked common_step common_close common_told close_told m unseen 0 0)

-- ---- finding and rows

found_told : (f : Found) → HasNumber (found_answer f)
found_told (At s e) = record {}
found_told Nowhere = omega arith

pub find_told : (m : List ℕ) (f : Found) → HasNumber (find_answer m f)
find_told m f = followed (verdict_of m) (λ _. found_answer f) (verdict_told m) (λ _. found_told f)

pub spans_told : (m : List ℕ) (room : ℕ) → HasNumber (spans_of m room)
unfolding spans_by
spans_told m room =
    followed (verdict_of m) _ (verdict_told m)
    (λ _. refused (ltb room (length (rows_of m))) no_room 0 (Accepted (length (rows_of m))) (omega arith) (record {}))

-- ---- writing

head_told : (p h : ℕ) (a : Answer) → HasNumber a → HasNumber (head_writing p h a)
head_told p h a t =
    refused (not (name_used h)) unused_name p _ (omega arith) (refused (not (pli_right h)) other_pli p a (omega arith) t)

item_told : (times p : ℕ) (i : Item) → HasNumber (item_writing times p i)
unfolding item_writing
item_told times p i =
    head_told p i.header _
    (refused (leb (often_of (name_of i.header)) times) repeated_name p _ (omega arith)
    (refused (not (length_right i)) cut_contents p _ (omega arith)
    (sounded (header_at p) (fault_in i) (Accepted (p + length (layout_item i))) (held_told i) (record {}))))

items_told : (is : List Item) (seen : Seen) (p : ℕ) → HasNumber (items_writing seen p is)
unfolding items_writing
items_told [] seen p = record {}
items_told (i ∷ is) seen p =
    followed (item_writing (times_seen seen i.header) p i) (λ q. items_writing (counted seen i.header) q is)
    (item_told (times_seen seen i.header) p i) (λ q. items_told is (counted seen i.header) q)

part_told : (times p : ℕ) (q : Part) → HasNumber (part_writing times p q)
unfolding part_writing data_writing
part_told times p q =
    refused (not (among q.header common_headers)) unlisted p _ (omega arith)
    (refused (ltb 0 times) repeated p _ (omega arith)
    (refused (not (value_right q)) not_allowed p _ (omega arith)
    (refused (not (value_fits q)) bad_form p _ (omega arith)
    (either (eqb q.header transfer_data) (data_writing p q.items) (Accepted (p + length (layout_part q)))
    (followed (items_writing unseen (p + 2) q.items) _ (items_told q.items unseen (p + 2))
    (λ e. refused (ltb most_transfer_octets (e - (p + 2))) transfer_over p (Accepted e) (omega arith) (record {})))
    (record {})))))

parts_told : (r : List Part) (seen : Seen) (p : ℕ) → HasNumber (parts_writing seen p r)
unfolding parts_writing
parts_told [] seen p = refused (not (whole_in seen)) missing p (Accepted (p + 1)) (omega arith) (record {})
parts_told (q ∷ qs) seen p =
    followed (part_writing (times_seen seen q.header) p q) (λ k. parts_writing (counted seen q.header) k qs)
    (part_told (times_seen seen q.header) p q) (λ k. parts_told qs (counted seen q.header) k)

pub struct_told : (s : Record) → HasNumber (struct_writing s)
unfolding struct_writing record_writing
struct_told s =
    refused (not (is_whole s)) over_the_limits 0 _ (omega arith)
    (refused (over_limits (view s)) over_the_limits 0 _ (omega arith) (parts_told (view s) unseen 0))

pub writing_told : (s : Record) (room : ℕ) → HasNumber (writing_of s room)
unfolding writing_of
writing_told s room =
    followed (struct_writing s) _ (struct_told s) (λ n. refused (ltb room n) no_room 0 (Accepted n) (omega arith) (record {}))

-- ---- editing

new_told : (new : List ℕ) (b : Bool) (k : ℕ) → 0 < k → HasNumber (new_head new (refuse b k 0 (new_contents new)))
new_told new b k h =
    let x = new_header new in
    let xs = new_after new in
    refused (eqb (length new) 0) cut_contents 0 _ (omega arith)
    (head_told 0 x _
    (refused b k 0 _ h
    (refused (not (eqb (length xs) (after_of (extent_of x) (get_or xs 0 0)))) cut_contents 0 _ (omega arith)
    (sounded (header_at 0) (fault_of x (contents_in (extent_of x) xs)) (Accepted 0) (fault_told x (contents_in (extent_of x) xs)) (record {})))))

edit_told : (e : Edit) (is : List Item) → HasNumber (edit_refusal e is)
unfolding edit_refusal
edit_told (Replacing new which) is = new_told new (leb (times_in (name_of (new_header new)) (names_of is)) which) absent (omega arith)
edit_told (Appending new) is =
    let x = name_of (new_header new) in
    new_told new (leb (often_of x) (times_in x (names_of is))) repeated_name (omega arith)
edit_told (Removing x which) is = refused (leb (times_in x (names_of is)) which) absent 0 (Accepted 0) (omega arith) (record {})

pub editing_told : (e : Edit) (d : List ℕ) (n : ℕ) → HasNumber (editing_of e d n)
unfolding editing_of record_editing
editing_told e d n =
    let r = record_of (take n d) in
    let k = length (layout (edited e r)) in
    refused (ltb (length d) n) no_room 0 _ (omega arith)
    (followed (verdict_of (take n d)) _ (verdict_told (take n d))
    (λ _. refused (not (among transfer_data (headers_of r))) absent 0 _ (omega arith)
    (followed (edit_refusal e (items_in r)) _ (edit_told e (items_in r))
    (λ _. refused (ltb most_transfer_octets (length (layout_items (items_in (edited e r))))) transfer_over 0 _ (omega arith)
    (refused (ltb (length d) k) no_room 0 (Accepted k) (omega arith) (record {}))))))

-- ---- a record's image

pub imaged_told : (image : List ℕ) → HasNumber (imaged_of image).answer
unfolding imaged_of
imaged_told [] = omega arith
imaged_told (n ∷ s) = go (parts_front n s)
  where
    told : (b : Bool) (r : List Part) → HasNumber (cond b (record { answer = Accepted (length r); held = pack r }) no_image).answer
    told true r = record {}
    told false r = omega arith

    go : (f : Front Part) → HasNumber (imaged_by (length s) f).answer
    go (Taken r k) = told (eqb k (length s) && is_within r) r
    go Short = omega arith

-- a message read to its record's image, and written from one
pub read_image_told : (m : List ℕ) (room : ℕ) → HasNumber (image_reading m room)
unfolding image_reading
read_image_told m room =
    let k = length (image_of (record_of m)) in
    followed (verdict_of m) _ (verdict_told m) (λ _. refused (ltb room k) no_room 0 (Accepted k) (omega arith) (record {}))

pub write_image_told : (image : List ℕ) (room : ℕ) → HasNumber (image_writing image room)
unfolding image_writing
write_image_told image room =
    followed (imaged_of image).answer _ (imaged_told image) (λ _. writing_told (imaged_of image).held room)

-- ---- classes

pub class_told : (h x : ℕ) → ClassHasNumber (class_of h x)
unfolding class_of
class_told h x = among_told class_lists
  where
    one : (b c : Bool) (k : Class) (rest : ClassAnswer) → ClassHasNumber rest
        → ClassHasNumber (cond b (cond c (Is k) (Refused bad_form 0)) rest)
    one true true k rest t = record {}
    one true false k rest t = omega arith
    one false c k rest t = t

    among_told : (ls : List ClassList) → ClassHasNumber (class_in ls h x)
    among_told [] = omega arith
    among_told (l ∷ ls) = one (eqb h l.header) (clear (zeroes_of h) x) (class_by l x) (class_in ls h x) (among_told ls)

-- ---- charging information

pub charging_told : (m : List ℕ) → ChargingHasNumber (charging_of m)
unfolding charging_of
charging_told m = go (find_answer m (charging_found m)) (find_part m (charging_found m)) (find_told m (charging_found m))
  where
    go : (a : Answer) (s : List ℕ) → HasNumber a → ChargingHasNumber (charging_by a s)
    go (Accepted n) s t = record {}
    go (Err r) s t = t

pub octet_charging_told : (m : List ℕ) (room : ℕ) → HasNumber (octet_charging m room)
unfolding octet_charging
octet_charging_told m room = go (charging_of m) (charging_told m)
  where
    go : (a : ChargingAnswer) → ChargingHasNumber a → HasNumber (octet_charging_by a room)
    go (Is c) t = refused (ltb room charging_octets) no_room 0 (Accepted charging_octets) (omega arith) (record {})
    go (Err r) t = t

-- ---- the connection order, for a table of rows or of octets

pub order_told : (m : List ℕ) (room : ℕ) → HasNumber (order_answer m room)
unfolding order_answer
order_told m room =
    followed (find_answer m (order_found m)) _ (find_told m (order_found m))
    (λ _. refused (ltb room (length (order_rows_of m))) no_room 0 (Accepted (length (order_rows_of m))) (omega arith) (record {}))

-- ---- carriers, for a table of octets, and the digits of a code

pub carriers_told : (m : List ℕ) (which room : ℕ) → HasNumber (carriers_answer m which room)
unfolding carriers_answer
carriers_told m which room =
    let n = length (carrier_rows_of which m) in
    followed (find_answer m (carriers_found which m)) _ (find_told m (carriers_found which m))
    (λ _. refused (ltb room n) no_room 0 (Accepted n) (omega arith) (record {}))

pub carrier_digits_told : (m : List ℕ) (which row room : ℕ) → HasNumber (digits_answer m which row room)
unfolding digits_answer
carrier_digits_told m which row room =
    let e = entry_found which row m in
    let n = length (digits_in e) in
    followed (find_answer m (carriers_found which m)) _ (find_told m (carriers_found which m))
    (λ _. refused (not (is_code_entry e)) absent 0 _ (omega arith)
    (refused (ltb room n) no_room 0 (Accepted n) (omega arith) (record {})))

-- ---- the mobile call profile

-- where what comes before has a number, so has what the profile adds
profiled_told : (r : List Part) (a : Answer) → HasNumber a → HasNumber (profiled r a)
profiled_told r a t =
    followed a _ t (λ n. refused (not (is_in_profile r)) outside_profile (n - 1) (Accepted n) (omega arith) (record {}))

pub profile_verdict_told : (m : List ℕ) → HasNumber (profile_verdict m)
unfolding profile_verdict
profile_verdict_told m = profiled_told (record_of m) (verdict_of m) (verdict_told m)

pub profile_writing_told : (s : Record) (room : ℕ) → HasNumber (profile_writing s room)
unfolding profile_writing profile_refusal
profile_writing_told s room =
    followed (profile_refusal s) _ (profiled_told (view s) (struct_writing s) (struct_told s))
    (λ n. refused (ltb room n) no_room 0 (Accepted n) (omega arith) (record {}))

pub profile_image_reading_told : (m : List ℕ) (room : ℕ) → HasNumber (profile_image_reading m room)
unfolding profile_image_reading
profile_image_reading_told m room = followed (profile_verdict m) _ (profile_verdict_told m) (λ _. read_image_told m room)

pub profile_image_writing_told : (image : List ℕ) (room : ℕ) → HasNumber (profile_image_writing image room)
unfolding profile_image_writing
profile_image_writing_told image room =
    followed (imaged_of image).answer _ (imaged_told image) (λ _. profile_writing_told (imaged_of image).held room)

pub classes_told : (m : List ℕ) (room : ℕ) → HasNumber (classes_answer m room)
unfolding classes_answer
classes_told m room =
    let n = length (pair_octets (classes_of (record_of m))) in
    followed (profile_verdict m) _ (profile_verdict_told m)
    (λ _. refused (not (some (is_headed added_class) (items_in (record_of m)))) absent 0 _ (omega arith)
    (refused (ltb room n) no_room 0 (Accepted n) (omega arith) (record {})))
