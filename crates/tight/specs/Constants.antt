-- Wrong programs for each function that serves the product's. A row of the table has two inputs of a function and what its own definition
-- gives at each; `shut_out` says of every row: a program that answers the same at both inputs breaks the promise, and of a function that
-- stores, so does one that says the same at both, and one that stores nothing. For `Common::none`, `Transfer::none`, `AddedClass::none`,
-- `walk::cursor::first`, `entries::cursor::first` and `reader::reading::empty` a constant is right, and they have no row.
use Rattle.std.specs.Prelude.{ℕ, ◌+◌, min, ◌≡◌, refl, Bool, true, false, cond, not, ◌&&◌, List, [], ◌∷◌, ◌++◌, eqb, leb, ltb, length, get_or, take, drop, replicate}
use Rattle.std.proofs.Common.{arith, sym, ap, ◌∙◌, eq-eqb}
use Rattle.std.proofs.lemmas.Bool.{not-true}
use Rattle.annex.specs.Answers.{
  number_of,
  place_of,
  given_of,
  fault_number_of,
  stop_of,
  sound_then,
  header_at,
  placed_at,
  unused_name,
  other_pli,
  formed,
  Answer,
  Accepted,
  Refused,
  Fault,
  Sound,
  Bad,
  Found,
}
use Rattle.annex.specs.Units.{counted_by, whole_count, octets_of, halves_in, after_of, lead_of, common_extent_of, extent_of}
use Rattle.annex.specs.Heads.{value_allowed, among, listed_headers, is_call, name_used, pli_right, often_of, zeroes_of, form_of}
use Rattle.annex.specs.Digits.{
  halves,
  joined,
  digit_of,
  code_of,
  is_code,
  is_digit,
  halves_fault,
  digits_fault,
  digits_of,
  packed,
  halves_for,
  count_behind,
  count_of,
  number_fault_in,
}
use Rattle.annex.specs.Rates.{is_kind, fields_of, numbers_drawn, drawn_fault, check_right, decimal, field_in, charges_of}
use Rattle.annex.specs.Orders.{
  forms_of,
  layout_of,
  order_after,
  layout_fault,
  own_fault,
  parameter_fault,
  parameters_fault,
  order_fault,
  is_figure,
  is_are_character,
  outside_fault,
}
use Rattle.annex.specs.Carriers.{entries_formed, entries_fault, code_formed, code_count, code_fault, carriers_formed, carriers_fault}
use Rattle.annex.specs.Contents.{dialled_fault, charging_fault, fault_under, fault_of}
use Rattle.annex.specs.Items.{Item, value_part, holding_by, holding_of, open_by, item_of, contents_of, own_of}
use Rattle.annex.specs.Layout.{layout_item, layout_part, call_octets}
use Rattle.annex.specs.Allowed.{every, length_right, fault_in, value_fits}
use Rattle.annex.specs.Walk.{walk, pars}
use Rattle.annex.specs.Reading.{
  transfer_of,
  common_form,
  end_of,
  transfer_by,
  common_by,
  message_verdict_by,
  verdict_by,
  commons_by,
  call_number,
}
use Rattle.annex.specs.Finding.{common_in, common_found, find_answer, find_part, found_by}
use Rattle.annex.specs.Records.{
  held_from,
  held_at,
  value_head,
  octet_head,
  data_head,
  carried_head,
  dialled_head,
  number_head,
  no_transfer,
  item_from,
  pad,
  values_of,
  pack,
  raw_part,
  view_items,
  lengths_of,
  transfers_sum,
  view_parts,
  is_whole,
  view,
}
use Rattle.annex.specs.Writing.{head_writing, item_writing, part_writing, end_writing, over_limits, struct_over}
use Rattle.annex.specs.Image.{image_head, head_front, item_size, common_front}
use Rattle.annex.specs.Promises.{Gives, Keeps}
use Rattle.annex.specs.Bench.{K, record_of_k, record_of_m}
use Rattle.annex.specs.Opened.{order_listing}
use Rattle.annex.specs.Entering.{first_entry, entry_stretch, entry_next, is_code_here, cursors_from}
use Rattle.annex.specs.Ordering.{taken_of, order_rows_from, order_row_here, order_next}
use Rattle.annex.specs.Walk.{unseen, times_seen, counted}
use Rattle.annex.specs.Walking.{first_cursor, sought_in, search_in, common_plain, stretch_at, cursor_to, stretch_here, row_here, next_of, transfer_plain, steps_from, rows_left}
use Rattle.annex.specs.Memory.{Request, put, laid_at, spliced, copying, splicing, packing, unpacking, laying, laying_head, values_fit}
use Rattle.annex.specs.Opening.{head_for, values_with, opened_head, opened_values, part_head}
use Rattle.annex.specs.declared.Alphabet.TheVariants.{Dialled, Numbered, Decimal}
use Rattle.annex.specs.declared.Charges.{Charges}
use Rattle.annex.specs.declared.Check.TheVariants.{Nothing}
use Rattle.annex.specs.declared.Common.{Common}
use Rattle.annex.specs.declared.CountingUnit.TheVariants.{HalfOctet, Octet}
use Rattle.annex.specs.declared.Cursor.{Cursor}
use Rattle.annex.specs.declared.Extent.{Extent}
use Rattle.annex.specs.declared.Extent.TheVariants.{Counted}
use Rattle.annex.specs.declared.Form.{Form}
use Rattle.annex.specs.declared.Form.TheVariants.{Checked, Digits, Number, Calling, Generic}
use Rattle.annex.specs.declared.HalfOctets.{HalfOctets}
use Rattle.annex.specs.declared.Holding.{Holding}
use Rattle.annex.specs.declared.Holding.TheVariants.{AsContents, AsDigits, AsNumber, AsGeneric}
use Rattle.annex.specs.declared.Key.TheVariants.{Header, Name}
use Rattle.annex.specs.declared.Octets.{Octets}
use Rattle.annex.specs.declared.OrderLayout.TheVariants.{SentDigits}
use Rattle.annex.specs.declared.Row.{Row}
use Rattle.annex.specs.declared.Transfer.{Transfer}
use Rattle.laws.specs.Bools.{and_left, and_right}
use Rattle.tight.specs.Wrong.{short}

-- ---- the rows, and the programs that each shuts out

-- what a function gives at two inputs, and a number that tells the two apart; or what one that stores promises at two inputs, the first
-- with room for the request, the second with none
pub data AtTwo : Type 1 where
  gives : (A : Type 0) → (A → ℕ) → A → A → AtTwo
  stores : Request → Request → AtTwo

-- one that says the same at both, whatever lent memory then holds; and at the first one that leaves lent memory as it was, whatever it says
pub record NoStorer (a b : Request) : Type 0 where
  pub same_said : (r : Bool) (s t : List ℕ) → Keeps a r s → Keeps b r t → ⊥
  pub nothing_stored : (r : Bool) → Keeps a r a.before → ⊥

-- one that answers the same at both
abbrev pub Shut : AtTwo → Type 0
Shut (gives A number x y) = (c : A) → Gives x c → Gives y c → ⊥
Shut (stores a b) = NoStorer a b

abbrev pub AllShut : List AtTwo → Type 0
AllShut [] = Unit {0}
AllShut (r ∷ rs) = Shut r × AllShut rs

-- ---- the test of a row

abbrev first : List ℕ → ℕ
first l = get_or l 0 0

-- the two numbers differ; or one fits, the other does not, and what is stored changes the first octet
abbrev differ : AtTwo → Bool
differ (gives A number x y) = not (eqb (number x) (number y))
differ (stores a b) = a.fits && (not b.fits && not (eqb (first a.stored) (first a.before)))

abbrev all_differ : List AtTwo → Bool
all_differ [] = true
all_differ (r ∷ rs) = differ r && all_differ rs

apart : {A : Type 0} (number : A → ℕ) (x y : A) → not (eqb (number x) (number y)) ≡ true → x ≡ y → ⊥
apart number x y t e =
    let same = eq-eqb (number x) (number y) (ap number e) in
    let other = not-true (eqb (number x) (number y)) t in
    let z : ◌≡◌ {A = ℕ} 0 1 = cc in
    omega arith

-- a row that passes it shuts its programs out
row_shut : (r : AtTwo) → differ r ≡ true → Shut r
row_shut (gives A number x y) t = λ c p q. apart number x y t (sym p ∙ q)
row_shut (stores a b) t =
    let fit = and_left a.fits _ t in
    let rest = and_right a.fits _ t in
    let other = not-true b.fits (and_left (not b.fits) _ rest) in
    record {
      same_said = λ r s t p q. let e = sym p.0 ∙ q.0 in let z : ◌≡◌ {A = ℕ} 0 1 = cc in omega arith;
      nothing_stored =
          λ r p. apart first a.stored a.before (and_right (not b.fits) _ rest) (let said = p.0 ∙ fit in sym (p.1 ∙ rw said));
    }

all_shut : (rs : List AtTwo) → all_differ rs ≡ true → AllShut rs
all_shut [] t = record {}
all_shut (r ∷ rs) t = (row_shut r (and_left (differ r) _ t), all_shut rs (and_right (differ r) _ t))

-- ---- what tells answers apart

abbrev flag : Bool → ℕ
flag true = 1
flag false = 0

abbrev held_number : Holding → ℕ
held_number AsContents = 0
held_number (AsDigits m) = 1
held_number (AsNumber w) = 2
held_number AsGeneric = 3

abbrev form_number : Form → ℕ
form_number (Checked c) = 0
form_number (Digits m) = 1
form_number Number = 2
form_number Calling = 3
form_number Generic = 4

abbrev counts : ℕ → ℕ → AtTwo
counts = gives ℕ (λ n. n)

abbrev tests : Bool → Bool → AtTwo
tests = gives Bool flag

abbrev answers : Answer → Answer → AtTwo
answers = gives Answer number_of

abbrev faults : Fault → Fault → AtTwo
faults = gives Fault fault_number_of

abbrev finds : Found → Found → AtTwo
finds = gives Found stop_of

abbrev lists : List ℕ → List ℕ → AtTwo
lists = gives (List ℕ) first

abbrev extents : Extent → Extent → AtTwo
extents = gives Extent (λ e. after_of e 0)

abbrev commons : (Common → ℕ) → Common → Common → AtTwo
commons = gives Common

abbrev transfers : (Transfer → ℕ) → Transfer → Transfer → AtTwo
transfers = gives Transfer

-- lent memory before a call
abbrev lent : ℕ → List ℕ
lent n = replicate n 0xEE

-- a transfer parameter that holds one octet
abbrev carried : Item
carried = item_from (carried_head 0x41 1) (1 ∷ [])

-- a message with a connection order of one parameter
abbrev trunk : List ℕ
trunk = K ++ (0xC5 ∷ 0x05 ∷ 0xE0 ∷ 0x03 ∷ 0x23 ∷ 0x41 ∷ 0x05 ∷ 0x00 ∷ [])

-- contents of CC with one carrier entry, which holds an empty dependent entry and a code
abbrev coded : List ℕ
coded = 0x01 ∷ 0xF8 ∷ 0x06 ∷ 0xFC ∷ 0x00 ∷ 0xFE ∷ 0x02 ∷ 0x00 ∷ 0x21 ∷ []

-- and with one that holds a code of one digit, in the octet x
abbrev coded_by : ℕ → List ℕ
coded_by x = 0x01 ∷ 0xF8 ∷ 0x04 ∷ 0xFE ∷ 0x02 ∷ 0x80 ∷ x ∷ []

abbrev laid_carried : ℕ → List ℕ → List ℕ
laid_carried at room = laid_at (item_writing 0 0 carried) (layout_item carried) at room

-- ---- the table

abbrev pub rows : List AtTwo
rows =
    gives HalfOctets (λ n. n.0) (counted_by 0x42) (counted_by 0x43) ∷  -- HalfOctets::counted_by
    gives HalfOctets (λ n. n.0) (halves_in (0x21 ∷ [])) (halves_in []) ∷  -- HalfOctets::of
    gives Octets (λ n. n.0) (octets_of (counted_by 3)) (octets_of (counted_by 5)) ∷  -- HalfOctets::octets
    commons (λ c. c.more_data) (octet_head 0x04 0x01) (octet_head 0x04 0x81) ∷  -- Common::octet
    commons (λ c. c.value) (value_head 0x82 1) (value_head 0x82 2) ∷  -- Common::call_number
    commons (λ c. c.transfers) (data_head 1) (data_head 2) ∷  -- Common::transfer_data
    transfers (λ t. t.len) (carried_head 0xCC 1) (carried_head 0xCC 2) ∷  -- Transfer::carried
    transfers (λ t. t.notification) (dialled_head 0x91 1 0 0 2) (dialled_head 0x91 0 1 0 2) ∷  -- Transfer::dialled
    transfers (λ t. t.plan) (number_head 0xD7 0x83 0x11 1) (number_head 0xD7 0x83 0x21 1) ∷  -- Transfer::number
    extents (extent_of 0x07) (extent_of 0x41) ∷  -- extent_of
    extents (common_extent_of 0x01) (common_extent_of 0x83) ∷  -- common_extent_of
    counts (after_of (Counted HalfOctet) 4) (after_of (Counted Octet) 4) ∷  -- octets_after
    counts (lead_of (Counted HalfOctet)) (lead_of (Counted Octet)) ∷  -- lead
    counts (after_of (extent_of 0x90) 4) (after_of (extent_of 0xCC) 4) ∷  -- after_header, octets
    counts (lead_of (extent_of 0x90)) (lead_of (extent_of 0xCC)) ∷  -- after_header, lead
    answers (head_writing 0 0x90 (Accepted 0)) (head_writing 0 0xD0 (Accepted 0)) ∷  -- head_writing
    counts (cond (name_used 0x81) other_pli unused_name) (cond (name_used 0x08) other_pli unused_name) ∷  -- head_number
    tests (pli_right 0x41) (pli_right 0x81) ∷  -- head_of, right
    counts (zeroes_of 0x41) (zeroes_of 0x42) ∷  -- head_of, zeroes
    gives Form form_number (form_of 0x41) (form_of 0x90) ∷  -- head_of, form
    counts (often_of 0x0C) (often_of 0x0D) ∷  -- often_of
    faults (fault_under 0xFE (Checked Nothing) (1 ∷ [])) (fault_under 0xFE (Checked Nothing) (2 ∷ [])) ∷  -- fault_under
    counts (get_or (halves (0x21 ∷ [])) 0 0) (get_or (halves (0x21 ∷ [])) 1 0) ∷  -- half_at
    counts (digit_of Dialled 10) (digit_of Numbered 10) ∷  -- digit_of
    counts (code_of Dialled 0) (code_of Numbered 0) ∷  -- code_of
    tests (is_code Dialled 10) (is_code Numbered 10) ∷  -- is_code
    faults (digits_fault Numbered (counted_by 1) 0 (0x0A ∷ [])) (digits_fault Dialled (counted_by 1) 0 (0x0A ∷ [])) ∷  -- digits_fault
    gives HalfOctets (λ n. n.0) (count_behind 1 (0x00 ∷ 0x21 ∷ 0x43 ∷ [])) (count_behind 2 (0x00 ∷ 0x21 ∷ 0x43 ∷ [])) ∷  -- count_behind
    gives HalfOctets (λ n. n.0) (count_of (0x00 ∷ 0x00 ∷ 0x21 ∷ [])) (count_of (0x80 ∷ 0x00 ∷ 0x01 ∷ [])) ∷  -- count_of
    faults (number_fault_in Numbered 0 (0x00 ∷ 0x00 ∷ 0xCB ∷ [])) (number_fault_in Decimal 0 (0x00 ∷ 0x00 ∷ 0xCB ∷ [])) ∷  -- number_fault
    tests (is_figure 0x39) (is_figure 0x3A) ∷  -- is_figure
    faults (outside_fault is_are_character 0 (0x3B ∷ [])) (outside_fault is_figure 0 (0x3B ∷ [])) ∷  -- characters_fault
    tests (every is_digit (11 ∷ [])) (every is_digit (12 ∷ [])) ∷  -- are_digits
    gives Octets (λ n. n.0) (octets_of (halves_for (1 ∷ 2 ∷ []))) (octets_of (halves_for (1 ∷ 2 ∷ 3 ∷ []))) ∷  -- packed_len
    counts (min 3 (halves_in (0x21 ∷ [])).0) (min 1 (halves_in (0x21 ∷ [])).0) ∷  -- digits_in
    tests (values_fit 2 1 1) (values_fit 2 2 1) ∷  -- has_room_lem
    stores (packing Dialled (1 ∷ 2 ∷ []) (lent 1)) (packing Dialled (1 ∷ 2 ∷ []) (lent 0)) ∷  -- pack_digits
    stores (unpacking Dialled (0x21 ∷ []) (counted_by 2) (lent 2) 0) (unpacking Dialled (0x21 ∷ []) (counted_by 2) (lent 2) 1)
    ∷  -- unpack_digits
    faults (charging_fault (0x00 ∷ 0x05 ∷ 0x12 ∷ 0x31 ∷ [])) (charging_fault (0x00 ∷ 0x05 ∷ 0x12 ∷ 0x32 ∷ [])) ∷  -- charging_fault
    gives Charges (λ c. c.mbi) (charges_of (0x00 ∷ 0x05 ∷ 0x12 ∷ 0x31 ∷ [])) (charges_of (0x00 ∷ 0x05 ∷ 0x21 ∷ 0x31 ∷ [])) ∷  -- charges
    gives HalfOctets (λ n. n.0) (whole_count 0x42) (whole_count 0x02) ∷  -- HalfOctets::counted_whole
    counts (order_after SentDigits 2) (order_after SentDigits 3) ∷  -- order_after
    counts (order_after (layout_of 0x91) 4) (order_after (layout_of 0xCB) 4) ∷  -- order_size
    faults (order_fault (0x28 ∷ 0x42 ∷ 0x01 ∷ 0x00 ∷ [])) (order_fault (0x29 ∷ 0x42 ∷ 0x01 ∷ 0x00 ∷ [])) ∷  -- order_fault, form
    faults (order_fault (0x37 ∷ 0xCB ∷ 0x00 ∷ [])) (order_fault (0x37 ∷ 0xCB ∷ 0x01 ∷ [])) ∷  -- order_fault, length
    tests (code_formed (0x80 ∷ 0x01 ∷ [])) (code_formed (0x80 ∷ [])) ∷  -- code_formed
    gives HalfOctets (λ n. n.0) (code_count (0x00 ∷ 0x21 ∷ [])) (code_count (0x80 ∷ 0x01 ∷ [])) ∷  -- code_count
    finds (entry_stretch coded (cursor_to 1 1)) (entry_stretch coded (cursor_to 3 9)) ∷  -- inside
    gives Cursor (λ c. c.at) (entry_next coded (cursor_to 1 1)) (entry_next coded (cursor_to 3 9)) ∷  -- entries::cursor::next
    tests (is_code_here coded (cursor_to 5 9)) (is_code_here coded (cursor_to 5 5)) ∷  -- entries::cursor::is_code
    gives (List Cursor) length (cursors_from coded first_entry) (cursors_from [] first_entry) ∷  -- entries::cursor::entries
    faults (carriers_fault coded) (carriers_fault (0x04 ∷ [])) ∷  -- carriers_fault, form
    faults (carriers_fault (coded_by 0x01)) (carriers_fault (coded_by 0x11)) ∷  -- carriers_fault, digits
    faults (formed true) (formed false) ∷  -- Flaw::unless
    answers (sound_then (header_at 0) Sound (Accepted 1)) (sound_then (header_at 0) (Bad 13 2) (Accepted 1)) ∷  -- at_header
    counts (get_or (0x21 ∷ 0x43 ∷ []) 0 0) (get_or (0x21 ∷ 0x43 ∷ []) 1 0) ∷  -- octet_at
    lists (drop 0 (0x21 ∷ [])) (drop 1 (0x21 ∷ [])) ∷  -- octets_from
    lists (take 1 (drop 0 (0x21 ∷ []))) (take 1 (drop 1 (0x21 ∷ []))) ∷  -- stretch_from
    faults (fault_of 0x90 (0x01 ∷ 0x0A ∷ [])) (fault_of 0x90 (0x01 ∷ 0x00 ∷ [])) ∷  -- contents_fault
    answers (transfer_of 0 0x41 (0x01 ∷ [])) (transfer_of 0 0x41 []) ∷  -- transfer
    gives Holding held_number (holding_by Generic 0x06) (holding_by Generic 0x07) ∷  -- holding_by
    gives Holding held_number (holding_of 0xDA 0x06) (holding_of 0xDA 0x07) ∷  -- holding_of
    transfers (λ t. t.len) (head_for (open_by AsContents 0xCC (1 ∷ [])) 0 (lent 2)) (head_for (open_by AsContents 0xCC []) 0 (lent 2))
    ∷  -- open_contents, head
    lists (values_with (open_by AsContents 0xCC (1 ∷ [])) 0 (lent 2)) (values_with (open_by AsContents 0xCC (1 ∷ [])) 2 (lent 2))
    ∷  -- open_contents, values
    transfers (λ t. t.len) (opened_head 0x90 (0x02 ∷ 0x21 ∷ []) 0 (lent 2)) (opened_head 0x90 (0x01 ∷ 0x01 ∷ []) 0 (lent 2)) ∷  -- open, head
    lists (opened_values 0x90 (0x02 ∷ 0x21 ∷ []) 0 (lent 2)) (opened_values 0x90 (0x02 ∷ 0x21 ∷ []) 1 (lent 2)) ∷  -- open, values
    counts (length (contents_of carried)) (length (contents_of (item_from (carried_head 0xCC 0) [])))
    ∷  -- contents_len
    answers (item_writing 0 0 carried) (item_writing 0 0 (item_from (carried_head 0x08 0) [])) ∷  -- refusal; lay, answer
    lists (laid_carried 0 (lent 2)) (laid_carried 1 (lent 2)) ∷  -- lay, room
    stores (laying (carried_head 0x41 1) (1 ∷ []) (lent 2)) (laying (carried_head 0x41 1) (1 ∷ []) (lent 1)) ∷  -- put
    tests (among 0xC5 listed_headers) (among 0x44 listed_headers) ∷  -- listed
    tests (value_allowed 0x04 1) (value_allowed 0x04 2) ∷  -- value_allowed
    answers (common_form 0 0x01 (0x01 ∷ [])) (common_form 1 0x01 (0x01 ∷ [])) ∷  -- common_form
    answers (end_of true []) (end_of false []) ∷  -- end_mark
    tests (is_call 0x83) (is_call 0x04) ∷  -- is_call
    counts (call_number (0x01 ∷ [])) (call_number (0x02 ∷ [])) ∷  -- call_value
    lists (call_octets 0x01) (call_octets 0x02) ∷  -- call_octets
    stores (laying_head (value_head 0x06 0x11) (lent 2) 0) (laying_head (value_head 0x06 0x11) (lent 2) 1) ∷  -- lay_head
    finds (stretch_at K 0 (Counted Octet)) (stretch_at [] 0 (Counted Octet)) ∷  -- stretch_at
    gives Row (λ r. r.offset) (row_here K (cursor_to 0 0)) (row_here K (cursor_to 2 2)) ∷  -- row_here
    counts (times_seen (counted unseen 0x41) 0x41) (times_seen unseen 0x41) ∷  -- Seen::times
    lists (counted unseen 0x40) (counted unseen 0x41) ∷  -- Seen::count
    gives Cursor (λ c. c.at) (next_of K (cursor_to 0 0)) (next_of K (cursor_to 2 2)) ∷  -- next
    gives (List Row) length (rows_left (0x01 ∷ 0x02 ∷ []) first_cursor) (rows_left [] first_cursor) ∷  -- walk::cursor::rows_in
    commons (λ c. c.value) (part_head 0x83 (0x39 ∷ 0x30 ∷ 0x00 ∷ []) 0) (part_head 0x83 (0x30 ∷ 0x39 ∷ 0x00 ∷ []) 0) ∷  -- part_head
    finds (search_in (Name 0x01 0) (0x41 ∷ 0x01 ∷ [])) (search_in (Name 0x01 1) (0x41 ∷ 0x01 ∷ [])) ∷  -- search_by_length
    finds (common_plain 0x01 K) (common_plain 0x06 K) ∷  -- common_by_length
    finds (transfer_plain 0x20 0 trunk) (transfer_plain 0x21 0 trunk) ∷  -- transfer_by_length
    gives Row (λ r. r.offset) (order_row_here trunk (cursor_to 0 0)) (order_row_here trunk (cursor_to 9 11)) ∷  -- opened::row_here
    gives Cursor (λ c. c.at) (order_next trunk (cursor_to 0 0)) (order_next trunk (cursor_to 9 11)) ∷  -- opened::next
    gives Answer given_of (find_answer short (found_by (Header 0x01) short)) (find_answer short (found_by (Header 0x06) short))
    ∷  -- find_both, answer
    counts (length (find_part short (found_by (Header 0x01) short))) (length (find_part short (found_by (Header 0x00) short)))
    ∷  -- find_both, how many octets the part has
    lists (find_part short (found_by (Header 0x01) short)) (find_part short (found_by (Header 0x06) short)) ∷  -- find_both, part
    counts (given_of (Accepted 9)) (given_of (Refused 15 0)) ∷  -- the count that an answer gives
    gives (List (Transfer × List ℕ)) length (held_at (pack record_of_m) 0 0) (held_at (pack record_of_m) 0 1) ∷  -- limits::items_at
    counts (lengths_of (take 0 (pack record_of_m).transfer)) (lengths_of (take 1 (pack record_of_m).transfer)) ∷  -- values_before
    tests (struct_over (pack record_of_k)) (struct_over (pack (record_of_k ++ (record_of_k ++ (record_of_k ++ record_of_k))))) ∷  -- over_limits
    counts (length (layout_part (value_part 0x83 0))) (length (layout_part (value_part 0x01 0))) ∷  -- head_len
    answers (part_writing 0 0 (raw_part (value_head 0x06 0x11) [])) (part_writing 1 0 (raw_part (value_head 0x06 0x11) [])) ∷  -- head_refusal
    answers (end_writing (ltb 0 1 && ltb 0 1) 0) (end_writing (ltb 0 1 && ltb 0 0) 0) ∷  -- end_refusal
    gives Answer place_of (placed_at 3 (Refused 12 0)) (placed_at 4 (Refused 12 0)) ∷  -- placed
    transfers (λ t. t.header) (head_front (0x41 ∷ [])) (head_front (0x42 ∷ [])) ∷  -- transfer_head
    commons (λ c. c.value) (common_front (0x06 ∷ 0x11 ∷ [])) (common_front (0x06 ∷ 0x12 ∷ [])) ∷  -- common_head
    tests (leb (item_size (image_head no_transfer)) (length (image_head no_transfer))) (leb (item_size short) (length short)) ∷  -- is_whole
    tests (leb (0 + 1) 1) (leb (1 + 1) 1) ∷  -- lies_within
    stores (copying (lent 1) 0 (0x21 ∷ [])) (copying (lent 1) 1 (0x21 ∷ [])) ∷  -- copy_in
    stores (splicing (lent 1) 1 0 1 (0x21 ∷ [])) (splicing (lent 1) 2 0 1 (0x21 ∷ [])) ∷ []  -- splice

rows_differ : all_differ rows ≡ true
unfolding after_of extent_of common_extent_of lead_of name_used pli_right often_of zeroes_of form_of halves joined digit_of code_of is_code halves_fault
    digits_fault digits_of packed number_fault_in outside_fault is_kind fields_of numbers_drawn drawn_fault check_right decimal field_in charges_of
    charging_fault forms_of layout_of order_after layout_fault own_fault parameter_fault parameters_fault order_fault entries_formed entries_fault
    code_formed code_fault carriers_formed carriers_fault dialled_fault fault_of holding_of item_of contents_of own_of layout_item length_right fault_in
    value_fits walk transfer_by value_allowed common_form end_of common_by message_verdict_by verdict_by commons_by common_in common_found pad values_of
    pack lengths_of transfers_sum is_whole view_items view_parts view over_limits item_writing part_writing layout_part pars sought_in stretch_at
    stretch_here row_here next_of order_listing taken_of order_rows_from order_next entry_stretch entry_next put spliced
    steps_from held_from rows_left cursors_from
rows_differ = refl

-- every row's programs are shut out
pub shut_out : AllShut rows
shut_out = all_shut rows rows_differ
