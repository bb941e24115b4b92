-- Wrong programs that the promises about connection orders shut out, each with the message at which it breaks its promise.
use Rattle.std.specs.Prelude.{ℕ, ◌*◌, ◌≡◌, refl, List, [], ◌∷◌, ◌++◌, get_or, replicate}
use Rattle.std.proofs.Common.{arith, ap, ◌∙◌}
use Rattle.annex.specs.Answers.{number_of, given_of, Answer, Accepted, Refused}
use Rattle.annex.specs.Units.{after_of, lead_of, common_extent_of, extent_of}
use Rattle.annex.specs.Heads.{value_allowed, name_used, pli_right, often_of, zeroes_of, form_of}
use Rattle.annex.specs.Digits.{halves, is_code, halves_fault, digits_fault}
use Rattle.annex.specs.Orders.{forms_of, layout_of, order_after, layout_fault, own_fault, parameter_fault, parameters_fault, order_fault}
use Rattle.annex.specs.Contents.{fault_of}
use Rattle.annex.specs.Walk.{walk, pars}
use Rattle.annex.specs.Walking.{no_row}
use Rattle.annex.specs.Reading.{
  common_form,
  end_of,
  transfer_by,
  transfers_verdict_by,
  data_by,
  common_by,
  message_verdict_by,
  verdict_by,
  commons_by,
  transfers_by,
}
use Rattle.annex.specs.Finding.{transfer_in, transfer_among, transfer_found}
use Rattle.annex.specs.Opened.{order_listing, order_rows_of, order_answer, order_table}
use Rattle.annex.specs.Packed.{packed_answer, rows_octets, octet_order, octet_order_table}
use Rattle.annex.specs.Promises.{OrderCheckPromise, OrderPromise, OctetOrderPromise, TkOrderPromise}
use Rattle.annex.specs.Bench.{K}
use Rattle.annex.specs.declared.Row.{Row}
use Rattle.tight.specs.Wrong.{short}
use Rattle.tight.specs.WrongRows.{row_for}
use Rattle.tight.specs.WrongPacked.{lent, at}

-- the form 21 with 91: three digits, in two octets. E0 stands at 6, its contents from 8 on
abbrev pub sent : List ℕ
sent = K ++ (0xC5 ∷ 0x07 ∷ 0xE0 ∷ 0x05 ∷ 0x21 ∷ 0x91 ∷ 0x03 ∷ 0x21 ∷ 0x0A ∷ 0x00 ∷ [])

-- the form 37 with CB, guidance of two octets, and 91 behind it: four digits
abbrev pub guided : List ℕ
guided =
    K ++ (0xC5 ∷ 0x0B ∷ 0xE0 ∷ 0x09 ∷ 0x37 ∷ 0xCB ∷ 0x02 ∷ 0x11 ∷ 0x22 ∷ 0x91 ∷ 0x04 ∷ 0x21 ∷ 0x43 ∷ 0x00 ∷ [])

-- a row of a lent table before a call, and so many of them
abbrev old : Row
old = row_for 0xEE 0xEE 0xEE

abbrev old_rows : ℕ → List Row
old_rows n = replicate n old

-- what the definitions say, computed once
record SaidOrders : Type 0 where
  count_sent : order_answer sent 2 ≡ Accepted 2
  too_short : order_answer sent 1 ≡ Refused 15 0
  no_order : order_answer short 9 ≡ Refused 16 0
  table_sent : order_table sent (old_rows 3) ≡ row_for 8 0x21 0 ∷ row_for 9 0x91 3 ∷ old ∷ []
  table_guided : order_table guided (old_rows 3) ≡ row_for 8 0x37 0 ∷ row_for 9 0xCB 3 ∷ row_for 13 0x91 3 ∷ []
  table_kept : order_table sent (old_rows 1) ≡ old_rows 1
  octets_short : octet_order sent 9 ≡ Refused 15 0
  octets_none : octet_order short 9 ≡ Refused 16 0
  octets_sent : octet_order_table sent (lent 12) ≡ 8 ∷ 0 ∷ 0x21 ∷ 0 ∷ 0 ∷ 9 ∷ 0 ∷ 0x91 ∷ 3 ∷ 0 ∷ 0xEE ∷ 0xEE ∷ []
  octets_kept : octet_order_table sent (lent 9) ≡ lent 9

said_orders : SaidOrders
unfolding after_of lead_of common_extent_of extent_of name_used pli_right often_of zeroes_of form_of halves is_code halves_fault digits_fault forms_of
    layout_of order_after layout_fault own_fault parameter_fault parameters_fault order_fault fault_of walk pars transfer_by transfers_verdict_by
    value_allowed common_form end_of data_by common_by message_verdict_by verdict_by commons_by transfers_by transfer_in transfer_among transfer_found
    order_listing order_rows_of order_answer order_table rows_octets octet_order_table
said_orders =
    record {
      count_sent = refl;
      too_short = refl;
      no_order = refl;
      table_sent = refl;
      table_guided = refl;
      table_kept = refl;
      octets_short = refl;
      octets_none = refl;
      octets_sent = refl;
      octets_kept = refl;
    }

-- ---- check_order: one that leaves the form's row out; one that never says 15; one that calls no order an empty listing

pub form_not_counted : OrderCheckPromise sent 2 (Accepted 1) → ⊥
form_not_counted p = let z : ◌≡◌ {A = ℕ} 1 2 = ap given_of (p ∙ said_orders.count_sent) in omega arith

pub room_not_asked : (n : ℕ) → OrderCheckPromise sent 1 (Accepted n) → ⊥
room_not_asked n p = let z : ◌≡◌ {A = ℕ} 0 15 = ap number_of (p ∙ said_orders.too_short) in omega arith

pub empty_listing : OrderCheckPromise short 9 (Accepted 0) → ⊥
empty_listing p = let z : ◌≡◌ {A = ℕ} 0 16 = ap number_of (p ∙ said_orders.no_order) in omega arith

-- ---- order

-- what the row i of a table tells
abbrev offset_at : ℕ → List Row → ℕ
offset_at i t = (get_or t i no_row).offset

abbrev len_at : ℕ → List Row → ℕ
len_at i t = (get_or t i no_row).len

-- one that takes 91's count for octets; one that leaves a length octet out; one that gives the form an octet
pub digits_for_octets : (r : Answer) (now : List Row) → len_at 1 now ≡ 4 → OrderPromise sent (old_rows 3) r now → ⊥
digits_for_octets r now h p = let z : len_at 1 now ≡ 3 = ap (len_at 1) (p.1 ∙ said_orders.table_sent) in omega arith

pub length_octet_left_out : (r : Answer) (now : List Row) → len_at 1 now ≡ 2 → OrderPromise guided (old_rows 3) r now → ⊥
length_octet_left_out r now h p = let z : len_at 1 now ≡ 3 = ap (len_at 1) (p.1 ∙ said_orders.table_guided) in omega arith

pub form_with_an_octet : (r : Answer) (now : List Row) → len_at 0 now ≡ 1 → OrderPromise sent (old_rows 3) r now → ⊥
form_with_an_octet r now h p = let z : len_at 0 now ≡ 0 = ap (len_at 0) (p.1 ∙ said_orders.table_sent) in omega arith

-- one that counts offsets from the start of E0's contents; one that clears the rows past the last; one that writes where it refuses
pub offsets_in_contents : (r : Answer) (now : List Row) → offset_at 0 now ≡ 0 → OrderPromise sent (old_rows 3) r now → ⊥
offsets_in_contents r now h p = let z : offset_at 0 now ≡ 8 = ap (offset_at 0) (p.1 ∙ said_orders.table_sent) in omega arith

pub rows_past_cleared : (r : Answer) (now : List Row) → offset_at 2 now ≡ 0 → OrderPromise sent (old_rows 3) r now → ⊥
rows_past_cleared r now h p = let z : offset_at 2 now ≡ 0xEE = ap (offset_at 2) (p.1 ∙ said_orders.table_sent) in omega arith

pub writes_where_refused : (r : Answer) (now : List Row) → offset_at 0 now ≡ 8 → OrderPromise sent (old_rows 1) r now → ⊥
writes_where_refused r now h p = let z : offset_at 0 now ≡ 0xEE = ap (offset_at 0) (p.1 ∙ said_orders.table_kept) in omega arith

-- ---- tk_order: one that takes the table's octets for rows; one that gives 16 as the value; one that writes the header before the offset;
-- one that writes as many octets as there is room for

pub tk_order_octets_for_rows : (now : List ℕ) → TkOrderPromise sent (lent 9) 2 now → ⊥
tk_order_octets_for_rows now p =
    let z : ◌≡◌ {A = ℕ} 2 (15 * 4294967296) = p.0 ∙ ap packed_answer said_orders.octets_short in
    omega arith

pub tk_no_order_as_value : (now : List ℕ) → TkOrderPromise short (lent 9) 16 now → ⊥
tk_no_order_as_value now p =
    let z : ◌≡◌ {A = ℕ} 16 (16 * 4294967296) = p.0 ∙ ap packed_answer said_orders.octets_none in
    omega arith

pub tk_order_header_first : (r : ℕ) (now : List ℕ) → at 0 now ≡ 0x21 → TkOrderPromise sent (lent 12) r now → ⊥
tk_order_header_first r now h p = let z : at 0 now ≡ 8 = ap (at 0) (p.1 ∙ said_orders.octets_sent) in omega arith

pub tk_order_a_part : (r : ℕ) (now : List ℕ) → at 0 now ≡ 8 → TkOrderPromise sent (lent 9) r now → ⊥
tk_order_a_part r now h p = let z : at 0 now ≡ 0xEE = ap (at 0) (p.1 ∙ said_orders.octets_kept) in omega arith

-- octet_order is shut out for the same: tk_order packs its answer, and nothing else
order_packed : (m table : List ℕ) (r : Answer) (now : List ℕ) → OctetOrderPromise m table r now
    → TkOrderPromise m table (packed_answer r) now
order_packed m table r now p = (ap packed_answer p.0, p.1)

pub order_octets_for_rows : (now : List ℕ) → OctetOrderPromise sent (lent 9) (Accepted 2) now → ⊥
order_octets_for_rows now p = tk_order_octets_for_rows now (order_packed sent (lent 9) (Accepted 2) now p)

pub order_header_first : (r : Answer) (now : List ℕ) → at 0 now ≡ 0x21 → OctetOrderPromise sent (lent 12) r now → ⊥
order_header_first r now h p = tk_order_header_first (packed_answer r) now h (order_packed sent (lent 12) r now p)

pub order_a_part : (r : Answer) (now : List ℕ) → at 0 now ≡ 8 → OctetOrderPromise sent (lent 9) r now → ⊥
order_a_part r now h p = tk_order_a_part (packed_answer r) now h (order_packed sent (lent 9) r now p)
