-- Examples of carriers, computed: document 02, request g: how often CC may stand, each rule of its contents on both sides, where 12 and 13
-- are shown, the listing and the digits, finding and editing by which, the limits of a record, and contents opened and laid out, under one
-- statement.
use Rattle.std.specs.Prelude.{ℕ, ◌+◌, ◌≡◌, refl, Bool, true, false, cond, List, [], ◌∷◌, ◌++◌, map, length, replicate}
use Rattle.annex.specs.Units.{after_of, lead_of, common_extent_of, extent_of}
use Rattle.annex.specs.Heads.{value_allowed, name_used, pli_right, often_of, zeroes_of, form_of}
use Rattle.annex.specs.Digits.{halves, joined, digit_of, code_of, is_code, halves_fault, digits_fault, digits_of, packed, number_fault_in}
use Rattle.annex.specs.Rates.{is_kind, fields_of, numbers_drawn, drawn_fault, check_right}
use Rattle.annex.specs.Orders.{parameters_fault, order_fault}
use Rattle.annex.specs.Carriers.{entries_formed, entries_fault, code_formed, code_fault, code_digits, carriers_formed, carriers_fault}
use Rattle.annex.specs.Contents.{calling_fault, generic_fault, dialled_fault, two_fault, charging_fault, fault_of}
use Rattle.annex.specs.Items.{Item, plain_item, data_part, holding_of, item_of, contents_of}
use Rattle.annex.specs.Layout.{layout_item, layout_items, layout_part, layout}
use Rattle.annex.specs.Allowed.{length_right, fault_in, value_fits}
use Rattle.annex.specs.Walk.{walk, pars}
use Rattle.annex.specs.Reading.{
  common_form,
  end_of,
  verdict_of,
  record_of,
  transfer_by,
  transfers_verdict_by,
  data_by,
  common_by,
  message_verdict_by,
  verdict_by,
  commons_by,
  transfers_by,
  open_common_by,
  record_by,
}
use Rattle.annex.specs.Writing.{item_writing, items_writing, data_writing, part_writing, parts_writing, over_limits, record_writing}
use Rattle.annex.specs.Finding.{transfer_in, transfer_among, transfer_found, find_answer, find_part}
use Rattle.annex.specs.Spans.{transfer_rows, common_rows_by, rows_by, spans_by, spans_of}
use Rattle.annex.specs.Editing.{Edit, edit_refusal, instead, edited_items, edited, record_editing, editing_of, buffer_of}
use Rattle.annex.specs.Editing.Edit.{Replacing, Appending, Removing}
use Rattle.annex.specs.Transit.{
  Dependent,
  Carrier,
  OpenedCarriers,
  carriers_right,
  code_octets,
  lay_carriers,
  opened_carriers,
  flat_entries,
  entries_of,
  carrier_rows_of,
  carriers_answer,
  digits_answer,
  digits_given,
}
use Rattle.annex.specs.BadHalves.{pars_good, bad_at}
use Rattle.annex.specs.Packed.{carrier_rows_octets, octet_carriers, octet_carriers_table}
use Rattle.annex.specs.Bench.{K, record_of_k}
use Rattle.annex.specs.Answers.{Answer, Accepted, Refused}
use Rattle.annex.specs.declared.CarrierRow.{CarrierRow}

pub data Case : Type 0 where
  -- transfer data in a message, and the answer
  Read : List ℕ → Answer → Case
  -- CC's contents, and the offsets of the bad octets
  Holds : List ℕ → List ℕ → Case
  -- a message, which CC, and its rows
  Rows : List ℕ → ℕ → List CarrierRow → Case
  -- a message, which CC, how many rows are lent, and the answer; the same in lent octets, with the octets then
  Asked : List ℕ → ℕ → ℕ → Answer → Case
  Given : List ℕ → ℕ → List ℕ → Answer → List ℕ → Case
  -- a message, which CC, which row, lent octets, the answer about its digits, and the octets then
  Digits : List ℕ → ℕ → ℕ → List ℕ → Answer → List ℕ → Case
  -- a name, which of those with it, a message, the answer, and the part
  Finds : ℕ → ℕ → List ℕ → Answer → List ℕ → Case
  -- an edit of a message with so many lent octets behind it, the answer, and the buffer then
  Edited : Edit → List ℕ → ℕ → Answer → List ℕ → Case
  -- transfer parameters of a record, and the answer to writing it, room aside; the same of the record of a message with transfer data
  Written : List Item → Answer → Case
  Again : List ℕ → Answer → Case
  -- a message, how many rows are lent for its listing, and the answer
  Spans : List ℕ → ℕ → Answer → Case
  -- CC's contents, what they say, and how that is laid out; and what a CC would say, and whether it may
  Opens : List ℕ → OpenedCarriers → List ℕ → Case
  May : OpenedCarriers → Bool → Case

-- a message with transfer data, of which the first header stands at 6
abbrev with : List ℕ → List ℕ
with t = K ++ ((0xC5 ∷ length t ∷ t) ++ (0x00 ∷ []))

-- CC with the contents s; where it is the first, they stand from 8 on
abbrev cc : List ℕ → List ℕ
cc s = 0xCC ∷ length s ∷ s

-- lent octets
abbrev lent : ℕ → List ℕ
lent n = replicate n 0xEE

-- the offsets of the bad octets among those from the offset i on
abbrev bad_from : List ℕ → ℕ → List ℕ → List ℕ
bad_from s i [] = []
bad_from s i (x ∷ xs) = cond (bad_at 0xCC s i) (i ∷ bad_from s (i + 1) xs) (bad_from s (i + 1) xs)

abbrev as_defined : Case → Case
as_defined (Read t a) = Read t (verdict_of (with t))
as_defined (Holds s os) = Holds s (bad_from s 0 s)
as_defined (Rows m k rs) = Rows m k (carrier_rows_of k m)
as_defined (Asked m k room a) = Asked m k room (carriers_answer m k room)
as_defined (Given m k room a now) = Given m k room (octet_carriers m k (length room)) (octet_carriers_table m k room)
as_defined (Digits m k row room a now) = Digits m k row room (digits_answer m k row (length room)) (digits_given m k row room)
as_defined (Finds x k m a s) = Finds x k m (find_answer m (transfer_found x k m)) (find_part m (transfer_found x k m))
as_defined (Edited e m k a now) = Edited e m k (editing_of e (m ++ lent k) (length m)) (buffer_of e (m ++ lent k) (length m))
as_defined (Written is a) = Written is (record_writing (record_of_k ++ (data_part is ∷ [])))
as_defined (Again t a) = Again t (record_writing (record_of (with t)))
as_defined (Spans m room a) = Spans m room (spans_of m room)
as_defined (Opens s c o) = Opens s (opened_carriers s) (lay_carriers (opened_carriers s))
as_defined (May c b) = May c (carriers_right c)

-- contents that are accepted, and of a wrong form
abbrev fine : List ℕ → Case
fine s = Read (cc s) (Accepted (9 + length s))

abbrev wrong : List ℕ → Case
wrong s = Read (cc s) (Refused 12 6)

-- contents with one carrier entry that holds one code, of these octets; the first octet of its digits is at 14 in a message
abbrev coded : List ℕ → List ℕ
coded s = 0x00 ∷ 0xF8 ∷ (2 + length s) ∷ 0xFE ∷ length s ∷ s

-- three CC: a direction alone, the code 12 in a carrier entry, an empty carrier entry. Headers at 6, 9 and 18, contents from 8, 11 and 20
abbrev one : List ℕ
one = 0x00 ∷ []

abbrev two : List ℕ
two = 0x01 ∷ 0xF8 ∷ 0x04 ∷ 0xFE ∷ 0x02 ∷ 0x00 ∷ 0x21 ∷ []

abbrev three : List ℕ
three = 0x03 ∷ 0xFE ∷ 0x00 ∷ []

abbrev all : List ℕ
all = cc one ++ (cc two ++ cc three)

-- the rows of the second in octets
abbrev given : List ℕ
given =
    0x00 ∷ 0x01 ∷ 11 ∷ 0 ∷ 0 ∷ 0 ∷ 0 ∷ 0 ∷
    0x01 ∷ 0xF8 ∷ 12 ∷ 0 ∷ 4 ∷ 0 ∷ 0 ∷ 0 ∷
    0x02 ∷ 0xFE ∷ 14 ∷ 0 ∷ 2 ∷ 0 ∷ 2 ∷ 0 ∷ []

-- carried octets, the code 123, an empty entry, a code of no digits; the code 012009; nothing
abbrev nested : List ℕ
nested =
    0x02 ∷
    0xF9 ∷ 0x0D ∷ 0xFC ∷ 0x01 ∷ 0xAA ∷ 0xFE ∷ 0x03 ∷ 0x80 ∷ 0x21 ∷ 0x03 ∷ 0xFD ∷ 0x00 ∷ 0xFE ∷ 0x01 ∷ 0x00 ∷
    0xFE ∷ 0x06 ∷ 0xFE ∷ 0x04 ∷ 0x00 ∷ 0x10 ∷ 0x02 ∷ 0x90 ∷
    0xF8 ∷ 0x00 ∷ []

-- level, tag, offset, octets held, digits
abbrev row : ℕ → ℕ → ℕ → ℕ → ℕ → CarrierRow
row l t p n d = record { level = l; tag = t; offset = p; len = n; digits = d }

abbrev dependent : ℕ → List ℕ → Dependent
dependent t vs = record { tag = t; values = vs }

abbrev carrier : ℕ → List Dependent → Carrier
carrier t ds = record { tag = t; dependents = ds }

abbrev opened : ℕ → List Carrier → OpenedCarriers
opened d es = record { direction = d; entries = es }

-- the octet x behind each of some octets
abbrev pairs : ℕ → List ℕ → List ℕ
pairs x [] = []
pairs x (h ∷ hs) = h ∷ x ∷ pairs x hs

-- every name, CC three times, in 122 octets: those with no contents, one octet, no digits, an empty part; then those that need some
abbrev every_name : List ℕ
every_name =
    0x07 ∷ 0x24 ∷ 0x30 ∷ 0x31 ∷ 0x3B ∷ 0x7E ∷ 0x02 ∷
    (pairs 0x00
    (0x41 ∷ 0x42 ∷ 0x43 ∷ 0x44 ∷ 0x45 ∷ 0x46 ∷ 0x52 ∷ 0x65 ∷ 0x66 ∷ 0x67 ∷ 0x68 ∷ 0x6C ∷ 0x6E ∷ 0x6F ∷ 0x73 ∷ 0x75 ∷ 0x79 ∷ 0x7A ∷ 0x7C ∷
    0x90 ∷ 0x91 ∷ 0x95 ∷ 0x98 ∷ 0xA3 ∷
    0xCD ∷ 0xCE ∷ 0xD3 ∷ 0xD6 ∷ 0xD9 ∷ 0xE9 ∷ 0xEA ∷ 0xEB ∷ 0xED ∷ 0xF4 ∷ 0xF6 ∷ 0xF8 ∷ 0xFD ∷ [])
    ++ (0xCF ∷ 0x02 ∷ 0x00 ∷ 0x00 ∷ 0xDB ∷ 0x02 ∷ 0x00 ∷ 0x00 ∷ 0xD7 ∷ 0x02 ∷ 0x00 ∷ 0x00 ∷ 0xDC ∷ 0x02 ∷ 0x00 ∷ 0x00 ∷
    0xDA ∷ 0x01 ∷ 0x00 ∷ 0xE0 ∷ 0x01 ∷ 0x21 ∷ 0xF2 ∷ 0x04 ∷ 0x00 ∷ 0x00 ∷ 0x00 ∷ 0x00 ∷ 0xF7 ∷ 0x02 ∷ 0x00 ∷ 0x02 ∷
    (cc one ++ (cc one ++ cc one))))

-- with all six common parameters too: 61 rows
abbrev every_row : List ℕ
every_row = 0x82 ∷ 0x01 ∷ 0x00 ∷ 0x00 ∷ 0x83 ∷ 0x02 ∷ 0x00 ∷ 0x00 ∷ 0x04 ∷ 0x01 ∷ with every_name

abbrev cases : List Case
cases =
    -- CC once, twice, three times, also with another between; a fourth 10 at its header, behind 9, before 11
    -- and 12; another name twice 10
    Read (cc one) (Accepted 10) ∷
    Read (cc one ++ cc one) (Accepted 13) ∷
    Read (cc one ++ (cc one ++ cc one)) (Accepted 16) ∷
    Read all (Accepted 24) ∷
    Read (cc one ++ (0x41 ∷ 0x01 ∷ (cc two ++ cc three))) (Accepted 26) ∷
    Read (all ++ cc one) (Refused 10 23) ∷
    Read (all ++ cc []) (Refused 10 23) ∷
    Read (all ++ (0xCC ∷ [])) (Refused 10 23) ∷
    Read (all ++ (0x4C ∷ 0x00 ∷ [])) (Refused 9 23) ∷
    Read (0xCD ∷ 0x00 ∷ 0xCD ∷ 0x00 ∷ []) (Refused 10 8) ∷
    Read (0xCC ∷ 0x02 ∷ 0x00 ∷ []) (Refused 11 6) ∷
    -- 12: the direction octet, and its six bits
    wrong [] ∷
    fine (0x00 ∷ []) ∷
    fine (0x03 ∷ []) ∷
    wrong (0x04 ∷ []) ∷
    wrong (0x80 ∷ []) ∷
    -- the tags, of both levels
    wrong (0x00 ∷ 0xF7 ∷ 0x00 ∷ []) ∷
    fine (0x00 ∷ 0xF8 ∷ 0x00 ∷ []) ∷
    fine (0x00 ∷ 0xFE ∷ 0x00 ∷ []) ∷
    wrong (0x00 ∷ 0xFF ∷ 0x00 ∷ []) ∷
    wrong (0x00 ∷ 0x00 ∷ 0x00 ∷ []) ∷
    wrong (0x00 ∷ 0xF8 ∷ 0x02 ∷ 0xF8 ∷ 0x00 ∷ []) ∷
    wrong (0x00 ∷ 0xF8 ∷ 0x02 ∷ 0xFB ∷ 0x00 ∷ []) ∷
    fine (0x00 ∷ 0xF8 ∷ 0x02 ∷ 0xFC ∷ 0x00 ∷ []) ∷
    fine (0x00 ∷ 0xF8 ∷ 0x02 ∷ 0xFD ∷ 0x00 ∷ []) ∷
    fine (0x00 ∷ 0xF8 ∷ 0x04 ∷ 0xFE ∷ 0x02 ∷ 0x00 ∷ 0x21 ∷ []) ∷
    wrong (0x00 ∷ 0xF8 ∷ 0x02 ∷ 0xFF ∷ 0x00 ∷ []) ∷
    -- FE among carrier entries holds entries, and no code
    fine (0x00 ∷ 0xFE ∷ 0x04 ∷ 0xFE ∷ 0x02 ∷ 0x00 ∷ 0x21 ∷ []) ∷
    wrong (0x00 ∷ 0xFE ∷ 0x02 ∷ 0x00 ∷ 0x21 ∷ []) ∷
    -- no length octet
    wrong (0x00 ∷ 0xF8 ∷ []) ∷
    wrong (0x00 ∷ 0xF8 ∷ 0x00 ∷ 0xF8 ∷ []) ∷
    wrong (0x00 ∷ 0xF8 ∷ 0x01 ∷ 0xFC ∷ []) ∷
    wrong (0x00 ∷ 0xF8 ∷ 0x03 ∷ 0xFC ∷ 0x00 ∷ 0xFC ∷ []) ∷
    wrong (0x00 ∷ 0xF8 ∷ 0x01 ∷ 0xFC ∷ 0xF8 ∷ 0x00 ∷ []) ∷
    -- a carrier entry one too long, past the end of CC, and one too short, with octets left over that are no entry
    fine (0x00 ∷ 0xF8 ∷ 0x03 ∷ 0xFC ∷ 0x01 ∷ 0xAA ∷ []) ∷
    wrong (0x00 ∷ 0xF8 ∷ 0x04 ∷ 0xFC ∷ 0x01 ∷ 0xAA ∷ []) ∷
    wrong (0x00 ∷ 0xF8 ∷ 0x02 ∷ 0xFC ∷ 0x01 ∷ 0xAA ∷ []) ∷
    wrong (0x00 ∷ 0xF8 ∷ 0x02 ∷ 0xFC ∷ 0x00 ∷ 0xAA ∷ []) ∷
    wrong (0x00 ∷ 0xF8 ∷ 0x01 ∷ []) ∷
    wrong (0x00 ∷ 0xF8 ∷ 0xFF ∷ []) ∷
    -- a dependent entry one too long, past the end of its carrier entry, also where CC goes on, and one too short
    wrong (0x00 ∷ 0xF8 ∷ 0x03 ∷ 0xFC ∷ 0x02 ∷ 0xAA ∷ []) ∷
    wrong (0x00 ∷ 0xF8 ∷ 0x03 ∷ 0xFC ∷ 0x02 ∷ 0xAA ∷ 0xF8 ∷ 0x00 ∷ []) ∷
    wrong (0x00 ∷ 0xF8 ∷ 0x03 ∷ 0xFC ∷ 0x03 ∷ 0xAA ∷ 0xF8 ∷ 0x00 ∷ []) ∷
    wrong (0x00 ∷ 0xF8 ∷ 0x03 ∷ 0xFC ∷ 0x00 ∷ 0xAA ∷ []) ∷
    wrong (0x00 ∷ 0xF8 ∷ 0x04 ∷ 0xFC ∷ 0x00 ∷ 0xAA ∷ 0x00 ∷ []) ∷
    -- the first octet of a code; where the odd mark is set, a digit octet
    wrong (coded []) ∷
    fine (coded (0x00 ∷ 0x21 ∷ [])) ∷
    fine (coded (0x80 ∷ 0x01 ∷ [])) ∷
    wrong (coded (0x01 ∷ 0x21 ∷ [])) ∷
    wrong (coded (0x40 ∷ 0x21 ∷ [])) ∷
    wrong (coded (0x81 ∷ 0x01 ∷ [])) ∷
    fine (coded (0x00 ∷ [])) ∷
    wrong (coded (0x80 ∷ [])) ∷
    -- entries again at both levels, in any order; any octets in FC and FD
    fine (0x00 ∷ 0xF8 ∷ 0x00 ∷ 0xF8 ∷ 0x00 ∷ []) ∷
    fine (0x00 ∷ 0xFE ∷ 0x00 ∷ 0xF8 ∷ 0x00 ∷ []) ∷
    fine (0x00 ∷ 0xF8 ∷ 0x04 ∷ 0xFC ∷ 0x00 ∷ 0xFC ∷ 0x00 ∷ []) ∷
    fine (0x00 ∷ 0xF8 ∷ 0x06 ∷ 0xFE ∷ 0x01 ∷ 0x00 ∷ 0xFE ∷ 0x01 ∷ 0x00 ∷ []) ∷
    fine (0x00 ∷ 0xF8 ∷ 0x04 ∷ 0xFD ∷ 0x00 ∷ 0xFC ∷ 0x00 ∷ []) ∷
    fine (0x00 ∷ 0xF8 ∷ 0x06 ∷ 0xFC ∷ 0x04 ∷ 0xFF ∷ 0x00 ∷ 0xF7 ∷ 0xAA ∷ []) ∷
    fine (0x00 ∷ 0xF8 ∷ 0x05 ∷ 0xFD ∷ 0x03 ∷ 0xFE ∷ 0x01 ∷ 0x80 ∷ []) ∷
    fine nested ∷
    -- 13 at its octet: all digits; low half, high half, 10 for a zero in either; a later octet; filler; digit before filler
    fine (coded (0x00 ∷ 0x10 ∷ 0x32 ∷ 0x54 ∷ 0x76 ∷ 0x98 ∷ [])) ∷
    fine (coded (0x80 ∷ 0x00 ∷ [])) ∷
    Read (cc (coded (0x00 ∷ 0x1F ∷ []))) (Refused 13 14) ∷
    Read (cc (coded (0x00 ∷ 0xB1 ∷ []))) (Refused 13 14) ∷
    Read (cc (coded (0x00 ∷ 0x1A ∷ []))) (Refused 13 14) ∷
    Read (cc (coded (0x00 ∷ 0xA1 ∷ []))) (Refused 13 14) ∷
    Read (cc (coded (0x80 ∷ 0x0A ∷ []))) (Refused 13 14) ∷
    Read (cc (coded (0x00 ∷ 0x21 ∷ 0xA3 ∷ []))) (Refused 13 15) ∷
    Read (cc (coded (0x80 ∷ 0x11 ∷ []))) (Refused 13 14) ∷
    Read (cc (coded (0x80 ∷ 0x21 ∷ 0xF3 ∷ []))) (Refused 13 15) ∷
    Read (cc (coded (0x80 ∷ 0xA1 ∷ 0x13 ∷ []))) (Refused 13 14) ∷
    -- behind carried octets; a second code, in the same carrier entry and in the next; of two bad the first
    Read (cc (0x00 ∷ 0xF8 ∷ 0x07 ∷ 0xFC ∷ 0x01 ∷ 0xAA ∷ 0xFE ∷ 0x02 ∷ 0x00 ∷ 0xA1 ∷ [])) (Refused 13 17) ∷
    Read (cc (0x00 ∷ 0xF8 ∷ 0x08 ∷ 0xFE ∷ 0x02 ∷ 0x00 ∷ 0x21 ∷ 0xFE ∷ 0x02 ∷ 0x00 ∷ 0x2A ∷ [])) (Refused 13 18) ∷
    Read (cc (coded (0x00 ∷ 0x21 ∷ []) ++ (0xF9 ∷ 0x04 ∷ 0xFE ∷ 0x02 ∷ 0x00 ∷ 0xA2 ∷ []))) (Refused 13 20) ∷
    Read (cc (coded (0x00 ∷ 0x2A ∷ []) ++ (0xF9 ∷ 0x04 ∷ 0xFE ∷ 0x02 ∷ 0x00 ∷ 0xA2 ∷ []))) (Refused 13 14) ∷
    -- 12 anywhere in a CC before any digit of it; of two CC the first
    Read (cc (coded (0x00 ∷ 0x0A ∷ []) ++ (0xF8 ∷ 0x00 ∷ []))) (Refused 13 14) ∷
    wrong (coded (0x00 ∷ 0x0A ∷ []) ++ (0xF7 ∷ 0x00 ∷ [])) ∷
    wrong (coded (0x00 ∷ 0x0A ∷ []) ++ (0xF8 ∷ [])) ∷
    wrong (coded (0x00 ∷ 0x0A ∷ []) ++ (0xF8 ∷ 0x02 ∷ 0xFE ∷ 0x00 ∷ [])) ∷
    Read (cc one ++ cc (0x04 ∷ [])) (Refused 12 9) ∷
    Read (cc one ++ cc (coded (0x00 ∷ 0x0A ∷ []))) (Refused 13 17) ∷
    Read (cc (coded (0x00 ∷ 0x0A ∷ [])) ++ cc (0x04 ∷ [])) (Refused 13 14) ∷
    -- which octets are bad: those of codes alone
    Holds two [] ∷
    Holds (coded (0x00 ∷ 0x0A ∷ 0x21 ∷ 0xA0 ∷ [])) (6 ∷ 8 ∷ []) ∷
    Holds (coded (0x80 ∷ 0x0A ∷ 0x13 ∷ [])) (6 ∷ 7 ∷ []) ∷
    Holds (coded (0x00 ∷ 0x2A ∷ []) ++ (0xF9 ∷ 0x07 ∷ 0xFC ∷ 0x01 ∷ 0xAA ∷ 0xFE ∷ 0x02 ∷ 0x00 ∷ 0xA2 ∷ [])) (6 ∷ 15 ∷ []) ∷
    Holds (0x00 ∷ 0xFE ∷ 0x06 ∷ 0xFC ∷ 0x01 ∷ 0xAA ∷ 0xFD ∷ 0x01 ∷ 0xAA ∷ []) [] ∷
    -- the rows, by which
    Rows (with all) 0 (row 0 0x00 8 0 0 ∷ []) ∷
    Rows (with all) 1 (row 0 0x01 11 0 0 ∷ row 1 0xF8 12 4 0 ∷ row 2 0xFE 14 2 2 ∷ []) ∷
    Rows (with all) 2 (row 0 0x03 20 0 0 ∷ row 1 0xFE 21 0 0 ∷ []) ∷
    Rows (with (cc nested)) 0
    (row 0 0x02 8 0 0 ∷ row 1 0xF9 9 13 0 ∷ row 2 0xFC 11 1 0 ∷ row 2 0xFE 14 3 3 ∷ row 2 0xFD 19 0 0 ∷ row 2 0xFE 21 1 0
    ∷ row 1 0xFE 24 6 0 ∷ row 2 0xFE 26 4 6 ∷ row 1 0xF8 32 0 0 ∷ []) ∷
    -- 16: no such CC, no CC, no transfer data; reading's numbers before it, 15 behind it
    Asked (with all) 0 1 (Accepted 1) ∷
    Asked (with all) 1 3 (Accepted 3) ∷
    Asked (with all) 1 2 (Refused 15 0) ∷
    Asked (with all) 2 2 (Accepted 2) ∷
    Asked (with all) 3 9 (Refused 16 0) ∷
    Asked (with all) 3 0 (Refused 16 0) ∷
    Asked (with (0x41 ∷ 0x01 ∷ [])) 0 9 (Refused 16 0) ∷
    Asked (K ++ (0x00 ∷ [])) 0 9 (Refused 16 0) ∷
    Asked K 0 9 (Refused 4 4) ∷
    Asked (with (cc (0x04 ∷ []))) 0 0 (Refused 12 6) ∷
    Asked (with (cc one ++ cc (coded (0x00 ∷ 0x0A ∷ [])))) 0 9 (Refused 13 17) ∷
    -- the most rows
    Asked (with (cc (0x00 ∷ pairs 0x00 (replicate 126 0xF8)))) 0 127 (Accepted 127) ∷
    Asked (with (cc (0x00 ∷ pairs 0x00 (replicate 126 0xF8)))) 0 126 (Refused 15 0) ∷
    -- in octets: those past the last row stay, a refusal leaves all; offset and digits over 255
    Given (with all) 1 (lent 24) (Accepted 3) given ∷
    Given (with all) 1 (lent 32) (Accepted 3) (given ++ lent 8) ∷
    Given (with all) 1 (lent 23) (Refused 15 0) (lent 23) ∷
    Given (with all) 0 (lent 9) (Accepted 1) (0 ∷ 0x00 ∷ 8 ∷ 0 ∷ 0 ∷ 0 ∷ 0 ∷ 0 ∷ 0xEE ∷ []) ∷
    Given (with all) 3 (lent 8) (Refused 16 0) (lent 8) ∷
    Given (with (cc (0x04 ∷ []))) 0 (lent 8) (Refused 12 6) (lent 8) ∷
    Given (with (0xCD ∷ 246 ∷ (replicate 246 0x00 ++ cc (0x02 ∷ [])))) 0 (lent 8) (Accepted 1) (0 ∷ 0x02 ∷ 0 ∷ 1 ∷ 0 ∷ 0 ∷ 0 ∷ 0 ∷ []) ∷
    Given (with (cc (coded (0x00 ∷ replicate 247 0x11)))) 0 (lent 24) (Accepted 3)
    (0 ∷ 0x00 ∷ 8 ∷ 0 ∷ 0 ∷ 0 ∷ 0 ∷ 0 ∷ 1 ∷ 0xF8 ∷ 9 ∷ 0 ∷ 250 ∷ 0 ∷ 0 ∷ 0 ∷ 2 ∷ 0xFE ∷ 11 ∷ 0 ∷ 248 ∷ 0 ∷ 0xEE ∷ 0x01 ∷ []) ∷
    -- the digits of a row: odd, even with zeros, none; octets past them stay; 15 where one is missing
    Digits (with (cc nested)) 0 3 (lent 3) (Accepted 3) (1 ∷ 2 ∷ 3 ∷ []) ∷
    Digits (with (cc nested)) 0 3 (lent 4) (Accepted 3) (1 ∷ 2 ∷ 3 ∷ 0xEE ∷ []) ∷
    Digits (with (cc nested)) 0 3 (lent 2) (Refused 15 0) (lent 2) ∷
    Digits (with (cc nested)) 0 5 [] (Accepted 0) [] ∷
    Digits (with (cc nested)) 0 7 (lent 6) (Accepted 6) (0 ∷ 1 ∷ 2 ∷ 0 ∷ 0 ∷ 9 ∷ []) ∷
    Digits (with all) 1 2 (lent 2) (Accepted 2) (1 ∷ 2 ∷ []) ∷
    -- 16 for a row with no code: the direction, carrier entries, FE too, FC and FD; past the last; and as for the rows
    Digits (with (cc nested)) 0 0 (lent 1) (Refused 16 0) (lent 1) ∷
    Digits (with (cc nested)) 0 1 (lent 1) (Refused 16 0) (lent 1) ∷
    Digits (with (cc nested)) 0 2 (lent 1) (Refused 16 0) (lent 1) ∷
    Digits (with (cc nested)) 0 4 (lent 1) (Refused 16 0) (lent 1) ∷
    Digits (with (cc nested)) 0 6 (lent 9) (Refused 16 0) (lent 9) ∷
    Digits (with (cc nested)) 0 9 (lent 1) (Refused 16 0) (lent 1) ∷
    Digits (with all) 3 2 (lent 2) (Refused 16 0) (lent 2) ∷
    Digits (with (0x41 ∷ 0x01 ∷ [])) 0 0 [] (Refused 16 0) [] ∷
    Digits (K ++ (0x00 ∷ [])) 0 0 [] (Refused 16 0) [] ∷
    Digits (with (cc (coded (0x00 ∷ 0x0A ∷ [])))) 0 2 (lent 2) (Refused 13 14) (lent 2) ∷
    -- finding by which
    Finds 0x0C 0 (with all) (Accepted 8) one ∷
    Finds 0x0C 1 (with all) (Accepted 11) two ∷
    Finds 0x0C 2 (with all) (Accepted 20) three ∷
    Finds 0x0C 3 (with all) (Refused 16 0) [] ∷
    Finds 0x0C 1 (with (cc one ++ (0x41 ∷ 0x01 ∷ cc two))) (Accepted 13) two ∷
    Finds 0x01 0 (with (cc one ++ (0x41 ∷ 0x01 ∷ cc two))) (Accepted 10) (0x01 ∷ []) ∷
    Finds 0x01 1 (with (cc one ++ (0x41 ∷ 0x01 ∷ cc two))) (Refused 16 0) [] ∷
    Finds 0x0C 0 (K ++ (0x00 ∷ [])) (Refused 16 0) [] ∷
    Finds 0x0C 0 (with (cc one ++ cc [])) (Refused 12 9) [] ∷
    -- replacing and removing that one; the others stay as they are
    Edited (Replacing (cc three) 0) (with all) 2 (Accepted 26) (with (cc three ++ (cc two ++ cc three))) ∷
    Edited (Replacing (cc three) 1) (with all) 0 (Accepted 20) (with (cc one ++ (cc three ++ cc three)) ++ replicate 4 0x00) ∷
    Edited (Replacing (cc one) 2) (with all) 0 (Accepted 22) (with (cc one ++ (cc two ++ cc one)) ++ replicate 2 0x00) ∷
    Edited (Replacing (cc one) 3) (with all) 0 (Refused 16 0) (with all) ∷
    Edited (Removing 0x0C 0) (with all) 0 (Accepted 21) (with (cc two ++ cc three) ++ replicate 3 0x00) ∷
    Edited (Removing 0x0C 1) (with all) 0 (Accepted 15) (with (cc one ++ cc three) ++ replicate 9 0x00) ∷
    Edited (Removing 0x0C 2) (with all) 1 (Accepted 19) (with (cc one ++ cc two) ++ (replicate 5 0x00 ++ lent 1)) ∷
    Edited (Removing 0x0C 3) (with all) 0 (Refused 16 0) (with all) ∷
    Edited (Removing 0x01 1) (with (0x41 ∷ 0x01 ∷ [])) 0 (Refused 16 0) (with (0x41 ∷ 0x01 ∷ [])) ∷
    -- appending a third and a fourth
    Edited (Appending (cc three)) (with (cc one ++ cc two)) 5 (Accepted 24) (with all) ∷
    Edited (Appending (cc three)) (with (cc one ++ cc two)) 4 (Refused 15 0) (with (cc one ++ cc two) ++ lent 4) ∷
    Edited (Appending (cc one)) (with all) 3 (Refused 10 0) (with all ++ lent 3) ∷
    -- the new one's faults at 0, behind 16 and 10; the message's at its octet
    Edited (Replacing (cc (0x04 ∷ [])) 1) (with all) 0 (Refused 12 0) (with all) ∷
    Edited (Replacing (cc (coded (0x00 ∷ 0x0A ∷ []))) 1) (with all) 0 (Refused 13 0) (with all) ∷
    Edited (Replacing (cc (0x04 ∷ [])) 3) (with all) 0 (Refused 16 0) (with all) ∷
    Edited (Appending (cc [])) (with (cc one)) 2 (Refused 12 0) (with (cc one) ++ lent 2) ∷
    Edited (Appending (cc (coded (0x80 ∷ 0x11 ∷ [])))) (with (cc one)) 0 (Refused 13 0) (with (cc one)) ∷
    Edited (Appending (cc [])) (with all) 2 (Refused 10 0) (with all ++ lent 2) ∷
    Edited (Removing 0x0C 0) (with (cc (coded (0x00 ∷ 0x0A ∷ [])))) 0 (Refused 13 14) (with (cc (coded (0x00 ∷ 0x0A ∷ [])))) ∷
    -- writing: three CC, and a fourth; 12 and 13 at the header
    Written (plain_item 0xCC one ∷ plain_item 0xCC two ∷ plain_item 0xCC three ∷ []) (Accepted 24) ∷
    Written (replicate 4 (plain_item 0xCC one)) (Refused 10 15) ∷
    Written (plain_item 0xCC [] ∷ []) (Refused 12 6) ∷
    Written (plain_item 0xCC one ∷ plain_item 0xCC (0x04 ∷ []) ∷ []) (Refused 12 9) ∷
    Written (plain_item 0xCC (coded (0x00 ∷ 0x0A ∷ [])) ∷ []) (Refused 13 6) ∷
    Written (plain_item 0xCC one ∷ plain_item 0xCC (coded (0x00 ∷ 0xA0 ∷ [])) ∷ []) (Refused 13 9) ∷
    Written (plain_item 0xCC (coded (0x00 ∷ 0x0A ∷ []) ++ (0xF7 ∷ 0x00 ∷ [])) ∷ []) (Refused 12 6) ∷
    -- the limits: 54 transfer parameters and 61 rows
    Read every_name (Accepted 129) ∷
    Again every_name (Accepted 129) ∷
    Written (replicate 54 (plain_item 0xCC one)) (Refused 10 15) ∷
    Written (replicate 55 (plain_item 0xCC one)) (Refused 1 0) ∷
    Spans every_row 61 (Accepted 61) ∷
    Spans every_row 60 (Refused 15 0) ∷
    -- opened, and laid out again
    Opens one (opened 0 []) one ∷
    Opens two (opened 1 (carrier 0xF8 (dependent 0xFE (1 ∷ 2 ∷ []) ∷ []) ∷ [])) two ∷
    Opens nested
    (opened 2
    (carrier 0xF9
    (dependent 0xFC (0xAA ∷ []) ∷ dependent 0xFE (1 ∷ 2 ∷ 3 ∷ []) ∷ dependent 0xFD [] ∷ dependent 0xFE [] ∷ [])
    ∷ carrier 0xFE (dependent 0xFE (0 ∷ 1 ∷ 2 ∷ 0 ∷ 0 ∷ 9 ∷ []) ∷ [])
    ∷ carrier 0xF8 [] ∷ []))
    nested ∷
    -- what may be said: the direction, the tags of both levels, digits
    May (opened_carriers nested) true ∷
    May (opened 3 []) true ∷
    May (opened 4 []) false ∷
    May (opened 0 (carrier 0xF7 [] ∷ [])) false ∷
    May (opened 0 (carrier 0xFF [] ∷ [])) false ∷
    May (opened 0 (carrier 0xF8 (dependent 0xFB [] ∷ []) ∷ [])) false ∷
    May (opened 0 (carrier 0xF8 (dependent 0xFF [] ∷ []) ∷ [])) false ∷
    May (opened 0 (carrier 0xF8 (dependent 0xFC (0xFF ∷ []) ∷ []) ∷ [])) true ∷
    May (opened 0 (carrier 0xF8 (dependent 0xFE (0 ∷ 9 ∷ []) ∷ []) ∷ [])) true ∷
    May (opened 0 (carrier 0xF8 (dependent 0xFE (1 ∷ 10 ∷ []) ∷ []) ∷ [])) false ∷ []

-- what the definitions say of each case is what the table says
pub partners : map as_defined cases ≡ cases
unfolding after_of lead_of common_extent_of extent_of name_used pli_right often_of zeroes_of form_of halves joined digit_of code_of is_code halves_fault
    digits_fault digits_of packed number_fault_in is_kind fields_of numbers_drawn drawn_fault check_right parameters_fault order_fault entries_formed
    entries_fault code_formed code_fault code_digits carriers_formed carriers_fault calling_fault generic_fault dialled_fault two_fault charging_fault
    fault_of holding_of item_of contents_of layout_item layout_items layout_part layout length_right fault_in value_fits walk pars transfer_by
    transfers_verdict_by value_allowed common_form end_of data_by common_by message_verdict_by verdict_by commons_by transfers_by open_common_by record_by
    item_writing items_writing data_writing part_writing parts_writing over_limits record_writing transfer_in transfer_among transfer_found
    transfer_rows common_rows_by rows_by spans_by edit_refusal instead edited_items edited record_editing editing_of buffer_of carriers_right
    code_octets lay_carriers opened_carriers flat_entries entries_of carrier_rows_of carriers_answer digits_answer digits_given pars_good bad_at
    carrier_rows_octets octet_carriers_table
partners = refl
