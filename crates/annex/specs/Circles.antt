-- Connection orders, computed: document 02, request b. The forms, and the whole grid of forms and headers, drawn as the annex draws them;
-- then, under one statement, orders and their listings, each refusal on both sides of its limit, edits, records, and the octets for Rust
-- and C.
use Rattle.std.specs.Prelude.{ℕ, zero, suc, ◌+◌, ◌*◌, ◌≡◌, refl, Bool, true, false, cond, List, [], ◌∷◌, ◌++◌, map, length, replicate}
use Rattle.annex.specs.Units.{after_of, lead_of, common_extent_of, extent_of}
use Rattle.annex.specs.Heads.{value_allowed, among, name_used, pli_right, often_of, zeroes_of, form_of}
use Rattle.annex.specs.Digits.{halves, is_code, halves_fault, digits_fault, number_fault_in}
use Rattle.annex.specs.Rates.{total}
use Rattle.annex.specs.Orders.{
  order_forms,
  order_headers,
  forms_of,
  layout_of,
  may_stand,
  order_after,
  outside_fault,
  forward_fault,
  control_fault,
  logic_fault,
  layout_fault,
  own_fault,
  parameter_fault,
  parameters_fault,
  order_fault,
}
use Rattle.annex.specs.Contents.{fault_of}
use Rattle.annex.specs.Items.{Part, plain_item, value_part, data_part, holding_of, item_of, contents_of}
use Rattle.annex.specs.Layout.{layout_item, layout_items, layout_part, layout}
use Rattle.annex.specs.Allowed.{length_right, fault_in, value_fits}
use Rattle.annex.specs.Walk.{walk, pars}
use Rattle.annex.specs.Reading.{
  common_form,
  end_of,
  transfer_by,
  transfers_verdict_by,
  data_by,
  common_by,
  message_verdict_by,
  verdict_by,
  commons_by,
  transfers_by,
  open_common_by,
  record_by,
}
use Rattle.annex.specs.Writing.{item_writing, items_writing, data_writing, part_writing, parts_writing, over_limits, record_writing}
use Rattle.annex.specs.Finding.{transfer_in, transfer_among, transfer_found}
use Rattle.annex.specs.Editing.{Edit, edit_refusal, instead, edited_items, edited, record_editing, editing_of, buffer_of}
use Rattle.annex.specs.Editing.Edit.{Replacing, Appending}
use Rattle.annex.specs.Opened.{order_listing, order_rows_of, order_answer, order_table}
use Rattle.annex.specs.Packed.{rows_octets, octet_order, octet_order_table}
use Rattle.annex.specs.Bench.{K}
use Rattle.annex.specs.Answers.{Answer, Accepted, Refused, Fault, Bad}
use Rattle.annex.specs.declared.Row.{Row}

-- ---- the grid

-- a line of the annex's tables: its label, and in each column a circle or none
record Line : Type 0 where
  label : ℕ
  circles : List Bool

abbrev line : ℕ → List Bool → Line
line l cs = record { label = l; circles = cs }

abbrev o : Bool
o = true

abbrev ‧ : Bool
‧ = false

-- the numbers below n
abbrev up_to : ℕ → List ℕ
up_to zero = []
up_to (suc n) = up_to n ++ (n ∷ [])

-- how many of some numbers pass a test
abbrev how_many : (ℕ → Bool) → List ℕ → ℕ
how_many test ns = total (map (λ n. cond (test n) 1 0) ns)

-- table 2.3.1: C0 before a line, C1 above it; 43 and 45 stay out
pub forms_drawn :
    map (λ c0. line c0 (map (λ c1. among (16 * c0 + c1) order_forms) (up_to 16))) (2 ∷ 3 ∷ 4 ∷ []) ≡
    --     0   1   2   3   4   5   6   7   8   9   A   B   C   D   E   F
    line 2 (‧ ∷ o ∷ o ∷ o ∷ o ∷ o ∷ o ∷ o ∷ o ∷ o ∷ ‧ ∷ o ∷ o ∷ o ∷ o ∷ ‧ ∷ []) ∷
    line 3 (‧ ∷ o ∷ o ∷ o ∷ o ∷ o ∷ o ∷ o ∷ o ∷ o ∷ o ∷ o ∷ o ∷ o ∷ o ∷ o ∷ []) ∷
    line 4 (‧ ∷ o ∷ o ∷ ‧ ∷ o ∷ ‧ ∷ o ∷ o ∷ ‧ ∷ ‧ ∷ ‧ ∷ ‧ ∷ ‧ ∷ ‧ ∷ ‧ ∷ ‧ ∷ []) ∷ []
forms_drawn = refl

-- there are no others
pub no_other_form : how_many (λ f. among f order_forms) (up_to 256) ≡ 33
no_other_form = refl

-- table 2.3.2: its headers, D3 too, and a part of it with these forms
abbrev table_headers : List ℕ
table_headers = order_headers ++ (0xD3 ∷ [])

abbrev part : List ℕ → List Line
part fs = map (λ h. line h (map (λ f. may_stand f h) fs)) table_headers

-- its three parts, with document 02's corrections: no circle is left of D3, 43 and 45
pub part_one :
    part (0x21 ∷ 0x22 ∷ 0x23 ∷ 0x24 ∷ 0x25 ∷ 0x26 ∷ 0x27 ∷ 0x28 ∷ 0x29 ∷ 0x2B ∷ 0x2C ∷ 0x2D ∷ 0x2E ∷ []) ≡
    --        21  22  23  24  25  26  27  28  29  2B  2C  2D  2E
    line 0x41 (‧ ∷ ‧ ∷ o ∷ ‧ ∷ ‧ ∷ ‧ ∷ ‧ ∷ ‧ ∷ ‧ ∷ o ∷ ‧ ∷ ‧ ∷ ‧ ∷ []) ∷
    line 0x42 (‧ ∷ ‧ ∷ ‧ ∷ ‧ ∷ ‧ ∷ ‧ ∷ ‧ ∷ o ∷ ‧ ∷ ‧ ∷ ‧ ∷ ‧ ∷ ‧ ∷ []) ∷
    line 0x43 (‧ ∷ ‧ ∷ ‧ ∷ ‧ ∷ ‧ ∷ ‧ ∷ ‧ ∷ ‧ ∷ ‧ ∷ ‧ ∷ ‧ ∷ ‧ ∷ o ∷ []) ∷
    line 0x91 (o ∷ o ∷ ‧ ∷ ‧ ∷ o ∷ o ∷ ‧ ∷ ‧ ∷ ‧ ∷ o ∷ o ∷ o ∷ ‧ ∷ []) ∷
    line 0x92 (‧ ∷ ‧ ∷ ‧ ∷ ‧ ∷ ‧ ∷ ‧ ∷ ‧ ∷ ‧ ∷ ‧ ∷ ‧ ∷ ‧ ∷ ‧ ∷ o ∷ []) ∷
    line 0xC9 (‧ ∷ o ∷ ‧ ∷ o ∷ o ∷ o ∷ o ∷ ‧ ∷ o ∷ o ∷ o ∷ o ∷ ‧ ∷ []) ∷
    line 0xCA (‧ ∷ o ∷ ‧ ∷ ‧ ∷ o ∷ o ∷ ‧ ∷ ‧ ∷ ‧ ∷ ‧ ∷ ‧ ∷ ‧ ∷ ‧ ∷ []) ∷
    line 0xCB (‧ ∷ ‧ ∷ ‧ ∷ ‧ ∷ ‧ ∷ ‧ ∷ ‧ ∷ ‧ ∷ ‧ ∷ ‧ ∷ ‧ ∷ ‧ ∷ ‧ ∷ []) ∷
    line 0xCC (‧ ∷ ‧ ∷ ‧ ∷ ‧ ∷ ‧ ∷ ‧ ∷ ‧ ∷ ‧ ∷ ‧ ∷ ‧ ∷ o ∷ ‧ ∷ ‧ ∷ []) ∷
    line 0xCD (‧ ∷ ‧ ∷ ‧ ∷ ‧ ∷ ‧ ∷ ‧ ∷ ‧ ∷ ‧ ∷ ‧ ∷ ‧ ∷ ‧ ∷ ‧ ∷ ‧ ∷ []) ∷
    line 0xCE (‧ ∷ ‧ ∷ ‧ ∷ ‧ ∷ ‧ ∷ ‧ ∷ ‧ ∷ ‧ ∷ ‧ ∷ ‧ ∷ ‧ ∷ ‧ ∷ ‧ ∷ []) ∷
    line 0xCF (‧ ∷ ‧ ∷ ‧ ∷ ‧ ∷ ‧ ∷ ‧ ∷ ‧ ∷ ‧ ∷ ‧ ∷ ‧ ∷ ‧ ∷ ‧ ∷ ‧ ∷ []) ∷
    line 0xD2 (‧ ∷ ‧ ∷ ‧ ∷ ‧ ∷ ‧ ∷ ‧ ∷ ‧ ∷ ‧ ∷ ‧ ∷ ‧ ∷ ‧ ∷ ‧ ∷ ‧ ∷ []) ∷
    line 0xD3 (‧ ∷ ‧ ∷ ‧ ∷ ‧ ∷ ‧ ∷ ‧ ∷ ‧ ∷ ‧ ∷ ‧ ∷ ‧ ∷ ‧ ∷ ‧ ∷ ‧ ∷ []) ∷ []
unfolding forms_of
part_one = refl

pub part_two :
    part (0x31 ∷ 0x32 ∷ 0x33 ∷ 0x34 ∷ 0x35 ∷ 0x36 ∷ 0x37 ∷ 0x38 ∷ 0x39 ∷ 0x3A ∷ 0x3B ∷ 0x3C ∷ 0x3D ∷ 0x3E ∷ 0x3F ∷ []) ≡
    --        31  32  33  34  35  36  37  38  39  3A  3B  3C  3D  3E  3F
    line 0x41 (o ∷ ‧ ∷ ‧ ∷ ‧ ∷ ‧ ∷ ‧ ∷ ‧ ∷ ‧ ∷ ‧ ∷ ‧ ∷ ‧ ∷ ‧ ∷ o ∷ ‧ ∷ ‧ ∷ []) ∷
    line 0x42 (‧ ∷ ‧ ∷ ‧ ∷ ‧ ∷ ‧ ∷ ‧ ∷ ‧ ∷ ‧ ∷ ‧ ∷ ‧ ∷ ‧ ∷ ‧ ∷ ‧ ∷ ‧ ∷ ‧ ∷ []) ∷
    line 0x43 (‧ ∷ ‧ ∷ ‧ ∷ ‧ ∷ ‧ ∷ ‧ ∷ ‧ ∷ ‧ ∷ ‧ ∷ ‧ ∷ ‧ ∷ ‧ ∷ ‧ ∷ ‧ ∷ ‧ ∷ []) ∷
    line 0x91 (‧ ∷ o ∷ o ∷ o ∷ o ∷ ‧ ∷ o ∷ ‧ ∷ o ∷ o ∷ ‧ ∷ o ∷ ‧ ∷ o ∷ o ∷ []) ∷
    line 0x92 (‧ ∷ ‧ ∷ ‧ ∷ ‧ ∷ ‧ ∷ ‧ ∷ ‧ ∷ ‧ ∷ ‧ ∷ ‧ ∷ ‧ ∷ ‧ ∷ ‧ ∷ ‧ ∷ ‧ ∷ []) ∷
    line 0xC9 (o ∷ ‧ ∷ o ∷ o ∷ o ∷ o ∷ ‧ ∷ ‧ ∷ ‧ ∷ ‧ ∷ ‧ ∷ ‧ ∷ ‧ ∷ ‧ ∷ ‧ ∷ []) ∷
    line 0xCA (‧ ∷ ‧ ∷ o ∷ ‧ ∷ o ∷ ‧ ∷ ‧ ∷ ‧ ∷ ‧ ∷ ‧ ∷ ‧ ∷ ‧ ∷ ‧ ∷ ‧ ∷ ‧ ∷ []) ∷
    line 0xCB (‧ ∷ ‧ ∷ ‧ ∷ ‧ ∷ ‧ ∷ ‧ ∷ o ∷ o ∷ o ∷ o ∷ o ∷ o ∷ o ∷ o ∷ o ∷ []) ∷
    line 0xCC (‧ ∷ ‧ ∷ ‧ ∷ o ∷ ‧ ∷ ‧ ∷ ‧ ∷ ‧ ∷ ‧ ∷ ‧ ∷ ‧ ∷ ‧ ∷ ‧ ∷ ‧ ∷ ‧ ∷ []) ∷
    line 0xCD (o ∷ ‧ ∷ ‧ ∷ ‧ ∷ ‧ ∷ ‧ ∷ ‧ ∷ ‧ ∷ ‧ ∷ ‧ ∷ ‧ ∷ ‧ ∷ ‧ ∷ ‧ ∷ ‧ ∷ []) ∷
    line 0xCE (‧ ∷ ‧ ∷ ‧ ∷ ‧ ∷ ‧ ∷ ‧ ∷ o ∷ ‧ ∷ o ∷ o ∷ ‧ ∷ o ∷ ‧ ∷ o ∷ o ∷ []) ∷
    line 0xCF (‧ ∷ ‧ ∷ ‧ ∷ ‧ ∷ ‧ ∷ ‧ ∷ ‧ ∷ ‧ ∷ ‧ ∷ ‧ ∷ ‧ ∷ ‧ ∷ o ∷ ‧ ∷ ‧ ∷ []) ∷
    line 0xD2 (o ∷ ‧ ∷ ‧ ∷ ‧ ∷ ‧ ∷ ‧ ∷ ‧ ∷ ‧ ∷ ‧ ∷ ‧ ∷ ‧ ∷ ‧ ∷ o ∷ ‧ ∷ ‧ ∷ []) ∷
    line 0xD3 (‧ ∷ ‧ ∷ ‧ ∷ ‧ ∷ ‧ ∷ ‧ ∷ ‧ ∷ ‧ ∷ ‧ ∷ ‧ ∷ ‧ ∷ ‧ ∷ ‧ ∷ ‧ ∷ ‧ ∷ []) ∷ []
unfolding forms_of
part_two = refl

pub part_three :
    part (0x41 ∷ 0x42 ∷ 0x43 ∷ 0x44 ∷ 0x45 ∷ 0x46 ∷ 0x47 ∷ []) ≡
    --        41  42  43  44  45  46  47
    line 0x41 (‧ ∷ ‧ ∷ ‧ ∷ ‧ ∷ ‧ ∷ o ∷ ‧ ∷ []) ∷
    line 0x42 (‧ ∷ ‧ ∷ ‧ ∷ ‧ ∷ ‧ ∷ ‧ ∷ ‧ ∷ []) ∷
    line 0x43 (‧ ∷ ‧ ∷ ‧ ∷ ‧ ∷ ‧ ∷ ‧ ∷ ‧ ∷ []) ∷
    line 0x91 (o ∷ ‧ ∷ ‧ ∷ ‧ ∷ ‧ ∷ o ∷ o ∷ []) ∷
    line 0x92 (‧ ∷ ‧ ∷ ‧ ∷ ‧ ∷ ‧ ∷ ‧ ∷ ‧ ∷ []) ∷
    line 0xC9 (‧ ∷ ‧ ∷ ‧ ∷ ‧ ∷ ‧ ∷ ‧ ∷ ‧ ∷ []) ∷
    line 0xCA (‧ ∷ ‧ ∷ ‧ ∷ ‧ ∷ ‧ ∷ ‧ ∷ ‧ ∷ []) ∷
    line 0xCB (o ∷ o ∷ ‧ ∷ o ∷ ‧ ∷ o ∷ o ∷ []) ∷
    line 0xCC (‧ ∷ ‧ ∷ ‧ ∷ ‧ ∷ ‧ ∷ ‧ ∷ ‧ ∷ []) ∷
    line 0xCD (‧ ∷ ‧ ∷ ‧ ∷ ‧ ∷ ‧ ∷ ‧ ∷ ‧ ∷ []) ∷
    line 0xCE (o ∷ ‧ ∷ ‧ ∷ ‧ ∷ ‧ ∷ ‧ ∷ ‧ ∷ []) ∷
    line 0xCF (‧ ∷ ‧ ∷ ‧ ∷ ‧ ∷ ‧ ∷ ‧ ∷ ‧ ∷ []) ∷
    line 0xD2 (‧ ∷ ‧ ∷ ‧ ∷ ‧ ∷ ‧ ∷ ‧ ∷ ‧ ∷ []) ∷
    line 0xD3 (‧ ∷ ‧ ∷ ‧ ∷ ‧ ∷ ‧ ∷ ‧ ∷ ‧ ∷ []) ∷ []
unfolding forms_of
part_three = refl

-- no header may stand under another form: of all octets as form and all octets as header there are as many as there are circles
pub no_other : total (map (λ h. how_many (λ f. may_stand f h) (up_to 256)) (up_to 256)) ≡ 74
unfolding forms_of
no_other = refl

-- ---- the cases

-- E0's contents in a message, the answer where fourteen rows are lent, and the rows; E0's contents, and what is wrong with them; a
-- message, how many rows are lent, and the answer; E0's contents in a message, how many rows are lent, and what they then are; the same
-- in octets, with the answer; an edit of a message with so much room behind it, and the answer; a record, and the answer to writing it,
-- room aside
pub data Case : Type 0 where
  Opens : List ℕ → Answer → List Row → Case
  Wrong : List ℕ → Fault → Case
  Asked : List ℕ → ℕ → Answer → Case
  Kept : List ℕ → ℕ → List Row → Case
  Given : List ℕ → List ℕ → Answer → List ℕ → Case
  Edited : Edit → List ℕ → ℕ → Answer → Case
  Written : List Part → Answer → Case

-- E0 with the contents s, and a message that holds it: its header at 6, its contents from 8 on
abbrev e0 : List ℕ → List ℕ
e0 s = 0xE0 ∷ length s ∷ s

abbrev with : List ℕ → List ℕ
with s = K ++ ((0xC5 ∷ length (e0 s) ∷ e0 s) ++ (0x00 ∷ []))

abbrev record_with : List ℕ → List Part
record_with s = value_part 0x01 0x01 ∷ value_part 0x06 0x11 ∷ data_part (plain_item 0xE0 s ∷ []) ∷ []

-- a row, what is lent, and one order with its octets for Rust and C
abbrev at : ℕ → ℕ → ℕ → Row
at p h n = record { offset = p; header = h; len = n }

abbrev lent_row : Row
lent_row = at 7 7 7

abbrev lent : ℕ → List ℕ
lent n = replicate n 0xEE

abbrev trunk : List ℕ
trunk = 0x23 ∷ 0x41 ∷ 0x05 ∷ []

abbrev given : List ℕ
given = 8 ∷ 0 ∷ 0x23 ∷ 0 ∷ 0 ∷ 9 ∷ 0 ∷ 0x41 ∷ 1 ∷ 0 ∷ []

abbrev as_defined : Case → Case
as_defined (Opens s a rs) = Opens s (order_answer (with s) 14) (order_rows_of (with s))
as_defined (Wrong s f) = Wrong s (order_fault s)
as_defined (Asked m room a) = Asked m room (order_answer m room)
as_defined (Kept s room rs) = Kept s room (order_table (with s) (replicate room lent_row))
as_defined (Given s room a now) = Given s room (octet_order (with s) (length room)) (octet_order_table (with s) room)
as_defined (Edited e m k a) = Edited e m k (editing_of e (m ++ lent k) (length m))
as_defined (Written r a) = Written r (record_writing r)

-- a form with no parameter
abbrev alone : ℕ → Case
alone f = Opens (f ∷ []) (Accepted 1) (at 8 f 0 ∷ [])

abbrev cases : List Case
cases =
    -- the form alone, at both ends of each run of forms; beside the runs, and 43 and 45: 19; no form octet: 12
    alone 0x21 ∷
    alone 0x29 ∷
    alone 0x2B ∷
    alone 0x2E ∷
    alone 0x31 ∷
    alone 0x3F ∷
    alone 0x41 ∷
    alone 0x42 ∷
    alone 0x44 ∷
    alone 0x46 ∷
    alone 0x47 ∷
    Opens (0x00 ∷ []) (Refused 19 6) [] ∷
    Opens (0x20 ∷ []) (Refused 19 6) [] ∷
    Opens (0x2A ∷ []) (Refused 19 6) [] ∷
    Opens (0x2F ∷ []) (Refused 19 6) [] ∷
    Opens (0x30 ∷ []) (Refused 19 6) [] ∷
    Opens (0x40 ∷ []) (Refused 19 6) [] ∷
    Opens (0x43 ∷ []) (Refused 19 6) [] ∷
    Opens (0x45 ∷ []) (Refused 19 6) [] ∷
    Opens (0x48 ∷ []) (Refused 19 6) [] ∷
    Opens (0xFF ∷ []) (Refused 19 6) [] ∷
    Opens [] (Refused 12 6) [] ∷
    -- each header
    Opens (0x23 ∷ 0x41 ∷ 0x00 ∷ []) (Accepted 2) (at 8 0x23 0 ∷ at 9 0x41 1 ∷ []) ∷
    Opens (0x28 ∷ 0x42 ∷ 0x01 ∷ 0xFF ∷ []) (Accepted 2) (at 8 0x28 0 ∷ at 9 0x42 2 ∷ []) ∷
    Opens (0x2E ∷ 0x43 ∷ 0x80 ∷ []) (Accepted 2) (at 8 0x2E 0 ∷ at 9 0x43 1 ∷ []) ∷
    Opens (0x21 ∷ 0x91 ∷ 0x03 ∷ 0x21 ∷ 0x0A ∷ []) (Accepted 2) (at 8 0x21 0 ∷ at 9 0x91 3 ∷ []) ∷
    Opens (0x21 ∷ 0x91 ∷ 0x02 ∷ 0x21 ∷ []) (Accepted 2) (at 8 0x21 0 ∷ at 9 0x91 2 ∷ []) ∷
    Opens (0x21 ∷ 0x91 ∷ 0x00 ∷ []) (Accepted 2) (at 8 0x21 0 ∷ at 9 0x91 1 ∷ []) ∷
    Opens (0x2E ∷ 0x92 ∷ 0x04 ∷ 0x03 ∷ 0x10 ∷ 0x21 ∷ 0x03 ∷ []) (Accepted 2) (at 8 0x2E 0 ∷ at 9 0x92 5 ∷ []) ∷
    Opens (0x2E ∷ 0x92 ∷ 0x03 ∷ 0x83 ∷ 0xF0 ∷ 0x09 ∷ []) (Accepted 2) (at 8 0x2E 0 ∷ at 9 0x92 4 ∷ []) ∷
    Opens (0x2E ∷ 0x92 ∷ 0x02 ∷ 0x00 ∷ 0x00 ∷ []) (Accepted 2) (at 8 0x2E 0 ∷ at 9 0x92 3 ∷ []) ∷
    Opens (0x24 ∷ 0xC9 ∷ 0x05 ∷ 0xFF ∷ 0x03 ∷ 0x31 ∷ 0x3B ∷ 0x03 ∷ []) (Accepted 2) (at 8 0x24 0 ∷ at 9 0xC9 6 ∷ []) ∷
    Opens (0x22 ∷ 0xCA ∷ 0x03 ∷ 0x00 ∷ 0x00 ∷ 0x39 ∷ []) (Accepted 2) (at 8 0x22 0 ∷ at 9 0xCA 4 ∷ []) ∷
    Opens (0x38 ∷ 0xCB ∷ 0x00 ∷ []) (Accepted 2) (at 8 0x38 0 ∷ at 9 0xCB 1 ∷ []) ∷
    Opens (0x2C ∷ 0xCC ∷ 0x02 ∷ 0xFF ∷ 0x03 ∷ []) (Accepted 2) (at 8 0x2C 0 ∷ at 9 0xCC 3 ∷ []) ∷
    Opens (0x34 ∷ 0xCC ∷ 0x04 ∷ 0x01 ∷ 0x00 ∷ 0xFF ∷ 0x00 ∷ []) (Accepted 2) (at 8 0x34 0 ∷ at 9 0xCC 5 ∷ []) ∷
    Opens (0x31 ∷ 0xCD ∷ 0x03 ∷ 0x00 ∷ 0x01 ∷ 0x03 ∷ []) (Accepted 2) (at 8 0x31 0 ∷ at 9 0xCD 4 ∷ []) ∷
    Opens (0x37 ∷ 0xCE ∷ 0x02 ∷ 0x00 ∷ 0xFF ∷ []) (Accepted 2) (at 8 0x37 0 ∷ at 9 0xCE 3 ∷ []) ∷
    Opens (0x3D ∷ 0xCF ∷ 0x01 ∷ 0x41 ∷ []) (Accepted 2) (at 8 0x3D 0 ∷ at 9 0xCF 2 ∷ []) ∷
    Opens (0x31 ∷ 0xD2 ∷ 0x30 ∷ 0x35 ∷ 0x39 ∷ []) (Accepted 2) (at 8 0x31 0 ∷ at 9 0xD2 3 ∷ []) ∷
    -- several, in any order
    Opens (0x31 ∷ 0xD2 ∷ 0x30 ∷ 0x31 ∷ 0x32 ∷ 0x41 ∷ 0x01 ∷ 0xCD ∷ 0x03 ∷ 0x00 ∷ 0x01 ∷ 0x03 ∷ 0xC9 ∷ 0x03 ∷ 0x00 ∷ 0x00 ∷ 0x03 ∷ [])
    (Accepted 5)
    (at 8 0x31 0 ∷ at 9 0xD2 3 ∷ at 13 0x41 1 ∷ at 15 0xCD 4 ∷ at 20 0xC9 4 ∷ []) ∷
    Opens (0x2E ∷ 0x92 ∷ 0x02 ∷ 0x03 ∷ 0x10 ∷ 0x43 ∷ 0x81 ∷ []) (Accepted 3) (at 8 0x2E 0 ∷ at 9 0x92 3 ∷ at 13 0x43 1 ∷ []) ∷
    Opens (0x2E ∷ 0x43 ∷ 0x81 ∷ 0x92 ∷ 0x02 ∷ 0x03 ∷ 0x10 ∷ []) (Accepted 3) (at 8 0x2E 0 ∷ at 9 0x43 1 ∷ at 11 0x92 3 ∷ []) ∷
    Opens (0x21 ∷ 0x91 ∷ 0xFF ∷ (replicate 127 0x11 ++ (0x01 ∷ []))) (Accepted 2) (at 8 0x21 0 ∷ at 9 0x91 129 ∷ []) ∷
    -- 19: in no row, undrawn, not under this form, repeated; before 12 of the same parameter, behind 12 and 13 of an earlier one
    Opens (0x21 ∷ 0x40 ∷ 0x00 ∷ []) (Refused 19 6) [] ∷
    Opens (0x43 ∷ 0xD3 ∷ 0x01 ∷ []) (Refused 19 6) [] ∷
    Opens (0x21 ∷ 0xD3 ∷ 0x01 ∷ []) (Refused 19 6) [] ∷
    Opens (0x21 ∷ 0x41 ∷ 0x00 ∷ []) (Refused 19 6) [] ∷
    Opens (0x23 ∷ 0x91 ∷ 0x00 ∷ []) (Refused 19 6) [] ∷
    Opens (0x31 ∷ 0x41 ∷ 0x01 ∷ 0x41 ∷ 0x01 ∷ []) (Refused 19 6) [] ∷
    Opens (0x31 ∷ 0x41 ∷ 0x01 ∷ 0xD2 ∷ 0x30 ∷ 0x30 ∷ 0x30 ∷ 0x41 ∷ []) (Refused 19 6) [] ∷
    Opens (0x21 ∷ 0x41 ∷ []) (Refused 19 6) [] ∷
    Opens (0x31 ∷ 0x41 ∷ 0x01 ∷ 0xD2 ∷ 0x30 ∷ 0x30 ∷ 0x21 ∷ 0x41 ∷ 0x01 ∷ []) (Refused 13 14) [] ∷
    Opens (0x28 ∷ 0x42 ∷ 0x00 ∷ 0x42 ∷ 0x01 ∷ 0x01 ∷ []) (Refused 12 6) [] ∷
    Opens (0x31 ∷ 0x41 ∷ 0x01 ∷ 0xD2 ∷ 0x30 ∷ 0x30 ∷ []) (Refused 12 6) [] ∷
    -- 12: cut by the end
    Opens (0x23 ∷ 0x41 ∷ []) (Refused 12 6) [] ∷
    Opens (0x28 ∷ 0x42 ∷ 0x01 ∷ []) (Refused 12 6) [] ∷
    Opens (0x2E ∷ 0x43 ∷ []) (Refused 12 6) [] ∷
    Opens (0x21 ∷ 0x91 ∷ []) (Refused 12 6) [] ∷
    Opens (0x21 ∷ 0x91 ∷ 0x01 ∷ []) (Refused 12 6) [] ∷
    Opens (0x21 ∷ 0x91 ∷ 0x03 ∷ 0x21 ∷ []) (Refused 12 6) [] ∷
    Opens (0x2E ∷ 0x92 ∷ []) (Refused 12 6) [] ∷
    Opens (0x2E ∷ 0x92 ∷ 0x04 ∷ 0x03 ∷ 0x10 ∷ 0x21 ∷ []) (Refused 12 6) [] ∷
    Opens (0x24 ∷ 0xC9 ∷ []) (Refused 12 6) [] ∷
    Opens (0x24 ∷ 0xC9 ∷ 0x04 ∷ 0x00 ∷ 0x00 ∷ 0x31 ∷ []) (Refused 12 6) [] ∷
    Opens (0x22 ∷ 0xCA ∷ []) (Refused 12 6) [] ∷
    Opens (0x38 ∷ 0xCB ∷ []) (Refused 12 6) [] ∷
    Opens (0x38 ∷ 0xCB ∷ 0x01 ∷ []) (Refused 12 6) [] ∷
    Opens (0x2C ∷ 0xCC ∷ []) (Refused 12 6) [] ∷
    Opens (0x2C ∷ 0xCC ∷ 0x02 ∷ 0x01 ∷ []) (Refused 12 6) [] ∷
    Opens (0x31 ∷ 0xCD ∷ []) (Refused 12 6) [] ∷
    Opens (0x37 ∷ 0xCE ∷ []) (Refused 12 6) [] ∷
    Opens (0x37 ∷ 0xCE ∷ 0x02 ∷ 0x00 ∷ []) (Refused 12 6) [] ∷
    Opens (0x3D ∷ 0xCF ∷ []) (Refused 12 6) [] ∷
    Opens (0x31 ∷ 0xD2 ∷ 0x30 ∷ 0x31 ∷ []) (Refused 12 6) [] ∷
    -- 12: length, bit, repeat count, too few
    Opens (0x28 ∷ 0x42 ∷ 0x00 ∷ []) (Refused 12 6) [] ∷
    Opens (0x28 ∷ 0x42 ∷ 0x02 ∷ 0x01 ∷ 0x01 ∷ []) (Refused 12 6) [] ∷
    Opens (0x2E ∷ 0x43 ∷ 0x7F ∷ []) (Refused 12 6) [] ∷
    Opens (0x2E ∷ 0x92 ∷ 0x00 ∷ []) (Refused 12 6) [] ∷
    Opens (0x2E ∷ 0x92 ∷ 0x01 ∷ 0x03 ∷ []) (Refused 12 6) [] ∷
    Opens (0x2E ∷ 0x92 ∷ 0x02 ∷ 0x83 ∷ 0x10 ∷ []) (Refused 12 6) [] ∷
    Opens (0x2E ∷ 0x92 ∷ 0x02 ∷ 0x03 ∷ 0x11 ∷ []) (Refused 12 6) [] ∷
    Opens (0x2E ∷ 0x92 ∷ 0x02 ∷ 0x03 ∷ 0x18 ∷ []) (Refused 12 6) [] ∷
    Opens (0x24 ∷ 0xC9 ∷ 0x00 ∷ []) (Refused 12 6) [] ∷
    Opens (0x24 ∷ 0xC9 ∷ 0x01 ∷ 0x00 ∷ []) (Refused 12 6) [] ∷
    Opens (0x24 ∷ 0xC9 ∷ 0x02 ∷ 0x00 ∷ 0x00 ∷ []) (Refused 12 6) [] ∷
    Opens (0x24 ∷ 0xC9 ∷ 0x03 ∷ 0x00 ∷ 0x04 ∷ 0x31 ∷ []) (Refused 12 6) [] ∷
    Opens (0x22 ∷ 0xCA ∷ 0x03 ∷ 0x00 ∷ 0xFF ∷ 0x31 ∷ []) (Refused 12 6) [] ∷
    Opens (0x31 ∷ 0xCD ∷ 0x02 ∷ 0x00 ∷ 0x00 ∷ []) (Refused 12 6) [] ∷
    Opens (0x31 ∷ 0xCD ∷ 0x03 ∷ 0x00 ∷ 0x04 ∷ 0x31 ∷ []) (Refused 12 6) [] ∷
    Opens (0x2C ∷ 0xCC ∷ 0x00 ∷ []) (Refused 12 6) [] ∷
    Opens (0x2C ∷ 0xCC ∷ 0x01 ∷ 0x00 ∷ []) (Refused 12 6) [] ∷
    Opens (0x2C ∷ 0xCC ∷ 0x02 ∷ 0x00 ∷ 0x04 ∷ []) (Refused 12 6) [] ∷
    -- 13: a digit, low half and high, filler; a character
    Opens (0x21 ∷ 0x91 ∷ 0x01 ∷ 0x00 ∷ []) (Refused 13 11) [] ∷
    Opens (0x21 ∷ 0x91 ∷ 0x01 ∷ 0x0D ∷ []) (Refused 13 11) [] ∷
    Opens (0x21 ∷ 0x91 ∷ 0x02 ∷ 0x01 ∷ []) (Refused 13 11) [] ∷
    Opens (0x21 ∷ 0x91 ∷ 0x02 ∷ 0xD1 ∷ []) (Refused 13 11) [] ∷
    Opens (0x21 ∷ 0x91 ∷ 0x01 ∷ 0x11 ∷ []) (Refused 13 11) [] ∷
    Opens (0x2E ∷ 0x92 ∷ 0x03 ∷ 0x03 ∷ 0x10 ∷ 0x0A ∷ []) (Refused 13 13) [] ∷
    Opens (0x2E ∷ 0x92 ∷ 0x03 ∷ 0x03 ∷ 0x10 ∷ 0xB0 ∷ []) (Refused 13 13) [] ∷
    Opens (0x2E ∷ 0x92 ∷ 0x03 ∷ 0x03 ∷ 0x10 ∷ 0xC0 ∷ []) (Refused 13 13) [] ∷
    Opens (0x2E ∷ 0x92 ∷ 0x03 ∷ 0x83 ∷ 0x10 ∷ 0x11 ∷ []) (Refused 13 13) [] ∷
    Opens (0x24 ∷ 0xC9 ∷ 0x03 ∷ 0x00 ∷ 0x00 ∷ 0x2F ∷ []) (Refused 13 13) [] ∷
    Opens (0x24 ∷ 0xC9 ∷ 0x03 ∷ 0x00 ∷ 0x00 ∷ 0x3A ∷ []) (Refused 13 13) [] ∷
    Opens (0x24 ∷ 0xC9 ∷ 0x03 ∷ 0x00 ∷ 0x00 ∷ 0x3C ∷ []) (Refused 13 13) [] ∷
    Opens (0x24 ∷ 0xC9 ∷ 0x03 ∷ 0x00 ∷ 0x00 ∷ 0x02 ∷ []) (Refused 13 13) [] ∷
    Opens (0x24 ∷ 0xC9 ∷ 0x03 ∷ 0x00 ∷ 0x00 ∷ 0x04 ∷ []) (Refused 13 13) [] ∷
    Opens (0x24 ∷ 0xC9 ∷ 0x04 ∷ 0x00 ∷ 0x00 ∷ 0x31 ∷ 0xB1 ∷ []) (Refused 13 14) [] ∷
    Opens (0x22 ∷ 0xCA ∷ 0x03 ∷ 0x00 ∷ 0x00 ∷ 0x20 ∷ []) (Refused 13 13) [] ∷
    Opens (0x31 ∷ 0xCD ∷ 0x03 ∷ 0x00 ∷ 0x00 ∷ 0x00 ∷ []) (Refused 13 13) [] ∷
    Opens (0x31 ∷ 0xD2 ∷ 0x2F ∷ 0x30 ∷ 0x30 ∷ []) (Refused 13 10) [] ∷
    Opens (0x31 ∷ 0xD2 ∷ 0x30 ∷ 0x3A ∷ 0x30 ∷ []) (Refused 13 11) [] ∷
    Opens (0x31 ∷ 0xD2 ∷ 0x30 ∷ 0x30 ∷ 0x3B ∷ []) (Refused 13 12) [] ∷
    Opens (0x31 ∷ 0xD2 ∷ 0x30 ∷ 0x30 ∷ 0x03 ∷ []) (Refused 13 12) [] ∷
    -- 12 before 13 in one parameter
    Opens (0x24 ∷ 0xC9 ∷ 0x03 ∷ 0x00 ∷ 0x04 ∷ 0x2F ∷ []) (Refused 12 6) [] ∷
    Opens (0x2E ∷ 0x92 ∷ 0x03 ∷ 0x03 ∷ 0x11 ∷ 0x0A ∷ []) (Refused 12 6) [] ∷
    -- the offset of a 13: low half, high half, filler, character, behind another parameter; 12 and 19 at 0
    Wrong (0x21 ∷ 0x91 ∷ 0x02 ∷ 0x10 ∷ []) (Bad 13 3) ∷
    Wrong (0x21 ∷ 0x91 ∷ 0x03 ∷ 0x11 ∷ 0x0D ∷ []) (Bad 13 4) ∷
    Wrong (0x21 ∷ 0x91 ∷ 0x03 ∷ 0x11 ∷ 0x11 ∷ []) (Bad 13 4) ∷
    Wrong (0x2E ∷ 0x92 ∷ 0x04 ∷ 0x03 ∷ 0x10 ∷ 0x21 ∷ 0xA0 ∷ []) (Bad 13 6) ∷
    Wrong (0x2E ∷ 0x92 ∷ 0x03 ∷ 0x83 ∷ 0x10 ∷ 0x11 ∷ []) (Bad 13 5) ∷
    Wrong (0x24 ∷ 0xC9 ∷ 0x04 ∷ 0x00 ∷ 0x00 ∷ 0x31 ∷ 0x2F ∷ []) (Bad 13 6) ∷
    Wrong (0x31 ∷ 0xD2 ∷ 0x30 ∷ 0x3A ∷ 0x30 ∷ []) (Bad 13 3) ∷
    Wrong (0x31 ∷ 0x41 ∷ 0x01 ∷ 0xD2 ∷ 0x30 ∷ 0x30 ∷ 0x3A ∷ []) (Bad 13 6) ∷
    Wrong (0x31 ∷ 0x41 ∷ 0x01 ∷ 0xD2 ∷ 0x30 ∷ 0x30 ∷ []) (Bad 12 0) ∷
    Wrong (0x31 ∷ 0x41 ∷ 0x01 ∷ 0x41 ∷ 0x01 ∷ []) (Bad 19 0) ∷
    -- 16: no E0, and no transfer data; reading's numbers come before it, and 11 before 12; 15 comes last
    Asked (K ++ (0xC5 ∷ 0x02 ∷ 0x41 ∷ 0x01 ∷ 0x00 ∷ [])) 0 (Refused 16 0) ∷
    Asked (K ++ (0x00 ∷ [])) 0 (Refused 16 0) ∷
    Asked K 0 (Refused 4 4) ∷
    Asked (K ++ (0xC5 ∷ 0x03 ∷ 0xE0 ∷ 0x02 ∷ 0x00 ∷ 0x00 ∷ [])) 0 (Refused 11 6) ∷
    Asked (with (0x20 ∷ [])) 0 (Refused 19 6) ∷
    Asked (with trunk) 1 (Refused 15 0) ∷
    Asked (with trunk) 2 (Accepted 2) ∷
    -- rows past the last stay, and a refusal leaves all
    Kept trunk 3 (at 8 0x23 0 ∷ at 9 0x41 1 ∷ lent_row ∷ []) ∷
    Kept trunk 2 (at 8 0x23 0 ∷ at 9 0x41 1 ∷ []) ∷
    Kept trunk 1 (lent_row ∷ []) ∷
    Kept (0x20 ∷ []) 1 (lent_row ∷ []) ∷
    -- for Rust and C: octets past the last row stay; 15 where one is missing
    Given trunk (lent 11) (Accepted 2) (given ++ lent 1) ∷
    Given trunk (lent 10) (Accepted 2) given ∷
    Given trunk (lent 9) (Refused 15 0) (lent 9) ∷
    Given (0x20 ∷ []) (lent 10) (Refused 19 6) (lent 10) ∷
    -- edits: at 0, for the new parameter
    Edited (Replacing (e0 trunk) 0) (with (0x21 ∷ [])) 2 (Accepted 12) ∷
    Edited (Replacing (e0 (0x23 ∷ 0x41 ∷ [])) 0) (with trunk) 0 (Refused 12 0) ∷
    Edited (Replacing (e0 (0x31 ∷ 0xD2 ∷ 0x30 ∷ 0x30 ∷ 0x3A ∷ [])) 0) (with trunk) 2 (Refused 13 0) ∷
    Edited (Replacing (e0 (0x23 ∷ 0x91 ∷ 0x00 ∷ [])) 0) (with trunk) 0 (Refused 19 0) ∷
    Edited (Appending (e0 (0x45 ∷ []))) (K ++ (0xC5 ∷ 0x00 ∷ 0x00 ∷ [])) 3 (Refused 19 0) ∷
    Edited (Appending (e0 (0x21 ∷ []))) (K ++ (0xC5 ∷ 0x00 ∷ 0x00 ∷ [])) 3 (Accepted 10) ∷
    Edited (Appending (e0 (0x21 ∷ []))) (K ++ (0xC5 ∷ 0x00 ∷ 0x00 ∷ [])) 2 (Refused 15 0) ∷
    -- records
    Written (record_with trunk) (Accepted 12) ∷
    Written (record_with []) (Refused 12 6) ∷
    Written (record_with (0x21 ∷ 0x91 ∷ 0x01 ∷ 0x00 ∷ [])) (Refused 13 6) ∷
    Written (record_with (0x21 ∷ 0x41 ∷ 0x00 ∷ [])) (Refused 19 6) ∷ []

-- what the definitions say of each case is what the table says
pub orders : map as_defined cases ≡ cases
unfolding after_of lead_of common_extent_of extent_of name_used pli_right often_of zeroes_of form_of halves is_code halves_fault digits_fault
    number_fault_in forms_of layout_of order_after outside_fault forward_fault control_fault logic_fault layout_fault own_fault parameter_fault
    parameters_fault order_fault fault_of holding_of item_of contents_of layout_item layout_items layout_part layout length_right fault_in value_fits
    walk pars transfer_by transfers_verdict_by value_allowed common_form end_of data_by common_by message_verdict_by verdict_by commons_by transfers_by
    open_common_by record_by item_writing items_writing data_writing part_writing parts_writing over_limits record_writing transfer_in transfer_among
    transfer_found edit_refusal instead edited_items edited record_editing editing_of buffer_of order_listing order_rows_of order_answer order_table
    rows_octets octet_order_table
orders = refl
