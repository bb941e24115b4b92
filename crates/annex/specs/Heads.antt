-- The headers and limits: document 01, "Common part" (the table of headers, the signal kinds) and "Transfer data" (the lists under
-- PLI 01, PLI 10 and PLI 11, the names with no layout, the unused names); of the sequence's number, document 02, request d; of how often a
-- name may stand, request g.
use Rattle.std.specs.Prelude.{ℕ, zero, suc, ◌+◌, Bool, true, false, cond, not, ◌&&◌, ◌||◌, List, [], ◌∷◌, map, eqb}
use Rattle.std.specs.Int.Bits.{bit_and}
use Rattle.annex.specs.Units.{pli_of, name_of}
use Rattle.annex.specs.declared.Marks.TheVariants.{Unmarked, Notified, Verified, Typed}
use Rattle.annex.specs.declared.Check.TheVariants.{Nothing, Long, Two, Charging, Order, Carriers}
use Rattle.annex.specs.declared.Form.{Form}
use Rattle.annex.specs.declared.Form.TheVariants.{Checked, Digits, Number, Calling, Generic}

-- x is one of the list
abbrev pub among : ℕ → List ℕ → Bool
among x [] = false
among x (y ∷ ys) = eqb x y || among x ys

-- no bit of the mask is set in x
abbrev pub clear : ℕ → ℕ → Bool
clear mask x = eqb (bit_and x mask) 0

-- common headers
abbrev pub end_mark : ℕ
end_mark = 0x00

abbrev pub user_class : ℕ
user_class = 0x01

abbrev pub partners_call : ℕ
partners_call = 0x82

abbrev pub own_call : ℕ
own_call = 0x83

abbrev pub sequence : ℕ
sequence = 0x04

abbrev pub signal_kind : ℕ
signal_kind = 0x06

abbrev pub transfer_data : ℕ
transfer_data = 0xC5

-- the parameters that a record may hold: all but the end mark
abbrev pub common_headers : List ℕ
common_headers = user_class ∷ partners_call ∷ own_call ∷ sequence ∷ signal_kind ∷ transfer_data ∷ []

-- and those of a message
abbrev pub listed_headers : List ℕ
listed_headers = end_mark ∷ common_headers

-- partner's and own call number
abbrev pub is_call : ℕ → Bool
is_call h = eqb h partners_call || eqb h own_call

-- Common part, 06: the signal kinds, H0 in the high half (house), H1 in the low half; and the one user class that is allowed
abbrev pub signal_kinds : List ℕ
signal_kinds =
    0x11 ∷ 0x12 ∷ 0x23 ∷ 0x24 ∷ 0x25 ∷ 0x26 ∷ 0x31 ∷ 0x61 ∷ 0x62 ∷ 0x71 ∷ 0x72 ∷ 0x73 ∷ 0x74 ∷ []

abbrev pub advanced_telephony : ℕ
advanced_telephony = 0x01

-- Request d: the one number of a sequence that is allowed
abbrev pub sequence_number : ℕ
sequence_number = 1

-- Common part, request d, and refusal 5: the value v is allowed with the header h: the user class, a signal kind, the number of a
-- sequence; with the others any
unfoldable pub value_allowed : ℕ → ℕ → Bool
value_allowed h v =
    cond (eqb h user_class) (eqb v advanced_telephony)
    (cond (eqb h signal_kind) (among v signal_kinds)
    (cond (eqb h sequence) (eqb v sequence_number)
    true))

-- Transfer data, DA: the first octet with which a number follows; DC: the presentation with which it is withheld
abbrev pub added_calling_number : ℕ
added_calling_number = 0x06

abbrev pub withheld : ℕ
withheld = 2

-- Request a: F7
abbrev pub charging_information : ℕ
charging_information = 0xF7

-- Request b: E0
abbrev pub connection_order : ℕ
connection_order = 0xE0

-- Request g: CC
abbrev pub carriers : ℕ
carriers = 0xCC

-- the names, of six bits, and the limits of document 01; of the transfer parameters, request g
abbrev pub name_count : ℕ
name_count = 64

abbrev pub most_octets : ℕ
most_octets = 272

abbrev pub most_commons : ℕ
most_commons = 6

abbrev pub most_transfers : ℕ
most_transfers = 54

-- Request g: how often CC may stand
abbrev pub most_carriers : ℕ
most_carriers = 3

-- the rows of a message: its common parameters, the end mark and its transfer parameters
abbrev pub most_rows : ℕ
most_rows = most_commons + 1 + most_transfers

abbrev pub most_transfer_octets : ℕ
most_transfer_octets = 255

abbrev pub most_digits : ℕ
most_digits = 63

abbrev pub call_number_below : ℕ
call_number_below = 0x1000000

-- room for the values of a record in its struct: two to a contents octet, and some over
abbrev pub most_values : ℕ
most_values = 512

-- the forms of contents are the enums of `annex`; what each check finds wrong is said by `Contents.check_fault`
abbrev carried : Form
carried = Checked Nothing

-- a row of the lists: header, the bits of the first octet of its contents that must be 0, and the form
pub record Head : Type 0 where
  pub header : ℕ
  pub zeroes : ℕ
  pub form : Form

abbrev row : ℕ → ℕ → Form → Head
row h z f = record { header = h; zeroes = z; form = f }

abbrev pub heads : List Head
heads =
    row 0x41 0xFE carried ∷  -- charging signal request
    row 0x42 0xF0 carried ∷  -- release event
    row 0x43 0xFE carried ∷  -- charging signal resend request
    row 0x44 0xFE carried ∷  -- channel check
    row 0x45 0xFE carried ∷  -- re-control object
    row 0x46 0xFC carried ∷  -- initial setting
    row 0x52 0x30 carried ∷  -- calling user class
    row 0x65 0xFE carried ∷  -- host or mate
    row 0x66 0x00 carried ∷  -- network function kind
    row 0x67 0xF8 carried ∷  -- charging form
    row 0x68 0x00 carried ∷  -- call that met rejection
    row 0x6C 0x80 carried ∷  -- function level
    row 0x6E 0x00 carried ∷  -- channel request
    row 0x6F 0xFC carried ∷  -- ISUP link wish
    row 0x73 0x00 carried ∷  -- number of announcements
    row 0x75 0x00 carried ∷  -- section MBI
    row 0x79 0x00 carried ∷  -- connection result event
    row 0x7A 0x00 carried ∷  -- ARE control result event
    row 0x7C 0x00 carried ∷  -- order to send charging information
    row 0x7E 0x00 carried ∷  -- adjacent network form
    row 0x90 0x40 (Digits Notified) ∷  -- originating area (KA)
    row 0x91 0x00 (Digits Verified) ∷  -- originating ID
    row 0x95 0x40 (Digits Notified) ∷  -- called terminal
    row 0x98 0x00 (Digits Typed) ∷  -- dialled digits
    row 0xA3 0xC0 (Digits Unmarked) ∷  -- re-control digits
    row carriers 0x00 (Checked Carriers) ∷  -- carriers
    row 0xCD 0x00 carried ∷  -- called IN number
    row 0xCE 0x00 carried ∷  -- test call
    row 0xCF 0x00 (Checked (Two 0x08)) ∷  -- forward call
    row 0xD3 0x00 carried ∷  -- called user number
    row 0xD6 0x00 carried ∷  -- added user class
    row 0xD7 0x00 Number ∷  -- calling user number
    row 0xD9 0x00 carried ∷  -- reason why the caller's number is withheld
    row 0xDA 0x00 Generic ∷  -- generic number
    row 0xDB 0x00 (Checked (Two 0xFC)) ∷  -- second network function kind
    row 0xDC 0x00 Calling ∷  -- calling number
    row connection_order 0x00 (Checked Order) ∷  -- connection order
    row 0xE9 0x00 carried ∷  -- rejection control
    row 0xEA 0x00 carried ∷  -- signalling point number
    row 0xEB 0x00 carried ∷  -- reason
    row 0xED 0x00 carried ∷  -- number set by the user
    row 0xF2 0x00 (Checked (Long 4)) ∷  -- duration of the call
    row 0xF4 0x00 carried ∷  -- notice of charge
    row 0xF6 0x00 carried ∷  -- IP number
    row charging_information 0x00 (Checked Charging) ∷  -- charging information
    row 0xF8 0x00 carried ∷  -- NSP setting
    row 0xFD 0x00 carried ∷ []  -- originating region

-- the five names without layout: their PLI is free, and nothing is asked of their contents
abbrev pub free_names : List ℕ
free_names = 0x07 ∷ 0x24 ∷ 0x30 ∷ 0x31 ∷ 0x3B ∷ []

abbrev pub is_free : ℕ → Bool
is_free h = among (name_of h) free_names

abbrev header_of : Head → ℕ
header_of r = r.header

-- refusal 8: a name is in use where it has no layout, or some header of it is listed
unfoldable pub name_used : ℕ → Bool
name_used h = is_free h || among (name_of h) (map (λ r. name_of (header_of r)) heads)

-- refusal 9: the header itself is listed, or its name's PLI is free
unfoldable pub pli_right : ℕ → Bool
pli_right h = is_free h || among h (map header_of heads)

-- refusal 10: how often the name x may stand in the transfer data: once (house), and the name of CC as request g says
unfoldable pub often_of : ℕ → ℕ
often_of x = cond (eqb x (name_of carriers)) most_carriers 1

-- at one of those asked for, so many of which are still to be passed over: a where none is, else what comes with one fewer
abbrev pub kth : {A : Type 0} → ℕ → A → (ℕ → A) → A
kth zero a f = a
kth (suc k) a f = f k

-- a header in no list: no bits asked; digits under PLI 10, unless the name has no layout; else carried
abbrev unlisted_head : ℕ → Head
unlisted_head h = row h 0x00 (cond (not (is_free h) && eqb (pli_of h) 2) (Digits Unmarked) carried)

abbrev head_in : List Head → ℕ → Head
head_in [] h = unlisted_head h
head_in (r ∷ rs) h = cond (eqb h r.header) r (head_in rs h)

-- the bits of the first octet of the contents that must be 0
unfoldable pub zeroes_of : ℕ → ℕ
zeroes_of h = (head_in heads h).zeroes

-- the form of the contents
unfoldable pub form_of : ℕ → Form
form_of h = (head_in heads h).form
