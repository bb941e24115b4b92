-- Connection orders (E0): document 02, request b, with the annex's sections 2.3.1 to 2.3.7. One table has a row to each parameter: how it
-- is laid out, and the forms under which it may stand. How many octets a parameter has, what is wrong with an order, what an order may be
-- and its listing follow from it. The headers are of an order alone: 41 to 43, 91 and CC to CF are not the transfer parameters
-- of those numbers.
use Rattle.std.specs.Prelude.{ℕ, zero, suc, ◌+◌, ◌%◌, Bool, true, false, cond, not, ◌&&◌, ◌||◌, List, [], ◌∷◌, ◌++◌, map, eqb, leb, length, get_or, take, drop}
use Rattle.annex.specs.Answers.{bad_form, bad_digit, wrong_order, formed_then, formed, fault_then, is_sound, Fault, Sound, Bad}
use Rattle.annex.specs.Units.{whole_count, octets_of}
use Rattle.annex.specs.Heads.{among}
use Rattle.annex.specs.Digits.{digits_fault, number_fault_in}
use Rattle.annex.specs.Rates.{is_right}
use Rattle.annex.specs.declared.Alphabet.TheVariants.{Dialled, Decimal}
use Rattle.annex.specs.declared.Drawn.TheVariants.{Character}
use Rattle.annex.specs.declared.OrderLayout.{OrderLayout}
use Rattle.annex.specs.declared.OrderLayout.TheVariants.{
  TrunkKind,
  ReleaseKind,
  RedirectReason,
  SentDigits,
  ForwardNumber,
  AreControl,
  AreLogic,
  Guidance,
  WaitingTime,
}

-- ---- the two tables

-- the forms (C0, C1): the annex's table 2.3.1, but for 43 and 45, which use the parameter D3, and that is not drawn
abbrev pub order_forms : List ℕ
order_forms =
    0x21 ∷ 0x22 ∷ 0x23 ∷ 0x24 ∷ 0x25 ∷ 0x26 ∷ 0x27 ∷ 0x28 ∷ 0x29 ∷ 0x2B ∷ 0x2C ∷ 0x2D ∷ 0x2E ∷
    0x31 ∷ 0x32 ∷ 0x33 ∷ 0x34 ∷ 0x35 ∷ 0x36 ∷ 0x37 ∷ 0x38 ∷ 0x39 ∷ 0x3A ∷ 0x3B ∷ 0x3C ∷ 0x3D ∷ 0x3E ∷ 0x3F ∷
    0x41 ∷ 0x42 ∷ 0x44 ∷ 0x46 ∷ 0x47 ∷ []

-- a parameter (A0, A1): its header, how it is laid out, and the forms under which it may stand: the circles of its line in the three parts
-- of the annex's table 2.3.2, with document 02's corrections (2E of 43 and 92; 3D of 41, CF and D2)
pub record OrderRow : Type 0 where
  pub header : ℕ
  pub layout : OrderLayout
  pub forms : List ℕ

abbrev row : ℕ → OrderLayout → List ℕ → OrderRow
row h l fs = record { header = h; layout = l; forms = fs }

-- the table, by its headers
abbrev pub order_rows : List OrderRow
order_rows =
    -- trunk in the exchange, kind of release, reason of the redirection
    row 0x41 TrunkKind (0x23 ∷ 0x2B ∷ 0x31 ∷ 0x3D ∷ 0x46 ∷ []) ∷
    row 0x42 ReleaseKind (0x28 ∷ []) ∷
    row 0x43 RedirectReason (0x2E ∷ []) ∷
    -- digits sent on the outgoing line, number to which the call is forwarded
    row 0x91 SentDigits
    (0x21 ∷ 0x22 ∷ 0x25 ∷ 0x26 ∷ 0x2B ∷ 0x2C ∷ 0x2D ∷
    (0x32 ∷ 0x33 ∷ 0x34 ∷ 0x35 ∷ 0x37 ∷ 0x39 ∷ 0x3A ∷ 0x3C ∷ 0x3E ∷ 0x3F ∷ (0x41 ∷ 0x46 ∷ 0x47 ∷ []))) ∷
    row 0x92 ForwardNumber (0x2E ∷ []) ∷
    -- ARE control on the calling and on the called side, guidance on the calling side
    row 0xC9 AreControl
    (0x22 ∷ 0x24 ∷ 0x25 ∷ 0x26 ∷ 0x27 ∷ 0x29 ∷ 0x2B ∷ 0x2C ∷ 0x2D ∷ (0x31 ∷ 0x33 ∷ 0x34 ∷ 0x35 ∷ 0x36 ∷ [])) ∷
    row 0xCA AreControl (0x22 ∷ 0x25 ∷ 0x26 ∷ 0x33 ∷ 0x35 ∷ []) ∷
    row 0xCB Guidance
    (0x37 ∷ 0x38 ∷ 0x39 ∷ 0x3A ∷ 0x3B ∷ 0x3C ∷ 0x3D ∷ 0x3E ∷ 0x3F ∷ (0x41 ∷ 0x42 ∷ 0x44 ∷ 0x46 ∷ 0x47 ∷ [])) ∷
    -- ARE logic control on the called side, ARE control when waiting times out, guidance on the called side and when waiting times out
    row 0xCC AreLogic (0x2C ∷ 0x34 ∷ []) ∷
    row 0xCD AreControl (0x31 ∷ []) ∷
    row 0xCE Guidance (0x37 ∷ 0x39 ∷ 0x3A ∷ 0x3C ∷ 0x3E ∷ 0x3F ∷ 0x41 ∷ []) ∷
    row 0xCF Guidance (0x3D ∷ []) ∷
    -- waiting time
    row 0xD2 WaitingTime (0x31 ∷ 0x3D ∷ []) ∷ []

-- ---- looked up

abbrev row_header : OrderRow → ℕ
row_header r = r.header

-- the headers of the table
abbrev pub order_headers : List ℕ
order_headers = map row_header order_rows

-- a header in no row may stand under no form
abbrev pub row_in : List OrderRow → ℕ → OrderRow
row_in [] h = row h Guidance []
row_in (r ∷ rs) h = cond (eqb h r.header) r (row_in rs h)

-- the forms under which a header may stand, and its layout
unfoldable pub forms_of : ℕ → List ℕ
forms_of h = (row_in order_rows h).forms

unfoldable pub layout_of : ℕ → OrderLayout
layout_of h = (row_in order_rows h).layout

-- 19: whether the header h may stand under a form
abbrev pub may_stand : ℕ → ℕ → Bool
may_stand form h = among form (forms_of h)

-- ---- how many octets a parameter has

-- behind its header; x is the octet right after it, or 0. The count of 91 is in half-octets, every other in octets
unfoldable pub order_after : OrderLayout → ℕ → ℕ
order_after TrunkKind x = 1
order_after ReleaseKind x = 1 + x
order_after RedirectReason x = 1
order_after SentDigits x = 1 + (octets_of (whole_count x)).0
order_after ForwardNumber x = 1 + x
order_after AreControl x = 1 + x
order_after AreLogic x = 1 + x
order_after Guidance x = 1 + x
order_after WaitingTime x = 3

-- of the header h, with the octets after it
abbrev pub order_size : ℕ → List ℕ → ℕ
order_size h xs = order_after (layout_of h) (get_or xs 0 0)

-- ---- what is wrong with a parameter's octets

-- IA5 characters: 0 to 9; and in the parameters of an ARE also `;` and ETX. Which of them stands where is not asked
abbrev pub is_figure : ℕ → Bool
is_figure x = is_right Character x

abbrev pub is_are_character : ℕ → Bool
is_are_character x = is_figure x || (eqb x 0x3B || eqb x 0x03)

-- 13: the first octet that is none of some characters; `at` is the offset of the first octet in the contents of E0
unfoldable pub outside_fault : (ℕ → Bool) → ℕ → List ℕ → Fault
outside_fault known at [] = Sound
outside_fault known at (x ∷ xs) = cond (known x) (outside_fault known (at + 1) xs) (Bad bad_digit at)

-- the repeat count, the second octet: forever, or up to three times
abbrev pub repeat_right : List ℕ → Bool
repeat_right s = leb (get_or s 1 0) 3

-- 92: as D7 with decimal digits, and nothing in bits 3-0 of the second octet
unfoldable pub forward_fault : ℕ → List ℕ → Fault
forward_fault at s = formed_then (eqb (get_or s 1 0 % 16) 0) (number_fault_in Decimal at s)

-- C9, CA and CD: a code, the repeat count, and at least one character
unfoldable pub control_fault : ℕ → List ℕ → Fault
control_fault at s = formed_then (leb 3 (length s) && repeat_right s) (outside_fault is_are_character (at + 2) (drop 2 s))

-- CC: the kind of conversion, the repeat count, and a key, which may be empty
unfoldable pub logic_fault : List ℕ → Fault
logic_fault s = formed (leb 2 (length s) && repeat_right s)

-- of the octets behind a header that are its own, the first of them at the offset `at`
unfoldable pub layout_fault : OrderLayout → ℕ → List ℕ → Fault
layout_fault TrunkKind at own = Sound
layout_fault ReleaseKind at own = formed (eqb (get_or own 0 0) 1)
layout_fault RedirectReason at own = formed (leb 0x80 (get_or own 0 0))
layout_fault SentDigits at own = digits_fault Dialled (whole_count (get_or own 0 0)) (at + 1) (drop 1 own)
layout_fault ForwardNumber at own = forward_fault (at + 1) (drop 1 own)
layout_fault AreControl at own = control_fault (at + 1) (drop 1 own)
layout_fault AreLogic at own = logic_fault (drop 1 own)
layout_fault Guidance at own = Sound
layout_fault WaitingTime at own = outside_fault is_figure at own

-- ---- the order of refusals

-- 19 comes first of a form and of a header
abbrev pub ordered : Bool → Fault
ordered true = Sound
ordered false = Bad wrong_order 0

-- the octets xs from behind a header to the end of the order: cut short is 12
unfoldable pub own_fault : OrderLayout → ℕ → List ℕ → Fault
own_fault l at xs =
    let n = order_after l (get_or xs 0 0) in
    formed_then (leb n (length xs)) (layout_fault l at (take n xs))

-- a parameter under a form, with the header h and the octets xs after it, behind parameters with the headers `before`
unfoldable pub parameter_fault : ℕ → List ℕ → ℕ → ℕ → List ℕ → Fault
parameter_fault form before at h xs = fault_then (ordered (may_stand form h && not (among h before))) (own_fault (layout_of h) at xs)

-- the parameters from left to right: k octets still belong to the one before, and `at` is the offset of the next octet
unfoldable pub parameters_fault : ℕ → List ℕ → ℕ → ℕ → List ℕ → Fault
parameters_fault form before k at [] = Sound
parameters_fault form before (suc k) at (x ∷ xs) = parameters_fault form before k (at + 1) xs
parameters_fault form before zero at (x ∷ xs) =
    fault_then (parameter_fault form before (at + 1) x xs) (parameters_fault form (x ∷ before) (order_size x xs) (at + 1) xs)

-- the contents of E0: its form, then its parameters
unfoldable pub order_fault : List ℕ → Fault
order_fault [] = Bad bad_form 0
order_fault (form ∷ xs) = fault_then (ordered (among form order_forms)) (parameters_fault form [] 0 1 xs)

-- ---- what an order may be

-- a parameter: its header, and the octets behind it that are its own
pub record OrderParameter : Type 0 where
  pub header : ℕ
  pub own : List ℕ

-- made of the two
abbrev pub order_parameter : ℕ → List ℕ → OrderParameter
order_parameter h own = record { header = h; own = own }

-- and an order: its form, and its parameters
pub record OpenedOrder : Type 0 where
  pub form : ℕ
  pub parameters : List OrderParameter

-- parameters laid out, one behind the other; and an order, its form first
unfoldable pub lay_parameters : List OrderParameter → List ℕ
lay_parameters [] = []
lay_parameters (p ∷ ps) = p.header ∷ (p.own ++ lay_parameters ps)

abbrev pub lay_order : OpenedOrder → List ℕ
lay_order o = o.form ∷ lay_parameters o.parameters

-- a parameter may stand under the form, and its octets are as many as its layout says, and right
abbrev pub parameter_right : ℕ → OrderParameter → Bool
parameter_right form p =
    let l = layout_of p.header in
    may_stand form p.header
    && (eqb (length p.own) (order_after l (get_or p.own 0 0)) && is_sound (layout_fault l 0 p.own))

-- each header stands once
abbrev pub once : List ℕ → Bool
once [] = true
once (h ∷ hs) = not (among h hs) && once hs

-- each of some parameters is right under the form
abbrev pub all_right : ℕ → List OrderParameter → Bool
all_right form [] = true
all_right form (p ∷ ps) = parameter_right form p && all_right form ps

-- the headers of parameters
abbrev pub headers_in : List OrderParameter → List ℕ
headers_in ps = map (λ p. p.header) ps

-- an order that may be: its form is listed, each parameter is right under it, and each header stands once
unfoldable pub order_right : OpenedOrder → Bool
order_right o = among o.form order_forms && (all_right o.form o.parameters && once (headers_in o.parameters))
