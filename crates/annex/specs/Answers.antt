-- Answers and refusals: document 01, "Refusal numbers and their order". The numbers are named here, and the number, place and value of
-- every case of an answer, a class answer, a fault of contents and what was found.
use Rattle.std.specs.Prelude.{ℕ, ◌+◌, Bool, true, false, cond, List, ◌++◌, eqb, drop, Option, Some, None, Result, Ok, Err}
use Rattle.annex.specs.declared.Charges.{Charges}
use Rattle.annex.specs.declared.Class.{Class}
use Rattle.annex.specs.declared.Class.TheVariants.{Named, HeldBack, Spare}
use Rattle.annex.specs.declared.Flaw.{Flaw}
use Rattle.annex.specs.declared.Refusal.{Refusal}

-- what a call answers: accepted, with a count, or refused, with a number and a place; a class or charges, or a refusal
abbrev pub Answer : Type 0
Answer = Result ℕ Refusal

abbrev pub ClassAnswer : Type 0
ClassAnswer = Result Class Refusal

abbrev pub ChargingAnswer : Type 0
ChargingAnswer = Result Charges Refusal

pattern abbrev pub Accepted : ℕ → Answer
Accepted n = Ok n

pattern abbrev pub Is : {A : Type 0} → A → Result A Refusal
Is a = Ok a

abbrev pub Refused : {A : Type 0} → ℕ → ℕ → Result A Refusal
Refused k p = Err (k, p)

-- what is wrong with contents: nothing, or the refusal's number and the offset of the octet
abbrev pub Fault : Type 0
Fault = Result Unit Flaw

pattern abbrev pub Sound : Fault
Sound = Ok tt

abbrev pub Bad : ℕ → ℕ → Fault
Bad k i = Err (k, i)

-- where a parameter or its contents stand: from an octet to before another
abbrev pub Found : Type 0
Found = Option (ℕ × ℕ)

pattern abbrev pub At : ℕ → ℕ → Found
At s e = Some (s, e)

pattern abbrev pub Nowhere : Found
Nowhere = None

-- 1: a message of no octets or of more than 272, or a record beyond what a record may hold
abbrev pub over_the_limits : ℕ
over_the_limits = 1

-- 2: a common header that is not in the list
abbrev pub unlisted : ℕ
unlisted = 2

-- 3: a common parameter for the second time
abbrev pub repeated : ℕ
repeated = 3

-- 4: a common parameter runs past the end of the message, or there is no end mark
abbrev pub cut_short : ℕ
cut_short = 4

-- 5: a user class, a signal kind or the number of a sequence that is not allowed; the last by document 02, request d
abbrev pub not_allowed : ℕ
not_allowed = 5

-- 6: the end mark comes before user class and signal kind have both stood
abbrev pub missing : ℕ
missing = 6

-- 7: something follows the end mark
abbrev pub left_over : ℕ
left_over = 7

-- 8: a transfer name that is not in use
abbrev pub unused_name : ℕ
unused_name = 8

-- 9: a transfer name under a PLI that it does not have
abbrev pub other_pli : ℕ
other_pli = 9

-- 10: a transfer name oftener than it may stand
abbrev pub repeated_name : ℕ
repeated_name = 10

-- 11: contents run past the end of the transfer data; or, to be written or edited, are not as long as the PLI asks
abbrev pub cut_contents : ℕ
cut_contents = 11

-- 12: a bit that must be 0 is set, the contents are of the wrong form, or a value is too large for its bits
abbrev pub bad_form : ℕ
bad_form = 12

-- 13: a digit code without a meaning, a character that is no digit, or a half-octet left over that is not 0
abbrev pub bad_digit : ℕ
bad_digit = 13

-- 14: more than 255 octets of transfer data
abbrev pub transfer_over : ℕ
transfer_over = 14

-- 15: what is lent is too short
abbrev pub no_room : ℕ
no_room = 15

-- 16: the parameter, that one of several, the code of a row, or the transfer data is not there
abbrev pub absent : ℕ
absent = 16

-- 17: the code values of this header have no classes
abbrev pub no_class_list : ℕ
no_class_list = 17

-- 18: the check digit of charging information does not fit its digits (document 02, request a)
abbrev pub check_digit : ℕ
check_digit = 18

-- 19: a connection form or a header that is not in the tables, one that may not stand under the form, or one for the second time
-- (document 02, request b)
abbrev pub wrong_order : ℕ
wrong_order = 19

-- 20: a rule of the mobile call profile is not kept (document 02, request f)
abbrev pub outside_profile : ℕ
outside_profile = 20

-- the number of an answer of any kind, 0 where accepted; its place, 0 where accepted; and the count that it gives, 0 where refused
abbrev pub number_of : {A : Type 0} → Result A Refusal → ℕ
number_of (Ok a) = 0
number_of (Err r) = r.0

abbrev pub place_of : {A : Type 0} → Result A Refusal → ℕ
place_of (Ok a) = 0
place_of (Err r) = r.1

abbrev pub given_of : Answer → ℕ
given_of (Accepted n) = n
given_of (Err r) = 0

-- what lent room holds after an answer: so many elements written at its front and those past them as before; unchanged where refused
abbrev pub room_after : {A : Type 0} → Answer → List A → List A → List A
room_after (Accepted n) written room = written ++ drop n room
room_after (Err r) written room = room

-- the number of a fault, 0 where there is none, and the offset of the octet in the contents
abbrev pub fault_number_of : Fault → ℕ
fault_number_of Sound = 0
fault_number_of (Err r) = r.0

abbrev pub offset_of : Fault → ℕ
offset_of Sound = 0
offset_of (Err r) = r.1

-- faults in their order: 12 where the form is not kept, and else another
abbrev pub formed_then : Bool → Fault → Fault
formed_then true f = f
formed_then false f = Bad bad_form 0

abbrev pub formed : Bool → Fault
formed b = formed_then b Sound

-- one fault, and where there is none another
abbrev pub fault_then : Fault → Fault → Fault
fault_then Sound g = g
fault_then (Err r) g = Err r

-- nothing is wrong
abbrev pub is_sound : Fault → Bool
is_sound Sound = true
is_sound (Err r) = false

-- where what was found starts and ends, the empty stretch where there is none
abbrev pub start_of : Found → ℕ
start_of (At s e) = s
start_of Nowhere = 0

abbrev pub stop_of : Found → ℕ
stop_of (At s e) = e
stop_of Nowhere = 0

-- the classes as numbers, and the class of a class answer
abbrev pub class_value_of : Class → ℕ
class_value_of Named = 0
class_value_of HeldBack = 1
class_value_of Spare = 2

abbrev pub class_given_of : ClassAnswer → ℕ
class_given_of (Is c) = class_value_of c
class_given_of (Err r) = 0

-- refused with the number k at the place p if the test holds, and else what follows
abbrev pub refuse : Bool → ℕ → ℕ → Answer → Answer
refuse true k p a = Refused k p
refuse false k p a = a

-- refused with a fault's number, at the place that `place` makes of number and offset, and else what follows
abbrev pub sound_then : (ℕ → ℕ → ℕ) → Fault → Answer → Answer
sound_then place Sound a = a
sound_then place (Err r) a = Refused r.0 (place r.0 r.1)

-- a fault is told at the header, which stands at p: in writing and in editing
abbrev pub header_at : ℕ → ℕ → ℕ → ℕ
header_at p k i = p

-- where reading tells it, counted from the header, of contents that start so many octets behind it: 13 at the octet (document 02, request
-- e), any other number at the header
abbrev pub reading_at : ℕ → ℕ → ℕ → ℕ
reading_at start k i = cond (eqb k bad_digit) (start + i) 0

-- what follows an accepted step; a refusal is passed on
abbrev pub and_then : Answer → (ℕ → Answer) → Answer
and_then (Accepted n) f = f n
and_then (Err r) f = Err r

-- an answer about a part that starts at s, told of the whole
abbrev pub shifted : ℕ → Answer → Answer
shifted s (Accepted n) = Accepted n
shifted s (Err r) = Refused r.0 (s + r.1)

-- the same answer, a refusal told at the place p
abbrev pub placed_at : ℕ → Answer → Answer
placed_at p (Accepted n) = Accepted n
placed_at p (Err r) = Refused r.0 p
