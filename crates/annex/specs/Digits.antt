-- Digits in half-octets: document 01, "Transfer data", PLI 10 and D7.
use Rattle.std.specs.Prelude.{ℕ, zero, suc, ◌+◌, ◌-◌, ◌*◌, ◌/◌, ◌%◌, Bool, cond, not, ◌&&◌, List, [], ◌∷◌, map, eqb, leb, ltb, length, get_or, take, drop}
use Rattle.annex.specs.Answers.{bad_digit, formed_then, Fault, Sound, Bad}
use Rattle.annex.specs.Units.{halves_of, halves_in}
use Rattle.annex.specs.declared.HalfOctets.{HalfOctets}
use Rattle.annex.specs.declared.Alphabet.{Alphabet}
use Rattle.annex.specs.declared.Alphabet.TheVariants.{Dialled, Numbered, Decimal}

-- the half-octets of octets: of each octet the low half comes first
unfoldable pub halves : List ℕ → List ℕ
halves [] = []
halves (x ∷ s) = x % 16 ∷ x / 16 ∷ halves s

-- and back: an odd last one stands low, with 0 as filler above it
unfoldable pub joined : List ℕ → List ℕ
joined [] = []
joined (a ∷ []) = a ∷ []
joined (a ∷ b ∷ hs) = (a + 16 * b) ∷ joined hs

-- the codes: they differ in the zero, which is 10 where digits are dialled (PLI 10) and 0 in a number (D7). In these two 11 and 12 are *
-- and #, which a record holds as 10 and 11; decimal digits (request b) are the codes of a number without them
abbrev pub zero_from : Alphabet → ℕ → ℕ
zero_from Dialled h = cond (eqb h 10) 0 h
zero_from Numbered h = h
zero_from Decimal h = h

unfoldable pub digit_of : Alphabet → ℕ → ℕ
digit_of z h = cond (eqb h 11) 10 (cond (eqb h 12) 11 (zero_from z h))

abbrev pub zero_to : Alphabet → ℕ → ℕ
zero_to Dialled d = cond (eqb d 0) 10 d
zero_to Numbered d = d
zero_to Decimal d = d

unfoldable pub code_of : Alphabet → ℕ → ℕ
code_of z d = cond (eqb d 10) 11 (cond (eqb d 11) 12 (zero_to z d))

-- spare codes: those over the last, and the code that is a zero elsewhere
abbrev pub last_code : Alphabet → ℕ
last_code Dialled = 12
last_code Numbered = 12
last_code Decimal = 9

abbrev pub other_zero : Alphabet → ℕ
other_zero Dialled = 0
other_zero Numbered = 10
other_zero Decimal = 10

unfoldable pub is_code : Alphabet → ℕ → Bool
is_code z h = leb h (last_code z) && not (eqb h (other_zero z))

-- a value that a record holds for a digit; and one that has a code
abbrev pub is_digit : ℕ → Bool
is_digit d = leb d 11

abbrev pub is_digit_in : Alphabet → ℕ → Bool
is_digit_in Dialled d = is_digit d
is_digit_in Numbered d = is_digit d
is_digit_in Decimal d = leb d 9

-- the first half that is not as it must be: of the first n a digit, of the others 0. i counts the halves from the contents' start
unfoldable pub halves_fault : Alphabet → ℕ → ℕ → List ℕ → Fault
halves_fault z n i [] = Sound
halves_fault z zero i (h ∷ hs) = cond (eqb h 0) (halves_fault z zero (i + 1) hs) (Bad bad_digit (i / 2))
halves_fault z (suc n) i (h ∷ hs) = cond (is_code z h) (halves_fault z n (i + 1) hs) (Bad bad_digit (i / 2))

-- the octets s, the first of them at the offset `at` of the contents, hold n digits and filler
unfoldable pub digits_fault : Alphabet → HalfOctets → ℕ → List ℕ → Fault
digits_fault z n at s = halves_fault z n.0 (halves_of (record { 0 = at })).0 (halves s)

-- the n digits that octets hold, first digit first, and the octets that hold digits
unfoldable pub digits_of : Alphabet → HalfOctets → List ℕ → List ℕ
digits_of z n s = map (digit_of z) (take n.0 (halves s))

unfoldable pub packed : Alphabet → List ℕ → List ℕ
packed z ds = joined (map (code_of z) ds)

-- digits by their count: a half-octet each
abbrev pub halves_for : List ℕ → HalfOctets
halves_for ds = record { 0 = length ds }

-- ---- a number

-- its first octet: odd mark (bit 7)
abbrev pub odd_of : List ℕ → ℕ
odd_of s = get_or s 0 0 / 128

-- the digits of octets whose first has the odd mark: those behind the first k, and one half less where the mark is set
abbrev pub count_behind : ℕ → List ℕ → HalfOctets
count_behind k s = record { 0 = (halves_in (drop k s)).0 - odd_of s }

-- of a number: behind its two octets of fields
abbrev pub count_of : List ℕ → HalfOctets
count_of s = count_behind 2 s

-- Transfer data, D7: a number whose first octet is at the offset `at`. Its two octets of fields must be there, and where the odd mark is
-- set a digit octet too; then the digits, in some code, with filler after an odd count
unfoldable pub number_fault_in : Alphabet → ℕ → List ℕ → Fault
number_fault_in z at s =
    formed_then (not (ltb (length s) 2))
    (formed_then (not (eqb (odd_of s) 1 && eqb (length s) 2))
    (digits_fault z (count_of s) (at + 2) (drop 2 s)))

-- in D7's own code
abbrev pub number_fault : ℕ → List ℕ → Fault
number_fault = number_fault_in Numbered
