-- Charging information (F7): document 02, request a, with the annex's item (13). Two tables say how each field is drawn and which fields
-- each kind has. How many octets there are, what each may be, what they add up to and what number a field holds follow from these.
use Rattle.std.specs.Prelude.{ℕ, zero, suc, ◌+◌, ◌*◌, ◌/◌, ◌%◌, ◌^◌, ◌≡◌, Bool, true, false, cond, ◌&&◌, ◌||◌, List, [], ◌∷◌, ◌++◌, map, eqb, leb, ltb, get_or, take, drop, replicate}
use Rattle.annex.specs.Answers.{bad_digit, Fault, Sound, Bad}
use Rattle.annex.specs.Heads.{among}
use Rattle.annex.specs.Digits.{zero_from, zero_to}
use Rattle.annex.specs.declared.Alphabet.TheVariants.{Dialled}
use Rattle.annex.specs.declared.Charges.{Charges}
use Rattle.annex.specs.declared.Drawn.{Drawn}
use Rattle.annex.specs.declared.Drawn.TheVariants.{Whole, Halves, Character}
use Rattle.annex.specs.declared.Field.{Field}
use Rattle.annex.specs.declared.Field.TheVariants.{
  UnitFee,
  InitialUnits,
  Day,
  Night,
  LateNight1,
  LateNight2,
  Mbi,
  InformationInterval,
  InformationUnits,
  FreeTime,
  CheckDigit,
}

-- ---- the two tables

-- the fields, in the order in which an answer tells them
abbrev pub fields : List Field
fields =
    UnitFee ∷ InitialUnits ∷ Day ∷ Night ∷ LateNight1 ∷ LateNight2 ∷ Mbi ∷ InformationInterval ∷ InformationUnits ∷ FreeTime ∷
    CheckDigit ∷ []

-- a field: its place in that order, how each of its octets is drawn, and how many octets it has
pub record FieldRow : Type 0 where
  pub place : ℕ
  pub drawn : Drawn
  pub width : ℕ

abbrev row : ℕ → Drawn → ℕ → FieldRow
row p d w = record { place = p; drawn = d; width = w }

-- with the annex's letters for its digits
abbrev pub field_row : Field → FieldRow
field_row UnitFee = row 0 Whole 1
field_row InitialUnits = row 1 Character 2  -- M N
field_row Day = row 2 Character 3  -- A B C
field_row Night = row 3 Character 3  -- D E F
field_row LateNight1 = row 4 Character 3  -- G H I
field_row LateNight2 = row 5 Character 3  -- J K L
field_row Mbi = row 6 Halves 1  -- M10 M1
field_row InformationInterval = row 7 Character 3  -- A B C of kind 3, O P Q of kind 9
field_row InformationUnits = row 8 Character 4  -- A B C D of kind 4, O P Q R of kind 10
field_row FreeTime = row 9 Character 3  -- D E F of kind 3, E F G of 4, R S T of 9, S T U of 10
field_row CheckDigit = row 10 Character 1  -- CK

-- a kind: its number, and its fields in the order in which they are drawn
pub record KindRow : Type 0 where
  pub number : ℕ
  pub fields : List Field

abbrev kind : ℕ → List Field → KindRow
kind k fs = record { number = k; fields = fs }

-- the units at the start, and for how long a unit lasts, by day, by night and late at night
abbrev tariff : List Field
tariff = InitialUnits ∷ Day ∷ Night ∷ LateNight1 ∷ LateNight2 ∷ []

-- with the annex's figure of each
abbrev pub kinds : List KindRow
kinds =
    kind 1 (tariff ++ (CheckDigit ∷ [])) ∷  -- figure 2.2.15
    kind 2 [] ∷  -- no rate
    kind 3 (Mbi ∷ InformationInterval ∷ FreeTime ∷ CheckDigit ∷ []) ∷  -- figure 2.2.16
    kind 4 (Mbi ∷ InformationUnits ∷ FreeTime ∷ CheckDigit ∷ []) ∷  -- figure 2.2.17
    kind 5 (Mbi ∷ CheckDigit ∷ []) ∷  -- figure 2.2.18
    kind 8 (UnitFee ∷ tariff) ∷  -- figure 2.2.19
    kind 9 (UnitFee ∷ (tariff ++ (InformationInterval ∷ FreeTime ∷ []))) ∷  -- figure 2.2.19.1
    kind 10 (UnitFee ∷ (tariff ++ (InformationUnits ∷ FreeTime ∷ []))) ∷ []  -- figure 2.2.19.2

-- ---- looked up

-- how the octets of a field are drawn, and how many they are
abbrev pub drawn_as : Field → Drawn
drawn_as f = (field_row f).drawn

abbrev pub width_of : Field → ℕ
width_of f = (field_row f).width

-- fields are known by their places
abbrev pub same_field : Field → Field → Bool
same_field f g = eqb (field_row f).place (field_row g).place

abbrev kind_number : KindRow → ℕ
kind_number r = r.number

-- 12: the kinds of the list
unfoldable pub is_kind : ℕ → Bool
is_kind k = among k (map kind_number kinds)

-- the fields of a kind, none where it is not of the list
abbrev fields_in : List KindRow → ℕ → List Field
fields_in [] k = []
fields_in (r ∷ rs) k = cond (eqb k r.number) r.fields (fields_in rs k)

unfoldable pub fields_of : ℕ → List Field
fields_of k = fields_in kinds k

-- a field is one of these
abbrev pub has_field : Field → List Field → Bool
has_field f [] = false
has_field f (g ∷ gs) = same_field f g || has_field f gs

-- ---- the octets of a kind

-- how they are drawn, one after the other
abbrev pub drawing : List Field → List Drawn
drawing [] = []
drawing (f ∷ fs) = replicate (width_of f) (drawn_as f) ++ drawing fs

abbrev pub drawn_for : ℕ → List Drawn
drawn_for k = drawing (fields_of k)

-- a half of MBI is a code from 1 to 10; an IA5 character is one of 0 to 9, which are 30 to 39
abbrev pub is_mbi_code : ℕ → Bool
is_mbi_code c = leb 1 c && leb c 10

abbrev pub is_right : Drawn → ℕ → Bool
is_right Whole x = true
is_right Halves x = is_mbi_code (x / 16) && is_mbi_code (x % 16)
is_right Character x = leb 0x30 x && leb x 0x39

-- the numbers that an octet holds: one; tens in the high half and ones in the low, where code 10 is 0; the digit of a character
abbrev pub numbers_in : Drawn → ℕ → List ℕ
numbers_in Whole x = x ∷ []
numbers_in Halves x = zero_from Dialled (x / 16) ∷ zero_from Dialled (x % 16) ∷ []
numbers_in Character x = x % 16 ∷ []

-- those of octets that are drawn so
unfoldable pub numbers_drawn : List Drawn → List ℕ → List ℕ
numbers_drawn [] xs = []
numbers_drawn (d ∷ ds) [] = []
numbers_drawn (d ∷ ds) (x ∷ xs) = numbers_in d x ++ numbers_drawn ds xs

-- ---- what is asked of them

-- the contents: an octet that is carried, the kind (house), and the octets of its fields
abbrev pub kind_in : List ℕ → ℕ
kind_in s = get_or s 1 0

abbrev pub field_octets : List ℕ → List ℕ
field_octets s = drop 2 s

-- 13: the first octet that is not right; `at` is the offset of the first of them
unfoldable pub drawn_fault : ℕ → List Drawn → List ℕ → Fault
drawn_fault at [] xs = Sound
drawn_fault at (d ∷ ds) [] = Sound
drawn_fault at (d ∷ ds) (x ∷ xs) = cond (is_right d x) (drawn_fault (at + 1) ds xs) (Bad bad_digit at)

-- the sum of numbers
abbrev pub total : List ℕ → ℕ
total [] = 0
total (n ∷ ns) = n + total ns

-- 18: where there is a check digit, the kind and all digits, that one too, add up to a number that ends in 9
unfoldable pub check_right : ℕ → List ℕ → Bool
check_right k xs =
    cond (has_field CheckDigit (fields_of k)) (eqb ((k + total (numbers_drawn (drawn_for k) xs)) % 10) 9) true

-- ---- the fields as whole numbers

-- a number by its digits, the first one first, behind those that make n
unfoldable pub decimal : ℕ → List ℕ → ℕ
decimal n [] = n
decimal n (d ∷ ds) = decimal (10 * n + d) ds

-- the number that w octets make, all drawn so
abbrev pub made_by : Drawn → ℕ → List ℕ → ℕ
made_by d w xs = decimal 0 (numbers_drawn (replicate w d) xs)

-- the number of the field f in octets that these fields take in turn, 0 where it is none of them
abbrev pub value_in : Field → List Field → List ℕ → ℕ
value_in f [] xs = 0
value_in f (g ∷ gs) xs =
    cond (same_field f g) (made_by (drawn_as g) (width_of g) (take (width_of g) xs)) (value_in f gs (drop (width_of g) xs))

-- the number of a field in the contents s
unfoldable pub field_in : Field → List ℕ → ℕ
field_in f s = value_in f (fields_of (kind_in s)) (field_octets s)

-- what the contents s say
unfoldable pub charges_of : List ℕ → Charges
charges_of s =
    record {
      kind = kind_in s;
      unit_fee = field_in UnitFee s;
      initial_units = field_in InitialUnits s;
      day = field_in Day s;
      night = field_in Night s;
      late_night_1 = field_in LateNight1 s;
      late_night_2 = field_in LateNight2 s;
      mbi = field_in Mbi s;
      information_interval = field_in InformationInterval s;
      information_units = field_in InformationUnits s;
      free_time = field_in FreeTime s;
      check_digit = field_in CheckDigit s;
    }

-- ---- and back: the octets as which the fields are drawn

-- what is told of a field
abbrev pub value_of : Field → Charges → ℕ
value_of UnitFee c = c.unit_fee
value_of InitialUnits c = c.initial_units
value_of Day c = c.day
value_of Night c = c.night
value_of LateNight1 c = c.late_night_1
value_of LateNight2 c = c.late_night_2
value_of Mbi c = c.mbi
value_of InformationInterval c = c.information_interval
value_of InformationUnits c = c.information_units
value_of FreeTime c = c.free_time
value_of CheckDigit c = c.check_digit

-- a number in w IA5 characters
unfoldable pub characters_of : ℕ → ℕ → List ℕ
characters_of zero v = []
characters_of (suc w) v = characters_of w (v / 10) ++ ((0x30 + v % 10) ∷ [])

-- a number in w octets, drawn so
abbrev pub drawn_octets : Drawn → ℕ → ℕ → List ℕ
drawn_octets Whole w v = v ∷ []
drawn_octets Halves w v = (16 * zero_to Dialled (v / 10) + zero_to Dialled (v % 10)) ∷ []
drawn_octets Character w v = characters_of w v

-- these fields, one after the other
unfoldable pub octets_for : List Field → Charges → List ℕ
octets_for [] c = []
octets_for (f ∷ fs) c = drawn_octets (drawn_as f) (width_of f) (value_of f c) ++ octets_for fs c

-- the contents with the carried octet x that say c
unfoldable pub charged_contents : ℕ → Charges → List ℕ
charged_contents x c = x ∷ c.kind ∷ octets_for (fields_of c.kind) c

-- a number fits w octets that are drawn so
abbrev pub fits : Drawn → ℕ → ℕ → Bool
fits Whole w v = ltb v 256
fits Halves w v = ltb v 100
fits Character w v = ltb v (10 ^ w)

-- what charging information may say: the kind is one of the list; a field that it has fits its octets, and any other is 0; the check
-- digit fits
pub record Chargeable (c : Charges) : Type 0 where
  pub listed : is_kind c.kind ≡ true
  pub fitting : (f : Field) → has_field f (fields_of c.kind) ≡ true → fits (drawn_as f) (width_of f) (value_of f c) ≡ true
  pub others : (f : Field) → has_field f (fields_of c.kind) ≡ false → value_of f c ≡ 0
  pub checked : check_right c.kind (octets_for (fields_of c.kind) c) ≡ true
