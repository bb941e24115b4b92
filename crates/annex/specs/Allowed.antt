-- What a record may be: document 01, "Common part", "Transfer data" and "Writing", and of the sequence document 02, request d; one line for
-- each rule. Nothing here mentions reading, and nothing but what is wrong with one parameter's values says in which order a refusal comes.
use Rattle.std.specs.Prelude.{ℕ, suc, ◌+◌, ◌≤◌, ◌<◌, ◌≡◌, Bool, true, cond, ◌&&◌, List, [], ◌∷◌, ◌++◌, map, eqb, leb, ltb, length, get_or, drop}
use Rattle.annex.specs.Answers.{bad_digit, formed_then, is_sound, Fault, Sound, Bad}
use Rattle.annex.specs.Units.{name_of, after_of, extent_of}
use Rattle.annex.specs.Heads.{
  withheld,
  among,
  user_class,
  sequence,
  signal_kind,
  transfer_data,
  is_call,
  common_headers,
  value_allowed,
  most_commons,
  most_transfers,
  most_transfer_octets,
  most_digits,
  call_number_below,
  name_used,
  pli_right,
  often_of,
}
use Rattle.annex.specs.declared.Marks.{Marks}
use Rattle.annex.specs.declared.Marks.TheVariants.{Unmarked, Notified, Verified, Typed}
use Rattle.annex.specs.Digits.{is_digit}
use Rattle.annex.specs.Contents.{fault_of}
use Rattle.annex.specs.Items.{Item, Part, part, own_more_data, held_as, contents_of, own_of}
use Rattle.annex.specs.declared.Holding.{Holding}
use Rattle.annex.specs.declared.Holding.TheVariants.{AsContents, AsDigits, AsNumber, AsGeneric}
use Rattle.annex.specs.Layout.{layout_items}
use Rattle.annex.specs.declared.Extent.{Extent}
use Rattle.annex.specs.declared.Extent.TheVariants.{Fixed, Counted}
use Rattle.annex.specs.declared.CountingUnit.TheVariants.{HalfOctet, Octet}

-- the test passes at each of the list; what holds of each of the list
abbrev pub every : {A : Type 0} → (A → Bool) → List A → Bool
every f [] = true
every f (x ∷ xs) = f x && every f xs

abbrev pub Each : {A : Type 0} → (A → Type 0) → List A → Type 0
Each P [] = Unit {0}
Each P (x ∷ xs) = P x × Each P xs

-- how often x stands in the list, and that each of it stands at most as often as it may
abbrev pub times_in : ℕ → List ℕ → ℕ
times_in x [] = 0
times_in x (y ∷ ys) = cond (eqb x y) (suc (times_in x ys)) (times_in x ys)

abbrev pub at_most : (ℕ → ℕ) → List ℕ → Bool
at_most often xs = every (λ x. leb (times_in x xs) (often x)) xs

abbrev pub is_octet : ℕ → Bool
is_octet x = ltb x 256

-- ---- one transfer parameter

-- Writing, 11: the contents are as long as the length rule of the header's PLI asks
abbrev pub length_fits : Extent → List ℕ → Bool
length_fits (Fixed n) s = eqb (length s) n
length_fits (Counted HalfOctet) s = eqb (length s) (after_of (Counted HalfOctet) (get_or s 0 0))
length_fits (Counted Octet) s = leb (length s) most_transfer_octets

-- Transfer data, PLI 10, and Writing, 11: six bits count the digits, so there are at most 63
abbrev pub length_by : Holding → Item → Bool
length_by AsContents i = length_fits (extent_of i.header) (contents_of i)
length_by (AsDigits m) i = leb (length i.values) most_digits
length_by (AsNumber w) i = length_fits (extent_of i.header) (contents_of i)
length_by AsGeneric i = length_fits (extent_of i.header) (contents_of i)

unfoldable pub length_right : Item → Bool
length_right i = length_by (held_as i) i

-- Writing, 12: a mark has one bit, the type of dialling two
abbrev pub marks_right : Marks → Item → Bool
marks_right Unmarked i = true
marks_right Notified i = leb i.notification 1
marks_right Verified i = leb i.notification 1 && leb i.verification 1
marks_right Typed i = leb i.dialling 3

-- Writing, 12: a number's fields have as many bits as their octets leave them
abbrev pub fields_right : Item → Bool
fields_right i =
    leb i.number_type 127 && (leb i.incomplete 1 && (leb i.plan 7 && (leb i.presentation 3 && leb i.screening 3)))

-- DC with presentation 2: no type, no incomplete mark, no plan, no digits
abbrev pub withheld_right : Item → Bool
withheld_right i = eqb i.number_type 0 && (eqb i.incomplete 0 && (eqb i.plan 0 && eqb (length i.values) 0))

-- a number's fields; and of one that may be withheld (DC), and is, nothing but its screening is told
abbrev pub number_right : Bool → Item → Bool
number_right w i = fields_right i && cond (w && eqb i.presentation withheld) (withheld_right i) true

-- Writing, 13: each digit is one of the twelve values that a record holds for digits
abbrev pub values_fault : List ℕ → Fault
values_fault ds = cond (every is_digit ds) Sound (Bad bad_digit 0)

-- Writing, 12, 13 and 18: contents held as they are have the faults of contents; of digits and numbers, a mark or field has too many
-- bits, or a value is no digit
abbrev pub fault_as : Holding → Item → Fault
fault_as AsContents i = fault_of i.header i.values
fault_as (AsDigits m) i = formed_then (marks_right m i) (values_fault i.values)
fault_as (AsNumber w) i = formed_then (number_right w i) (values_fault i.values)
fault_as AsGeneric i = formed_then (fields_right i) (values_fault (drop 1 i.values))

-- what is wrong with the values of a parameter
unfoldable pub fault_in : Item → Fault
fault_in i = fault_as (held_as i) i

-- ---- one common parameter

-- Writing, 5: the value is allowed with its header
abbrev pub value_right : Part → Bool
value_right p = value_allowed p.header p.value

-- Common part, request d, and Writing, 12: a more-data mark has one bit, a call number has 24
unfoldable pub value_fits : Part → Bool
value_fits p =
    cond (eqb p.header sequence) (leb p.more_data 1)
    (cond (is_call p.header) (ltb p.value call_number_below)
    true)

-- ---- how a record holds its values: headers and carried values are octets, and what a parameter does not have is 0 or none

pub record HeldItem (i : Item) : Type 0 where
  pub octet : i.header < 256
  pub octets : every is_octet i.values ≡ true
  pub own : own_of i ≡ i

-- a part with what is its own: of C5 its parameters, of the others the value, of 04 the mark beside it
abbrev pub own_part : Part → Part
own_part p =
    cond (eqb p.header transfer_data) (part p.header 0 0 p.items)
    (part p.header p.value (own_more_data p.header p.more_data) [])

pub record HeldPart (p : Part) : Type 0 where
  pub octet : p.header < 256
  pub own : own_part p ≡ p
  pub each : Each HeldItem p.items

abbrev pub Held : List Part → Type 0
Held r = Each HeldPart r

-- ---- a record

-- Writing: the transfer parameters of a record, those of every C5 in it one after the other
abbrev pub items_in : List Part → List Item
items_in [] = []
items_in (p ∷ ps) = p.items ++ items_in ps

-- their contents, counted
abbrev pub contents_sum : List Item → ℕ
contents_sum [] = 0
contents_sum (i ∷ is) = length (contents_of i) + contents_sum is

abbrev pub headers_of : List Part → List ℕ
headers_of r = map (λ p. p.header) r

abbrev pub names_of : List Item → List ℕ
names_of is = map (λ i. name_of i.header) is

-- at most once: a common parameter is known by its name F0, F1, and the listed ones have different names
abbrev pub part_names_of : List Part → List ℕ
part_names_of r = map (λ p. name_of p.header) r

pub record Allowed (r : List Part) : Type 0 where
  pub held : Held r
  -- Writing, 1 and 2: few enough common parameters, each of a kind that a record may hold
  pub few_commons : length r ≤ most_commons
  pub listed : every (λ p. among p.header common_headers) r ≡ true
  -- Common part, and refusal 3: none twice
  pub once : at_most (λ x. 1) (part_names_of r) ≡ true
  -- Common part, and refusal 6: user class and signal kind are among them
  pub has_class : among user_class (headers_of r) ≡ true
  pub has_kind : among signal_kind (headers_of r) ≡ true
  pub values_right : every value_right r ≡ true
  pub values_fit : every value_fits r ≡ true
  -- Writing, 1: few enough transfer parameters, with few enough octets of contents in sum
  pub few_transfers : length (items_in r) ≤ most_transfers
  pub few_contents : contents_sum (items_in r) ≤ most_transfer_octets
  -- Common part, and refusal 14: all of the transfer data is counted by one length octet
  pub few_octets : length (layout_items (items_in r)) ≤ most_transfer_octets
  -- each transfer parameter: its name is used, its PLI is the name's, the name stands no oftener than it may, its contents have the PLI's
  -- length, and nothing is wrong with its values
  pub names_used : every (λ i. name_used i.header) (items_in r) ≡ true
  pub plis_right : every (λ i. pli_right i.header) (items_in r) ≡ true
  pub names_often : at_most often_of (names_of (items_in r)) ≡ true
  pub lengths_right : every length_right (items_in r) ≡ true
  pub faults_none : every (λ i. is_sound (fault_in i)) (items_in r) ≡ true

-- what a record that is written may be: for now, what one that is read may be
abbrev pub Writable : List Part → Type 0
Writable r = Allowed r
