-- The parameters of a record: document 01, "Writing", what a record holds of each parameter, and the contents that it stands for; of the
-- sequence, document 02, request d.
use Rattle.std.specs.Prelude.{ℕ, ◌+◌, ◌*◌, ◌/◌, ◌%◌, true, false, cond, List, [], ◌∷◌, eqb, length, get_or, drop}
use Rattle.annex.specs.Units.{counted_by}
use Rattle.annex.specs.Heads.{added_calling_number, sequence, transfer_data, form_of}
use Rattle.annex.specs.declared.Form.{Form}
use Rattle.annex.specs.declared.Marks.{Marks}
use Rattle.annex.specs.declared.Marks.TheVariants.{Unmarked, Notified, Verified, Typed}
use Rattle.annex.specs.declared.Form.TheVariants.{Checked, Digits, Number, Calling, Generic}
use Rattle.annex.specs.Digits.{digits_of, packed, count_of}
use Rattle.annex.specs.declared.Holding.{Holding}
use Rattle.annex.specs.declared.Holding.TheVariants.{AsContents, AsDigits, AsNumber, AsGeneric}
use Rattle.annex.specs.declared.Alphabet.TheVariants.{Dialled, Numbered}

-- a transfer parameter; marks and fields that it does not have are 0. values: its digits, first digit first (0-9, 10 for *, 11 for #), or
-- its contents; of DA its first octet, and where that is 06 the digits after it
pub record Item : Type 0 where
  pub header : ℕ
  pub notification : ℕ
  pub verification : ℕ
  pub dialling : ℕ
  pub number_type : ℕ
  pub incomplete : ℕ
  pub plan : ℕ
  pub presentation : ℕ
  pub screening : ℕ
  pub values : List ℕ

-- a common parameter: the octet of 01 and 06, the number of 82, 83 and 04, the more-data mark of 04, the parameters of C5; what it does not
-- have is 0, or none
pub record Part : Type 0 where
  pub header : ℕ
  pub value : ℕ
  pub more_data : ℕ
  pub items : List Item

-- ---- constructors: only these name the fields of a parameter one by one

-- header; notification, verification, dialling; number type, incomplete mark, plan, presentation, screening; values
abbrev pub item : ℕ → ℕ → ℕ → ℕ → ℕ → ℕ → ℕ → ℕ → ℕ → List ℕ → Item
item h n v d t c p r s vs =
    record {
      header = h;
      notification = n;
      verification = v;
      dialling = d;
      number_type = t;
      incomplete = c;
      plan = p;
      presentation = r;
      screening = s;
      values = vs;
    }

-- one with marks, one with neither marks nor fields, one with a number's fields
abbrev pub marked_item : ℕ → ℕ → ℕ → ℕ → List ℕ → Item
marked_item h n v d vs = item h n v d 0 0 0 0 0 vs

abbrev pub plain_item : ℕ → List ℕ → Item
plain_item h vs = marked_item h 0 0 0 vs

abbrev pub fields_item : ℕ → ℕ → ℕ → ℕ → ℕ → ℕ → List ℕ → Item
fields_item h t c p r s vs = item h 0 0 0 t c p r s vs

-- Transfer data, D7: x and y are the two octets before the digits; bit 7 of x, the odd mark, is no value of the record
abbrev pub number_item : ℕ → ℕ → ℕ → List ℕ → Item
number_item h x y vs = fields_item h (x % 128) (y / 128) (y / 16 % 8) (y / 4 % 4) (y % 4) vs

-- header, value, more-data mark, transfer parameters
abbrev pub part : ℕ → ℕ → ℕ → List Item → Part
part h v m is = record { header = h; value = v; more_data = m; items = is }

-- one with a value alone, the transfer data, and one with other transfer parameters
abbrev pub value_part : ℕ → ℕ → Part
value_part h v = part h v 0 []

abbrev pub data_part : List Item → Part
data_part is = part transfer_data 0 0 is

abbrev pub part_with : List Item → Part → Part
part_with is p = part p.header p.value p.more_data is

-- Request d: only 04 has a more-data mark
abbrev pub own_more_data : ℕ → ℕ → ℕ
own_more_data h m = cond (eqb h sequence) m 0

-- what the octet x of 01, 04 or 06 says. Request d: of 04, bits 6-0 are the number, and bit 7 is the more-data mark
abbrev pub octet_value : ℕ → ℕ → ℕ
octet_value h x = cond (eqb h sequence) (x % 128) x

abbrev pub octet_mark : ℕ → ℕ → ℕ
octet_mark h x = own_more_data h (x / 128)

abbrev pub octet_part : ℕ → ℕ → Part
octet_part h x = part h (octet_value h x) (octet_mark h x) []

-- ---- how the values are held

-- by the form; of the numbers, only a calling number may be withheld
abbrev pub holding_by : Form → ℕ → Holding
holding_by (Checked c) x = AsContents
holding_by (Digits m) x = AsDigits m
holding_by Number x = AsNumber false
holding_by Calling x = AsNumber true
holding_by Generic x = cond (eqb x added_calling_number) AsGeneric AsContents

-- Writing: the header decides how, and for DA the first octet with it
unfoldable pub holding_of : ℕ → ℕ → Holding
holding_of h x = holding_by (form_of h) x

-- ---- from contents to a parameter

-- the upper two bits u of a count octet: 90 and 95 notification in bit 7; 91 notification in bit 7, verification in bit 6; 98 the type
abbrev pub open_marks : Marks → ℕ → ℕ → List ℕ → Item
open_marks Unmarked h u vs = marked_item h 0 0 0 vs
open_marks Notified h u vs = marked_item h (u / 2) 0 0 vs
open_marks Verified h u vs = marked_item h (u / 2) (u % 2) 0 vs
open_marks Typed h u vs = marked_item h 0 0 u vs

-- Writing: what a record holds of the contents s, held so
abbrev pub open_by : Holding → ℕ → List ℕ → Item
open_by AsContents h s = plain_item h s
open_by (AsDigits m) h s = open_marks m h (get_or s 0 0 / 64) (digits_of Dialled (counted_by (get_or s 0 0)) (drop 1 s))
open_by (AsNumber w) h s = number_item h (get_or s 0 0) (get_or s 1 0) (digits_of Numbered (count_of s) (drop 2 s))
open_by AsGeneric h s = number_item h (get_or s 1 0) (get_or s 2 0) (added_calling_number ∷ digits_of Numbered (count_of (drop 1 s)) (drop 3 s))

-- the parameter with the header h and the contents s
unfoldable pub item_of : ℕ → List ℕ → Item
item_of h s = open_by (holding_of h (get_or s 0 0)) h s

-- ---- and back

abbrev pub upper_marks : Marks → Item → ℕ
upper_marks Unmarked i = 0
upper_marks Notified i = 2 * i.notification
upper_marks Verified i = 2 * i.notification + i.verification
upper_marks Typed i = i.dialling

-- Writing: a record holds no counts and no odd marks; they come of the digits
abbrev pub number_contents : Item → List ℕ → List ℕ
number_contents i ds =
    (128 * (length ds % 2) + i.number_type) ∷ (128 * i.incomplete + 16 * i.plan + 4 * i.presentation + i.screening) ∷ packed Numbered ds

-- and the contents that it stands for
abbrev pub contents_by : Holding → Item → List ℕ
contents_by AsContents i = i.values
contents_by (AsDigits m) i = (64 * upper_marks m i + length i.values) ∷ packed Dialled i.values
contents_by (AsNumber w) i = number_contents i i.values
contents_by AsGeneric i = added_calling_number ∷ number_contents i (drop 1 i.values)

abbrev pub held_as : Item → Holding
held_as i = holding_of i.header (get_or i.values 0 0)

-- the contents of a parameter
unfoldable pub contents_of : Item → List ℕ
contents_of i = contents_by (held_as i) i

-- ---- what is the parameter's own: marks and fields that it does not have are no part of its value, and are 0

abbrev pub own_marks : Marks → Item → Item
own_marks Unmarked i = marked_item i.header 0 0 0 i.values
own_marks Notified i = marked_item i.header i.notification 0 0 i.values
own_marks Verified i = marked_item i.header i.notification i.verification 0 i.values
own_marks Typed i = marked_item i.header 0 0 i.dialling i.values

abbrev pub own_fields : Item → Item
own_fields i = fields_item i.header i.number_type i.incomplete i.plan i.presentation i.screening i.values

abbrev pub own_by : Holding → Item → Item
own_by AsContents i = plain_item i.header i.values
own_by (AsDigits m) i = own_marks m i
own_by (AsNumber w) i = own_fields i
own_by AsGeneric i = own_fields i

unfoldable pub own_of : Item → Item
own_of i = own_by (held_as i) i
