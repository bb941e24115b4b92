-- A record's image as octets, for calls from Rust and C: the values of a record one after the other, and before what is counted its count.
use Rattle.std.specs.Prelude.{ℕ, zero, suc, ◌+◌, ◌*◌, ◌/◌, ◌%◌, Bool, cond, ◌&&◌, List, [], ◌∷◌, ◌++◌, eqb, leb, length, get_or, take, drop}
use Rattle.annex.specs.Answers.{over_the_limits, Accepted, Refused}
use Rattle.annex.specs.Heads.{transfer_data, most_commons, most_transfers, most_transfer_octets, most_values}
use Rattle.annex.specs.Items.{Item, Part, own_more_data}
use Rattle.annex.specs.Allowed.{items_in}
use Rattle.annex.specs.Records.{common_head, transfer_head, head_of, common_head_of, raw_item, raw_part, values_of, pack}
use Rattle.annex.specs.declared.Common.{Common}
use Rattle.annex.specs.declared.Transfer.{Transfer}
use Rattle.annex.specs.declared.Imaged.{Imaged}

-- ---- from a record to its image

-- a number in two octets and in four, least first
abbrev pub two_octets : ℕ → List ℕ
two_octets n = n % 256 ∷ n / 256 % 256 ∷ []

abbrev pub four_octets : ℕ → List ℕ
four_octets n = n % 256 ∷ n / 256 % 256 ∷ n / 65536 % 256 ∷ n / 16777216 % 256 ∷ []

-- the head of a transfer parameter: header, marks, fields, count of values
abbrev pub image_head : Transfer → List ℕ
image_head t =
    t.header ∷ t.notification ∷ t.verification ∷ t.dialling ∷ t.number_type ∷ t.incomplete ∷ t.plan ∷ t.presentation
    ∷ t.screening ∷ two_octets t.len

-- a transfer parameter: its head, then its values
unfoldable pub image_item : Item → List ℕ
image_item i = image_head (head_of i) ++ i.values

unfoldable pub image_items : List Item → List ℕ
image_items [] = []
image_items (i ∷ is) = image_item i ++ image_items is

-- the head of a common parameter: header, value, more-data mark, count of transfer parameters
abbrev pub image_common : Common → List ℕ
image_common c = c.header ∷ (four_octets c.value ++ (c.more_data ∷ c.transfers ∷ []))

-- a common parameter: its head, then its transfer parameters; only a C5 has any
unfoldable pub image_part : Part → List ℕ
image_part p = image_common (common_head_of p) ++ image_items p.items

unfoldable pub image_parts : List Part → List ℕ
image_parts [] = []
image_parts (p ∷ ps) = image_part p ++ image_parts ps

-- a record: the count of its common parameters, then these
unfoldable pub image_of : List Part → List ℕ
image_of r = length r ∷ image_parts r

-- ---- from an image to a record

-- the octets of a common parameter before its transfer parameters, and of a transfer parameter before its values
abbrev pub octets_to_a_common_head : ℕ
octets_to_a_common_head = 7

abbrev pub octets_to_a_transfer_head : ℕ
octets_to_a_transfer_head = 11

-- the longest image of a record that may be read: the count, as many heads as there may be parameters, and two values for each octet of
-- transfer data. TK_IMAGE_MAX of the header for C and IMAGE_MAX of the Rust wrapper are this number
abbrev pub most_image : ℕ
most_image = 1 + octets_to_a_common_head * most_commons + octets_to_a_transfer_head * most_transfers + 2 * most_transfer_octets

-- so many parameters at the front of octets, with how many octets they take; or the octets are too short for them
pub data Front (A : Type 0) : Type 0 where
  Taken : List A → ℕ → Front A
  Short : Front A

-- x, which takes n octets, before them
abbrev pub more : {A : Type 0} → A → ℕ → Front A → Front A
more x n (Taken xs k) = Taken (x ∷ xs) (n + k)
more x n Short = Short

-- the transfer parameter at the front of octets; its fields are taken as they stand
abbrev pub head_front : List ℕ → Transfer
head_front s =
    transfer_head (get_or s 0 0) (get_or s 1 0) (get_or s 2 0) (get_or s 3 0) (get_or s 4 0) (get_or s 5 0) (get_or s 6 0) (get_or s 7 0) (get_or s 8 0)
    (get_or s 9 0 + 256 * get_or s 10 0)

abbrev pub item_front : List ℕ → Item
item_front s = raw_item (head_front s) (take (head_front s).len (drop octets_to_a_transfer_head s))

-- and the octets that it takes
abbrev pub item_size : List ℕ → ℕ
item_size s = octets_to_a_transfer_head + (head_front s).len

-- n of them
unfoldable pub items_front : ℕ → List ℕ → Front Item
items_front zero s = Taken [] 0
items_front (suc n) s =
    cond (leb (item_size s) (length s)) (more (item_front s) (item_size s) (items_front n (drop (item_size s) s))) Short

-- four octets from index i on, least first
abbrev pub four_from : ℕ → List ℕ → ℕ
four_from i s = get_or s i 0 + 256 * get_or s (i + 1) 0 + 65536 * get_or s (i + 2) 0 + 16777216 * get_or s (i + 3) 0

-- the common parameter at the front of octets; where it is no 04 its mark is not looked at, and where it is no C5 its count
abbrev pub common_front : List ℕ → Common
common_front s =
    let h = get_or s 0 0 in
    common_head h (four_from 1 s) (own_more_data h (get_or s 5 0)) (cond (eqb h transfer_data) (get_or s 6 0) 0)

abbrev pub part_front : List ℕ → List Item → Part
part_front s is = raw_part (common_front s) is

-- the head s with these transfer parameters behind it, and what follows them
abbrev pub part_then : List ℕ → Front Item → (ℕ → Front Part) → Front Part
part_then s (Taken is k) rest = more (part_front s is) (octets_to_a_common_head + k) (rest (octets_to_a_common_head + k))
part_then s Short rest = Short

-- n of them
unfoldable pub parts_front : ℕ → List ℕ → Front Part
parts_front zero s = Taken [] 0
parts_front (suc n) s =
    cond (leb octets_to_a_common_head (length s))
    (part_then s (items_front (common_front s).transfers (drop octets_to_a_common_head s)) (λ k. parts_front n (drop k s))) Short

-- no record: 1 at 0, and the empty struct
abbrev pub no_image : Imaged
no_image = record { answer = Refused over_the_limits 0; held = pack [] }

-- the limits of the struct
unfoldable pub is_within : List Part → Bool
is_within r =
    leb (length r) most_commons && (leb (length (items_in r)) most_transfers && leb (length (values_of (items_in r))) most_values)

-- the parameters of n octets: a record where they take all octets and are within the limits
abbrev pub imaged_by : ℕ → Front Part → Imaged
imaged_by n (Taken r k) = cond (eqb k n && is_within r) (record { answer = Accepted (length r); held = pack r }) no_image
imaged_by n Short = no_image

-- the record of an image: the count of its common parameters comes first
unfoldable pub imaged_of : List ℕ → Imaged
imaged_of [] = no_image
imaged_of (n ∷ s) = imaged_by (length s) (parts_front n s)
