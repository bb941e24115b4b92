-- The image of a record, read, is the record: each part of it is read from where it stands.
use Rattle.std.specs.Prelude.{ℕ, ◌+◌, ◌*◌, ◌/◌, ◌%◌, ◌≤◌, ◌<◌, ◌≡◌, refl, Bool, true, false, cond, List, [], ◌∷◌, ◌++◌, eqb, leb, length, take, drop}
use Rattle.std.proofs.Math.Nat.{div-div-eq-div-mul}
use Rattle.std.proofs.Common.{arith, sym, ap, ◌∙◌, append_assoc, append-nil, eq-eqb, le-leb, ltb-true, eqb-true, length-append}
use Rattle.std.proofs.Math.Seq.{take-append_seam, drop-append_seam}
use Rattle.annex.specs.Heads.{transfer_data, call_number_below, most_values}
use Rattle.annex.specs.Items.{Item, Part, marked_item, part, value_part, data_part, own_more_data}
use Rattle.annex.specs.Allowed.{Each, every, is_octet, items_in, HeldPart, value_fits, Allowed}
use Rattle.annex.specs.Reading.{verdict_of, record_of}
use Rattle.annex.specs.Records.{values_of, pack, view, reading_of}
use Rattle.annex.specs.Image.{
  image_item,
  image_items,
  image_part,
  image_parts,
  image_of,
  item_front,
  item_size,
  items_front,
  common_front,
  part_front,
  parts_front,
  no_image,
  is_within,
  imaged_of,
  octets_to_a_common_head,
  octets_to_a_transfer_head,
  most_image,
}
use Rattle.annex.specs.Image.Front.{Taken}
use Rattle.annex.specs.Answers.{Accepted}
use Rattle.theorems.specs.Lists.{each_left, each_right, each_so}
use Rattle.theorems.specs.Commons.{Kind, kind, AllowedPart}
use Rattle.theorems.specs.Commons.Kind.{octet, call, many}
use Rattle.theorems.specs.Records.{OnlyData, plain_items, allowed_parts, Within, allowed_within, values_within}
use Rattle.theorems.specs.Views.{view_pack, within_told}
use Rattle.theorems.specs.Messages.{read_then_laid}

-- ---- a transfer parameter, octets behind it

record ItemBack (i : Item) (t : List ℕ) : Type 0 where
  size : item_size (image_item i ++ t) ≡ length (image_item i)
  back : item_front (image_item i ++ t) ≡ i

item_back : (i : Item) (t : List ℕ) → length i.values < 65536 → ItemBack i t
unfolding image_item
item_back i t h =
    let n = length i.values in
    let e : n % 256 + 256 * (n / 256 % 256) ≡ n = omega arith in
    record {
      size = omega (arith, e);
      back = rw (e, take-append_seam i.values t);
    }

-- so many of them
Few : Item → Type 0
Few i = length i.values < 65536

items_back : (is : List Item) (t : List ℕ) → Each Few is → items_front (length is) (image_items is ++ t) ≡ Taken is (length (image_items is))
unfolding items_front image_items Few
items_back [] t h = refl
items_back (i ∷ is) t h =
    let m = image_item i in
    let u = image_items is ++ t in
    let b = item_back i u h.0 in
    let l : length m ≤ length (m ++ u) = rw (length-append m u) (omega arith) in
    rw (
      append_assoc m (image_items is) t,
      b.size,
      le-leb (length m) (length (m ++ u)) l,
      b.back,
      drop-append_seam m u,
      items_back is t h.1,
      length-append m (image_items is),
    )

-- ---- a common parameter

-- its value has four octets, its mark is its own, and only a C5 has transfer parameters
pub record Imageable (p : Part) : Type 0 where
  pub small : p.value < 4294967296
  pub mark : own_more_data p.header p.more_data ≡ p.more_data
  pub plain : OnlyData p

-- four octets make the number again
joined : (v a b c x y z w : ℕ) → v ≡ 256 * a + x → a ≡ 256 * b + y → b ≡ 256 * c + z → w ≡ c → x + 256 * y + 65536 * z + 16777216 * w ≡ v
joined v a b c x y z w e f g h = omega arith

four_back : (v : ℕ) → v < 4294967296 → v % 256 + 256 * (v / 256 % 256) + 65536 * (v / 65536 % 256) + 16777216 * (v / 16777216 % 256) ≡ v
four_back v l =
    joined v (v / 256) (v / 65536) (v / 16777216) (v % 256) (v / 256 % 256) (v / 65536 % 256) (v / 16777216 % 256)
    (omega arith)
    (omega (arith, div-div-eq-div-mul v 256 256))
    (omega (arith, div-div-eq-div-mul v 65536 256))
    (omega arith)

-- read from the front of octets
record PartBack (p : Part) (t : List ℕ) : Type 0 where
  long : leb octets_to_a_common_head (length (image_part p ++ t)) ≡ true
  items : items_front (common_front (image_part p ++ t)).transfers (drop octets_to_a_common_head (image_part p ++ t))
      ≡ Taken p.items (length (image_items p.items))
  back : part_front (image_part p ++ t) p.items ≡ p
  size : octets_to_a_common_head + length (image_items p.items) ≡ length (image_part p)

part_back : (p : Part) (t : List ℕ) → Imageable p → Each Few p.items → PartBack p t
unfolding image_part
part_back p t h f =
    record {
      long = le-leb octets_to_a_common_head (length (image_part p ++ t)) (omega arith);
      items = rw (told (eqb p.header transfer_data) refl) (items_back p.items t f);
      back = rw (four_back p.value h.small, h.mark);
      size = omega arith;
    }
  where
    told : (b : Bool) → eqb p.header transfer_data ≡ b → cond b (length p.items) 0 ≡ length p.items
    told true e = refl
    told false e = rw (h.plain e)

parts_back : (r : List Part) (t : List ℕ) → Each Imageable r → Each Few (items_in r)
    → parts_front (length r) (image_parts r ++ t) ≡ Taken r (length (image_parts r))
unfolding parts_front image_parts
parts_back [] t h f = refl
parts_back (p ∷ r) t h f =
    let m = image_part p in
    let u = image_parts r ++ t in
    let b = part_back p u h.0 (each_left Few p.items (items_in r) f) in
    rw (
      append_assoc m (image_parts r) t,
      b.long,
      b.items,
      b.back,
      b.size,
      drop-append_seam m u,
      parts_back r t h.1 (each_right Few p.items (items_in r) f),
      length-append m (image_parts r),
    )

-- ---- a record

-- within the limits no parameter has too many values for two octets
few_values : (is : List Item) → length (values_of is) ≤ most_values → Each Few is
unfolding values_of Few
few_values [] h = tt
few_values (i ∷ is) h =
    let l = length-append i.values (values_of is) in
    (omega arith, few_values is (omega arith))

-- the image of a record within the limits gives the record
pub image_back : (r : List Part) → Within r → Each Imageable r
    → imaged_of (image_of r) ≡ record { answer = Accepted (length r); held = pack r }
unfolding image_of imaged_of
image_back r w h =
    let n = length (image_parts r) in
    let e : parts_front (length r) (image_parts r) ≡ Taken r n =
    ap (λ (s : List ℕ). parts_front (length r) s) (sym (append-nil (image_parts r)))
    ∙ parts_back r [] h (few_values (items_in r) w.values) in
    rw (e, eq-eqb n n refl, within_told r w)

-- ---- an allowed record

value_small : (p : Part) → AllowedPart p → Kind p.header → p.value < 4294967296
unfolding value_fits
value_small p a (octet k) = omega (arith, (k.built p.value p.more_data a.right a.fits).small)
value_small p a (call k) = omega (arith, ltb-true p.value call_number_below (rw (k.unsequenced, k.called) at a.fits))
value_small p a (many k) =
    let e : part p.header 0 0 p.items ≡ p = rw k.is_data at a.held.own in
    omega (arith, ap (λ (q : Part). q.value) e)

own_mark : (p : Part) → HeldPart p → own_more_data p.header p.more_data ≡ p.more_data
own_mark p h = go (eqb p.header transfer_data) refl
  where
    go : (b : Bool) → eqb p.header transfer_data ≡ b → own_more_data p.header p.more_data ≡ p.more_data
    go true e =
        let own : part p.header 0 0 p.items ≡ p = rw e at h.own in
        let none : 0 ≡ p.more_data = ap (λ (q : Part). q.more_data) own in
        rw (eqb-true p.header transfer_data e) none
    go false e =
        let own : part p.header p.value (own_more_data p.header p.more_data) [] ≡ p = rw e at h.own in
        ap (λ (q : Part). q.more_data) own

imageable : (p : Part) → AllowedPart p → Imageable p
imageable p a =
    record { small = value_small p a (kind p.header a.listed); mark = own_mark p a.held; plain = plain_items p a.held }

-- so the image of an allowed record gives the record
pub allowed_back : (r : List Part) → Allowed r → imaged_of (image_of r) ≡ record { answer = Accepted (length r); held = pack r }
allowed_back r a = image_back r (allowed_within r a) (each_so AllowedPart Imageable imageable r (allowed_parts r a))

-- ---- a struct handed out

-- so the struct of an accepted message, its image written and read, is the same struct
pub read_back : (m : List ℕ) → every is_octet m ≡ true → (n : ℕ) → verdict_of m ≡ Accepted n →
    let q = (reading_of m).«record» in
    imaged_of (image_of (view q)) ≡ record { answer = Accepted (length (record_of m)); held = q }
unfolding reading_of
read_back m o n e =
    let a = (read_then_laid m o n e).1 in
    rw (e, view_pack (record_of m) a.held) (allowed_back (record_of m) a)

-- ---- how long an image is

pub length-item : (i : Item) → length (image_item i) ≡ octets_to_a_transfer_head + length i.values
unfolding image_item
length-item i = omega arith

items_long : (is : List Item) → length (image_items is) ≡ octets_to_a_transfer_head * length is + length (values_of is)
unfolding image_items values_of
items_long [] = refl
items_long (i ∷ is) =
    omega (arith, length-append (image_item i) (image_items is), length-item i, length-append i.values (values_of is), items_long is)

items-append : (is js : List Item) → image_items (is ++ js) ≡ image_items is ++ image_items js
unfolding image_items
items-append [] js = refl
items-append (i ∷ is) js = rw (items-append is js, append_assoc (image_item i) (image_items is) (image_items js))

part_long : (p : Part) → length (image_part p) ≡ octets_to_a_common_head + length (image_items p.items)
unfolding image_part
part_long p = omega arith

parts_long : (r : List Part) → length (image_parts r) ≡ octets_to_a_common_head * length r + length (image_items (items_in r))
unfolding image_parts image_items
parts_long [] = refl
parts_long (p ∷ r) =
    let a =
    ap (λ (l : List ℕ). length l) (items-append p.items (items_in r))
    ∙ length-append (image_items p.items) (image_items (items_in r)) in
    omega (arith, length-append (image_part p) (image_parts r), part_long p, parts_long r, a)

-- the image of an accepted message's record has at most so many octets
pub image_most : (m : List ℕ) → every is_octet m ≡ true → (n : ℕ) → verdict_of m ≡ Accepted n → length (image_of (record_of m)) ≤ most_image
unfolding image_of
image_most m o n e =
    let r = record_of m in
    let a = (read_then_laid m o n e).1 in
    let values = values_within (items_in r) in
    omega (arith, parts_long r, items_long (items_in r), a.few_commons, a.few_transfers, a.few_contents)

-- ---- an example: user class 1, own call number 12345, sequence 1 with more data, transfer data with the originating area 1203

abbrev example : List Part
example =
    value_part 0x01 1 ∷
    value_part 0x83 12345 ∷
    part 0x04 1 1 [] ∷
    data_part (marked_item 0x90 0 0 0 (1 ∷ 2 ∷ 0 ∷ 3 ∷ []) ∷ []) ∷
    []

abbrev octets : List ℕ
octets =
    4 ∷
    0x01 ∷ 1 ∷ 0 ∷ 0 ∷ 0 ∷ 0 ∷ 0 ∷
    0x83 ∷ 0x39 ∷ 0x30 ∷ 0 ∷ 0 ∷ 0 ∷ 0 ∷
    0x04 ∷ 1 ∷ 0 ∷ 0 ∷ 0 ∷ 1 ∷ 0 ∷
    0xC5 ∷ 0 ∷ 0 ∷ 0 ∷ 0 ∷ 0 ∷ 1 ∷
    0x90 ∷ 0 ∷ 0 ∷ 0 ∷ 0 ∷ 0 ∷ 0 ∷ 0 ∷ 0 ∷ 4 ∷ 0 ∷ 1 ∷ 2 ∷ 0 ∷ 3 ∷
    []

pub example_image : image_of example ≡ octets
unfolding image_item image_items image_part image_parts image_of
example_image = refl

pub example_back : imaged_of octets ≡ record { answer = Accepted 4; held = pack example }
unfolding items_front parts_front is_within imaged_of values_of
example_back = refl

-- an octet left over, or one cut off: no record
pub example_over : imaged_of (octets ++ 0 ∷ []) ≡ no_image
unfolding items_front parts_front is_within imaged_of
example_over = refl

pub example_cut : imaged_of (take 43 octets) ≡ no_image
unfolding items_front parts_front is_within imaged_of
example_cut = refl
