-- Places and values are below 2^16 where a message is read to an image, or written from one.
use Rattle.std.specs.Prelude.{ℕ, ◌+◌, ◌-◌, ◌*◌, ◌/◌, ◌≤◌, ◌≡◌, refl, Bool, true, false, cond, not, ◌||◌, ◌&&◌, List, [], ◌∷◌, ◌++◌, eqb, ltb, length, Err}
use Rattle.std.proofs.Common.{arith, ap, ◌∙◌, ltb-false, le-ltb, length-append}
use Rattle.annex.specs.Answers.{over_the_limits, missing, transfer_over, no_room, number_of, refuse, and_then, Answer, Accepted, Refused}
use Rattle.annex.specs.Units.{extent_of}
use Rattle.annex.specs.Heads.{among, common_headers, transfer_data, is_call, most_commons, most_transfers, most_transfer_octets}
use Rattle.annex.specs.Items.{Item, Part}
use Rattle.annex.specs.Layout.{call_octets, octet_of, data_octets, layout_item, layout_items, layout_part, layout}
use Rattle.annex.specs.Allowed.{every, is_octet, value_right, value_fits, items_in, contents_sum}
use Rattle.annex.specs.Walk.{Seen, unseen, times_seen, counted}
use Rattle.annex.specs.Reading.{whole_in, verdict_of, record_of}
use Rattle.annex.specs.Records.{pack, is_whole, view}
use Rattle.annex.specs.Writing.{
  item_writing,
  items_writing,
  data_writing,
  part_writing,
  parts_writing,
  over_limits,
  record_writing,
  struct_writing,
  writing_of,
}
use Rattle.annex.specs.Image.{Front, most_image, image_of, parts_front, no_image, is_within, imaged_by, imaged_of}
use Rattle.annex.specs.Image.Front.{Taken, Short}
use Rattle.annex.specs.Packed.{packed_answer, image_reading, image_writing}
use Rattle.annex.specs.Promises.{TkReadPromise}
use Rattle.annex.specs.declared.Record.{Record}
use Rattle.laws.specs.Laid.{length-layout, lead_small}
use Rattle.laws.specs.Places.{item_place}
use Rattle.theorems.specs.Records.{layout-append}
use Rattle.theorems.specs.Writings.{item_written}
use Rattle.theorems.specs.Images.{image_most}
use Rattle.boundary.specs.Small.{Upto, farthest, upto_more, upto_refuse, upto_then, verdict_upto}

-- ---- read to an image

-- the number of most-image that a program is compiled with
pub image_max : most_image ≡ 1147
image_max = refl

-- with so much room, reading to an image is refused for what is wrong with the message alone, never for want of room
pub read_roomy : (m room : List ℕ) → every is_octet m ≡ true → most_image ≤ length room → (r : ℕ) (now : List ℕ)
    → TkReadPromise m room r now → r / 4294967296 ≡ number_of (verdict_of m)
unfolding image_reading
read_roomy m room o l r now p = rw p.0 (go (verdict_of m) refl)
  where
    image : List ℕ
    image = image_of (record_of m)

    go : (a : Answer) → verdict_of m ≡ a
        → packed_answer (and_then a (λ _. refuse (ltb (length room) (length image)) no_room 0 (Accepted (length image)))) / 4294967296
        ≡ number_of a
    go (Accepted n) e = rw (le-ltb (length room) (length image) (omega (arith, image_most m o n e))) (omega arith)
    go (Err r) e = omega arith

pub image_upto : (m : List ℕ) (room : ℕ) → every is_octet m ≡ true → Upto most_image (image_reading m room)
unfolding image_reading image_of
image_upto m room o = go (verdict_of m) refl (verdict_upto m)
  where
    go : (a : Answer) → verdict_of m ≡ a → Upto farthest a
        → Upto most_image
        (and_then a (λ _. refuse (ltb room (length (image_of (record_of m)))) no_room 0 (Accepted (length (image_of (record_of m))))))
    go (Accepted n) e u =
        let r = record_of m in
        upto_refuse (ltb room (length (image_of r))) no_room 0 most_image (Accepted (length (image_of r))) (omega arith)
        (omega arith, image_most m o n e)
    go (Err r) e u = (omega (arith, u.0), omega arith)

-- ---- writing

-- no place is behind the octets that are written
item_upto : (times p : ℕ) (i : Item) → Upto (p + length (layout_item i)) (item_writing times p i)
item_upto times p i = go (item_writing times p i) refl
  where
    go : (a : Answer) → item_writing times p i ≡ a → Upto (p + length (layout_item i)) a
    go (Accepted n) e = (omega arith, omega (arith, (item_written times p i n e).behind))
    go (Err r) e = (omega (arith, (item_place times p i).at r.0 r.1 e), omega arith)

items_upto : (is : List Item) (seen : Seen) (p : ℕ) → Upto (p + length (layout_items is)) (items_writing seen p is)
unfolding items_writing layout_items
items_upto [] seen p = (omega arith, omega arith)
items_upto (i ∷ is) seen p =
    let l = length-append (layout_item i) (layout_items is) in
    let n = p + length (layout_item i ++ layout_items is) in
    upto_then (item_writing (times_seen seen i.header) p i) (λ q. items_writing (counted seen i.header) q is)
    (p + length (layout_item i)) n (omega arith) (item_upto (times_seen seen i.header) p i)
    (λ q h. upto_more (items_writing (counted seen i.header) q is) (q + length (layout_items is)) n (omega arith)
    (items_upto is (counted seen i.header) q))

data_upto : (p : ℕ) (is : List Item) → Upto (p + 2 + length (layout_items is)) (data_writing p is)
unfolding data_writing
data_upto p is =
    let n = p + 2 + length (layout_items is) in
    upto_then (items_writing unseen (p + 2) is) (λ q. refuse (ltb most_transfer_octets (q - (p + 2))) transfer_over p (Accepted q)) n n
    (omega arith) (items_upto is unseen (p + 2))
    (λ q h. upto_refuse (ltb most_transfer_octets (q - (p + 2))) transfer_over p n (Accepted q) (omega arith) (omega arith, h))

part_upto : (times p : ℕ) (q : Part) → Upto (p + length (layout_part q)) (part_writing times p q)
unfolding part_writing layout_part
part_upto times p q =
    let n = p + length (layout_part q) in
    let late = cond (eqb q.header transfer_data) (data_writing p q.items) (Accepted n) in
    upto_refuse (not (among q.header common_headers)) _ p n _ (omega arith)
    (upto_refuse (ltb 0 times) _ p n _ (omega arith)
    (upto_refuse (not (value_right q)) _ p n _ (omega arith)
    (upto_refuse (not (value_fits q)) _ p n late (omega arith)
    (go (eqb q.header transfer_data) (cond (is_call q.header) (call_octets q.value) (octet_of q ∷ []))))))
  where
    go : (b : Bool) (other : List ℕ)
        → Upto (p + length (q.header ∷ cond b (data_octets (layout_items q.items)) other))
        (cond b (data_writing p q.items) (Accepted (p + length (q.header ∷ cond b (data_octets (layout_items q.items)) other))))
    go true other =
        upto_more (data_writing p q.items) (p + 2 + length (layout_items q.items))
        (p + length (q.header ∷ data_octets (layout_items q.items))) (omega arith) (data_upto p q.items)
    go false other = (omega arith, omega arith)

parts_upto : (r : List Part) (seen : Seen) (p : ℕ) → Upto (p + length (layout r)) (parts_writing seen p r)
unfolding parts_writing layout
parts_upto [] seen p = upto_refuse (not (whole_in seen)) missing p (p + 1) (Accepted (p + 1)) (omega arith) (omega arith, omega arith)
parts_upto (q ∷ qs) seen p =
    let l = length-append (layout_part q) (layout qs) in
    let n = p + length (layout_part q ++ layout qs) in
    upto_then (part_writing (times_seen seen q.header) p q) (λ k. parts_writing (counted seen q.header) k qs)
    (p + length (layout_part q)) n (omega arith) (part_upto (times_seen seen q.header) p q)
    (λ k h. upto_more (parts_writing (counted seen q.header) k qs) (k + length (layout qs)) n (omega arith)
    (parts_upto qs (counted seen q.header) k))

-- a header and a length octet at most, before the contents
items_few : (is : List Item) → length (layout_items is) ≤ 2 * length is + contents_sum is
unfolding layout_items
items_few [] = omega arith
items_few (i ∷ is) =
    omega (arith, length-append (layout_item i) (layout_items is), length-layout i, lead_small (extent_of i.header), items_few is)

part_few : (p : Part) → length (layout_part p) ≤ 4 + length (layout_items p.items)
unfolding layout_part
part_few p = go (eqb p.header transfer_data) (is_call p.header)
  where
    go : (b c : Bool)
        → length (p.header ∷ cond b (data_octets (layout_items p.items)) (cond c (call_octets p.value) (octet_of p ∷ [])))
        ≤ 4 + length (layout_items p.items)
    go true c = omega arith
    go false true = omega arith
    go false false = omega arith

parts_few : (r : List Part) → length (layout r) ≤ 1 + 4 * length r + length (layout_items (items_in r))
unfolding layout layout_items
parts_few [] = omega arith
parts_few (p ∷ r) =
    let a =
    ap (λ (l : List ℕ). length l) (layout-append p.items (items_in r))
    ∙ length-append (layout_items p.items) (layout_items (items_in r)) in
    omega (arith, length-append (layout_part p) (layout r), part_few p, parts_few r, a)

-- as many common parameters, transfer parameters and octets of contents as a record may hold
abbrev pub most_written : ℕ
most_written = 1 + 4 * most_commons + 2 * most_transfers + most_transfer_octets

record_upto : (r : List Part) → Upto most_written (record_writing r)
unfolding record_writing over_limits
record_upto r =
    go (ltb most_commons (length r)) (ltb most_transfers (length (items_in r))) (ltb most_transfer_octets (contents_sum (items_in r)))
    (ltb-false most_commons (length r))
    (ltb-false most_transfers (length (items_in r)))
    (ltb-false most_transfer_octets (contents_sum (items_in r)))
  where
    go : (a b c : Bool) → (a ≡ false → length r ≤ most_commons) → (b ≡ false → length (items_in r) ≤ most_transfers)
        → (c ≡ false → contents_sum (items_in r) ≤ most_transfer_octets)
        → Upto most_written (refuse (a || (b || c)) over_the_limits 0 (parts_writing unseen 0 r))
    go true b c h i j = (omega arith, omega arith)
    go false true c h i j = (omega arith, omega arith)
    go false false true h i j = (omega arith, omega arith)
    go false false false h i j =
        upto_more (parts_writing unseen 0 r) (0 + length (layout r)) most_written
        (omega (arith, parts_few r, items_few (items_in r), h refl, i refl, j refl)) (parts_upto r unseen 0)

pub struct_upto : (s : Record) → Upto most_written (struct_writing s)
unfolding struct_writing
struct_upto s = upto_refuse (not (is_whole s)) over_the_limits 0 most_written (record_writing (view s)) (omega arith) (record_upto (view s))

-- then the room
pub room_upto : (a : Answer) (room : ℕ) → Upto most_written a
    → Upto most_written (and_then a (λ n. refuse (ltb room n) no_room 0 (Accepted n)))
room_upto a room u =
    upto_then a (λ n. refuse (ltb room n) no_room 0 (Accepted n)) most_written most_written (omega arith) u
    (λ n h. upto_refuse (ltb room n) no_room 0 most_written (Accepted n) (omega arith) (omega arith, h))

-- ---- written from an image

-- 1 at 0 where the octets are none
pub imaged_upto : (image : List ℕ) (a : Answer) → Upto most_written a → Upto most_written (and_then (imaged_of image).answer (λ _. a))
unfolding imaged_of
imaged_upto [] a u = (omega arith, omega arith)
imaged_upto (n ∷ s) a u = go (parts_front n s)
  where
    go : (f : Front Part) → Upto most_written (and_then (imaged_by (length s) f).answer (λ _. a))
    go Short = (omega arith, omega arith)
    go (Taken r k) = told (eqb k (length s) && is_within r)
      where
        told : (b : Bool)
            → Upto most_written (and_then (cond b (record { answer = Accepted (length r); held = pack r }) no_image).answer (λ _. a))
        told true = u
        told false = (omega arith, omega arith)

pub write_upto : (image : List ℕ) (room : ℕ) → Upto most_written (image_writing image room)
unfolding image_writing writing_of
write_upto image room =
    let s = (imaged_of image).held in
    imaged_upto image (writing_of s room) (room_upto (struct_writing s) room (struct_upto s))
