-- A message written from a record's image, said without the struct between: the parameters that the image holds, each with what is its own,
-- are judged and laid out one after the other; 1 comes first where the image is no whole record within the limits. A record that is refused
-- for no parameter is over no limit, so the limits need be looked at only where one is.
use Rattle.std.specs.Prelude.{ℕ, zero, suc, ◌+◌, ◌≤◌, ◌<◌, ◌≡◌, refl, Bool, true, false, cond, not, ◌&&◌, ◌||◌, List, [], ◌∷◌, eqb, leb, ltb, length, get_or, drop}
use Rattle.std.proofs.Common.{arith, sym, ap, subst, ◌∙◌, ltb-true, ltb-false}
use Rattle.std.proofs.lemmas.List.{map-append, length-map}
use Rattle.std.proofs.lemmas.Bool.{not-false}
use Rattle.annex.specs.Answers.{over_the_limits, no_room, refuse, and_then, room_after, Answer, Accepted}
use Rattle.annex.specs.Heads.{transfer_data, most_commons, most_transfers, most_transfer_octets, most_octets}
use Rattle.annex.specs.Items.{Item, Part, part, part_with, own_of, own_more_data}
use Rattle.annex.specs.Layout.{layout}
use Rattle.annex.specs.Allowed.{every, Each, is_octet, HeldItem, HeldPart, Held, items_in, contents_sum}
use Rattle.annex.specs.Walk.{unseen}
use Rattle.annex.specs.Records.{values_of, pack, view}
use Rattle.annex.specs.Writing.{parts_writing, over_limits, record_writing, struct_writing, writing_of}
use Rattle.annex.specs.Image.{
  Front,
  more,
  head_front,
  item_front,
  item_size,
  items_front,
  common_front,
  part_front,
  part_then,
  parts_front,
  no_image,
  is_within,
  imaged_by,
  imaged_of,
  octets_to_a_common_head,
  octets_to_a_transfer_head,
}
use Rattle.annex.specs.Image.Front.{Taken, Short}
use Rattle.annex.specs.Packed.{image_writing, image_written}
use Rattle.annex.specs.declared.Imaged.{Imaged}
use Rattle.laws.specs.Bools.{and_left, and_right, or_left, or_right}
use Rattle.laws.specs.Laid.{own_values, own_held_item}
use Rattle.laws.specs.Steps.{refuse_then}
use Rattle.theorems.specs.Lists.{every_take, every_drop, each_map}
use Rattle.theorems.specs.Records.{OnlyData, values_within}
use Rattle.theorems.specs.Layouts.{laid_then_read}
use Rattle.theorems.specs.Views.{own_items, own_common, own_parts, own_part_lem, view_own, whole_within, within_told}
use Rattle.theorems.specs.Writings.{writable_allowed, parts_writable, within_limits}

-- ---- the record of an image

-- the parameters that were read; none where the octets are too short
abbrev pub front_parts : Front Part → List Part
front_parts (Taken r k) = r
front_parts Short = []

-- the octets are too short, or of these n some are left over
abbrev pub cut_by : ℕ → Front Part → Bool
cut_by n (Taken r k) = not (eqb k n)
cut_by n Short = true

abbrev pub image_record : List ℕ → List Part
image_record [] = []
image_record (n ∷ s) = own_parts (front_parts (parts_front n s))

abbrev pub image_cut : List ℕ → Bool
image_cut [] = true
image_cut (n ∷ s) = cut_by (length s) (parts_front n s)

-- no whole record within the limits
abbrev pub image_over : List ℕ → Bool
image_over m = image_cut m || over_limits (image_record m)

-- ---- what holds of each parameter read from octets

abbrev EachFront : {A : Type 0} → (A → Type 0) → Front A → Type 0
EachFront P (Taken xs k) = Each P xs
EachFront P Short = Unit {0}

each_more : {A : Type 0} (P : A → Type 0) (x : A) (n : ℕ) (f : Front A) → P x → EachFront P f → EachFront P (more x n f)
each_more P x n (Taken xs k) p e = (p, e)
each_more P x n Short p e = tt

abbrev OctetItem : Item → Type 0
OctetItem i = (i.header < 256) × (every is_octet i.values ≡ true)

first_octet : (s : List ℕ) → every is_octet s ≡ true → get_or s 0 0 < 256
first_octet [] o = omega arith
first_octet (x ∷ s) o = ltb-true x 256 (and_left (is_octet x) (every is_octet s) o)

items_octets : (n : ℕ) (s : List ℕ) → every is_octet s ≡ true → EachFront OctetItem (items_front n s)
unfolding items_front
items_octets zero s o = tt
items_octets (suc n) s o = go (leb (item_size s) (length s)) (items_octets n (drop (item_size s) s) (every_drop is_octet (item_size s) s o))
  where
    go : (b : Bool) → EachFront OctetItem (items_front n (drop (item_size s) s))
        → EachFront OctetItem (cond b (more (item_front s) (item_size s) (items_front n (drop (item_size s) s))) Short)
    go true e =
        let vs = every_take is_octet (head_front s).len (drop octets_to_a_transfer_head s) (every_drop is_octet octets_to_a_transfer_head s o) in
        each_more OctetItem (item_front s) (item_size s) (items_front n (drop (item_size s) s)) (first_octet s o, vs) e
    go false e = tt

-- of each common parameter what holds of the one at the front of octets that are so; what is behind it is so too
parts_each : (P : Part → Type 0) (So : List ℕ → Type 0) → ((k : ℕ) (s : List ℕ) → So s → So (drop k s))
    → ((s : List ℕ) (is : List Item) (k : ℕ) → So s → items_front (common_front s).transfers (drop octets_to_a_common_head s) ≡ Taken is k
    → P (part_front s is))
    → (n : ℕ) (s : List ℕ) → So s → EachFront P (parts_front n s)
unfolding parts_front
parts_each P So behind here zero s o = tt
parts_each P So behind here (suc n) s o =
    go (leb octets_to_a_common_head (length s)) (items_front (common_front s).transfers (drop octets_to_a_common_head s)) refl
    (λ k. parts_each P So behind here n (drop k s) (behind k s o))
  where
    go : (b : Bool) (f : Front Item) → items_front (common_front s).transfers (drop octets_to_a_common_head s) ≡ f
        → ((k : ℕ) → EachFront P (parts_front n (drop k s)))
        → EachFront P (cond b (part_then s f (λ k. parts_front n (drop k s))) Short)
    go true (Taken is k) e r =
        each_more P (part_front s is) (octets_to_a_common_head + k) (parts_front n (drop (octets_to_a_common_head + k) s)) (here s is k o e) (r (octets_to_a_common_head + k))
    go true Short e r = tt
    go false f e r = tt

-- where it is no C5, it has no transfer parameters
pub part_only : (s : List ℕ) (is : List Item) (k : ℕ) → items_front (common_front s).transfers (drop octets_to_a_common_head s) ≡ Taken is k
    → OnlyData (part_front s is)
unfolding items_front
part_only s is k e f =
    let none : Taken [] 0 ≡ Taken is k = rw f at e in
    let same : [] ≡ is = cc in
    sym same

parts_only : (n : ℕ) (s : List ℕ) → EachFront OnlyData (parts_front n s)
parts_only n s = parts_each OnlyData (λ s. Unit {0}) (λ k s o. tt) (λ s is k o. part_only s is k) n s tt

-- headers and values are octets, and what is a parameter's own is held as a record holds it
abbrev OctetPart : Part → Type 0
OctetPart p = (p.header < 256) × Each OctetItem p.items

parts_octets : (n : ℕ) (s : List ℕ) → every is_octet s ≡ true → EachFront OctetPart (parts_front n s)
parts_octets n s o =
    parts_each OctetPart (λ s. every is_octet s ≡ true) (every_drop is_octet)
    (λ s is k o e. (
      first_octet s o,
      subst (EachFront OctetItem) e (items_octets (common_front s).transfers (drop octets_to_a_common_head s)
          (every_drop is_octet octets_to_a_common_head s o)),
    )) n s o

parts_held : (r : List Part) → Each OctetPart r → Held (own_parts r)
parts_held r h =
    each_map OctetPart HeldPart own_common
    (λ p q. own_part_lem (part_with (own_items p.items) p) q.0
    (each_map OctetItem HeldItem own_of (λ i w. own_held_item i w.0 w.1) p.items q.1)) r h

-- ---- the limits

pub part_items : (p : Part) → OnlyData p → (own_common p).items ≡ own_items p.items
part_items p h = go (eqb p.header transfer_data) refl
  where
    go : (b : Bool) → eqb p.header transfer_data ≡ b
        → (cond b (part p.header 0 0 (own_items p.items))
        (part p.header p.value (own_more_data p.header p.more_data) [])).items
        ≡ own_items p.items
    go true e = refl
    go false e = sym (ap own_items (h e))

items_own : (r : List Part) → Each OnlyData r → items_in (own_parts r) ≡ own_items (items_in r)
items_own [] h = refl
items_own (p ∷ r) h = rw (part_items p h.0, items_own r h.1) (sym (map-append own_of p.items (items_in r)))

values_own : (is : List Item) → values_of (own_items is) ≡ values_of is
unfolding values_of
values_own [] = refl
values_own (i ∷ is) = rw (own_values i, values_own is)

-- few enough parameters with few enough octets of contents have few enough values
under_within : (r : List Part) → Each OnlyData r → over_limits (own_parts r) ≡ false → is_within r ≡ true
unfolding over_limits
under_within r h e =
    let is = items_in r in
    let os = items_in (own_parts r) in
    let a = ltb most_commons (length (own_parts r)) in
    let b = ltb most_transfers (length os) in
    let c = ltb most_transfer_octets (contents_sum os) in
    let bc = or_right a (b || c) e in
    let same : os ≡ own_items is = items_own r h in
    let vs : values_of os ≡ values_of is = ap values_of same ∙ values_own is in
    let ls : length os ≡ length is = ap (λ (l : List Item). length l) same ∙ length-map is own_of in
    within_told r
    (record {
      commons = omega (arith, ltb-false most_commons (length (own_parts r)) (or_left a (b || c) e), length-map r own_common);
      transfers = omega (arith, ltb-false most_transfers (length os) (or_left b c bc));
      values = omega (
        arith,
        values_within os,
        ap (λ (l : List ℕ). length l) vs,
        ltb-false most_transfer_octets (contents_sum os) (or_right b c bc),
      );
    })

-- ---- the law

-- 15 where the room is shorter
abbrev pub room_then : ℕ → Answer → Answer
room_then room a = and_then a (λ n. refuse (ltb room n) no_room 0 (Accepted n))

record_writing_lem : (r : List Part) → Each OnlyData r → is_within r ≡ true → (room : ℕ)
    → writing_of (pack r) room ≡ refuse (over_limits (own_parts r)) over_the_limits 0 (room_then room (parts_writing unseen 0 (own_parts r)))
unfolding writing_of struct_writing record_writing
record_writing_lem r h w room =
    rw (whole_within r h, w, view_own r h)
    (refuse_then (over_limits (own_parts r)) over_the_limits 0 (parts_writing unseen 0 (own_parts r))
    (λ n. refuse (ltb room n) no_room 0 (Accepted n)))

abbrev imaged_then : ℕ → Imaged → Answer
imaged_then room g = and_then g.answer (λ _. writing_of g.held room)

pub image_writing_lem : (m : List ℕ) (room : ℕ)
    → image_writing m room ≡ refuse (image_over m) over_the_limits 0 (room_then room (parts_writing unseen 0 (image_record m)))
unfolding image_writing imaged_of
image_writing_lem [] room = refl
image_writing_lem (n ∷ s) room = go (parts_front n s) (parts_only n s)
  where
    go : (f : Front Part) → EachFront OnlyData f →
        let r = own_parts (front_parts f) in
        imaged_then room (imaged_by (length s) f)
        ≡ refuse (cut_by (length s) f || over_limits r) over_the_limits 0 (room_then room (parts_writing unseen 0 r))
    go Short h = refl
    go (Taken r k) h = told (eqb k (length s)) (is_within r) refl (over_limits (own_parts r)) refl
      where
        told : (a w : Bool) → is_within r ≡ w → (o : Bool) → over_limits (own_parts r) ≡ o
            → imaged_then room (cond (a && w) (record { answer = Accepted (length r); held = pack r }) no_image)
            ≡ refuse (not a || o) over_the_limits 0 (room_then room (parts_writing unseen 0 (own_parts r)))
        told false w e o f = refl
        told true true e o f = record_writing_lem r h e room ∙ rw f
        told true false e true f = refl
        told true false e false f = absurd (let u = under_within r h f in let z : ◌≡◌ {A = ℕ} 0 1 = cc in omega arith)

-- and what the room then holds
image_shown : (m : List ℕ) → image_over m ≡ false → view (imaged_of m).held ≡ image_record m
unfolding imaged_of
image_shown [] e = absurd (let z : ◌≡◌ {A = ℕ} 0 1 = cc in omega arith)
image_shown (n ∷ s) e = go (parts_front n s) (parts_only n s) e
  where
    go : (f : Front Part) → EachFront OnlyData f → cut_by (length s) f || over_limits (own_parts (front_parts f)) ≡ false
        → view (imaged_by (length s) f).held ≡ own_parts (front_parts f)
    go Short h e = absurd (let z : ◌≡◌ {A = ℕ} 0 1 = cc in omega arith)
    go (Taken r k) h e =
        let o = over_limits (own_parts r) in
        let w = under_within r h (or_right (not (eqb k (length s))) o e) in
        rw (not-false (eqb k (length s)) (or_left (not (eqb k (length s))) o e), w) (view_own r h)

pub image_written_lem : (m room : List ℕ) → image_written m room ≡ room_after (image_writing m (length room)) (layout (image_record m)) room
unfolding image_written
image_written_lem m room = go (image_over m) refl
  where
    go : (o : Bool) → image_over m ≡ o
        → room_after (image_writing m (length room)) (layout (view (imaged_of m).held)) room
        ≡ room_after (image_writing m (length room)) (layout (image_record m)) room
    go true e = rw (image_writing_lem m (length room), e)
    go false e = rw (image_shown m e)

-- ---- what is refused for no parameter

pub record Fit (m : List ℕ) (n : ℕ) : Type 0 where
  pub under : image_over m ≡ false
  pub length-given : n ≡ length (layout (image_record m))
  pub few : n ≤ most_octets
  pub octets : every is_octet (layout (image_record m)) ≡ true

nothing_held : Held (view (pack []))
nothing_held = rw (view_own [] tt) tt

image_held : (m : List ℕ) → every is_octet m ≡ true → Held (image_record m)
image_held [] o = tt
image_held (n ∷ s) o = go (parts_front n s) (parts_octets n s (and_right (is_octet n) (every is_octet s) o))
  where
    go : (f : Front Part) → EachFront OctetPart f → Held (own_parts (front_parts f))
    go (Taken r k) h = parts_held r h
    go Short h = tt

-- the same of the struct, whatever the octets are
pub image_view_held : (m : List ℕ) → every is_octet m ≡ true → Held (view (imaged_of m).held)
unfolding imaged_of
image_view_held [] o = nothing_held
image_view_held (n ∷ s) o = go (parts_front n s) (parts_only n s) (parts_octets n s (and_right (is_octet n) (every is_octet s) o))
  where
    go : (f : Front Part) → EachFront OnlyData f → EachFront OctetPart f → Held (view (imaged_by (length s) f).held)
    go Short h p = nothing_held
    go (Taken r k) h p = told (eqb k (length s) && is_within r)
      where
        told : (b : Bool) → Held (view (cond b (record { answer = Accepted (length r); held = pack r }) no_image).held)
        told true = rw (view_own r h) (parts_held r p)
        told false = nothing_held

pub image_fit : (m : List ℕ) → every is_octet m ≡ true → image_cut m ≡ false → (n : ℕ) → parts_writing unseen 0 (image_record m) ≡ Accepted n
    → Fit m n
image_fit m o e n w =
    let r = image_record m in
    let p = parts_writable r (image_held m o) n w in
    let a = writable_allowed r p.0 in
    let l = laid_then_read r a in
    record {
      under = rw (e, within_limits r a);
      length-given = p.1;
      few = omega (arith, p.1, l.3);
      octets = l.2;
    }
