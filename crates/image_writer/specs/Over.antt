-- Whether an image is no whole record within the limits: its parameters are summed up.
use Rattle.std.specs.Prelude.{ℕ, suc, ◌+◌, ◌*◌, ◌≤◌, ◌<◌, ◌≡◌, refl, Bool, true, false, not, ◌||◌, Option, Some, None, List, [], ◌∷◌, ◌++◌, eqb, leb, ltb, length, take, drop}
use Rattle.std.proofs.Common.{arith, sym, ap, ◌∙◌, length-append, drop-drop}
use Rattle.std.proofs.lemmas.List.{length-map}
use Rattle.annex.specs.Heads.{most_commons, most_transfers, most_transfer_octets}
use Rattle.annex.specs.Items.{Item, Part, contents_of, own_of}
use Rattle.annex.specs.Allowed.{items_in, contents_sum}
use Rattle.annex.specs.Records.{item_from}
use Rattle.annex.specs.Writing.{over_limits}
use Rattle.annex.specs.Image.{
  Front,
  more,
  head_front,
  item_front,
  item_size,
  items_front,
  common_front,
  part_front,
  part_then,
  parts_front,
  octets_to_a_common_head,
  octets_to_a_transfer_head,
}
use Rattle.annex.specs.Image.Front.{Taken, Short}
use Rattle.annex.specs.declared.Common.{Common}
use Rattle.annex.specs.declared.Transfer.{Transfer}
use Rattle.theorems.specs.Views.{own_items, own_common, own_parts}
use Rattle.theorems.specs.ImageWritings.{front_parts, cut_by, part_only, part_items}
use Rattle.image_writer.specs.Fronts.{item_cut, item_own, item_next, part_cut, part_next}
use Rattle.image_writer.specs.declared.Sum.{Sum}

-- ---- transfer parameters

-- these behind k others, whose contents have c octets and which take i octets of the image
abbrev pub summed_from : ℕ → ℕ → ℕ → Front Item → Option Sum
summed_from k c i (Taken is n) = Some (record { transfers = k + length is; contents = c + contents_sum (own_items is); octets = i + n })
summed_from k c i Short = None

pub record SummedTo (count : ℕ) (s : List ℕ) (x : Sum) : Type 0 where
  pub told : Some x ≡ summed_from 0 0 0 (items_front count s)
  pub few : x.transfers ≤ count
  pub small : x.contents ≤ 65538 * count
  pub within : x.octets ≤ length s

abbrev pub Summed : ℕ → List ℕ → Option Sum → Type 0
Summed count s (Some x) = SummedTo count s x
Summed count s None = None ≡ summed_from 0 0 0 (items_front count s)

sum_more : (k c i : ℕ) (x : Item) (m : ℕ) (f : Front Item)
    → summed_from k c i (more x m f) ≡ summed_from (k + 1) (c + length (contents_of (own_of x))) (i + m) f
sum_more k c i x m Short = refl
sum_more k c i x m (Taken is n) =
    let o = length (contents_of (own_of x)) in
    let ek : k + suc (length is) ≡ k + 1 + length is = omega arith in
    let ec : c + (o + contents_sum (own_items is)) ≡ c + o + contents_sum (own_items is) = omega arith in
    let ei : i + (m + n) ≡ i + m + n = omega arith in
    λ j. Some (record { transfers = ek j; contents = ec j; octets = ei j })

module _ (k c i left : ℕ) (s : List ℕ) where
  pub sum_cut : leb (item_size (drop i s)) (length (drop i s)) ≡ false → summed_from k c i (items_front (suc left) (drop i s)) ≡ None
  sum_cut e = ap (summed_from k c i) (item_cut i left s e)

  pub sum_turn : leb (item_size (drop i s)) (length (drop i s)) ≡ true → (t : Transfer) → t ≡ head_front (drop i s) → (vs : List ℕ)
      → vs ≡ take t.len (drop (i + octets_to_a_transfer_head) s)
      → summed_from k c i (items_front (suc left) (drop i s))
      ≡ summed_from (k + 1) (c + length (contents_of (item_from t vs))) (i + octets_to_a_transfer_head + t.len)
      (items_front left (drop (i + octets_to_a_transfer_head + t.len) s))
  sum_turn whole t head vs values =
      let e : i + octets_to_a_transfer_head + t.len ≡ i + (octets_to_a_transfer_head + t.len) = omega arith in
      ap (summed_from k c i) (item_next i left s t head whole)
      ∙ sum_more k c i (item_front (drop i s)) (octets_to_a_transfer_head + t.len) (items_front left (drop (i + octets_to_a_transfer_head + t.len) s))
      ∙ rw (item_own i left s t head vs values, e)

pub sum_end : (k c i : ℕ) (s : List ℕ)
    → summed_from k c i (items_front 0 s) ≡ Some (record { transfers = k; contents = c; octets = i })
unfolding items_front
sum_end k c i s =
    let ek : k + 0 ≡ k = omega arith in
    let ec : c + 0 ≡ c = omega arith in
    let ei : i + 0 ≡ i = omega arith in
    rw (ek, ec, ei)

-- ---- common parameters

-- of n octets
abbrev pub over_by : ℕ → Front Part → Bool
over_by n f = cut_by n f || over_limits (own_parts (front_parts f))

-- these behind k others with t transfer parameters, whose contents have c octets, and i octets of the image
abbrev pub over_from : ℕ → ℕ → ℕ → ℕ → ℕ → Front Part → Bool
over_from n k t c i (Taken r m) =
    not (eqb (i + m) n)
    || (ltb most_commons (k + length (own_parts r))
    || (ltb most_transfers (t + length (items_in (own_parts r))) || ltb most_transfer_octets (c + contents_sum (items_in (own_parts r)))))
over_from n k t c i Short = true

pub over_start : (n : ℕ) (f : Front Part) → over_by n f ≡ over_from n 0 0 0 0 f
unfolding over_limits
over_start n Short = refl
over_start n (Taken r m) =
    let em : m ≡ 0 + m = omega arith in
    let ek : length (own_parts r) ≡ 0 + length (own_parts r) = omega arith in
    let et : length (items_in (own_parts r)) ≡ 0 + length (items_in (own_parts r)) = omega arith in
    let ec : contents_sum (items_in (own_parts r)) ≡ 0 + contents_sum (items_in (own_parts r)) = omega arith in
    λ j. not (eqb (em j) n) || (ltb most_commons (ek j) || (ltb most_transfers (et j) || ltb most_transfer_octets (ec j)))

contents_append : (is js : List Item) → contents_sum (is ++ js) ≡ contents_sum is + contents_sum js
contents_append [] js = omega arith
contents_append (i ∷ is) js = omega (arith, contents_append is js)

over_more : (n k t c i m : ℕ) (p : Part) (f : Front Part)
    → over_from n k t c i (more p m f)
    ≡ over_from n (k + 1) (t + length (own_common p).items) (c + contents_sum (own_common p).items) (i + m) f
over_more n k t c i m p Short = refl
over_more n k t c i m p (Taken r x) =
    let is = (own_common p).items in
    let js = items_in (own_parts r) in
    let ei : i + (m + x) ≡ i + m + x = omega arith in
    let ek : k + suc (length (own_parts r)) ≡ k + 1 + length (own_parts r) = omega arith in
    let et : t + length (is ++ js) ≡ t + length is + length js = omega (arith, length-append is js) in
    let ec : c + contents_sum (is ++ js) ≡ c + contents_sum is + contents_sum js = omega (arith, contents_append is js) in
    λ j. not (eqb (ei j) n) || (ltb most_commons (ek j) || (ltb most_transfers (et j) || ltb most_transfer_octets (ec j)))

-- what its transfer parameters were summed up to
over_cut : (n k t c i : ℕ) (s : List ℕ) (f : Front Item) (rest : ℕ → Front Part) → None ≡ summed_from 0 0 0 f
    → over_from n k t c i (part_then s f rest) ≡ true
over_cut n k t c i s Short rest e = refl
over_cut n k t c i s (Taken is m) rest e = absurd (let z : ◌≡◌ {A = ℕ} 0 1 = cc in omega arith)

over_on : (n k t c i : ℕ) (s : List ℕ) (f : Front Item) (rest : ℕ → Front Part) (x : Sum) → Some x ≡ summed_from 0 0 0 f
    → f ≡ items_front (common_front s).transfers (drop octets_to_a_common_head s)
    → over_from n k t c i (part_then s f rest)
    ≡ over_from n (k + 1) (t + x.transfers) (c + x.contents) (i + octets_to_a_common_head + x.octets) (rest (octets_to_a_common_head + x.octets))
over_on n k t c i s Short rest x e h = absurd (let z : ◌≡◌ {A = ℕ} 0 1 = cc in omega arith)
over_on n k t c i s (Taken is m) rest x e h =
    let same : x ≡ record { transfers = 0 + length is; contents = 0 + contents_sum (own_items is); octets = 0 + m } = cc in
    let own : (own_common (part_front s is)).items ≡ own_items is = part_items (part_front s is) (part_only s is m (sym h)) in
    let em : m ≡ x.octets = omega (arith, ap (λ (y : Sum). y.octets) same) in
    let ei : i + (octets_to_a_common_head + m) ≡ i + octets_to_a_common_head + x.octets = omega arith in
    let et : length (own_common (part_front s is)).items ≡ x.transfers =
    omega (arith, ap (λ (l : List Item). length l) own ∙ length-map is own_of, ap (λ (y : Sum). y.transfers) same) in
    let ec : contents_sum (own_common (part_front s is)).items ≡ x.contents =
    omega (arith, ap contents_sum own, ap (λ (y : Sum). y.contents) same) in
    over_more n k t c i (octets_to_a_common_head + m) (part_front s is) (rest (octets_to_a_common_head + m))
    ∙ (λ j. over_from n (k + 1) (t + et j) (c + ec j) (ei j) (rest (octets_to_a_common_head + em j)))

-- the one at index i of the octets
module _ (n k t c i left : ℕ) (s : List ℕ) where
  pub over_short : length (drop i s) < octets_to_a_common_head → over_from n k t c i (parts_front (suc left) (drop i s)) ≡ true
  over_short h = ap (over_from n k t c i) (part_cut i left s h)

  module _ (h : Common) (head : h ≡ common_front (drop i s)) (l : octets_to_a_common_head ≤ length (drop i s)) where
    abbrev items : Front Item
    items = items_front h.transfers (drop (i + octets_to_a_common_head) s)

    pub over_stop : None ≡ summed_from 0 0 0 items → over_from n k t c i (parts_front (suc left) (drop i s)) ≡ true
    over_stop e =
        ap (over_from n k t c i) (part_next i left s h head l)
        ∙ over_cut n k t c i (drop i s) items (λ m. parts_front left (drop m (drop i s))) e

    pub over_turn : (x : Sum) → Some x ≡ summed_from 0 0 0 items
        → over_from n k t c i (parts_front (suc left) (drop i s))
        ≡ over_from n (k + 1) (t + x.transfers) (c + x.contents) (i + octets_to_a_common_head + x.octets)
        (parts_front left (drop (i + octets_to_a_common_head + x.octets) s))
    over_turn x e =
        let same : items ≡ items_front (common_front (drop i s)).transfers (drop octets_to_a_common_head (drop i s)) =
        rw (ap (λ (y : Common). y.transfers) head, drop-drop octets_to_a_common_head i s) in
        let j : i + (octets_to_a_common_head + x.octets) ≡ i + octets_to_a_common_head + x.octets = omega arith in
        ap (over_from n k t c i) (part_next i left s h head l)
        ∙ over_on n k t c i (drop i s) items (λ m. parts_front left (drop m (drop i s))) x e same
        ∙ ap (λ (d : List ℕ). over_from n (k + 1) (t + x.transfers) (c + x.contents) (i + octets_to_a_common_head + x.octets) (parts_front left d))
        (drop-drop (octets_to_a_common_head + x.octets) i s ∙ ap (λ (m : ℕ). drop m s) j)

-- none is left
pub over_end : (n k t c i : ℕ) (s : List ℕ)
    → over_from n k t c i (parts_front 0 s)
    ≡ not (eqb i n) || (ltb most_commons k || (ltb most_transfers t || ltb most_transfer_octets c))
unfolding parts_front
over_end n k t c i s =
    let ek : k + 0 ≡ k = omega arith in
    let et : t + 0 ≡ t = omega arith in
    let ec : c + 0 ≡ c = omega arith in
    let ei : i + 0 ≡ i = omega arith in
    rw (ek, et, ec, ei)
