-- A record is allowed exactly if each of its parts is, none stands twice, and 01 and 06 are there. The limits on how many follow.
use Rattle.std.specs.Prelude.{ℕ, suc, ◌+◌, ◌*◌, ◌≤◌, ◌<◌, ◌≡◌, refl, Bool, true, false, cond, ◌||◌, List, [], ◌∷◌, ◌++◌, map, eqb, length, get_or, drop}
use Rattle.std.proofs.Common.{arith, sym, ap, ◌∙◌, append-nil, append_assoc, eqb-true, eq-eqb, length-append, length-drop}
use Rattle.std.proofs.lemmas.List.{length-map}
use Rattle.annex.specs.Units.{name_of, extent_of}
use Rattle.annex.specs.Heads.{
  among,
  heads,
  free_names,
  end_mark,
  user_class,
  partners_call,
  own_call,
  sequence,
  signal_kind,
  transfer_data,
  common_headers,
  most_commons,
  most_transfers,
  most_transfer_octets,
  name_used,
  pli_right,
  often_of,
  most_values,
}
use Rattle.annex.specs.Items.{Item, Part, contents_of, contents_by, held_as, part, own_more_data}
use Rattle.annex.specs.declared.Holding.{Holding}
use Rattle.annex.specs.Answers.{is_sound}
use Rattle.annex.specs.declared.Holding.TheVariants.{AsContents, AsDigits, AsNumber, AsGeneric}
use Rattle.annex.specs.Digits.{code_of, joined, packed}
use Rattle.annex.specs.Layout.{layout_item, layout_items}
use Rattle.annex.specs.Allowed.{
  every,
  Each,
  times_in,
  HeldItem,
  HeldPart,
  length_right,
  fault_in,
  value_right,
  value_fits,
  items_in,
  contents_sum,
  headers_of,
  names_of,
  part_names_of,
  Allowed,
}
use Rattle.annex.specs.Records.{values_of}
use Rattle.annex.specs.declared.Alphabet.{Alphabet}
use Rattle.annex.specs.declared.Alphabet.TheVariants.{Dialled, Numbered}
use Rattle.laws.specs.Faults.{is_sound_lem}
use Rattle.laws.specs.Bools.{and_left, and_right, and_both}
use Rattle.laws.specs.Members.{among_every, count}
use Rattle.laws.specs.Often.{used_names, often_sum}
use Rattle.theorems.specs.Lists.{
  each_append,
  each_left,
  each_right,
  each_every,
  each_so,
  times_here,
  times_rest,
  times_append,
  among-append,
  at_most_lem,
  most_at,
  pigeons,
}
use Rattle.theorems.specs.Lengths.{led_length}
use Rattle.theorems.specs.Transfers.{AllowedItem, AllowedItems}
use Rattle.theorems.specs.Commons.{AllowedPart, no_items}

-- no common parameter stands twice
abbrev pub Once : List Part → Type 0
Once r = (u : ℕ) → times_in u (part_names_of r) ≤ 1

-- ---- the transfer parameters of all parts

-- only a C5 has transfer parameters
abbrev pub OnlyData : Part → Type 0
OnlyData p = eqb p.header transfer_data ≡ false → p.items ≡ []

pub plain_items : (p : Part) → HeldPart p → OnlyData p
plain_items p h e =
    let own : part p.header p.value (own_more_data p.header p.more_data) [] ≡ p = rw e at h.own in
    sym (ap (λ (q : Part). q.items) own)

-- this one is no C5
abbrev pub Plain : Part → Type 0
Plain p = eqb p.header transfer_data ≡ false

-- with none of its name there is no C5
pub unnamed_plain : (r : List Part) → times_in (name_of transfer_data) (part_names_of r) ≡ 0 → Each Plain r
unnamed_plain [] t = tt
unnamed_plain (p ∷ r) t =
    (go (eqb p.header transfer_data) refl, unnamed_plain r (omega (arith, times_rest x (name_of p.header) names)))
  where
    x : ℕ
    x = name_of transfer_data

    names : List ℕ
    names = part_names_of r

    go : (b : Bool) → eqb p.header transfer_data ≡ b → b ≡ false
    go true e = absurd (omega (arith, times_here x names, rw (eqb-true p.header transfer_data e) at t))
    go false e = refl

-- and with no C5 there are no transfer parameters
pub plain_none : (r : List Part) → Each HeldPart r → Each Plain r → items_in r ≡ []
plain_none [] h p = refl
plain_none (q ∷ r) h p = rw (plain_items q h.0 p.0) (plain_none r h.1 p.1)

parts_items : (r : List Part) → Each AllowedPart r → Once r → AllowedItems (items_in r)
parts_items [] a o = no_items
parts_items (p ∷ r) a o = go (eqb p.header transfer_data) refl (parts_items r a.1 (λ u. once_rest u))
  where
    x : ℕ
    x = name_of transfer_data

    names : List ℕ
    names = part_names_of r

    once_rest : Once r
    once_rest u = omega (arith, o u, times_rest u (name_of p.header) names)

    go : (b : Bool) → eqb p.header transfer_data ≡ b → AllowedItems (items_in r) → AllowedItems (p.items ++ items_in r)
    go true e f =
        let plain = unnamed_plain r (omega (arith, times_here x names, rw (eqb-true p.header transfer_data e) at (o x))) in
        rw (plain_none r (each_so AllowedPart HeldPart (λ p b. b.held) r a.1) plain, append-nil) a.0.items
    go false e f = rw (plain_items p a.0.held e) f

-- ---- the limits

-- six common parameters
abbrev pub common_names : List ℕ
common_names = map name_of common_headers

common_name : (h : ℕ) → among h common_headers ≡ true → among (name_of h) common_names ≡ true
common_name h e = among_every (λ k. among (name_of k) common_names) common_headers refl h e

pub common_names_lem : (r : List Part) → Each AllowedPart r → every (λ x. among x common_names) (part_names_of r) ≡ true
common_names_lem [] a = refl
common_names_lem (p ∷ r) a =
    and_both (among (name_of p.header) common_names) _ (common_name p.header a.0.listed) (common_names_lem r a.1)

few_parts : (r : List Part) → Each AllowedPart r → Once r → length r ≤ most_commons
few_parts r a o =
    omega (
      arith,
      count (part_names_of r),
      length-map r (λ p. name_of p.header),
      pigeons (λ x. 1) (λ x. 1) common_names (part_names_of r) (common_names_lem r a) o,
    )

-- as many transfer parameters as all names in use may stand

used_name : (h : ℕ) → name_used h ≡ true → among (name_of h) used_names ≡ true
unfolding name_used
used_name h e = among-append (name_of h) free_names (map (λ r. name_of r.header) heads) ∙ e

used_names_lem : (is : List Item) → Each AllowedItem is → every (λ x. among x used_names) (names_of is) ≡ true
used_names_lem [] a = refl
used_names_lem (i ∷ is) a = and_both (among (name_of i.header) used_names) _ (used_name i.header a.0.used) (used_names_lem is a.1)

few_items : (is : List Item) → AllowedItems is → length is ≤ most_transfers
few_items is a =
    omega (
      arith,
      count (names_of is),
      length-map is (λ i. name_of i.header),
      pigeons (λ x. 1) often_of used_names (names_of is) (used_names_lem is a.each) a.often,
      often_sum,
    )

-- contents and octets
contents_within : (is : List Item) → contents_sum is ≤ length (layout_items is)
unfolding layout_items layout_item
contents_within [] = omega arith
contents_within (i ∷ is) =
    simp length-append (omega (arith, led_length (extent_of i.header) (contents_of i), contents_within is))

-- a value takes at least half an octet of the contents
joined_length : (hs : List ℕ) → length hs ≤ 2 * length (joined hs)
unfolding joined
joined_length [] = omega arith
joined_length (a ∷ []) = omega arith
joined_length (a ∷ b ∷ hs) = omega (arith, joined_length hs)

packed-length : (z : Alphabet) (ds : List ℕ) → length ds ≤ 2 * length (packed z ds)
unfolding packed
packed-length z ds = omega (arith, joined_length (map (code_of z) ds), length-map ds (code_of z))

values_length : (i : Item) → length i.values ≤ 2 * length (contents_of i)
unfolding contents_of
values_length i = go (held_as i)
  where
    go : (k : Holding) → length i.values ≤ 2 * length (contents_by k i)
    go AsContents = omega arith
    go (AsDigits m) = omega (arith, packed-length Dialled i.values)
    go (AsNumber w) = omega (arith, packed-length Numbered i.values)
    go AsGeneric = omega (arith, packed-length Numbered (drop 1 i.values), length-drop 1 i.values)

-- an octet of contents holds at most two values
pub values_within : (is : List Item) → length (values_of is) ≤ 2 * contents_sum is
unfolding values_of
values_within [] = omega arith
values_within (i ∷ is) = simp length-append (omega (arith, values_length i, values_within is))

-- ---- a listed header stands exactly if its name does

abbrev headers_by_name : List ℕ
headers_by_name = end_mark ∷ user_class ∷ partners_call ∷ own_call ∷ sequence ∷ transfer_data ∷ signal_kind ∷ []

header_by_name : (h : ℕ) → among h common_headers ≡ true → get_or headers_by_name (name_of h) 0 ≡ h
header_by_name h e =
    eqb-true (get_or headers_by_name (name_of h) 0) h (among_every (λ k. eqb (get_or headers_by_name (name_of k) 0) k) common_headers refl h e)

same_header : (k h : ℕ) → among k common_headers ≡ true → among h common_headers ≡ true → name_of k ≡ name_of h → k ≡ h
same_header k h l m e = sym (header_by_name k l) ∙ ap (λ (x : ℕ). get_or headers_by_name x 0) e ∙ header_by_name h m

module _ (k : ℕ) (l : among k common_headers ≡ true) where
  pub header_stands : (r : List Part) → Each AllowedPart r → 0 < times_in (name_of k) (part_names_of r) → among k (headers_of r) ≡ true
  header_stands [] a t = absurd (omega arith)
  header_stands (p ∷ r) a t = go (eqb (name_of k) (name_of p.header)) refl t (header_stands r a.1)
    where
      names : List ℕ
      names = part_names_of r

      later : (b : Bool) → among k (headers_of r) ≡ true → b || among k (headers_of r) ≡ true
      later true e = refl
      later false e = e

      go : (b : Bool) → eqb (name_of k) (name_of p.header) ≡ b → 0 < cond b (suc (times_in (name_of k) names)) (times_in (name_of k) names)
          → (0 < times_in (name_of k) names → among k (headers_of r) ≡ true) → eqb k p.header || among k (headers_of r) ≡ true
      go true e t f = rw (eq-eqb k p.header (same_header k p.header l a.0.listed (eqb-true _ _ e)))
      go false e t f = later (eqb k p.header) (f t)

  pub name_stands : (r : List Part) → among k (headers_of r) ≡ true → 0 < times_in (name_of k) (part_names_of r)
  name_stands [] e = absurd (let z : ◌≡◌ {A = ℕ} 0 1 = cc in omega arith)
  name_stands (p ∷ r) e = go (eqb k p.header) refl e (name_stands r)
    where
      names : List ℕ
      names = part_names_of r

      go : (b : Bool) → eqb k p.header ≡ b → b || among k (headers_of r) ≡ true
          → (among k (headers_of r) ≡ true → 0 < times_in (name_of k) names) → 0 < times_in (name_of k) (name_of p.header ∷ names)
      go true q e f = rw (← eqb-true k p.header q, times_here (name_of k) names) (omega arith)
      go false q e f = omega (arith, f e, times_rest (name_of k) (name_of p.header) names)

-- ---- an allowed record, part by part

pub allowed : (r : List Part) → Each AllowedPart r → Once r → among user_class (headers_of r) ≡ true → among signal_kind (headers_of r) ≡ true
    → Allowed r
allowed r a o c k =
    let is = items_in r in
    let i = parts_items r a o in
    record {
      held = each_so AllowedPart HeldPart (λ p b. b.held) r a;
      few_commons = few_parts r a o;
      listed = each_every AllowedPart (λ p. among p.header common_headers) (λ p b. b.listed) r a;
      once = most_at (λ x. 1) (part_names_of r) o;
      has_class = c;
      has_kind = k;
      values_right = each_every AllowedPart value_right (λ p b. b.right) r a;
      values_fit = each_every AllowedPart value_fits (λ p b. b.fits) r a;
      few_transfers = few_items is i;
      few_contents = omega (arith, contents_within is, i.few_octets);
      few_octets = i.few_octets;
      names_used = each_every AllowedItem (λ i. name_used i.header) (λ i b. b.used) is i.each;
      plis_right = each_every AllowedItem (λ i. pli_right i.header) (λ i b. b.pli) is i.each;
      names_often = most_at often_of (names_of is) i.often;
      lengths_right = each_every AllowedItem length_right (λ i b. b.length_right_holds) is i.each;
      faults_none = each_every AllowedItem (λ i. is_sound (fault_in i)) (λ i b. ap is_sound b.faultless) is i.each;
    }

-- the transfer parameters of a record, one by one
items_each : (is : List Item) → Each HeldItem is → every (λ i. name_used i.header) is ≡ true → every (λ i. pli_right i.header) is ≡ true
    → every length_right is ≡ true → every (λ i. is_sound (fault_in i)) is ≡ true → Each AllowedItem is
items_each [] h u p l f = tt
items_each (i ∷ is) h u p l f = (
  record {
    held = h.0;
    used = and_left _ (every (λ i. name_used i.header) is) u;
    pli = and_left _ (every (λ i. pli_right i.header) is) p;
    length_right_holds = and_left _ (every length_right is) l;
    faultless = is_sound_lem (fault_in i) (and_left _ (every (λ i. is_sound (fault_in i)) is) f);
  },
  items_each is h.1 (and_right (name_used i.header) _ u) (and_right (pli_right i.header) _ p) (and_right (length_right i) _ l)
      (and_right (is_sound (fault_in i)) _ f),
)

items_held : (r : List Part) → Each HeldPart r → Each HeldItem (items_in r)
items_held [] h = tt
items_held (p ∷ r) h = each_append HeldItem p.items (items_in r) h.0.each (items_held r h.1)

pub allowed_items : (r : List Part) → Allowed r → AllowedItems (items_in r)
allowed_items r a =
    record {
      each = items_each (items_in r) (items_held r a.held) a.names_used a.plis_right a.lengths_right a.faults_none;
      often = at_most_lem often_of (names_of (items_in r)) a.names_often;
      few_octets = a.few_octets;
    }

-- one of them
pub item_allowed : (r : List Part) → Allowed r → (front : List Item) (one : Item) (back : List Item) → items_in r ≡ front ++ (one ∷ back)
    → AllowedItem one
item_allowed r a front one back w = (each_right AllowedItem front (one ∷ back) (rw w at (allowed_items r a).each)).0

pub layout-append : (is js : List Item) → layout_items (is ++ js) ≡ layout_items is ++ layout_items js
unfolding layout_items
layout-append [] js = refl
layout-append (i ∷ is) js = rw (append_assoc, layout-append is js)

pub names_append : (is js : List Item) → names_of (is ++ js) ≡ names_of is ++ names_of js
names_append [] js = refl
names_append (i ∷ is) js = ap (λ (l : List ℕ). name_of i.header ∷ l) (names_append is js)

module _ (is js : List Item) (a : AllowedItems (is ++ js)) where
  both_often : (u : ℕ) → times_in u (names_of is) + times_in u (names_of js) ≤ often_of u
  both_often u = rw (names_append is js, times_append) at (a.often u)

  both_octets : length (layout_items is) + length (layout_items js) ≤ most_transfer_octets
  both_octets = rw (layout-append is js, length-append) at a.few_octets

  pub items_left_lem : AllowedItems is
  items_left_lem =
      record {
        each = each_left AllowedItem is js a.each;
        often = λ u. omega (arith, both_often u);
        few_octets = omega (arith, both_octets);
      }

  pub items_right : AllowedItems js
  items_right =
      record {
        each = each_right AllowedItem is js a.each;
        often = λ u. omega (arith, both_often u);
        few_octets = omega (arith, both_octets);
      }

parts_each : (r : List Part) → Each HeldPart r → every (λ p. among p.header common_headers) r ≡ true → every value_right r ≡ true
    → every value_fits r ≡ true → AllowedItems (items_in r) → Each AllowedPart r
parts_each [] h l v f a = tt
parts_each (p ∷ r) h l v f a = (
  record {
    held = h.0;
    listed = and_left _ (every (λ p. among p.header common_headers) r) l;
    right = and_left _ (every value_right r) v;
    fits = and_left _ (every value_fits r) f;
    items = items_left_lem p.items (items_in r) a;
  },
  parts_each r h.1 (and_right (among p.header common_headers) _ l) (and_right (value_right p) _ v) (and_right (value_fits p) _ f)
      (items_right p.items (items_in r) a),
)

pub allowed_parts : (r : List Part) → Allowed r → Each AllowedPart r
allowed_parts r a = parts_each r a.held a.listed a.values_right a.values_fit (allowed_items r a)

pub allowed_once : (r : List Part) → Allowed r → Once r
allowed_once r a = at_most_lem (λ x. 1) (part_names_of r) a.once

-- an allowed record has room in the struct
pub record Within (r : List Part) : Type 0 where
  pub commons : length r ≤ most_commons
  pub transfers : length (items_in r) ≤ most_transfers
  pub values : length (values_of (items_in r)) ≤ most_values

pub allowed_within : (r : List Part) → Allowed r → Within r
allowed_within r a =
    record {
      commons = a.few_commons;
      transfers = a.few_transfers;
      values = omega (arith, values_within (items_in r), a.few_contents);
    }
