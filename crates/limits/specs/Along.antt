-- A record's struct walked along: what it holds from a place of its arrays on.
use Prim.Native.Nat.{ℕ, suc, ◌+◌, ◌-◌, ◌≤◌, ◌<◌}
use native.Mathlib.Omega.{arith}
use Rattle.std.specs.Prelude.{◌≡◌, Bool, true, false, cond, List, [], ◌∷◌, ◌++◌, map, eqb, length, get_or, take, drop}
use Rattle.std.proofs.Math.Path.{refl}
use Rattle.std.proofs.Common.{sym, ap, ◌∙◌, eq-eqb, ne_eqb, length-take, drop_of_length-le, take_all, take-add, get_or-take, length-take-le}
use Rattle.std.proofs.lemmas.List.{length-map}
use Rattle.std.proofs.Math.Seq.{take-suc, drop-cons, drop-drop}
use Rattle.annex.specs.Heads.{transfer_data, most_commons, most_transfers, most_values}
use Rattle.annex.specs.Items.{Item, Part}
use Rattle.annex.specs.Allowed.{own_part, items_in}
use Rattle.annex.specs.Records.{
  no_common,
  no_transfer,
  view_items,
  lengths_of,
  transfer_count,
  transfers_sum,
  view_parts,
  commons_in,
  view,
  raw_part,
  item_from,
}
use Rattle.annex.specs.declared.Common.{Common}
use Rattle.annex.specs.declared.Transfer.{Transfer}
use Rattle.annex.specs.declared.Record.{Record}

-- the common parameter with this head and these transfer parameters; what it does not have is no part of it
abbrev pub part_from : Common → List Item → Part
part_from c is = own_part (raw_part c is)

-- the heads at a place
abbrev pub common_at : Record → ℕ → Common
common_at q k = get_or q.common k no_common

abbrev pub transfer_at : Record → ℕ → Transfer
transfer_at q k = get_or q.transfer k no_transfer

-- how many values the first k transfer parameters have
abbrev pub used_at : Record → ℕ → ℕ
used_at q k = lengths_of (take k q.transfer)

-- the values of the head t behind so many others, as a part of a slice has them; and of the one at the place k
abbrev pub own_values : Record → Transfer → ℕ → List ℕ
own_values q t used = take (used + t.len - used) (drop used q.values)

abbrev pub own_at : Record → ℕ → ℕ → List ℕ
own_at q k used = own_values q (transfer_at q k) used

-- the n transfer parameters from the place k on
abbrev pub items_at : Record → ℕ → ℕ → List Item
items_at q k n = view_items (take n (drop k q.transfer)) (drop (used_at q k) q.values)

-- the common parameters from the place k on, whose transfer parameters start at the place j
abbrev pub parts_at : Record → ℕ → ℕ → List Part
parts_at q k j = view_parts (drop k (commons_in q)) (drop j q.transfer) (drop (used_at q j) q.values)

-- how many transfer parameters the common parameters from the place k on have
abbrev pub transfers_at : Record → ℕ → ℕ
transfers_at q k = transfers_sum (drop k (commons_in q))

-- the first n transfer parameters, and their values, lie within the arrays
pub record Within (q : Record) (n : ℕ) : Type 0 where
  pub places : n ≤ most_transfers
  pub values : used_at q n ≤ most_values

-- a struct whose counts and lengths stay within its arrays, as facts
pub record Whole (q : Record) : Type 0 where
  pub commons : q.commons ≤ most_commons
  pub within : Within q (transfers_sum (commons_in q))

-- an array of structs in a struct: what holds of the struct tells the length of a mapped list
pub length_mapped : (X Y : Type 0) (g : X → Y) (l : List X) (n : ℕ) → length (map g l) ≡ n → length l ≡ n
length_mapped X Y g l n p = sym (length-map l g) ∙ p

-- ---- lists of heads

lengths_append : (ts us : List Transfer) → lengths_of (ts ++ us) ≡ lengths_of ts + lengths_of us
unfolding lengths_of
lengths_append [] us = omega arith
lengths_append (t ∷ ts) us = omega (arith, lengths_append ts us)

lengths_add : (a b : ℕ) (ts : List Transfer) → lengths_of (take (a + b) ts) ≡ lengths_of (take a ts) + lengths_of (take b (drop a ts))
lengths_add a b ts = rw (take-add a b ts) (lengths_append (take a ts) (take b (drop a ts)))

view-append : (ts us : List Transfer) (vs : List ℕ) → view_items (ts ++ us) vs ≡ view_items ts vs ++ view_items us (drop (lengths_of ts) vs)
unfolding view_items lengths_of
view-append [] us vs = refl
view-append (t ∷ ts) us vs = rw (← drop-drop (lengths_of ts) t.len vs, view-append ts us (drop t.len vs))

-- the transfer parameters of all parts
part_items : (c : Common) (is : List Item) → (part_from c is).items ≡ cond (eqb c.header transfer_data) is []
part_items c is = go (eqb c.header transfer_data) refl
  where
    go : (b : Bool) → eqb c.header transfer_data ≡ b → (part_from c is).items ≡ cond b is []
    go true e = rw e
    go false e = rw e

items_in_lem : (cs : List Common) (ts : List Transfer) (vs : List ℕ) → items_in (view_parts cs ts vs) ≡ view_items (take (transfers_sum cs) ts) vs
unfolding view_parts transfers_sum view_items
items_in_lem [] ts vs = refl
items_in_lem (c ∷ cs) ts vs =
    let n = transfer_count c in
    let rest = items_in_lem cs (drop n ts) (drop (lengths_of (take n ts)) vs) in
    rw (
      take-add n (transfers_sum cs) ts,
      view-append (take n ts) (take (transfers_sum cs) (drop n ts)) vs,
      rest,
      part_items c (view_items (take n ts) vs),
    )
    (ap (λ (is : List Item). is ++ view_items (take (transfers_sum cs) (drop n ts)) (drop (lengths_of (take n ts)) vs))
    (go (eqb c.header transfer_data) refl))
  where
    go : (b : Bool) → eqb c.header transfer_data ≡ b
        → cond b (view_items (take (cond b c.transfers 0) ts) vs) [] ≡ view_items (take (cond b c.transfers 0) ts) vs
    go true e = refl
    go false e = refl

module _ (q : Record) where
  -- ---- the transfer parameters

  pub used_next : (k : ℕ) → k < length q.transfer → used_at q (k + 1) ≡ used_at q k + (transfer_at q k).len
  unfolding lengths_of
  used_next k h =
      let e : k + 1 ≡ suc k = omega arith in
      rw (e, take-suc q.transfer k no_transfer h)
      (omega (arith, lengths_append (take k q.transfer) (transfer_at q k ∷ [])))

  -- past the last there are no more
  pub used_all : (k n : ℕ) → length q.transfer ≤ k → length q.transfer ≤ n → used_at q k ≡ used_at q n
  used_all k n h l = ap lengths_of (take_all k q.transfer h ∙ sym (take_all n q.transfer l))

  items_none : (k : ℕ) → items_at q k 0 ≡ []
  unfolding view_items
  items_none k = refl

  pub items_end : (k end : ℕ) → end ≤ k → items_at q k (end - k) ≡ []
  items_end k end h = let e : end - k ≡ 0 = omega arith in rw e (items_none k)

  items_next : (k n : ℕ) → k < length q.transfer
      → items_at q k (suc n) ≡ item_from (transfer_at q k) (take (transfer_at q k).len (drop (used_at q k) q.values)) ∷ items_at q (k + 1) n
  unfolding view_items
  items_next k n h =
      let e : k + 1 ≡ suc k = omega arith in
      rw (used_next k h, e, drop-cons q.transfer k no_transfer h, drop-drop (transfer_at q k).len (used_at q k) q.values)

  -- fewer of them lie within the arrays too
  pub within_less : (m n : ℕ) → m ≤ n → Within q n → Within q m
  within_less m n h w =
      let e : m + (n - m) ≡ n = omega arith in
      let l = rw e at (lengths_add m (n - m) q.transfer) in
      record { places = omega (arith, w.places); values = omega (arith, l, w.values) }

  -- the head t at the place k, for a loop that has used so many values before it, with m left: its own values, and the others, from the
  -- place k' on (the loops have `Held.HeldTurn`; docs/PORT.md names `Turn.few`, `Turn.items` and `own_at`)
  pub record Turn (k k' m m' used : ℕ) (t : Transfer) : Type 0 where
    pub place : k < most_transfers
    pub end : used + t.len ≤ length q.values
    pub small : used + t.len ≤ most_values
    pub next : used + t.len ≡ used_at q k'
    pub few : length (own_values q t used) ≤ most_values
    pub items : items_at q k m ≡ item_from t (own_values q t used) ∷ items_at q k' m'

  pub turn : (k k' m m' n used : ℕ) (t : Transfer) → length q.transfer ≡ most_transfers → length q.values ≡ most_values → Within q n → k < n
      → k' ≡ k + 1 → m ≡ suc m' → used ≡ used_at q k → t ≡ transfer_at q k
      → Turn k k' m m' used t
  turn k k' m m' n used t l v w h on more e same =
      let lens : t.len ≡ (transfer_at q k).len = ap (λ (x : Transfer). x.len) same in
      let next : used + t.len ≡ used_at q (k + 1) = omega (arith, used_next k (omega (arith, w.places))) in
      let few : used + t.len ≤ most_values = omega (arith, (within_less (k + 1) n (omega arith) w).values) in
      let own : used + t.len - used ≡ t.len = omega arith in
      record {
        place = omega (arith, w.places);
        end = omega arith;
        small = few;
        next = rw on next;
        few = omega (arith, length-take (used + t.len - used) (drop used q.values));
        items = rw (more, on, own, e, same) (items_next k m' (omega (arith, w.places)));
      }

  -- ---- the common parameters

  pub parts_start : view q ≡ parts_at q 0 0
  unfolding view lengths_of
  parts_start = refl

  pub items_all : items_in (view q) ≡ items_at q 0 (transfers_sum (commons_in q))
  unfolding view lengths_of
  items_all = items_in_lem (commons_in q) q.transfer q.values

  module _ (k : ℕ) (h : q.commons ≤ k) where
    commons_end : drop k (commons_in q) ≡ []
    commons_end = drop_of_length-le (commons_in q) {i = k} (omega (arith, length-take q.commons q.common))

    pub transfers_end : transfers_at q k ≡ 0
    unfolding transfers_sum
    transfers_end = rw commons_end

    pub parts_end : (j : ℕ) → parts_at q k j ≡ []
    unfolding view_parts
    parts_end j = rw commons_end

  -- a loop over the common parameters: the one at the place k, and past the last
  pub common_here : (k : ℕ) → q.commons ≤ length q.common → k < length (commons_in q)
      → (k < q.commons) × (get_or (commons_in q) k no_common ≡ common_at q k)
  common_here k l h =
      let n : length (commons_in q) ≡ q.commons = length-take-le q.commons q.common l in
      (omega arith, get_or-take q.commons q.common k no_common (omega arith))

  pub common_over : (k : ℕ) → q.commons ≤ length q.common → length (commons_in q) ≤ k → q.commons ≤ k
  common_over k l h =
      let n : length (commons_in q) ≡ q.commons = length-take-le q.commons q.common l in
      omega arith

  module _ (k : ℕ) (h : k < q.commons) (l : q.commons ≤ length q.common) where
    commons_next : drop k (commons_in q) ≡ common_at q k ∷ drop (k + 1) (commons_in q)
    commons_next =
        let e : k + 1 ≡ suc k = omega arith in
        let n : length (commons_in q) ≡ q.commons = length-take-le q.commons q.common l in
        rw (e, ← get_or-take q.commons q.common k no_common h) (drop-cons (commons_in q) k no_common (omega arith))

    pub transfers_next : transfers_at q k ≡ transfer_count (common_at q k) + transfers_at q (k + 1)
    unfolding transfers_sum
    transfers_next = rw commons_next

    pub parts_next : (j : ℕ)
        → parts_at q k j
        ≡ part_from (common_at q k) (items_at q j (transfer_count (common_at q k))) ∷ parts_at q (k + 1) (j + transfer_count (common_at q k))
    unfolding view_parts
    parts_next j =
        let n = transfer_count (common_at q k) in
        rw (
          commons_next,
          lengths_add j n q.transfer,
          ← drop-drop n j q.transfer,
          ← drop-drop (lengths_of (take n (drop j q.transfer))) (used_at q j) q.values,
        )

    -- for a loop that has passed j transfer parameters before the common parameter c: one that is no C5, and a C5
    pub record PlainTurn (j : ℕ) (c : Common) : Type 0 where
      pub sum : j + transfers_at q (k + 1) ≡ transfers_sum (commons_in q)
      pub parts : parts_at q k j ≡ part_from c [] ∷ parts_at q (k + 1) j

    plain_here : (j : ℕ) → j + transfers_at q k ≡ transfers_sum (commons_in q) → ((common_at q k).header ≡ transfer_data → ⊥)
        → PlainTurn j (common_at q k)
    plain_here j s u =
        let none : transfer_count (common_at q k) ≡ 0 = rw (ne_eqb (common_at q k).header transfer_data u) in
        let same : j + 0 ≡ j = omega arith in
        record { sum = omega (arith, transfers_next); parts = rw (none, same, items_none j) at (parts_next j) }

    pub plain_turn : (j : ℕ) (c : Common) → c ≡ common_at q k → j + transfers_at q k ≡ transfers_sum (commons_in q)
        → (c.header ≡ transfer_data → ⊥) → PlainTurn j c
    plain_turn j c e s u = rw e (plain_here j s (rw e at u))

    pub record DataTurn (j : ℕ) (c : Common) : Type 0 where
      pub sum : j + c.transfers + transfers_at q (k + 1) ≡ transfers_sum (commons_in q)
      pub within : Within q (j + c.transfers)
      pub parts : parts_at q k j ≡ part_from c (items_at q j c.transfers) ∷ parts_at q (k + 1) (j + c.transfers)

    data_here : (j : ℕ) → Whole q → j + transfers_at q k ≡ transfers_sum (commons_in q) → (common_at q k).header ≡ transfer_data
        → DataTurn j (common_at q k)
    data_here j w s e =
        let all : transfer_count (common_at q k) ≡ (common_at q k).transfers = rw (eq-eqb (common_at q k).header transfer_data e) in
        let sum : j + (common_at q k).transfers + transfers_at q (k + 1) ≡ transfers_sum (commons_in q) = omega (arith, transfers_next) in
        record {
          sum = sum;
          within = within_less (j + (common_at q k).transfers) (transfers_sum (commons_in q)) (omega arith)
              w.within;
          parts = rw all at (parts_next j);
        }

    pub data_turn : (j : ℕ) (c : Common) → c ≡ common_at q k → Whole q → j + transfers_at q k ≡ transfers_sum (commons_in q)
        → c.header ≡ transfer_data → DataTurn j c
    data_turn j c same w s e = rw same (data_here j w s (rw same at e))

    pub part_next : (j : ℕ) (c : Common) → c ≡ common_at q k
        → parts_at q k j ≡ part_from c (items_at q j (transfer_count c)) ∷ parts_at q (k + 1) (j + transfer_count c)
    part_next j c same = rw same (parts_next j)
