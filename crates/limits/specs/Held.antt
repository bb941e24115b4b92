-- A record's transfer parameters one by one, each with its values, as `items_at` goes over them.
use Rattle.std.specs.Prelude.{ℕ, zero, suc, min, ◌+◌, ◌*◌, ◌≤◌, ◌<◌, ◌≡◌, refl, List, [], ◌∷◌, map, length, get_or, take, drop, Option, None, Some}
use Rattle.std.specs.Iterator.{Yields, YieldsFirstBy}
use Rattle.std.specs.List.{sum_by}
use Rattle.std.proofs.Common.{arith, sym, ap, ◌∙◌, length-take, length-drop, drop_of_length-le, Bor}
use Rattle.std.proofs.lemmas.List.{at_drop_more, take_min, drop_min}
use Rattle.std.proofs.lemmas.List.Recursion.{is_sum_by}
use Rattle.std.proofs.lemmas.Iterator.{YieldsList}
use Rattle.std.proofs.lemmas.Iterator.Consumers.{YieldsList-from_first, YieldsList-turn, YieldsList-end}
use Rattle.annex.specs.Heads.{most_transfers, most_values}
use Rattle.annex.specs.Items.{Item, contents_of}
use Rattle.annex.specs.Allowed.{contents_sum}
use Rattle.annex.specs.Records.{view_items, raw_item, item_from, held_from, held_at}
use Rattle.annex.specs.declared.Transfer.{Transfer}
use Rattle.annex.specs.declared.Record.{Record}
use Rattle.laws.specs.Laid.{own_values}
use Rattle.limits.specs.Along.{used_at, items_at}
use Rattle.limits.specs.Limits.{contents_most}
use Rattle.limits.specs.declared.Items.{Items}

-- the parameters that they are
abbrev pub items_held : List (Transfer × List ℕ) → List Item
items_held hs = map (λ (x : Transfer × List ℕ). item_from x.0 x.1) hs

held_items : (ts : List Transfer) (vs : List ℕ) → view_items ts vs ≡ items_held (held_from ts vs)
unfolding view_items held_from
held_items [] vs = refl
held_items (t ∷ ts) vs = ap (λ (is : List Item). item_from t (take t.len vs) ∷ is) (held_items ts (drop t.len vs))

pub items_here : (q : Record) (k n : ℕ) → items_at q k n ≡ items_held (held_at q k n)
items_here q k n = held_items (take n (drop k q.transfer)) (drop (used_at q k) q.values)

length_held : (ts : List Transfer) (vs : List ℕ) → length (held_from ts vs) ≡ length ts
unfolding held_from
length_held [] vs = refl
length_held (t ∷ ts) vs = ap suc (length_held ts (drop t.len vs))

-- taken one by one
pub held_none : (hs : List Transfer) (vs : List ℕ) → length hs ≡ 0 → held_from hs vs ≡ []
unfolding held_from
held_none [] vs e = refl
held_none (t ∷ ts) vs e = absurd (omega (arith, e))

pub held_first : (hs : List Transfer) (vs : List ℕ) (t : Transfer) (ts : List Transfer) → hs ≡ t ∷ ts
    → held_from hs vs ≡ (t, take (min t.len (length vs)) vs) ∷ held_from ts (drop (min t.len (length vs)) vs)
unfolding held_from
held_first hs vs t ts e = rw (e, take_min t.len vs, drop_min t.len vs)

-- one at the place k has no more values than there are
few_held : (ts : List Transfer) (vs : List ℕ) (k : ℕ) (x : Transfer × List ℕ) → k < length (held_from ts vs)
    → length (get_or (held_from ts vs) k x).1 ≤ length vs
unfolding held_from
few_held [] vs k x h = omega (arith, h)
few_held (t ∷ ts) vs zero x h = omega (arith, length-take t.len vs)
few_held (t ∷ ts) vs (suc k) x h = omega (arith, few_held ts (drop t.len vs) k x (omega (arith, h)), length-drop t.len vs)

-- a loop over them, at the place j: x is the one there
pub record HeldTurn (q : Record) (k n j : ℕ) (x : Transfer × List ℕ) : Type 0 where
  pub place : j < most_transfers
  pub few : length x.1 ≤ most_values
  pub items : items_held (drop j (held_at q k n)) ≡ item_from x.0 x.1 ∷ items_held (drop (j + 1) (held_at q k n))

held_turn : (q : Record) (k n j : ℕ) (x : Transfer × List ℕ) → length q.transfer ≡ most_transfers → length q.values ≡ most_values
    → (j < length (held_at q k n)) × (x ≡ get_or (held_at q k n) j x)
    → HeldTurn q k n j x
held_turn q k n j x l v h =
    let ts = take n (drop k q.transfer) in
    let vs = drop (used_at q k) q.values in
    let same : length x.1 ≡ length (get_or (held_at q k n) j x).1 = ap (λ (y : Transfer × List ℕ). length y.1) h.1 in
    record {
      place = omega (arith, h.0, length_held ts vs, length-take n (drop k q.transfer), length-drop k q.transfer);
      few = omega (arith, same, few_held ts vs j x h.0, length-drop (used_at q k) q.values);
      items = at_drop_more items_held (held_at q k n) j x h.0
          ∙ ap (λ (y : Transfer × List ℕ). item_from y.0 y.1 ∷ items_held (drop (j + 1) (held_at q k n))) (sym h.1);
    }

-- the same of a `for` over what `items_at` gave, which has been handed xs
abbrev pub handed : Transfer × Bor (List ℕ) → Transfer × List ℕ
handed x = (x.0, x.1.now)

abbrev pub items_left : Items → List (Transfer × List ℕ)
items_left i = held_from i.heads.now i.values.now

abbrev pub ItemsSteps : Items → Option (Transfer × Bor (List ℕ)) → Items → Type 0
ItemsSteps = YieldsFirstBy handed items_left

module _ (q : Record) (k n : ℕ) (i : Items) (e : items_left i ≡ held_at q k n) (xs : List (Transfer × Bor (List ℕ))) (s : Items)
    (y : Yields ItemsSteps i xs s) (r : Option (Transfer × Bor (List ℕ))) (u : Items) (w : ItemsSteps s r u) where
  gives : YieldsList ItemsSteps handed i (held_at q k n)
  gives = YieldsList-from_first handed items_left (held_at q k n) e

  pub for_turn : (x : Transfer × Bor (List ℕ)) → r ≡ Some x → length q.transfer ≡ most_transfers → length q.values ≡ most_values
      → HeldTurn q k n (length xs) (handed x)
  for_turn x is l v = held_turn q k n (length xs) (handed x) l v (YieldsList-turn gives xs s y r u x is w)

  pub for_end : r ≡ None → items_held (drop (length xs) (held_at q k n)) ≡ []
  for_end is =
      ap items_held (drop_of_length-le (held_at q k n) {i = length xs} (omega (arith, (YieldsList-end gives xs s y r u is w).1)))

-- how many octets the contents of one come to, and of all
abbrev pub contents_held : Transfer × List ℕ → ℕ
contents_held x = length (contents_of (item_from x.0 x.1))

pub contents_all : (hs : List (Transfer × List ℕ)) → contents_sum (items_held hs) ≡ sum_by contents_held hs
contents_all hs = is_sum_by (λ (xs : List (Transfer × List ℕ)). contents_sum (items_held xs)) contents_held refl (λ _ _. refl) hs

contents_few : (ts : List Transfer) (vs : List ℕ) → length vs ≤ most_values → contents_sum (items_held (held_from ts vs)) ≤ 515 * length ts
unfolding held_from
contents_few [] vs h = omega arith
contents_few (t ∷ ts) vs h =
    let own = take t.len vs in
    omega (
      arith,
      contents_few ts (drop t.len vs) (omega (arith, length-drop t.len vs, h)),
      contents_most (item_from t own),
      ap (λ (l : List ℕ). length l) (own_values (raw_item t own)),
      length-take t.len vs,
      h,
    )

pub contents_fit : (q : Record) (k n : ℕ) → length q.transfer ≡ most_transfers → length q.values ≡ most_values
    → sum_by contents_held (held_at q k n) < 65536
contents_fit q k n l v =
    let ts = take n (drop k q.transfer) in
    let vs = drop (used_at q k) q.values in
    omega (
      arith,
      contents_all (held_at q k n),
      contents_few ts vs (omega (arith, length-drop (used_at q k) q.values)),
      length-take n (drop k q.transfer),
      length-drop k q.transfer,
    )
