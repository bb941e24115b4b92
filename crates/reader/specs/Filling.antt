-- The parameters of a message and of transfer data by the length rule, from one octet on; and a record's struct with them put in.
use Rattle.std.specs.Prelude.{◌≡◌, refl, ℕ, suc, ◌+◌, ◌-◌, ◌≤◌, Bool, true, false, cond, eqb, length, get_or, set, take, drop}
use Rattle.std.proofs.Math.Path.{ap}
use Rattle.std.proofs.Common.{◌∙◌, arith, length-append, eq-eqb, ne_eqb, eqb-true}
use Rattle.std.proofs.lemmas.Bool.{eqb-false}
use mathlib.Core.List.{List, [], ◌∷◌, ◌++◌, map}
use Rattle.std.proofs.lemmas.List.Edits.{sets}
use Rattle.annex.specs.Units.{extent_of, common_extent_of}
use Rattle.annex.specs.Heads.{end_mark, transfer_data, most_transfers, most_values}
use Rattle.annex.specs.Walk.{Par, common_size, transfer_size, pars}
use Rattle.annex.specs.Items.{Item, Part, item_of}
use Rattle.annex.specs.Allowed.{Each}
use Rattle.annex.specs.Opening.{part_head}
use Rattle.annex.specs.Records.{head_of, values_of}
use Rattle.annex.specs.declared.Common.{Common}
use Rattle.annex.specs.Reading.{open_transfer, open_common, without_end, data_in, verdict_of, record_of, record_by}
use Rattle.annex.specs.Answers.{Accepted, Nowhere}
use Rattle.annex.specs.declared.Record.{Record}
use Rattle.annex.specs.Contents.{fault_of}
use Rattle.annex.specs.Walking.{stretch_at}
use Rattle.laws.specs.Plain.{InnerSound, transfers_plain, commons_plain, commons_inner}
use Rattle.laws.specs.Filling.{with_items, empty_record, items_turn, items_opened}
use Rattle.walk.specs.Stretches.{par_in, Whole, stretch_none}
use Rattle.reader.specs.declared.reading.Filled.{Filled}

-- the parameters of transfer data, by the length rule alone
abbrev pub items_from : List ℕ → List Item
items_from t = map open_transfer (pars transfer_size 0 0 t)

-- the transfer parameters under a header: those of the contents of a C5
abbrev pub items_under : ℕ → List ℕ → List Item
items_under h s = cond (eqb h transfer_data) (items_from s) []

-- nothing filled in
abbrev pub unfilled : Filled
unfilled = record { held = empty_record; transfers = 0; used = 0 }

-- there is room for these transfer parameters
pub record Room (f : Filled) (is : List Item) : Type 0 where
  pub places : f.transfers + length is ≤ most_transfers
  pub values : f.used + length (values_of is) ≤ most_values

-- with these transfer parameters put in
abbrev pub filled_with : Record → List Item → ℕ → ℕ → Filled
filled_with q is k used = record { held = with_items q is k used; transfers = k + length is; used = used + length (values_of is) }

-- with a head put in behind those that it has
abbrev pub with_head : Filled → Common → Filled
with_head f c =
    record {
      held =
          record {
            commons = f.held.commons + 1;
            common = set f.held.common f.held.commons c;
            transfer = f.held.transfer;
            values = f.held.values;
          };
      transfers = f.transfers;
      used = f.used;
    }

-- with the common parameter put in that has this header, these octets of its own, and these contents
abbrev pub common_with : Filled → ℕ → List ℕ → List ℕ → Filled
common_with f h own s =
    let is = items_under h s in
    with_head (filled_with f.held is f.transfers f.used) (part_head h own (length is))

-- those from the octet i on
abbrev pub items_left : List ℕ → ℕ → List Item
items_left t i = map open_transfer (pars transfer_size 0 i (drop i t))

-- ---- one turn of filling

pub items_none : (t : List ℕ) (i : ℕ) → stretch_at t i (extent_of (get_or t i 0)) ≡ Nowhere → items_left t i ≡ []
items_none t i h = rw (stretch_none extent_of t i h)

-- a whole parameter comes first: its contents are the part from s to x
pub items_more : {t : List ℕ} {i s x : ℕ} → Whole extent_of t i s x
    → items_left t i ≡ item_of (get_or t i 0) (take (x - s) (drop s t)) ∷ items_left t x
items_more w = rw (w.next, w.contents)

-- there is room for the first and for the others
pub room_more : {f : Filled} {is : List Item} {x : Item} {js : List Item} → is ≡ x ∷ js → Room f is →
    (f.transfers + 1 + length js ≤ most_transfers) × (f.used + length x.values + length (values_of js) ≤ most_values)
unfolding values_of
room_more {x = x} {js = js} e r =
    (omega (arith, rw e at r.places), omega (arith, rw e at r.values, length-append x.values (values_of js)))

-- the struct with one parameter put in
pub filled_turn : (q : Record) (x : Item) (is : List Item) (k used : ℕ)
    → filled_with q (x ∷ is) k used
    ≡ filled_with
    (record {
      commons = q.commons;
      common = q.common;
      transfer = set q.transfer k (head_of x);
      values = sets q.values used x.values;
    }) is
    (k + 1) (used + length x.values)
unfolding values_of
filled_turn q x is k used =
    let held = items_turn q x is k used in
    let ek : k + suc (length is) ≡ k + 1 + length is = omega arith in
    let eu : used + length (x.values ++ values_of is) ≡ used + length x.values + length (values_of is) =
    omega (arith, length-append x.values (values_of is)) in
    λ j. record { held = held j; transfers = ek j; used = eu j }

-- nothing more to put in
pub filled_end : (q : Record) (is : List Item) (k used : ℕ) → is ≡ []
    → filled_with q is k used ≡ record { held = q; transfers = k; used = used }
unfolding values_of
filled_end q is k used e =
    let ek : k + 0 ≡ k = omega arith in
    let eu : used + 0 ≡ used = omega arith in
    rw e (λ j. record { held = q; transfers = ek j; used = eu j })

-- ---- the common parameters of a message, from the octet i on, without end mark

abbrev pub pars_at : List ℕ → ℕ → List Par
pars_at m i = pars common_size 0 i (drop i m)

abbrev pub parts_left : List ℕ → ℕ → List Part
parts_left m i = map open_common (without_end (pars_at m i))

-- in an accepted message those from its first octet on are its record's, and the transfer data of each is accepted
module _ (m : List ℕ) (n : ℕ) (v : verdict_of m ≡ Accepted n) where
  pub parts_all : record_of m ≡ parts_left m 0
  unfolding record_by
  parts_all = ap (λ (qs : List Par). map open_common (without_end qs)) (commons_plain fault_of m n v)

  pub sound_all : Each InnerSound (pars_at m 0)
  sound_all = rw (commons_plain fault_of m n v) at (commons_inner m)

pub parts_none : (m : List ℕ) (i : ℕ) → stretch_at m i (common_extent_of (get_or m i 0)) ≡ Nowhere → parts_left m i ≡ []
parts_none m i h = rw (stretch_none common_extent_of m i h)

module _ {m : List ℕ} {i s x : ℕ} (w : Whole common_extent_of m i s x) where
  pub parts_mark : get_or m i 0 ≡ end_mark → parts_left m i ≡ parts_left m x
  parts_mark e = rw (w.next, e)

  pub parts_more : (get_or m i 0 ≡ end_mark → ⊥) → parts_left m i ≡ open_common (par_in m i x) ∷ parts_left m x
  parts_more u = rw (w.next, ne_eqb (get_or m i 0) end_mark u)

  pub sound_more : Each InnerSound (pars_at m i) → Each InnerSound (par_in m i x ∷ pars_at m x)
  sound_more d = rw w.next at d

  -- C5's transfer data is its contents
  pub data_is : get_or m i 0 ≡ transfer_data → data_in (par_in m i x) ≡ take (x - s) (drop s m)
  data_is e = rw e at w.contents

-- what a C5 opens to, where its transfer data is accepted, and what another parameter does
pub data_items : (q : Par) → q.head ≡ transfer_data → InnerSound q → (open_common q).items ≡ items_from (data_in q)
unfolding InnerSound
data_items q e s =
    items_opened q
    ∙ rw (eq-eqb q.head transfer_data e)
    (ap (λ (l : List Par). map open_transfer l) (transfers_plain fault_of (data_in q) (s e).0 (s e).1))

pub other_items : (q : Par) → (q.head ≡ transfer_data → ⊥) → (open_common q).items ≡ []
other_items q u = items_opened q ∙ rw (ne_eqb q.head transfer_data u)

-- in an accepted message they are those under its header
pub items_here : {m : List ℕ} {i s x : ℕ} → Whole common_extent_of m i s x → InnerSound (par_in m i x)
    → (open_common (par_in m i x)).items ≡ items_under (get_or m i 0) (take (x - s) (drop s m))
items_here {m} {i} {s} {x} w d = go (eqb (get_or m i 0) transfer_data) refl
  where
    go : (b : Bool) → eqb (get_or m i 0) transfer_data ≡ b
        → (open_common (par_in m i x)).items ≡ cond b (items_from (take (x - s) (drop s m))) []
    go true e =
        let five = eqb-true (get_or m i 0) transfer_data e in
        data_items (par_in m i x) five d ∙ ap items_from (data_is w five)
    go false e = other_items (par_in m i x) (eqb-false (get_or m i 0) transfer_data e)
