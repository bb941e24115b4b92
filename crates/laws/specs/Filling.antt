-- Filling a record's struct: what it is to become of what it holds and of what is still to come.
use Rattle.std.specs.Prelude.{◌≡◌, refl, Bool, true, false, cond, List, [], ◌∷◌, ◌++◌, map, ℕ, zero, suc, ◌+◌, ◌-◌, ◌≤◌, eqb, length, get_or, drop, set, replicate}
use Rattle.std.proofs.Common.{ap, ◌∙◌, append_assoc, add-zero, arith, eqb-true}
use Rattle.std.proofs.lemmas.List.{length-map, length-replicate}
use Rattle.std.proofs.lemmas.List.Edits.{sets, sets-eq}
use Rattle.annex.specs.Heads.{transfer_data, is_call, most_transfers, most_commons, most_values}
use Rattle.annex.specs.Items.{Item, Part, part, value_part, octet_part}
use Rattle.annex.specs.Allowed.{items_in}
use Rattle.annex.specs.Walk.{Par}
use Rattle.annex.specs.Reading.{call_number, open_transfer, data_in, open_common, transfers_of, open_common_by}
use Rattle.annex.specs.Records.{value_head, octet_head, data_head, no_common, no_transfer, pad, head_of, common_head_of, values_of, pack, common_head}
use Rattle.annex.specs.Opening.{part_head}
use Rattle.annex.specs.declared.Common.{Common}
use Rattle.annex.specs.declared.Record.{Record}

-- the struct q, of whose transfer places k and of whose values `used` are taken, with these parameters of C5 put in
abbrev pub with_items : Record → List Item → ℕ → ℕ → Record
with_items q is k used =
    record {
      commons = q.commons;
      common = q.common;
      transfer = sets q.transfer k (map head_of is);
      values = sets q.values used (values_of is);
    }

-- and with these common parameters
abbrev pub with_parts : Record → List Part → ℕ → ℕ → Record
with_parts q ps k used =
    record {
      commons = q.commons + length ps;
      common = sets q.common q.commons (map common_head_of ps);
      transfer = sets q.transfer k (map head_of (items_in ps));
      values = sets q.values used (values_of (items_in ps));
    }

-- ---- runs of stores

pub sets-append : {A : Type 0} (vs ws l : List A) (i : ℕ) → sets l i (vs ++ ws) ≡ sets (sets l i vs) (i + length vs) ws
sets-append [] ws l i = rw add-zero
sets-append (v ∷ vs) ws l i =
    let e : suc i + length vs ≡ i + suc (length vs) = omega arith in
    sets-append vs ws (set l i v) (suc i) ∙ ap (λ (j : ℕ). sets (sets (set l i v) (suc i) vs) j ws) e

drop_replicate : {A : Type 0} (k n : ℕ) (z : A) → drop k (replicate n z) ≡ replicate (n - k) z
drop_replicate zero n z = let e : n - 0 ≡ n = omega arith in rw e
drop_replicate (suc k) zero z = let e : 0 - suc k ≡ 0 = omega arith in rw e
drop_replicate (suc k) (suc n) z = let e : suc n - suc k ≡ n - k = omega arith in rw e (drop_replicate k n z)

-- into an array of z
pub sets-pad : {A : Type 0} (n : ℕ) (z : A) (xs : List A) → length xs ≤ n → sets (replicate n z) 0 xs ≡ pad n z xs
unfolding pad
sets-pad n z xs h =
    let l : length (replicate n z) ≡ n = length-replicate n z in
    let e : 0 + length xs ≡ length xs = omega arith in
    sets-eq xs (replicate n z) 0 (omega arith) ∙ rw (e, drop_replicate (length xs) n z)

-- ---- an empty struct, and nothing more to come

abbrev pub empty_record : Record
empty_record =
    record {
      commons = 0;
      common = replicate most_commons no_common;
      transfer = replicate most_transfers no_transfer;
      values = replicate most_values 0;
    }

pub empty_packed : empty_record ≡ pack []
unfolding pack pad values_of
empty_packed = refl

pub filled_whole : (r : List Part) → length r ≤ most_commons → length (items_in r) ≤ most_transfers
    → length (values_of (items_in r)) ≤ most_values
    → with_parts empty_record r 0 0 ≡ pack r
unfolding pack
filled_whole r c t v =
    let ec : sets (replicate most_commons no_common) 0 (map common_head_of r) ≡ pad most_commons no_common (map common_head_of r) =
    sets-pad most_commons no_common (map common_head_of r) (omega (arith, length-map r common_head_of)) in
    let hs = map head_of (items_in r) in
    let et : sets (replicate most_transfers no_transfer) 0 hs ≡ pad most_transfers no_transfer hs =
    sets-pad most_transfers no_transfer hs (omega (arith, length-map (items_in r) head_of)) in
    let ev : sets (replicate most_values 0) 0 (values_of (items_in r)) ≡ pad most_values 0 (values_of (items_in r)) =
    sets-pad most_values 0 (values_of (items_in r)) v in
    let en : 0 + length r ≡ length r = omega arith in
    λ i. record { commons = en i; common = ec i; transfer = et i; values = ev i }

pub filled_none : (q : Record) (k used : ℕ) → with_parts q [] k used ≡ q
unfolding values_of
filled_none q k used =
    let e : q.commons + 0 ≡ q.commons = omega arith in
    λ i. record { commons = e i; common = q.common; transfer = q.transfer; values = q.values }

-- ---- one turn

-- one parameter of C5
pub items_turn : (q : Record) (i : Item) (is : List Item) (k used : ℕ)
    → with_items q (i ∷ is) k used
    ≡ with_items
    (record {
      commons = q.commons;
      common = q.common;
      transfer = set q.transfer k (head_of i);
      values = sets q.values used i.values;
    }) is
    (k + 1) (used + length i.values)
unfolding values_of
items_turn q i is k used =
    let ek : suc k ≡ k + 1 = omega arith in
    let et : sets (set q.transfer k (head_of i)) (suc k) (map head_of is) ≡ sets (set q.transfer k (head_of i)) (k + 1) (map head_of is) =
    rw ek in
    let ev : sets q.values used (i.values ++ values_of is)
    ≡ sets (sets q.values used i.values) (used + length i.values) (values_of is) =
    sets-append i.values (values_of is) q.values used in
    λ j. record { commons = q.commons; common = q.common; transfer = et j; values = ev j }

pub values_append : (is js : List Item) → values_of (is ++ js) ≡ values_of is ++ values_of js
unfolding values_of
values_append [] js = refl
values_append (i ∷ is) js = rw (values_append is js, append_assoc)

map-append : {A B : Type 0} (f : A → B) (xs ys : List A) → map f (xs ++ ys) ≡ map f xs ++ map f ys
map-append f [] ys = refl
map-append f (x ∷ xs) ys = ap (λ l. f x ∷ l) (map-append f xs ys)

-- one common parameter, its own parameters of C5 with it
pub parts_turn : (q : Record) (p : Part) (ps : List Part) (k used : ℕ)
    → with_parts q (p ∷ ps) k used
    ≡ with_parts
    (record {
      commons = q.commons + 1;
      common = set q.common q.commons (common_head_of p);
      transfer = sets q.transfer k
          (map head_of p.items);
      values = sets q.values used (values_of p.items);
    }) ps
    (k + length p.items) (used + length (values_of p.items))
parts_turn q p ps k used =
    let en : q.commons + suc (length ps) ≡ q.commons + 1 + length ps = omega arith in
    let es : suc q.commons ≡ q.commons + 1 = omega arith in
    let ec : sets (set q.common q.commons (common_head_of p)) (suc q.commons) (map common_head_of ps)
    ≡ sets (set q.common q.commons (common_head_of p)) (q.commons + 1) (map common_head_of ps) =
    rw es in
    let et : sets q.transfer k (map head_of (p.items ++ items_in ps))
    ≡ sets (sets q.transfer k (map head_of p.items)) (k + length p.items) (map head_of (items_in ps)) =
    ap (λ l. sets q.transfer k l) (map-append head_of p.items (items_in ps))
    ∙ sets-append (map head_of p.items) (map head_of (items_in ps)) q.transfer k
    ∙ ap (λ (n : ℕ). sets (sets q.transfer k (map head_of p.items)) (k + n) (map head_of (items_in ps)))
    (length-map p.items head_of) in
    let ev : sets q.values used (values_of (p.items ++ items_in ps))
    ≡ sets (sets q.values used (values_of p.items)) (used + length (values_of p.items)) (values_of (items_in ps)) =
    ap (λ l. sets q.values used l) (values_append p.items (items_in ps))
    ∙ sets-append (values_of p.items) (values_of (items_in ps)) q.values used in
    λ j. record { commons = en j; common = ec j; transfer = et j; values = ev j }

-- ---- a common parameter opened

items_of : (a b : Bool) (h v w : ℕ) (is : List Item)
    → (cond {A = Part} a (part h 0 0 is) (cond b (value_part h v) (octet_part h w))).items ≡ cond a is []
items_of true b h v w is = refl
items_of false true h v w is = refl
items_of false false h v w is = refl

pub items_opened : (q : Par) → (open_common q).items ≡ cond (eqb q.head transfer_data) (map open_transfer (transfers_of (data_in q))) []
unfolding open_common_by
items_opened q =
    items_of (eqb q.head transfer_data) (is_call q.head) q.head (call_number q.own) (get_or q.own 0 0)
    (map open_transfer (transfers_of (data_in q)))

-- the head of what it opens to: a C5's has as many transfer parameters as it holds
pub head_opened : (q : Par) → common_head_of (open_common q) ≡ part_head q.head q.own (length (open_common q).items)
unfolding open_common_by
head_opened q = by (eqb q.head transfer_data) refl (is_call q.head)
  where
    is : List Item
    is = map open_transfer (transfers_of (data_in q))

    by : (a : Bool) → eqb q.head transfer_data ≡ a → (b : Bool)
        → common_head_of
        (cond a (part q.head 0 0 is) (cond b (value_part q.head (call_number q.own)) (octet_part q.head (get_or q.own 0 0))))
        ≡ cond a
        (data_head
        (length
        (cond {A = Part} a (part q.head 0 0 is)
        (cond b (value_part q.head (call_number q.own)) (octet_part q.head (get_or q.own 0 0)))).items))
        (cond b (value_head q.head (call_number q.own)) (octet_head q.head (get_or q.own 0 0)))
    by true e b = ap (λ (h : ℕ). common_head h 0 0 (length is)) (eqb-true q.head transfer_data e)
    by false e true = refl
    by false e false = refl

-- one common parameter put in, its own parameters of C5 before it
pub part_put : (q q' : Record) (k used : ℕ) (p : Part) (ps : List Part) (c : Common) → q' ≡ with_items q p.items k used
    → c ≡ common_head_of p
    → with_parts q (p ∷ ps) k used
    ≡ with_parts
    (record { commons = q'.commons + 1; common = set q'.common q'.commons c; transfer = q'.transfer; values = q'.values }) ps
    (k + length p.items) (used + length (values_of p.items))
part_put q q' k used p ps c e f = rw (e, f) (parts_turn q p ps k used)
