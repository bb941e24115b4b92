-- A record's struct filled from an image, turn by turn.
use Rattle.std.specs.Prelude.{◌≡◌, Bool, ◌&&◌, Option, Some, None, List, [], ◌∷◌, ◌++◌, ℕ, zero, suc, ◌+◌, ◌-◌, ◌≤◌, ◌<◌, eqb, ltb, length, get_or, set, take, drop}
use Rattle.std.proofs.Math.Path.{refl, ap}
use Rattle.std.proofs.Common.{sym, ◌∙◌, length-append, length-drop, length-take-le}
use Rattle.std.proofs.Math.Bool.{true, false, cond}
use Rattle.std.proofs.Math.Dec.{leb}
use Rattle.std.proofs.lemmas.List.Edits.{sets}
use Rattle.std.proofs.Math.Seq.{drop-drop}
use native.Mathlib.Omega.{arith}
use borrow.Author.Tests.{leb-true, ltb-true, le-leb, lt-ltb, lt-leb}
use Rattle.annex.specs.Heads.{most_commons, most_transfers, most_values}
use Rattle.annex.specs.Items.{Item, Part}
use Rattle.annex.specs.Allowed.{items_in}
use Rattle.annex.specs.Records.{head_of, common_head_of, values_of, pack}
use Rattle.annex.specs.Image.{
  Front,
  more,
  head_front,
  item_front,
  item_size,
  items_front,
  common_front,
  part_front,
  part_then,
  parts_front,
  no_image,
  is_within,
  imaged_by,
  imaged_of,
  octets_to_a_common_head,
  octets_to_a_transfer_head,
}
use Rattle.annex.specs.Image.Front.{Taken, Short}
use Rattle.annex.specs.declared.Common.{Common}
use Rattle.annex.specs.declared.Record.{Record}
use Rattle.annex.specs.Answers.{Accepted}
use Rattle.annex.specs.declared.Imaged.{Imaged}
use Rattle.laws.specs.Bools.{and_left, and_right}
use Rattle.laws.specs.Filling.{with_items, with_parts, empty_record, filled_whole, filled_none, items_turn, values_append, part_put}
use Rattle.from_image.specs.declared.Filled.{Filled}

-- the transfer parameter at the front of octets is whole, and has a place after k others and room for its values after the used ones
abbrev pub fits_at : List ℕ → ℕ → ℕ → Bool
fits_at s k used = leb (item_size s) (length s) && (ltb k most_transfers && leb (used + (head_front s).len) most_values)

-- nothing filled in
abbrev pub unfilled : Filled
unfilled = record { held = empty_record; transfers = 0; used = 0; octets = 0 }

-- with these transfer parameters put in, which take n octets
abbrev pub filled_with : Filled → List Item → ℕ → Filled
filled_with f is n =
    record {
      held = with_items f.held is f.transfers f.used;
      transfers = f.transfers + length is;
      used = f.used + length (values_of is);
      octets = f.octets + n;
    }

-- where they are whole and have room
abbrev pub filled_by : Filled → Front Item → Option Filled
filled_by f (Taken is n) =
    cond (leb (f.transfers + length is) most_transfers && leb (f.used + length (values_of is)) most_values) (Some (filled_with f is n)) None
filled_by f Short = None

-- ---- one turn of filling

pub record Room (s : List ℕ) (k used : ℕ) : Type 0 where
  pub whole : item_size s ≤ length s
  pub place : k < most_transfers
  pub values : used + (head_front s).len ≤ most_values

pub has_room_lem : (s : List ℕ) (k used : ℕ) → fits_at s k used ≡ true → Room s k used
has_room_lem s k used e =
    let w = leb (item_size s) (length s) in
    let p = ltb k most_transfers in
    let v = leb (used + (head_front s).len) most_values in
    let r = and_right w (p && v) e in
    record {
      whole = leb-true (item_size s) (length s) (and_left w (p && v) e);
      place = ltb-true k most_transfers (and_left p v r);
      values = leb-true (used + (head_front s).len) most_values (and_right p v r);
    }

-- as many octets behind a head as there are
pub values_there : (s : List ℕ) (i n : ℕ) → octets_to_a_transfer_head + n ≤ length (drop i s)
    → length (take n (drop (i + octets_to_a_transfer_head) s)) ≡ n
values_there s i n h =
    length-take-le n (drop (i + octets_to_a_transfer_head) s)
    (rw (length-drop (i + octets_to_a_transfer_head) s) (omega (arith, length-drop i s)))

-- a whole parameter has the values that its head tells
values_told : (s : List ℕ) → item_size s ≤ length s → length (item_front s).values ≡ (head_front s).len
values_told s h = length-take-le (head_front s).len (drop octets_to_a_transfer_head s) (rw (length-drop octets_to_a_transfer_head s) (omega arith))

-- a parameter put in, which takes n octets
abbrev with_item : Filled → Item → ℕ → Filled
with_item f x n =
    record {
      held =
          record {
            commons = f.held.commons;
            common = f.held.common;
            transfer = set f.held.transfer f.transfers (head_of x);
            values = sets f.held.values f.used x.values;
          };
      transfers = f.transfers + 1;
      used = f.used + length x.values;
      octets = f.octets + n;
    }

-- the rest behind it
filled_more : (f : Filled) (x : Item) (n : ℕ) (g : Front Item) → filled_by f (more x n g) ≡ filled_by (with_item f x n) g
unfolding values_of
filled_more f x n Short = refl
filled_more f x n (Taken is m) =
    let held = items_turn f.held x is f.transfers f.used in
    let ek : f.transfers + suc (length is) ≡ f.transfers + 1 + length is = omega arith in
    let eu : f.used + length (x.values ++ values_of is) ≡ f.used + length x.values + length (values_of is) =
    omega (arith, length-append x.values (values_of is)) in
    let en : f.octets + (n + m) ≡ f.octets + n + m = omega arith in
    λ j. cond (leb (ek j) most_transfers && leb (eu j) most_values)
    (Some (record { held = held j; transfers = ek j; used = eu j; octets = en j })) None

-- a parameter that has no room, whatever is behind it
neither : {A : Type 0} (a b : Bool) (x y : A) → (a ≡ true → b ≡ true → ⊥) → cond (a && b) x y ≡ y
neither true true x y h = absurd (h refl refl)
neither true false x y h = refl
neither false b x y h = refl

filled_over : (f : Filled) (x : Item) (n : ℕ) (g : Front Item)
    → (f.transfers < most_transfers → f.used + length x.values ≤ most_values → ⊥) → filled_by f (more x n g) ≡ None
unfolding values_of
filled_over f x n Short h = refl
filled_over f x n (Taken is m) h =
    neither (leb (f.transfers + suc (length is)) most_transfers) (leb (f.used + length (x.values ++ values_of is)) most_values) _ None
    (λ a b. h (omega (arith, leb-true (f.transfers + suc (length is)) most_transfers a))
    (omega (arith, leb-true (f.used + length (x.values ++ values_of is)) most_values b, length-append x.values (values_of is))))

pub filled_stop : (f : Filled) (s : List ℕ) (n : ℕ) → fits_at s f.transfers f.used ≡ false → filled_by f (items_front (suc n) s) ≡ None
unfolding items_front
filled_stop f s n e = go (leb (item_size s) (length s)) refl e
  where
    go : (b : Bool) → leb (item_size s) (length s) ≡ b
        → b && (ltb f.transfers most_transfers && leb (f.used + (head_front s).len) most_values) ≡ false
        → filled_by f (cond b (more (item_front s) (item_size s) (items_front n (drop (item_size s) s))) Short) ≡ None
    go false w g = refl
    go true w g =
        filled_over f (item_front s) (item_size s) (items_front n (drop (item_size s) s))
        (λ p v.
        let l : f.used + (head_front s).len ≤ most_values = omega (arith, values_told s (leb-true (item_size s) (length s) w)) in
        let t = rw (lt-ltb f.transfers most_transfers p, le-leb (f.used + (head_front s).len) most_values l) at g in
        let z : ◌≡◌ {A = ℕ} 0 1 = cc in omega arith)

-- the parameter at the octets that follow, with its values up to its end
pub filled_turn : (f : Filled) (s : List ℕ) (n : ℕ) → fits_at (drop f.octets s) f.transfers f.used ≡ true →
    let t = head_front (drop f.octets s) in
    filled_by f (items_front (suc n) (drop f.octets s))
    ≡ filled_by
    (record {
      held =
          record {
            commons = f.held.commons;
            common = f.held.common;
            transfer = set f.held.transfer f.transfers t;
            values = sets f.held.values f.used (take t.len (drop (f.octets + octets_to_a_transfer_head) s));
          };
      transfers = f.transfers + 1;
      used = f.used + t.len;
      octets = f.octets + octets_to_a_transfer_head + t.len;
    })
    (items_front n (drop (f.octets + octets_to_a_transfer_head + t.len) s))
unfolding items_front
filled_turn f s n e =
    let i = f.octets in
    let d = drop i s in
    let r = has_room_lem d f.transfers f.used e in
    let l = values_told d r.whole in
    let a : i + (octets_to_a_transfer_head + (head_front d).len) ≡ i + octets_to_a_transfer_head + (head_front d).len = omega arith in
    let o : drop (item_size d) d ≡ drop (i + octets_to_a_transfer_head + (head_front d).len) s = drop-drop (item_size d) i s ∙ ap (λ (m : ℕ). drop m s) a in
    rw (le-leb (item_size d) (length d) r.whole)
    (filled_more f (item_front d) (item_size d) (items_front n (drop (item_size d) d)) ∙ rw (l, a, o, drop-drop octets_to_a_transfer_head i s))

-- none left
pub filled_end : (f : Filled) (s : List ℕ) → f.transfers ≤ most_transfers → f.used ≤ most_values → filled_by f (items_front 0 s) ≡ Some f
unfolding items_front values_of
filled_end f s hk hu =
    let ek : f.transfers + 0 ≡ f.transfers = omega arith in
    let eu : f.used + 0 ≡ f.used = omega arith in
    let ei : f.octets + 0 ≡ f.octets = omega arith in
    rw (ek, eu, ei, le-leb f.transfers most_transfers hk, le-leb f.used most_values hu)

-- ---- the common parameters

-- what there is of a record
abbrev pub imaged : Option Record → Imaged
imaged (Some q) = record { answer = Accepted q.commons; held = q }
imaged None = no_image

-- what is filled in with these common parameters put in, of n octets in all
abbrev pub imaged_from : ℕ → Filled → Front Part → Imaged
imaged_from n f (Taken ps j) =
    cond
    (eqb (f.octets + j) n
    &&
    (leb (f.held.commons + length ps) most_commons
    && (leb (f.transfers + length (items_in ps)) most_transfers && leb (f.used + length (values_of (items_in ps))) most_values)))
    (record { answer = Accepted (f.held.commons + length ps); held = with_parts f.held ps f.transfers f.used })
    no_image
imaged_from n f Short = no_image

-- all of them, put into the empty struct
pub imaged_start : (n : ℕ) (f : Front Part) → imaged_by n f ≡ imaged_from n unfilled f
unfolding is_within
imaged_start n Short = refl
imaged_start n (Taken r k) =
    let ek : k ≡ 0 + k = omega arith in
    let ec : length r ≡ 0 + length r = omega arith in
    let et : length (items_in r) ≡ 0 + length (items_in r) = omega arith in
    let ev : length (values_of (items_in r)) ≡ 0 + length (values_of (items_in r)) = omega arith in
    go
    (eqb k n
    && (leb (length r) most_commons && (leb (length (items_in r)) most_transfers && leb (length (values_of (items_in r))) most_values)))
    refl
    ∙ (λ j.
    cond (eqb (ek j) n && (leb (ec j) most_commons && (leb (et j) most_transfers && leb (ev j) most_values)))
    (record { answer = Accepted (ec j); held = with_parts empty_record r 0 0 })
    no_image)
  where
    go : (t : Bool)
        → eqb k n
        && (leb (length r) most_commons && (leb (length (items_in r)) most_transfers && leb (length (values_of (items_in r))) most_values))
        ≡ t
        → cond {A = Imaged} t (record { answer = Accepted (length r); held = pack r }) no_image
        ≡ cond t (record { answer = Accepted (length r); held = with_parts empty_record r 0 0 }) no_image
    go false e = refl
    go true e =
        let c = leb (length r) most_commons in
        let t = leb (length (items_in r)) most_transfers in
        let v = leb (length (values_of (items_in r))) most_values in
        let e' = and_right (eqb k n) (c && (t && v)) e in
        let e'' = and_right c (t && v) e' in
        let p : pack r ≡ with_parts empty_record r 0 0 =
        sym
        (filled_whole r (leb-true (length r) most_commons (and_left c (t && v) e'))
        (leb-true (length (items_in r)) most_transfers (and_left t v e''))
        (leb-true (length (values_of (items_in r))) most_values (and_right t v e''))) in
        λ j. record { answer = Accepted (length r); held = p j }

-- a common parameter put in, the rest behind it
imaged_more : (n : ℕ) (f g : Filled) (m : ℕ) (p : Part) → g.held.commons ≡ f.held.commons + 1 → g.transfers ≡ f.transfers + length p.items
    → g.used ≡ f.used + length (values_of p.items) → g.octets ≡ f.octets + m
    → ((ps : List Part) → with_parts f.held (p ∷ ps) f.transfers f.used ≡ with_parts g.held ps g.transfers g.used)
    → (r : Front Part) → imaged_from n f (more p m r) ≡ imaged_from n g r
imaged_more n f g m p c t v o h Short = refl
imaged_more n f g m p c t v o h (Taken ps x) =
    let ei : f.octets + (m + x) ≡ g.octets + x = omega arith in
    let ec : f.held.commons + suc (length ps) ≡ g.held.commons + length ps = omega arith in
    let ek : f.transfers + length (p.items ++ items_in ps) ≡ g.transfers + length (items_in ps) =
    omega (arith, length-append p.items (items_in ps)) in
    let eu : f.used + length (values_of (p.items ++ items_in ps)) ≡ g.used + length (values_of (items_in ps)) =
    rw (values_append p.items (items_in ps)) (omega (arith, length-append (values_of p.items) (values_of (items_in ps)))) in
    λ j.
    cond (eqb (ei j) n && (leb (ec j) most_commons && (leb (ek j) most_transfers && leb (eu j) most_values)))
    (record { answer = Accepted (ec j); held = h ps j })
    no_image

-- one that has no room, whatever is behind it
none_of : {A : Type 0} (a b c d : Bool) (x y : A) → (b ≡ true → c ≡ true → d ≡ true → ⊥) → cond (a && (b && (c && d))) x y ≡ y
none_of true true true true x y h = absurd (h refl refl refl)
none_of true true true false x y h = refl
none_of true true false d x y h = refl
none_of true false c d x y h = refl
none_of false b c d x y h = refl

imaged_over : (n : ℕ) (f : Filled) (m : ℕ) (p : Part) (r : Front Part)
    → (f.held.commons < most_commons → f.transfers + length p.items ≤ most_transfers → f.used + length (values_of p.items) ≤ most_values → ⊥)
    → imaged_from n f (more p m r) ≡ no_image
imaged_over n f m p Short h = refl
imaged_over n f m p (Taken ps x) h =
    let a = length-append p.items (items_in ps) in
    let b =
    ap (λ (l : List ℕ). length l) (values_append p.items (items_in ps))
    ∙ length-append (values_of p.items) (values_of (items_in ps)) in
    none_of (eqb (f.octets + (m + x)) n) (leb (f.held.commons + suc (length ps)) most_commons)
    (leb (f.transfers + length (p.items ++ items_in ps)) most_transfers)
    (leb (f.used + length (values_of (p.items ++ items_in ps))) most_values) _ no_image
    (λ c t v.
    h (omega (arith, leb-true (f.held.commons + suc (length ps)) most_commons c))
    (omega (arith, leb-true (f.transfers + length (p.items ++ items_in ps)) most_transfers t))
    (omega (arith, leb-true (f.used + length (values_of (p.items ++ items_in ps))) most_values v)))

-- ---- one turn

-- what is taken at the front of l octets is as many as asked for, and ends within them
abbrev pub Counted : {A : Type 0} → ℕ → ℕ → Front A → Type 0
Counted n l (Taken xs m) = (length xs ≡ n) × (m ≤ l)
Counted n l Short = Unit {0}

counted_more : {A : Type 0} (x : A) (n l m : ℕ) (f : Front A) → m ≤ l → Counted n (l - m) f → Counted (suc n) l (more x m f)
counted_more x n l m Short h c = tt
counted_more x n l m (Taken xs k) h c = (ap suc c.0, omega (arith, c.1))

items_counted : (n : ℕ) (s : List ℕ) → Counted n (length s) (items_front n s)
unfolding items_front
items_counted zero s = (refl, omega arith)
items_counted (suc n) s = go (leb (item_size s) (length s)) refl (rw (length-drop (item_size s) s) at (items_counted n (drop (item_size s) s)))
  where
    go : (b : Bool) → leb (item_size s) (length s) ≡ b → Counted n (length s - item_size s) (items_front n (drop (item_size s) s))
        → Counted (suc n) (length s) (cond b (more (item_front s) (item_size s) (items_front n (drop (item_size s) s))) Short)
    go false e c = tt
    go true e c =
        counted_more (item_front s) n (length s) (item_size s) (items_front n (drop (item_size s) s)) (leb-true (item_size s) (length s) e) c

-- the transfer parameters of a part put in
record Put (f : Filled) (is : List Item) (m : ℕ) (g : Filled) : Type 0 where
  same : g ≡ filled_with f is m
  places : f.transfers + length is ≤ most_transfers
  values : f.used + length (values_of is) ≤ most_values

filled_put : (f : Filled) (is : List Item) (m : ℕ) (g : Filled) → Some g ≡ filled_by f (Taken is m) → Put f is m g
filled_put f is m g e = go (leb (f.transfers + length is) most_transfers) refl (leb (f.used + length (values_of is)) most_values) refl
  where
    go : (a : Bool) → leb (f.transfers + length is) most_transfers ≡ a → (b : Bool) → leb (f.used + length (values_of is)) most_values ≡ b
        → Put f is m g
    go true a true b =
        let h : ◌≡◌ {A = Option Filled} (Some g) (Some (filled_with f is m)) = e ∙ rw (a, b) in
        record {
          same = cc;
          places = leb-true (f.transfers + length is) most_transfers a;
          values = leb-true (f.used + length (values_of is)) most_values b;
        }
    go true a false b =
        absurd (let h : ◌≡◌ {A = Option Filled} (Some g) None = e ∙ rw (a, b) in let z : ◌≡◌ {A = ℕ} 0 1 = cc in omega arith)
    go false a b b' =
        absurd (let h : ◌≡◌ {A = Option Filled} (Some g) None = e ∙ rw a in let z : ◌≡◌ {A = ℕ} 0 1 = cc in omega arith)

-- a part after six others, or whose transfer parameters are not whole or have no room
part_over : (n : ℕ) (f : Filled) (s : List ℕ) (j : Front Item) (rest : ℕ → Front Part) → most_commons ≤ f.held.commons
    → imaged_from n f (part_then s j rest) ≡ no_image
part_over n f s Short rest h = refl
part_over n f s (Taken is m) rest h =
    imaged_over n f (octets_to_a_common_head + m) (part_front s is) (rest (octets_to_a_common_head + m)) (λ c t v. omega arith)

-- behind the head
abbrev pub behind_head : Filled → Filled
behind_head f = record { held = f.held; transfers = f.transfers; used = f.used; octets = f.octets + octets_to_a_common_head }

part_stop : (n : ℕ) (f : Filled) (s : List ℕ) (j : Front Item) (rest : ℕ → Front Part) → None ≡ filled_by (behind_head f) j
    → imaged_from n f (part_then s j rest) ≡ no_image
part_stop n f s Short rest e = refl
part_stop n f s (Taken is m) rest e =
    imaged_over n f (octets_to_a_common_head + m) (part_front s is) (rest (octets_to_a_common_head + m))
    (λ c t v.
    let g : ◌≡◌ {A = Option Filled} None (Some (filled_with (behind_head f) is m)) =
    e ∙ rw (le-leb (f.transfers + length is) most_transfers t, le-leb (f.used + length (values_of is)) most_values v) in
    let z : ◌≡◌ {A = ℕ} 0 1 = cc in omega arith)

-- a head put in as the common parameter k
abbrev pub with_head : Filled → ℕ → Common → Filled
with_head f k c =
    record {
      held = record { commons = f.held.commons + 1; common = set f.held.common k c; transfer = f.held.transfer; values = f.held.values };
      transfers = f.transfers;
      used = f.used;
      octets = f.octets;
    }

-- what is filled in keeps within the limits, and within n octets
pub record Begun (n : ℕ) (f : Filled) : Type 0 where
  pub octets : f.octets ≤ n
  pub commons : f.held.commons ≤ most_commons
  pub places : f.transfers ≤ most_transfers
  pub values : f.used ≤ most_values

part_next : (n : ℕ) (f : Filled) (s : List ℕ) (j : Front Item) (rest : ℕ → Front Part) (g : Filled) (c : Common)
    → f.octets + octets_to_a_common_head ≤ n → f.held.commons < most_commons
    → Counted c.transfers (n - (f.octets + octets_to_a_common_head)) j → c ≡ common_front s → Some g ≡ filled_by (behind_head f) j
    → Begun n (with_head g f.held.commons c)
    × (f.octets ≤ g.octets)
    × (imaged_from n f (part_then s j rest) ≡ imaged_from n (with_head g f.held.commons c) (rest (g.octets - f.octets)))
part_next n f s Short rest g c l k d ec e = absurd (let z : ◌≡◌ {A = ℕ} 0 1 = cc in omega arith)
part_next n f s (Taken is m) rest g c l k d ec e =
    let u = filled_put (behind_head f) is m g e in
    let p = part_front s is in
    let q = with_head g f.held.commons c in
    let held : g.held ≡ with_items f.held is f.transfers f.used = ap (λ (x : Filled). x.held) u.same in
    let commons : g.held.commons ≡ f.held.commons = ap (λ (x : Filled). x.held.commons) u.same in
    let transfers : g.transfers ≡ f.transfers + length is = ap (λ (x : Filled). x.transfers) u.same in
    let used : g.used ≡ f.used + length (values_of is) = ap (λ (x : Filled). x.used) u.same in
    let octets : g.octets ≡ f.octets + octets_to_a_common_head + m = ap (λ (x : Filled). x.octets) u.same in
    let hc : c ≡ common_head_of p = ec ∙ rw (d.0 ∙ ap (λ (x : Common). x.transfers) ec) in
    let h : (ps : List Part) → with_parts f.held (p ∷ ps) f.transfers f.used ≡ with_parts q.held ps g.transfers g.used =
    λ ps.
    part_put f.held g.held f.transfers f.used p ps c held hc
    ∙ rw (transfers, used, commons) in
    let o : octets_to_a_common_head + m ≡ g.octets - f.octets = omega arith in (
      record {
        octets = omega (arith, d.1);
        commons = omega arith;
        places = omega (arith, u.places);
        values = omega (arith, u.values);
      },
      omega arith,
      imaged_more n f q (octets_to_a_common_head + m) p (omega arith) transfers used (omega arith) h (rest (octets_to_a_common_head + m))
          ∙ ap (λ (x : ℕ). imaged_from n q (rest x)) o,
    )

-- ---- a turn

-- the next common parameter put in, or none where it is cut, is one too many, or has transfer parameters without room
abbrev pub PartPut : List ℕ → Filled → Option Filled → Type 0
PartPut s f (Some g) =
    Begun (length s) g
    × ((m : ℕ) → imaged_from (length s) f (parts_front (suc m) (drop f.octets s)) ≡ imaged_from (length s) g (parts_front m (drop g.octets s)))
PartPut s f None = (m : ℕ) → imaged_from (length s) f (parts_front (suc m) (drop f.octets s)) ≡ no_image

module _ (f : Filled) (s : List ℕ) where
  -- octets that are too short for a head
  pub parts_short : length s - f.octets < octets_to_a_common_head → PartPut s f None
  unfolding parts_front
  parts_short h m = rw (lt-leb octets_to_a_common_head (length (drop f.octets s)) (rw (length-drop f.octets s) h))

  pub parts_over : most_commons ≤ f.held.commons → PartPut s f None
  unfolding parts_front
  parts_over h m = go (leb octets_to_a_common_head (length (drop f.octets s)))
    where
      go : (b : Bool)
          → imaged_from (length s) f
          (cond b
          (part_then (drop f.octets s)
          (items_front (common_front (drop f.octets s)).transfers (drop octets_to_a_common_head (drop f.octets s)))
          (λ x. parts_front m (drop x (drop f.octets s)))) Short)
          ≡ no_image
      go true =
          part_over (length s) f (drop f.octets s)
          (items_front (common_front (drop f.octets s)).transfers (drop octets_to_a_common_head (drop f.octets s)))
          (λ x. parts_front m (drop x (drop f.octets s))) h
      go false = refl

  -- a head, and the transfer parameters behind it
  module _ (c : Common) (h : octets_to_a_common_head ≤ length s - f.octets) (ec : c ≡ common_front (drop f.octets s)) where
    abbrev items : Front Item
    items = items_front c.transfers (drop (f.octets + octets_to_a_common_head) s)

    opened : (m : ℕ) → parts_front (suc m) (drop f.octets s)
        ≡ part_then (drop f.octets s) items (λ x. parts_front m (drop x (drop f.octets s)))
    unfolding parts_front
    opened m =
        let t : c.transfers ≡ (common_front (drop f.octets s)).transfers = ap (λ (x : Common). x.transfers) ec in
        rw (le-leb octets_to_a_common_head (length (drop f.octets s)) (rw (length-drop f.octets s) h), drop-drop octets_to_a_common_head f.octets s, t)

    pub parts_stop : None ≡ filled_by (behind_head f) items → PartPut s f None
    parts_stop e m =
        ap (imaged_from (length s) f) (opened m)
        ∙ part_stop (length s) f (drop f.octets s) items (λ x. parts_front m (drop x (drop f.octets s))) e

    pub parts_next : f.held.commons < most_commons → (g : Filled) → Some g ≡ filled_by (behind_head f) items
        → PartPut s f (Some (with_head g f.held.commons c))
    parts_next k g e =
        let l : f.octets + octets_to_a_common_head ≤ length s = omega arith in
        let d : Counted c.transfers (length s - (f.octets + octets_to_a_common_head)) items =
        rw (length-drop (f.octets + octets_to_a_common_head) s) at (items_counted c.transfers (drop (f.octets + octets_to_a_common_head) s)) in
        let next = λ (m : ℕ). part_next (length s) f (drop f.octets s) items (λ x. parts_front m (drop x (drop f.octets s))) g c l k d ec e in
        let i : f.octets + (g.octets - f.octets) ≡ g.octets = omega (arith, (next 0).1) in (
          (next 0).0,
          λ m.
              ap (imaged_from (length s) f) (opened m)
              ∙ (next m).2
              ∙ ap (λ (d : List ℕ). imaged_from (length s) (with_head g f.held.commons c) (parts_front m d))
              (drop-drop (g.octets - f.octets) f.octets s ∙ ap (λ (x : ℕ). drop x s) i),
        )

-- none left: all octets are taken, or there are some left over
pub parts_end : (n : ℕ) (f : Filled) (s : List ℕ) → Begun n f
    → imaged_from n f (parts_front 0 s) ≡ cond (eqb f.octets n) (imaged (Some f.held)) no_image
unfolding parts_front values_of
parts_end n f s b =
    let ei : f.octets + 0 ≡ f.octets = omega arith in
    let ec : f.held.commons + 0 ≡ f.held.commons = omega arith in
    let et : f.transfers + 0 ≡ f.transfers = omega arith in
    let ev : f.used + 0 ≡ f.used = omega arith in
    let h = filled_none f.held f.transfers f.used in
    (λ j.
    cond (eqb (ei j) n && (leb (ec j) most_commons && (leb (et j) most_transfers && leb (ev j) most_values)))
    (record { answer = Accepted (ec j); held = h j })
    no_image)
    ∙ rw (le-leb f.held.commons most_commons b.commons, le-leb f.transfers most_transfers b.places, le-leb f.used most_values b.values)
    (and-true (eqb f.octets n))
  where
    and-true : (b : Bool)
        → cond {A = Imaged} (b && true) (imaged (Some f.held)) no_image
        ≡ cond b (imaged (Some f.held)) no_image
    and-true true = refl
    and-true false = refl

-- ---- the count before them

pub image_none : (m : List ℕ) → length m < 1 → imaged_of m ≡ no_image
unfolding imaged_of
image_none [] h = refl
image_none (n ∷ s) h = absurd (omega arith)

pub image_counted : (m : List ℕ) → 1 ≤ length m → imaged_of m ≡ imaged_by (length (drop 1 m)) (parts_front (get_or m 0 0) (drop 1 m))
unfolding imaged_of
image_counted [] h = absurd (omega arith)
image_counted (n ∷ s) h = refl
