-- One common parameter: what is accepted opens to an allowed part that lays out to it, and an allowed part lays out to what is accepted
-- and opens to it.
use Rattle.std.specs.Prelude.{ℕ, suc, ◌+◌, ◌*◌, ◌/◌, ◌%◌, ◌≤◌, ◌<◌, ◌≡◌, refl, true, false, List, [], ◌∷◌, map, eqb, length, get_or, drop}
use Rattle.std.proofs.Common.{arith, ap, ltb-true, lt-ltb, leb-true, le-leb, eqb-true}
use Rattle.annex.specs.Units.{name_of, after_of, lead_of, common_extent_of, contents_in}
use Rattle.annex.specs.Heads.{
  advanced_telephony,
  sequence_number,
  value_allowed,
  among,
  user_class,
  partners_call,
  own_call,
  sequence,
  signal_kind,
  transfer_data,
  is_call,
  common_headers,
  signal_kinds,
  call_number_below,
  most_transfer_octets,
}
use Rattle.annex.specs.Items.{Item, Part, part, value_part, data_part, octet_value, octet_mark, octet_part, own_more_data}
use Rattle.annex.specs.Layout.{layout_items, layout_part, call_octets, octet_of, data_octets}
use Rattle.annex.specs.Allowed.{every, is_octet, HeldItem, HeldPart, value_right, value_fits}
use Rattle.annex.specs.Walk.{Par}
use Rattle.annex.specs.Reading.{transfers_of, open_transfer, open_common, call_number, open_common_by}
use Rattle.annex.specs.declared.Extent.TheVariants.{Fixed, Counted}
use Rattle.annex.specs.declared.CountingUnit.TheVariants.{Octet}
use Rattle.laws.specs.Bools.{and_left, and_right, and_both}
use Rattle.theorems.specs.Lists.{among_each, each_so, every_drop}
use Rattle.theorems.specs.Lengths.{cut}
use Rattle.theorems.specs.Steps.{CommonOwn}
use Rattle.theorems.specs.Transfers.{AllowedItem, AllowedItems, transfers_read, transfers_built}

-- ---- the three kinds

-- the most octets of a common parameter, by its name; with the end mark they come to 272
abbrev pub most_of : ℕ → ℕ
most_of x = get_or (1 ∷ 2 ∷ 4 ∷ 4 ∷ 2 ∷ 257 ∷ 2 ∷ []) x 0

-- what an octet says is laid out to it again, is the header's own and fits its bits
record OctetRead (p : Part) (x : ℕ) : Type 0 where
  laid : octet_of p ≡ x
  own : own_more_data p.header p.more_data ≡ p.more_data
  fits : value_fits p ≡ true

-- and an allowed value is laid out, with its mark, to an octet that says them
pub record OctetBuilt (h v m : ℕ) : Type 0 where
  pub small : v < 256
  octet : octet_of (part h v m []) < 256
  value : octet_value h (octet_of (part h v m [])) ≡ v
  mark : octet_mark h (octet_of (part h v m [])) ≡ own_more_data h m

-- 01, 04 and 06: one octet
pub record OneOctet (h : ℕ) : Type 0 where
  pub plain : eqb h transfer_data ≡ false
  pub uncalled : is_call h ≡ false
  pub extent : common_extent_of h ≡ Fixed 1
  pub most : most_of (name_of h) ≡ 2
  read : (x : ℕ) → x < 256 → OctetRead (octet_part h x) x
  pub built : (v m : ℕ) → value_allowed h v ≡ true → value_fits (part h v m []) ≡ true → OctetBuilt h v m

-- 82 and 83: three octets, of which none is refused
pub record CallNumber (h : ℕ) : Type 0 where
  pub plain : eqb h transfer_data ≡ false
  pub called : is_call h ≡ true
  pub unsequenced : eqb h sequence ≡ false
  pub extent : common_extent_of h ≡ Fixed 3
  pub most : most_of (name_of h) ≡ 4
  pub free : (v : ℕ) → value_allowed h v ≡ true

-- C5: a length octet and its parameters
pub record DataKind (h : ℕ) : Type 0 where
  pub is_data : eqb h transfer_data ≡ true
  pub extent : common_extent_of h ≡ Counted Octet
  pub most : most_of (name_of h) ≡ 257
  pub free : (v : ℕ) → value_allowed h v ≡ true

pub data Kind (h : ℕ) : Type 0 where
  octet : OneOctet h → Kind h
  call : CallNumber h → Kind h
  many : DataKind h → Kind h

-- one without a mark: its value is the octet
module _ (h : ℕ) (plain : eqb h transfer_data ≡ false) (uncalled : is_call h ≡ false) (unmarked : eqb h sequence ≡ false)
    (extent : common_extent_of h ≡ Fixed 1) (most : most_of (name_of h) ≡ 2) (small : (v : ℕ) → value_allowed h v ≡ true → v < 256) where
  unmarked_octet : OneOctet h
  unfolding value_fits
  unmarked_octet =
      record {
        plain = plain;
        uncalled = uncalled;
        extent = extent;
        most = most;
        read = λ x l. record { laid = rw unmarked; own = rw unmarked; fits = rw (unmarked, uncalled) };
        built = λ v m a f.
            record { small = small v a; octet = rw unmarked (small v a); value = rw unmarked; mark = rw unmarked };
      }

class_octet : OneOctet user_class
unfolding common_extent_of value_allowed
class_octet = unmarked_octet user_class refl refl refl refl refl (λ v e. omega (arith, eqb-true v advanced_telephony e))

kind_octet : OneOctet signal_kind
unfolding common_extent_of value_allowed
kind_octet = unmarked_octet signal_kind refl refl refl refl refl (among_each (λ k. k < 256) signal_kinds (omega arith))

-- the mark stands above the number, which has seven bits
sequence_octet : OneOctet sequence
unfolding common_extent_of value_allowed value_fits
sequence_octet =
    record {
      plain = refl;
      uncalled = refl;
      extent = refl;
      most = refl;
      read = λ x l. record { laid = omega arith; own = refl; fits = le-leb (x / 128) 1 (omega arith) };
      built = λ v m a f.
          let one = eqb-true v sequence_number a in
          let bit = leb-true m 1 f in
          record { small = omega arith; octet = omega arith; value = omega arith; mark = omega arith };
    }

partners_number : CallNumber partners_call
unfolding common_extent_of value_allowed
partners_number = record { plain = refl; called = refl; unsequenced = refl; extent = refl; most = refl; free = λ v. refl }

own_number : CallNumber own_call
unfolding common_extent_of value_allowed
own_number = record { plain = refl; called = refl; unsequenced = refl; extent = refl; most = refl; free = λ v. refl }

data_kind : DataKind transfer_data
unfolding common_extent_of value_allowed
data_kind = record { is_data = refl; extent = refl; most = refl; free = λ v. refl }

pub kind : (h : ℕ) → among h common_headers ≡ true → Kind h
kind h e =
    among_each Kind common_headers
    (octet class_octet, (call partners_number, (call own_number, (octet sequence_octet, (octet kind_octet, (many data_kind, tt))))))
    h e

-- one allowed common parameter
pub record AllowedPart (p : Part) : Type 0 where
  pub held : HeldPart p
  pub listed : among p.header common_headers ≡ true
  pub right : value_right p ≡ true
  pub fits : value_fits p ≡ true
  pub items : AllowedItems p.items

pub no_items : AllowedItems []
unfolding layout_items
no_items = record { each = tt; often = λ u. omega arith; few_octets = omega arith }

pub data_allowed : (is : List Item) → AllowedItems is → AllowedPart (data_part is)
unfolding value_allowed value_fits
data_allowed is a =
    record {
      held = record { octet = omega arith; own = refl; each = each_so AllowedItem HeldItem (λ i b. b.held) is a.each };
      listed = refl;
      right = refl;
      fits = refl;
      items = a;
    }

-- ---- from octets

-- the part that these octets open to
pub record PartRead (h : ℕ) (own : List ℕ) (p : Part) : Type 0 where
  pub header : p.header ≡ h
  pub laid : layout_part p ≡ h ∷ own
  pub allowed : AllowedPart p

octet_read : (times h : ℕ) (own : List ℕ) → h < 256 → every is_octet own ≡ true → OneOctet h → CommonOwn times h own → length own ≡ 1
    → PartRead h own (octet_part h (get_or own 0 0))
unfolding layout_part
octet_read times h [] s o k c l = absurd (omega arith)
octet_read times h (x ∷ y ∷ own) s o k c l = absurd (omega arith)
octet_read times h (x ∷ []) s o k c l =
    let r = k.read x (ltb-true x 256 (and_left (is_octet x) _ o)) in
    record {
      header = refl;
      laid = rw (k.plain, k.uncalled, r.laid);
      allowed =
          record {
            held = record { octet = s; own = rw (k.plain, r.own); each = tt };
            listed = c.listed;
            right = c.allowed;
            fits = r.fits;
            items = no_items;
          };
    }

-- the octets of a call number, least first
low_octet : (x n : ℕ) → x < 256 → (x + 256 * n) % 256 ≡ x
low_octet x n h = omega arith

upper_octets : (x n : ℕ) → x < 256 → (x + 256 * n) / 256 ≡ n
upper_octets x n h = omega arith

last_octet : (w z : ℕ) → w < 65536 → z < 256 → (w + 65536 * z) / 65536 % 256 ≡ z
last_octet w z h g = let e : (w + 65536 * z) / 65536 ≡ z = omega arith in rw e (omega arith)

call_read : (times h : ℕ) (own : List ℕ) → h < 256 → every is_octet own ≡ true → CallNumber h → CommonOwn times h own → length own ≡ 3
    → PartRead h own (value_part h (call_number own))
unfolding layout_part value_fits
call_read times h [] s o k c l = absurd (omega arith)
call_read times h (x ∷ []) s o k c l = absurd (omega arith)
call_read times h (x ∷ y ∷ []) s o k c l = absurd (omega arith)
call_read times h (x ∷ y ∷ z ∷ w ∷ own) s o k c l = absurd (omega arith)
call_read times h (x ∷ y ∷ z ∷ []) s o k c l =
    let v = x + 256 * y + 65536 * z in
    let x< = ltb-true x 256 (and_left (is_octet x) _ o) in
    let oy = and_right (is_octet x) _ o in
    let y< = ltb-true y 256 (and_left (is_octet y) _ oy) in
    let z< = ltb-true z 256 (and_left (is_octet z) _ (and_right (is_octet y) _ oy)) in
    let again : v ≡ x + 256 * (y + 256 * z) = omega arith in
    let ex : v % 256 ≡ x = rw again (low_octet x (y + 256 * z) x<) in
    let ey : v / 256 % 256 ≡ y = rw (again, upper_octets x (y + 256 * z) x<) (low_octet y z y<) in
    let ez : v / 65536 % 256 ≡ z = last_octet (x + 256 * y) z (omega arith) z< in
    record {
      header = refl;
      laid = rw (k.plain, k.called, ex, ey, ez);
      allowed =
          record {
            held = record { octet = s; own = rw (k.plain, k.unsequenced); each = tt };
            listed = c.listed;
            right = k.free v;
            fits = rw (k.unsequenced, k.called) (lt-ltb v call_number_below (omega arith));
            items = no_items;
          };
    }

data_read : (times : ℕ) (own : List ℕ) → every is_octet own ≡ true → CommonOwn times transfer_data own
    → PartRead transfer_data own (data_part (map open_transfer (transfers_of (contents_in (common_extent_of transfer_data) own))))
unfolding layout_part common_extent_of after_of lead_of
data_read times own o c =
    let s = contents_in (Counted Octet) own in
    let k = cut (Counted Octet) own c.long o in
    let i = c.inner refl in
    let is = map open_transfer (transfers_of s) in
    let r = transfers_read s i.0 (every_drop is_octet 1 own o) (leb-true (length s) most_transfer_octets k.fits) i.1 in
    record {
      header = refl;
      laid = rw r.laid (ap (λ (l : List ℕ). transfer_data ∷ l) k.led);
      allowed = data_allowed is r.items;
    }

pub part_read : (q : Par) (times : ℕ) → q.head < 256 → every is_octet q.own ≡ true → CommonOwn times q.head q.own
    → PartRead q.head q.own (open_common q)
unfolding open_common_by after_of
part_read q times s o c = go (kind q.head c.listed)
  where
    go : Kind q.head → PartRead q.head q.own (open_common q)
    go (octet k) = rw (k.plain, k.uncalled) (octet_read times q.head q.own s o k c (rw k.extent at c.long))
    go (call k) = rw (k.plain, k.called) (call_read times q.head q.own s o k c (rw k.extent at c.long))
    go (many k) =
        let e = eqb-true q.head transfer_data k.is_data in
        rw e (data_read times q.own o (rw e at c))

-- ---- and back

-- a common parameter as it stands at a place
abbrev pub part_par : ℕ → Part → Par
part_par at p = record { place = at; head = p.header; own = drop 1 (layout_part p) }

pub record PartBuilt (p : Part) (own : List ℕ) : Type 0 where
  pub laid : layout_part p ≡ p.header ∷ own
  pub accepted : CommonOwn 0 p.header own
  pub opens : (at : ℕ) → open_common (record { place = at; head = p.header; own = own }) ≡ p
  pub octets : every is_octet own ≡ true
  pub most : suc (length own) ≤ most_of (name_of p.header)

octet_built : (p : Part) → AllowedPart p → OneOctet p.header → PartBuilt p (octet_of p ∷ [])
unfolding layout_part open_common_by after_of value_fits
octet_built p a k =
    let b = k.built p.value p.more_data a.right a.fits in
    record {
      laid = rw (k.plain, k.uncalled);
      accepted =
          record {
            listed = a.listed;
            new = refl;
            long = rw k.extent;
            allowed = rw b.value a.right;
            inner = λ e. absurd (let z : ◌≡◌ {A = ℕ} 0 1 = cc k.plain in omega arith);
          };
      opens = λ at. rw (k.plain, k.uncalled, b.value, b.mark) (rw k.plain at a.held.own);
      octets = and_both (is_octet (octet_of p)) true (lt-ltb (octet_of p) 256 b.octet) refl;
      most = omega (arith, k.most);
    }

call_whole : (v : ℕ) → v < call_number_below → call_number (call_octets v) ≡ v
call_whole v h = omega arith

call_built : (p : Part) → AllowedPart p → CallNumber p.header → PartBuilt p (call_octets p.value)
unfolding layout_part open_common_by after_of value_fits
call_built p a k =
    let h = p.header in
    let v = p.value in
    let whole = call_whole v (ltb-true v call_number_below (rw (k.unsequenced, k.called) at a.fits)) in
    let octet-of : (n : ℕ) → is_octet (n % 256) ≡ true = λ n. lt-ltb (n % 256) 256 (omega arith) in
    record {
      laid = rw (k.plain, k.called);
      accepted =
          record {
            listed = a.listed;
            new = refl;
            long = rw k.extent;
            allowed = k.free (octet_value h (v % 256));
            inner = λ e. absurd (let z : ◌≡◌ {A = ℕ} 0 1 = cc k.plain in omega arith);
          };
      opens = λ at. rw (k.plain, k.called, whole) (rw (k.plain, k.unsequenced) at a.held.own);
      octets = rw (octet-of v, octet-of (v / 256), octet-of (v / 65536));
      most = omega (arith, k.most);
    }

data_built : (p : Part) → AllowedPart p → DataKind p.header → PartBuilt p (data_octets (layout_items p.items))
unfolding layout_part open_common_by after_of lead_of common_extent_of
data_built p a k =
    let t = layout_items p.items in
    let b = transfers_built p.items a.items in
    let few = a.items.few_octets in
    record {
      laid = rw k.is_data;
      accepted =
          record {
            listed = a.listed;
            new = refl;
            long = rw k.extent (omega arith);
            allowed = k.free (octet_value p.header (length t));
            inner = λ e. (length t, b.verdict);
          };
      opens = λ at. rw (k.is_data, b.opens) (rw k.is_data at a.held.own);
      octets = and_both (is_octet (length t)) _ (lt-ltb (length t) 256 (omega arith)) b.octets;
      most = omega (arith, k.most);
    }

pub part_built : (p : Part) → AllowedPart p → PartBuilt p (drop 1 (layout_part p))
unfolding layout_part
part_built p a = go (kind p.header a.listed)
  where
    go : Kind p.header → PartBuilt p (drop 1 (layout_part p))
    go (octet k) = rw (k.plain, k.uncalled) (octet_built p a k)
    go (call k) = rw (k.plain, k.called) (call_built p a k)
    go (many k) = rw k.is_data (data_built p a k)
