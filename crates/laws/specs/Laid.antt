-- Laws of a transfer parameter laid out: marks and fields that it does not have do not matter, how long it is, and its octets.
use Rattle.std.specs.Prelude.{ℕ, zero, suc, ◌+◌, ◌*◌, ◌≤◌, ◌<◌, ◌≡◌, refl, true, List, [], ◌∷◌, map, length, get_or}
use Rattle.std.proofs.Common.{arith, ap, eqb-true, leb-true}
use Rattle.std.proofs.lemmas.List.{length-map}
use Rattle.std.proofs.Math.ListN.{get_or-eq_default}
use Rattle.annex.specs.Units.{pli_of, after_of, lead_of, transfer_by_pli, extent_of}
use Rattle.annex.specs.Heads.{most_transfer_octets, most_digits}
use Rattle.annex.specs.declared.Marks.TheVariants.{Unmarked, Notified, Verified, Typed}
use Rattle.annex.specs.Digits.{joined, code_of, packed}
use Rattle.annex.specs.Items.{Item, contents_by, held_as, contents_of, own_by, own_of}
use Rattle.annex.specs.declared.Holding.{Holding}
use Rattle.annex.specs.declared.Holding.TheVariants.{AsContents, AsDigits, AsNumber, AsGeneric}
use Rattle.annex.specs.Layout.{led_by, layout_item}
use Rattle.annex.specs.Allowed.{every, is_octet, HeldItem, length_fits, length_by, length_right, fault_as, fault_in}
use Rattle.annex.specs.Writing.{item_writing}
use Rattle.annex.specs.declared.Alphabet.{Alphabet}
use Rattle.annex.specs.declared.Alphabet.TheVariants.{Dialled}
use Rattle.annex.specs.declared.Extent.{Extent}
use Rattle.annex.specs.declared.Extent.TheVariants.{Fixed, Counted}
use Rattle.annex.specs.declared.CountingUnit.TheVariants.{HalfOctet, Octet}
use Rattle.laws.specs.Joined.{length-packed}

-- ---- what is not its own does not matter

header_by : (k : Holding) (i : Item) → (own_by k i).header ≡ i.header
header_by AsContents i = refl
header_by (AsDigits Unmarked) i = refl
header_by (AsDigits Notified) i = refl
header_by (AsDigits Verified) i = refl
header_by (AsDigits Typed) i = refl
header_by (AsNumber w) i = refl
header_by AsGeneric i = refl

values_by : (k : Holding) (i : Item) → (own_by k i).values ≡ i.values
values_by AsContents i = refl
values_by (AsDigits Unmarked) i = refl
values_by (AsDigits Notified) i = refl
values_by (AsDigits Verified) i = refl
values_by (AsDigits Typed) i = refl
values_by (AsNumber w) i = refl
values_by AsGeneric i = refl

contents_by_lem : (k : Holding) (i : Item) → contents_by k (own_by k i) ≡ contents_by k i
contents_by_lem AsContents i = refl
contents_by_lem (AsDigits Unmarked) i = refl
contents_by_lem (AsDigits Notified) i = refl
contents_by_lem (AsDigits Verified) i = refl
contents_by_lem (AsDigits Typed) i = refl
contents_by_lem (AsNumber w) i = refl
contents_by_lem AsGeneric i = refl

again_by : (k : Holding) (i : Item) → own_by k (own_by k i) ≡ own_by k i
again_by AsContents i = refl
again_by (AsDigits Unmarked) i = refl
again_by (AsDigits Notified) i = refl
again_by (AsDigits Verified) i = refl
again_by (AsDigits Typed) i = refl
again_by (AsNumber w) i = refl
again_by AsGeneric i = refl

fault_by_lem : (k : Holding) (i : Item) → fault_as k (own_by k i) ≡ fault_as k i
fault_by_lem AsContents i = refl
fault_by_lem (AsDigits Unmarked) i = refl
fault_by_lem (AsDigits Notified) i = refl
fault_by_lem (AsDigits Verified) i = refl
fault_by_lem (AsDigits Typed) i = refl
fault_by_lem (AsNumber w) i = refl
fault_by_lem AsGeneric i = refl

module _ (i : Item) where
  pub own_header : (own_of i).header ≡ i.header
  unfolding own_of
  own_header = header_by (held_as i) i

  pub own_values : (own_of i).values ≡ i.values
  unfolding own_of
  own_values = values_by (held_as i) i

  own_held : held_as (own_of i) ≡ held_as i
  own_held = rw (own_header, own_values)

  pub own_contents_lem : contents_of (own_of i) ≡ contents_of i
  unfolding contents_of own_of
  own_contents_lem = rw own_held (contents_by_lem (held_as i) i)

  pub own_layout : layout_item (own_of i) ≡ layout_item i
  unfolding layout_item
  own_layout = rw (own_contents_lem, own_header)

  own-length : length_right (own_of i) ≡ length_right i
  unfolding length_right
  own-length = rw own_held (go (held_as i))
    where
      go : (k : Holding) → length_by k (own_of i) ≡ length_by k i
      go AsContents = rw (own_contents_lem, own_header)
      go (AsDigits m) = rw own_values
      go (AsNumber w) = rw (own_contents_lem, own_header)
      go AsGeneric = rw (own_contents_lem, own_header)

  own_fault_lem : fault_in (own_of i) ≡ fault_in i
  unfolding fault_in own_of
  own_fault_lem = rw own_held (fault_by_lem (held_as i) i)

  pub own_writing : (times p : ℕ) → item_writing times p (own_of i) ≡ item_writing times p i
  unfolding item_writing
  own_writing times p = rw (own-length, own_fault_lem, own_layout, own_header)

-- what is its own is held as a record holds it
pub own_held_item : (i : Item) → i.header < 256 → every is_octet i.values ≡ true → HeldItem (own_of i)
unfolding own_of
own_held_item i l o =
    record { octet = rw (own_header i) l; octets = rw (own_values i) o; own = rw (own_held i) (again_by (held_as i) i) }

-- ---- how long it is

length_led : (e : Extent) (s : List ℕ) → length (led_by e s) ≡ lead_of e + length s
unfolding lead_of
length_led (Fixed n) s = omega arith
length_led (Counted HalfOctet) s = omega arith
length_led (Counted Octet) s = omega arith

-- the header, a length octet, the contents
pub length-layout : (i : Item) → length (layout_item i) ≡ 1 + lead_of (extent_of i.header) + length (contents_of i)
unfolding layout_item
length-layout i = omega (arith, length_led (extent_of i.header) (contents_of i))

-- with a length octet, and with none
pub layout_plain : (i : Item) → lead_of (extent_of i.header) ≡ 0 → layout_item i ≡ i.header ∷ contents_of i
unfolding layout_item lead_of
layout_plain i n = ap (λ s. i.header ∷ s) (go (extent_of i.header) n)
  where
    go : (e : Extent) → lead_of e ≡ 0 → led_by e (contents_of i) ≡ contents_of i
    go (Fixed n) z = refl
    go (Counted HalfOctet) z = refl
    go (Counted Octet) z = absurd (omega arith)

pub layout_led : (i : Item) → (lead_of (extent_of i.header) ≡ 0 → ⊥) → layout_item i ≡ i.header ∷ length (contents_of i) ∷ contents_of i
unfolding layout_item lead_of
layout_led i n = ap (λ s. i.header ∷ s) (go (extent_of i.header) n)
  where
    go : (e : Extent) → (lead_of e ≡ 0 → ⊥) → led_by e (contents_of i) ≡ length (contents_of i) ∷ contents_of i
    go (Fixed n) z = absurd (z refl)
    go (Counted HalfOctet) z = absurd (z refl)
    go (Counted Octet) z = refl

pub lead_small : (e : Extent) → lead_of e ≤ 1
unfolding lead_of
lead_small (Fixed n) = omega arith
lead_small (Counted HalfOctet) = omega arith
lead_small (Counted Octet) = omega arith

fits_small : (pli : ℕ) (s : List ℕ) → length_fits (transfer_by_pli pli) s ≡ true → length s ≤ most_transfer_octets
unfolding after_of
fits_small zero s t = omega (arith, eqb-true (length s) 0 t)
fits_small (suc zero) s t = omega (arith, eqb-true (length s) 1 t)
fits_small (suc (suc zero)) s t = omega (arith, eqb-true (length s) _ t)
fits_small (suc (suc (suc n))) s t = leb-true (length s) most_transfer_octets t

-- contents of the PLI's length are short
pub length_small : (i : Item) → length_right i ≡ true → length (contents_of i) ≤ most_transfer_octets
unfolding length_right extent_of contents_of
length_small i t = go (held_as i) refl t
  where
    go : (k : Holding) → held_as i ≡ k → length_by k i ≡ true → length (contents_of i) ≤ most_transfer_octets
    go AsContents e t = fits_small (pli_of i.header) (contents_of i) t
    go (AsDigits m) e t = rw e (omega (arith, leb-true (length i.values) most_digits t, length-packed Dialled i.values))
    go (AsNumber w) e t = fits_small (pli_of i.header) (contents_of i) t
    go AsGeneric e t = fits_small (pli_of i.header) (contents_of i) t

-- ---- its octets

-- ---- its half-octets

pub code_past : (z : Alphabet) (ds : List ℕ) (i : ℕ) → length ds ≤ i → get_or (map (code_of z) ds) i 0 ≡ 0
code_past z ds i h = get_or-eq_default (map (code_of z) ds) 0 {n = i} (omega (arith, length-map ds (code_of z)))

pub code_here : (z : Alphabet) (ds : List ℕ) (i : ℕ) → i < length ds → get_or (map (code_of z) ds) i 0 ≡ code_of z (get_or ds i 0)
code_here z [] i h = absurd (omega arith)
code_here z (d ∷ ds) zero h = refl
code_here z (d ∷ ds) (suc i) h = code_here z ds i (omega arith)

joined_at : (hs : List ℕ) (i : ℕ) → get_or (joined hs) i 0 ≡ get_or hs (i * 2) 0 + 16 * get_or hs (i * 2 + 1) 0
unfolding joined
joined_at [] i = refl
joined_at (a ∷ []) zero = omega arith
joined_at (a ∷ []) (suc i) =
    let e : suc i * 2 ≡ suc (suc (i * 2)) = omega arith in
    let f : suc i * 2 + 1 ≡ suc (suc (i * 2 + 1)) = omega arith in
    rw (f, e)
joined_at (a ∷ b ∷ hs) zero = refl
joined_at (a ∷ b ∷ hs) (suc i) =
    let e : suc i * 2 ≡ suc (suc (i * 2)) = omega arith in
    let f : suc i * 2 + 1 ≡ suc (suc (i * 2 + 1)) = omega arith in
    rw (f, e) (joined_at hs i)

-- two codes to an octet, low half first
pub packed_at : (z : Alphabet) (ds : List ℕ) (i : ℕ)
    → get_or (packed z ds) i 0 ≡ get_or (map (code_of z) ds) (i * 2) 0 + 16 * get_or (map (code_of z) ds) (i * 2 + 1) 0
unfolding packed
packed_at z ds i = joined_at (map (code_of z) ds) i
