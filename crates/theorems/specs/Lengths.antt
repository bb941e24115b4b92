-- The length rule, once over the counting unit: the octets after a header that are its own, and the contents among them, tell one another.
use Rattle.std.specs.Prelude.{ℕ, ◌≤◌, ◌<◌, ◌≡◌, refl, true, List, [], ◌∷◌, ◌++◌, length, get_or}
use native.Mathlib.Omega.{arith}
use Rattle.std.proofs.Common.{sym, eqb-true, eq-eqb, leb-true, le-leb, ltb-true, lt-ltb}
use Rattle.annex.specs.Units.{octets_counted, after_of, lead_of, contents_in}
use Rattle.annex.specs.Heads.{most_transfer_octets}
use Rattle.annex.specs.Layout.{led_by}
use Rattle.annex.specs.Allowed.{every, is_octet, length_fits}
use Rattle.annex.specs.declared.CountingUnit.{CountingUnit}
use Rattle.annex.specs.declared.Extent.{Extent}
use Rattle.annex.specs.declared.Extent.TheVariants.{Fixed, Counted}
use Rattle.annex.specs.declared.CountingUnit.TheVariants.{HalfOctet, Octet}
use Rattle.laws.specs.Bools.{and_left, and_both}

-- these octets after a header are as many as the length rule gives
abbrev pub Long : Extent → List ℕ → Type 0
Long e own = length own ≡ after_of e (get_or own 0 0)

-- whatever the unit u: the octet that counts is there, and it counts those behind it
module _ (u : CountingUnit) where
  counted_some : (x : ℕ) → length {A = ℕ} [] ≡ after_of (Counted u) x → ⊥
  unfolding after_of
  counted_some x l = omega arith

  counted_rest : (x : ℕ) (s : List ℕ) → Long (Counted u) (x ∷ s) → length s ≡ (octets_counted u x).0
  unfolding after_of
  counted_rest x s l = omega arith

  counted_long : (x : ℕ) (s : List ℕ) → length s ≡ (octets_counted u x).0 → Long (Counted u) (x ∷ s)
  unfolding after_of
  counted_long x s e = omega arith

-- the rule looks at the octet after the header only where that is the parameter's own
pub long_alone : (e : Extent) (own rest : List ℕ) → length own ≡ after_of e (get_or (own ++ rest) 0 0) → Long e own
unfolding after_of
long_alone (Fixed n) [] rest l = l
long_alone (Counted u) [] rest l = absurd (counted_some u _ l)
long_alone e (x ∷ own) rest l = l

pub long_before : (e : Extent) (own rest : List ℕ) → Long e own → after_of e (get_or (own ++ rest) 0 0) ≡ length own
unfolding after_of
long_before (Fixed n) [] rest l = sym l
long_before (Counted u) [] rest l = absurd (counted_some u _ l)
long_before e (x ∷ own) rest l = sym l

-- own octets to contents
pub record Cut (e : Extent) (own : List ℕ) : Type 0 where
  pub fits : length_fits e (contents_in e own) ≡ true
  pub led : led_by e (contents_in e own) ≡ own

pub cut : (e : Extent) (own : List ℕ) → Long e own → every is_octet own ≡ true → Cut e own
unfolding after_of lead_of
cut (Fixed n) own l o = record { fits = eq-eqb _ _ l; led = refl }
cut (Counted HalfOctet) own l o = record { fits = eq-eqb _ _ l; led = refl }
cut (Counted Octet) [] l o = absurd (counted_some Octet 0 l)
cut (Counted Octet) (x ∷ s) l o =
    let small : x < 256 = ltb-true x 256 (and_left (is_octet x) _ o) in
    let same : length s ≡ x = counted_rest Octet x s l in
    record { fits = le-leb (length s) most_transfer_octets (omega arith); led = rw same }

-- contents to own octets
pub record Led (e : Extent) (s : List ℕ) : Type 0 where
  pub long : Long e (led_by e s)
  pub contents : contents_in e (led_by e s) ≡ s
  pub octets : every is_octet (led_by e s) ≡ true

pub lead : (e : Extent) (s : List ℕ) → length_fits e s ≡ true → every is_octet s ≡ true → Led e s
unfolding after_of lead_of
lead (Fixed n) s f o = record { long = eqb-true _ _ f; contents = refl; octets = o }
lead (Counted HalfOctet) s f o = record { long = eqb-true _ _ f; contents = refl; octets = o }
lead (Counted Octet) s f o =
    let small : length s ≤ most_transfer_octets = leb-true _ _ f in
    record {
      long = counted_long Octet (length s) s refl;
      contents = refl;
      octets = and_both (is_octet (length s)) _ (lt-ltb (length s) 256 (omega arith)) o;
    }

-- the contents are no longer than the own octets
pub led_length : (e : Extent) (s : List ℕ) → length s ≤ length (led_by e s)
led_length (Fixed n) s = omega arith
led_length (Counted HalfOctet) s = omega arith
led_length (Counted Octet) s = omega arith
