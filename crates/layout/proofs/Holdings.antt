-- What the header asks of a parameter, by how its values are held.
use Prim.Native.Nat.{ℕ, ◌<◌}
use native.Mathlib.Omega.{arith}
use mathlib.Core.Path.{◌≡◌, refl, ap, ◌∙◌}
use mathlib.Core.Bool.{Bool, true, false, not, ◌||◌}
use lib.Dec.{T}
use lib.ListN.{get_or}
use Rattle.annex.specs.Units.{extent_of}
use Rattle.annex.specs.Heads.{form_of}
use Rattle.annex.specs.declared.Form.{Form}
use Rattle.annex.specs.declared.Form.TheVariants.{Checked, Digits, Number, Calling, Generic}
use Rattle.annex.specs.Items.{Item, holding_by, holding_of, contents_by, held_as, contents_of}
use Rattle.annex.specs.declared.Holding.{Holding}
use Rattle.annex.specs.declared.Holding.TheVariants.{AsContents, AsDigits, AsNumber, AsGeneric}
use Rattle.annex.specs.Allowed.{length_by, length_right, fault_as, fault_in}
use Rattle.annex.specs.declared.Extent.{Extent}
use Rattle.annex.specs.declared.Extent.TheVariants.{Fixed, Counted}
use Rattle.annex.specs.declared.CountingUnit.TheVariants.{HalfOctet, Octet}
use Rattle.laws.specs.Bools.{T_true}
use Rattle.laws.specs.Octet.{range}
use Rattle.heads.specs.Asked.{Asks}
use Rattle.heads.specs.declared.Asked.{Asked}

-- as the look-up says
pub held_of : (h : ℕ) (r : Asked) → Asks h r → (x : ℕ) (k : Holding) → k ≡ holding_by r.form x → k ≡ holding_of h x
unfolding holding_of
held_of h r e x k f = f ∙ ap (λ (g : Form). holding_by g x) e.2

-- ---- contents, length and faults

pub contents_as : (k : Holding) (i : Item) → k ≡ held_as i → contents_by k i ≡ contents_of i
unfolding contents_of
contents_as k i e = rw e

pub length_as : (k : Holding) (i : Item) → k ≡ held_as i → length_by k i ≡ length_right i
unfolding length_right
length_as k i e = rw e

pub fault_as_lem : (k : Holding) (i : Item) → k ≡ held_as i → fault_as k i ≡ fault_in i
unfolding fault_in
fault_as_lem k i e = rw e

-- ---- numbers

-- D7, DC and DA have a length octet
abbrev is_numeric : Form → Bool
is_numeric (Checked c) = false
is_numeric (Digits m) = false
is_numeric Number = true
is_numeric Calling = true
is_numeric Generic = true

abbrev is_led : Extent → Bool
is_led (Fixed n) = false
is_led (Counted HalfOctet) = false
is_led (Counted Octet) = true

led : (e : Extent) → is_led e ≡ true → e ≡ Counted Octet
led (Fixed n) t = absurd (let z : ◌≡◌ {A = ℕ} 0 1 = cc in omega arith)
led (Counted HalfOctet) t = absurd (let z : ◌≡◌ {A = ℕ} 0 1 = cc in omega arith)
led (Counted Octet) t = refl

numeric_led : (h : ℕ) → h < 256 → not (is_numeric (form_of h)) || is_led (extent_of h) ≡ true
unfolding form_of extent_of
numeric_led h l = T_true _ (range (λ k. not (is_numeric (form_of k)) || is_led (extent_of k)) 0 256 tt h (omega arith) l)

-- held as a number, or as a number after 06
abbrev pub held_number : Holding → Bool
held_number AsContents = false
held_number (AsDigits m) = false
held_number (AsNumber w) = true
held_number AsGeneric = true

numeric : (f : Form) (x : ℕ) → T (held_number (holding_by f x)) → is_numeric f ≡ true
numeric (Checked c) x t = absurd t
numeric (Digits m) x t = absurd t
numeric Number x t = refl
numeric Calling x t = refl
numeric Generic x t = refl

pub number_led : (i : Item) → i.header < 256 → T (held_number (held_as i)) → extent_of i.header ≡ Counted Octet
unfolding holding_of
number_led i l t = led (extent_of i.header) (rw (numeric (form_of i.header) (get_or i.values 0 0) t) at (numeric_led i.header l))
