-- The fields of charging information, one by one: what holds of each, that they are told apart by their places, and that charges are told
-- by their kind and their fields.
use Rattle.std.specs.Prelude.{ℕ, zero, suc, ◌≡◌, refl, Bool, true, false, List, [], ◌∷◌, map, ◌⊎◌, get_or, take, replicate}
use Rattle.std.proofs.Common.{sym, ap, ◌∙◌, inl, inr, eqb-true, eq-eqb}
use Rattle.annex.specs.Rates.{fields, field_row, same_field, numbers_drawn, value_of}
use Rattle.annex.specs.declared.Charges.{Charges}
use Rattle.annex.specs.declared.Drawn.{Drawn}
use Rattle.annex.specs.declared.Field.{Field}
use Rattle.annex.specs.declared.Field.TheVariants.{
  UnitFee,
  InitialUnits,
  Day,
  Night,
  LateNight1,
  LateNight2,
  Mbi,
  InformationInterval,
  InformationUnits,
  FreeTime,
  CheckDigit,
}

-- what holds of each of the eleven holds of a field
pub each_field : (P : Field → Type 0)
    → P UnitFee × P InitialUnits × P Day × P Night × P LateNight1 × P LateNight2 × P Mbi × P InformationInterval × P InformationUnits
    × P FreeTime × P CheckDigit → (f : Field) → P f
each_field P h UnitFee = h.0
each_field P h InitialUnits = h.1
each_field P h Day = h.2
each_field P h Night = h.3
each_field P h LateNight1 = h.4
each_field P h LateNight2 = h.5
each_field P h Mbi = h.6
each_field P h InformationInterval = h.7
each_field P h InformationUnits = h.8
each_field P h FreeTime = h.9
each_field P h CheckDigit = h.10

-- a function of the fields, listed in their order, is found at a field's place
pub at_place : {A : Type 0} (g : Field → A) (d : A) (f : Field) → get_or (map g fields) (field_row f).place d ≡ g f
at_place g d =
    each_field (λ f. get_or (map g fields) (field_row f).place d ≡ g f) (refl, refl, refl, refl, refl, refl, refl, refl, refl, refl, refl)

-- a field is the same as itself, and as no other
pub same_self : (f : Field) → same_field f f ≡ true
same_self f = eq-eqb (field_row f).place (field_row f).place refl

pub met : (f g : Field) → (f ≡ g) ⊎ (same_field f g ≡ false)
met f g = by (same_field f g) refl
  where
    own : (h : Field) → get_or (map (λ x. x) fields) (field_row h).place UnitFee ≡ h
    own = at_place (λ x. x) UnitFee

    by : (b : Bool) → same_field f g ≡ b → (f ≡ g) ⊎ (same_field f g ≡ false)
    by true e =
        inl
        (sym (own f) ∙ ap (λ n. get_or (map (λ x. x) fields) n UnitFee) (eqb-true (field_row f).place (field_row g).place e) ∙ own g)
    by false e = inr e

-- charges with the same kind and the same number for each field are the same
pub same_charges : (a b : Charges) → a.kind ≡ b.kind → ((f : Field) → value_of f a ≡ value_of f b) → a ≡ b
same_charges a b k v =
    λ i. record {
      kind = k i;
      unit_fee = v UnitFee i;
      initial_units = v InitialUnits i;
      day = v Day i;
      night = v Night i;
      late_night_1 = v LateNight1 i;
      late_night_2 = v LateNight2 i;
      mbi = v Mbi i;
      information_interval = v InformationInterval i;
      information_units = v InformationUnits i;
      free_time = v FreeTime i;
      check_digit = v CheckDigit i;
    }

-- the first w octets alone tell the numbers of w octets
pub numbers_taken : (w : ℕ) (d : Drawn) (xs : List ℕ) → numbers_drawn (replicate w d) xs ≡ numbers_drawn (replicate w d) (take w xs)
unfolding numbers_drawn
numbers_taken zero d xs = refl
numbers_taken (suc w) d [] = refl
numbers_taken (suc w) d (x ∷ xs) = rw (numbers_taken w d xs)
