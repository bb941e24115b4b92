-- Where the fields of a kind start, as the code holds them: in one array, in the order of an answer; and a field's number from there on.
use Rattle.std.specs.Prelude.{ℕ, ◌+◌, ◌≤◌, ◌<◌, ◌≡◌, refl, true, cond, List, [], ◌∷◌, map, eqb, leb, ltb, get_or, drop}
use Rattle.std.proofs.Common.{arith, sym, ap, ◌∙◌, inl, inr, eq-eqb, ne_eqb, ltb-true, leb-true, drop-drop}
use Rattle.annex.specs.Rates.{
  fields,
  field_row,
  drawn_as,
  width_of,
  same_field,
  fields_of,
  numbers_in,
  numbers_drawn,
  kind_in,
  decimal,
  made_by,
  value_in,
  field_in,
}
use Rattle.annex.specs.declared.Drawn.{Drawn}
use Rattle.annex.specs.declared.Drawn.TheVariants.{Whole, Halves, Character}
use Rattle.annex.specs.declared.Field.{Field}
use Rattle.laws.specs.Drawings.{each_field, at_place, same_self, met, numbers_taken}

-- where the field f starts, if the first of these fields starts at the offset `at`; 0 where it is none of them
abbrev pub start_in : Field → ℕ → List Field → ℕ
start_in f at [] = 0
start_in f at (g ∷ gs) = cond (same_field f g) at (start_in f (at + width_of g) gs)

abbrev pub field_start : Field → ℕ → ℕ
field_start f k = start_in f 2 (fields_of k)

abbrev pub starts_of : ℕ → List ℕ
starts_of k = map (λ f. field_start f k) fields

-- each is at its place
pub start_at : (f : Field) (k : ℕ) → get_or (starts_of k) (field_row f).place 0 ≡ field_start f k
start_at f k = at_place (λ g. field_start g k) 0 f

-- a field's number is made by the octets from its start on
abbrev pub field_at : Field → ℕ → List ℕ → ℕ
field_at f at s = made_by (drawn_as f) (width_of f) (drop at s)

value_placed : (f : Field) (at : ℕ) (fs : List Field) (s : List ℕ) → 0 < at
    → value_in f fs (drop at s) ≡ cond (eqb (start_in f at fs) 0) 0 (field_at f (start_in f at fs) s)
value_placed f at [] s l = refl
value_placed f at (g ∷ gs) s l =
    elim (met f g) [
      | inl e ↦
          rw (e, same_self g, ne_eqb at 0 (λ z. omega arith)) (ap (decimal 0) (sym (numbers_taken (width_of g) (drawn_as g) (drop at s))))
      | inr e ↦ rw (e, drop-drop) (value_placed f (at + width_of g) gs s (omega arith))
    ]

-- the places are those of an array of eleven
pub place_below : (f : Field) → (field_row f).place < 11
place_below f =
    ltb-true _ _
    (each_field (λ g. ltb (field_row g).place 11 ≡ true) (refl, refl, refl, refl, refl, refl, refl, refl, refl, refl, refl) f)

-- a field has at most four octets
pub width_most : (f : Field) → width_of f ≤ 4
width_most f =
    leb-true _ _ (each_field (λ g. leb (width_of g) 4 ≡ true) (refl, refl, refl, refl, refl, refl, refl, refl, refl, refl, refl) f)

-- one that is not in characters has one
abbrev pub width_by : Drawn → ℕ → ℕ
width_by Whole w = 1
width_by Halves w = 1
width_by Character w = w

pub width_by_lem : (f : Field) → width_of f ≡ width_by (drawn_as f) (width_of f)
width_by_lem =
    each_field (λ g. width_of g ≡ width_by (drawn_as g) (width_of g)) (refl, refl, refl, refl, refl, refl, refl, refl, refl, refl, refl)

-- the number of a field of one octet, also where the octet is missing
pub one_octet : (d : Drawn) (xs : List ℕ) → decimal 0 (numbers_drawn (d ∷ []) xs) ≡ decimal 0 (numbers_in d (get_or xs 0 0))
unfolding decimal numbers_drawn
one_octet Whole [] = refl
one_octet Whole (x ∷ xs) = refl
one_octet Halves [] = refl
one_octet Halves (x ∷ xs) = refl
one_octet Character [] = refl
one_octet Character (x ∷ xs) = refl

-- a field that the kind does not have, and one that it has
module _ (f : Field) (s : List ℕ) where
  placed : field_in f s ≡ cond (eqb (field_start f (kind_in s)) 0) 0 (field_at f (field_start f (kind_in s)) s)
  unfolding field_in
  placed = value_placed f 2 (fields_of (kind_in s)) s (omega arith)

  pub field_none : field_start f (kind_in s) ≡ 0 → field_in f s ≡ 0
  field_none e = placed ∙ rw (eq-eqb _ _ e)

  pub field_there : (field_start f (kind_in s) ≡ 0 → ⊥) → field_in f s ≡ field_at f (field_start f (kind_in s)) s
  field_there h = placed ∙ rw (ne_eqb _ _ h)
