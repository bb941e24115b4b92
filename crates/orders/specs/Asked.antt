-- The tables as the code looks them up: the forms of a header as bits, and that a bit tells whether the header may stand under its form.
use Rattle.std.specs.Prelude.{ℕ, ◌+◌, ◌-◌, ◌/◌, ◌%◌, ◌^◌, ◌<◌, ◌≡◌, refl, Bool, false, cond, List, [], ◌∷◌, map, eqb, leb, ltb}
use Rattle.annex.specs.Heads.{among}
use Rattle.annex.specs.Orders.{order_forms, order_headers, forms_of, layout_of, may_stand}
use Rattle.annex.specs.declared.OrderLayout.{OrderLayout}
use Rattle.laws.specs.Below.{below, same_below}
use Rattle.orders.specs.declared.table.Asked.{Asked}

-- a row as the code holds it
abbrev pub asking : ℕ → OrderLayout → ℕ → Asked
asking p l f = record { place = p; layout = l; forms = f }

-- forms as bits, the form 20 the lowest
abbrev pub bits_of : List ℕ → ℕ
bits_of [] = 0
bits_of (f ∷ fs) = 2 ^ (f - 0x20) + bits_of fs

abbrev pub has_bit : ℕ → ℕ → Bool
has_bit forms f = cond (ltb f 0x20) false (cond (leb 48 (f - 0x20)) false (eqb (forms / 2 ^ (f - 0x20) % 2) 1))

-- the place of a header among others, 0 where it is none of them
abbrev pub place_in : ℕ → ℕ → List ℕ → ℕ
place_in at h [] = 0
place_in at h (x ∷ xs) = cond (eqb h x) at (place_in (at + 1) h xs)

abbrev pub row_place : ℕ → ℕ
row_place h = place_in 0 h order_headers

abbrev pub asked_of : ℕ → Asked
asked_of h = asking (row_place h) (layout_of h) (bits_of (forms_of h))

-- ---- a bit tells what the definitions say

-- of all forms
pub form_bits : (f : ℕ) → f < 256 → has_bit (bits_of order_forms) f ≡ among f order_forms
form_bits f l = same_below (has_bit (bits_of order_forms)) (λ k. among k order_forms) 256 refl f l

-- and of those of a header
abbrev under_bits : ℕ → List Bool
under_bits h = map (has_bit (bits_of (forms_of h))) (below 256)

abbrev under_forms : ℕ → List Bool
under_forms h = map (λ f. may_stand f h) (below 256)

pub stand_bits : (h f : ℕ) → h < 256 → f < 256 → has_bit (bits_of (forms_of h)) f ≡ may_stand f h
unfolding forms_of
stand_bits h f l k = same_below (has_bit (bits_of (forms_of h))) (λ x. may_stand x h) 256 (same_below under_bits under_forms 256 refl h l) f k
