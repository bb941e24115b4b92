-- What a kind asks, as the code looks it up, and the octets behind the kind as the code goes over them: the first one, and then characters.
use Rattle.std.specs.Prelude.{ℕ, zero, suc, ◌+◌, ◌-◌, ◌%◌, ◌≤◌, ◌<◌, ◌≡◌, refl, Bool, cond, ◌&&◌, List, [], ◌∷◌, ◌++◌, eqb, get_or, drop, replicate, Option, Some, None, sum_by}
use native.Mathlib.Omega.{arith}
use Rattle.std.proofs.Math.Path.{sym, ap}
use Rattle.std.proofs.Common.{◌∙◌, eqb-true, length-drop, drop-cons}
use Rattle.std.proofs.Math.Bool.{true, false}
use Rattle.std.proofs.lemmas.List.Sums.{sum_by-cons}
use Rattle.std.proofs.Math.ListN.{length}
use Rattle.annex.specs.Answers.{bad_form, bad_digit, check_digit, fault_then, Fault, Sound, Bad}
use Rattle.annex.specs.Rates.{
  is_kind,
  fields_of,
  has_field,
  drawn_for,
  is_right,
  numbers_in,
  numbers_drawn,
  kind_in,
  field_octets,
  drawn_fault,
  total,
  check_right,
}
use Rattle.annex.specs.Orders.{outside_fault}
use Rattle.annex.specs.Contents.{charging_fault}
use Rattle.annex.specs.declared.Drawn.{Drawn}
use Rattle.annex.specs.declared.Drawn.TheVariants.{Character}
use Rattle.annex.specs.declared.Field.TheVariants.{CheckDigit}
use Rattle.laws.specs.Below.{same_below}
use Rattle.digits.specs.Characters.{known_fault}
use Rattle.rates.specs.declared.drawing.Asked.{Asked}

-- what a kind of the list asks
abbrev pub asking : ℕ → Drawn → Bool → Asked
asking n d c = record { octets = n; first = d; checked = c }

-- any kind
abbrev pub first_of : List Drawn → Drawn
first_of [] = Character
first_of (d ∷ ds) = d

abbrev pub asked_of : ℕ → Option Asked
asked_of k =
    cond (is_kind k) (Some (asking (length (drawn_for k)) (first_of (drawn_for k)) (has_field CheckDigit (fields_of k)))) None

-- n octets, the first drawn so and the others as characters
abbrev pub behind : Drawn → ℕ → List Drawn
behind d zero = []
behind d (suc n) = d ∷ replicate n Character

-- such are the octets of every kind
pub drawn_behind : (k : ℕ) → k < 256 → drawn_for k ≡ behind (first_of (drawn_for k)) (length (drawn_for k))
unfolding fields_of
drawn_behind k l = same_below drawn_for (λ h. behind (first_of (drawn_for h)) (length (drawn_for h))) 256 refl k l

-- octets that are all characters
abbrev pub characters_fault : ℕ → List ℕ → Fault
characters_fault at xs = drawn_fault at (replicate (length xs) Character) xs

abbrev pub characters_sum : List ℕ → ℕ
characters_sum xs = sum_by (λ x. x % 16) xs

-- as any characters are gone over
pub characters_known : (at : ℕ) (xs : List ℕ) → characters_fault at xs ≡ known_fault false at xs
unfolding drawn_fault outside_fault
characters_known at [] = refl
characters_known at (x ∷ xs) =
    ap (λ (f : Fault). cond (is_right Character x) f (Bad bad_digit at)) (characters_known (at + 1) xs)

total-append : (xs ys : List ℕ) → total (xs ++ ys) ≡ total xs + total ys
total-append [] ys = omega arith
total-append (x ∷ xs) ys = omega (arith, total-append xs ys)

pub characters_total : (xs : List ℕ) → total (numbers_drawn (replicate (length xs) Character) xs) ≡ characters_sum xs
unfolding numbers_drawn
characters_total [] = refl
characters_total (x ∷ xs) = omega (arith, characters_total xs, sum_by-cons (λ y. y % 16) x xs)

-- the first octet behind the kind, and then characters
module _ (d : Drawn) (s : List ℕ) where
  pub behind_none : length s ≤ 2
      → (drawn_fault 2 (behind d (length s - 2)) (drop 2 s) ≡ Sound) × (total (numbers_drawn (behind d (length s - 2)) (drop 2 s)) ≡ 0)
  unfolding drawn_fault numbers_drawn
  behind_none h = let n : length s - 2 ≡ 0 = omega arith in (rw n, rw n)

  module _ (x : ℕ) (o : x ≡ get_or s 2 0) where
    split : 2 < length s → (drop 2 s ≡ x ∷ drop 3 s) × (length s - 2 ≡ suc (length (drop 3 s)))
    split h = (drop-cons s 2 0 h ∙ ap (λ y. y ∷ drop 3 s) (sym o), omega (arith, length-drop 3 s))

    pub behind_fault : 2 < length s
        → drawn_fault 2 (behind d (length s - 2)) (drop 2 s) ≡ cond (is_right d x) (characters_fault 3 (drop 3 s)) (Bad bad_digit 2)
    unfolding drawn_fault
    behind_fault h =
        let e = split h in
        ap (λ n. drawn_fault 2 (behind d n) (drop 2 s)) e.1 ∙ ap (drawn_fault 2 (behind d (suc (length (drop 3 s))))) e.0

    pub behind_sum : 2 < length s
        → total (numbers_drawn (behind d (length s - 2)) (drop 2 s)) ≡ total (numbers_in d x) + characters_sum (drop 3 s)
    unfolding numbers_drawn
    behind_sum h =
        let e = split h in
        let r = drop 3 s in
        ap (λ n. total (numbers_drawn (behind d n) (drop 2 s))) e.1
        ∙ (ap (λ xs. total (numbers_drawn (behind d (suc (length r))) xs)) e.0
        ∙ (total-append (numbers_in d x) (numbers_drawn (replicate (length r) Character) r)
        ∙ ap (λ n. total (numbers_in d x) + n) (characters_total r)))

-- ---- what is wrong with contents, by the look-up of their kind

and_never : (b : Bool) → b && false ≡ false
and_never true = refl
and_never false = refl

-- what is wrong with contents of the kind k that asks so
abbrev pub fault_asked : ℕ → Option Asked → List ℕ → Fault
fault_asked k None s = Bad bad_form 0
fault_asked k (Some r) s =
    let drawn = behind r.first (length s - 2) in
    cond (eqb (length s) (2 + r.octets))
    (fault_then (drawn_fault 2 drawn (field_octets s))
    (cond (cond r.checked (eqb ((k + total (numbers_drawn drawn (field_octets s))) % 10) 9) true) Sound (Bad check_digit (length s - 1))))
    (Bad bad_form 0)

module _ (s : List ℕ) (l : kind_in s < 256) where
  so_long : (b : Bool) → eqb (length s) (2 + length (drawn_for (kind_in s))) ≡ b → is_kind (kind_in s) ≡ true
      → charging_fault s ≡ fault_asked (kind_in s) (asked_of (kind_in s)) s
  unfolding charging_fault check_right
  so_long true e f =
      let d = drawn_for (kind_in s) in
      let m : length d ≡ length s - 2 = omega (arith, eqb-true _ _ e) in
      let b : d ≡ behind (first_of d) (length s - 2) = drawn_behind (kind_in s) l ∙ ap (behind (first_of d)) m in
      rw (f, e, ← b)
  so_long false e f = rw (f, e)

  listed : (b : Bool) → is_kind (kind_in s) ≡ b → charging_fault s ≡ fault_asked (kind_in s) (asked_of (kind_in s)) s
  unfolding charging_fault
  listed true f = so_long _ refl f
  listed false f = rw f

-- o is what the code looked up
pub by_asked : (s : List ℕ) (k : ℕ) (o : Option Asked) → k ≡ kind_in s → o ≡ asked_of k → k < 256 → charging_fault s ≡ fault_asked k o s
by_asked s k o e a l = rw (a, e) (listed s (omega arith) _ refl)
