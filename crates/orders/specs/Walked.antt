-- The parameters of an order as the code goes over them: from offset to offset of its contents, with a mark for each header that has stood.
use Rattle.std.specs.Prelude.{ℕ, zero, suc, ◌+◌, ◌-◌, ◌≤◌, ◌<◌, ◌≡◌, refl, Bool, true, false, cond, not, ◌&&◌, ◌||◌, List, [], ◌∷◌, eqb, leb, ltb, length, get_or, set, take, drop, replicate}
use Rattle.std.proofs.Common.{arith, sym, ap, ◌∙◌, le-leb, leb-true, leb-false, eqb-true, ltb-true, length-drop, length-set, drop_of_length-le, get_or-drop, drop-drop, get_or-set_same, get_or-set_other}
use Rattle.std.proofs.lemmas.Bool.{lt-leb, eqb-false}
use Rattle.annex.specs.Answers.{bad_form, wrong_order, formed_then, fault_then, Fault, Sound, Bad}
use Rattle.annex.specs.Heads.{among}
use Rattle.annex.specs.Orders.{
  order_forms,
  order_headers,
  layout_of,
  may_stand,
  order_after,
  layout_fault,
  ordered,
  own_fault,
  parameter_fault,
  parameters_fault,
  order_fault,
}
use Rattle.annex.specs.declared.OrderLayout.{OrderLayout}
use Rattle.laws.specs.Below.{same_below}
use Rattle.laws.specs.Faults.{then_sound}
use Rattle.laws.specs.Members.{among_every}
use Rattle.laws.specs.Orders.{after_some, parameters_skip, stands_listed}
use Rattle.laws.specs.Parts.{from_to, octet_next}
use Rattle.orders.specs.Asked.{row_place}

-- ---- the octets of a header

-- the first of the octets from an offset on
pub head_at : (s : List ℕ) (at : ℕ) → get_or (drop at s) 0 0 ≡ get_or s at 0
head_at s at = let z : at + 0 ≡ at = omega arith in get_or-drop at s 0 0 ∙ ap (λ (k : ℕ). get_or s k 0) z

-- n octets are there from an offset on
there_so : (s : List ℕ) (at n : ℕ) → 1 ≤ n → leb n (length (drop at s)) ≡ leb (at + n) (length s)
there_so s at n h = go (leb (at + n) (length s)) refl
  where
    go : (b : Bool) → leb (at + n) (length s) ≡ b → leb n (length (drop at s)) ≡ b
    go true e = le-leb n (length (drop at s)) (omega (arith, leb-true (at + n) (length s) e, length-drop at s))
    go false e = lt-leb n (length (drop at s)) (omega (arith, leb-false (at + n) (length s) e, length-drop at s))

-- those from an offset on that are the header's own
pub own_so : (k : OrderLayout) (s : List ℕ) (at n : ℕ) → n ≡ order_after k (get_or s at 0)
    → own_fault k at (drop at s) ≡ formed_then (leb (at + n) (length s)) (layout_fault k at (drop at (take (at + n) s)))
unfolding own_fault
own_so k s at n e =
    let f : order_after k (get_or (drop at s) 0 0) ≡ n = ap (order_after k) (head_at s at) ∙ sym e in
    let m : at + n - at ≡ n = omega arith in
    let some : 1 ≤ n = omega (arith, after_some k (get_or s at 0)) in
    let p : take n (drop at s) ≡ drop at (take (at + n) s) = ap (λ (j : ℕ). take j (drop at s)) (sym m) ∙ from_to at (at + n) s in
    rw (f, there_so s at n some, p)

-- where nothing is wrong they are there
pub own_there : (k : OrderLayout) (s : List ℕ) (at n : ℕ) → n ≡ order_after k (get_or s at 0) → own_fault k at (drop at s) ≡ Sound
    → at + n ≤ length s
own_there k s at n e f =
    leb-true (at + n) (length s) (then_sound (leb (at + n) (length s)) _ (sym (own_so k s at n e) ∙ f)).0

-- ---- from parameter to parameter

-- what is wrong from an offset on
abbrev pub left_fault : ℕ → List ℕ → ℕ → List ℕ → Fault
left_fault form before at s = parameters_fault form before 0 at (drop at s)

-- the parameter here, and those behind it
turn : (form : ℕ) (before : List ℕ) (at : ℕ) (s : List ℕ) → at < length s →
    let h = get_or s at 0 in
    left_fault form before at s
    ≡ fault_then (parameter_fault form before (at + 1) h (drop (at + 1) s))
    (left_fault form (h ∷ before) (at + 1 + order_after (layout_of h) (get_or s (at + 1) 0)) s)
unfolding parameters_fault
turn form before at s l =
    let h = get_or s at 0 in
    let xs = drop (at + 1) s in
    let n = order_after (layout_of h) (get_or xs 0 0) in
    let e = parameters_skip form (h ∷ before) n (at + 1) xs in
    let d : drop n xs ≡ drop (at + 1 + n) s = drop-drop n (at + 1) s in
    ap (parameters_fault form before 0 at) (octet_next s at l)
    ∙ ap (fault_then (parameter_fault form before (at + 1) h xs)) (e ∙ ap (parameters_fault form (h ∷ before) 0 (at + 1 + n)) d)
    ∙ ap
    (λ (x : ℕ). fault_then (parameter_fault form before (at + 1) h xs) (left_fault form (h ∷ before) (at + 1 + order_after (layout_of h) x) s))
    (head_at s (at + 1))

-- past the last there is nothing
pub left_none : (form : ℕ) (before : List ℕ) (at : ℕ) (s : List ℕ) → length s ≤ at → left_fault form before at s ≡ Sound
unfolding parameters_fault
left_none form before at s l = rw (drop_of_length-le s {i = at} l)

-- ---- the table, computed

listed_octet : (h : ℕ) → among h order_headers ≡ true → h < 256
listed_octet h e = ltb-true h 256 (among_every (λ k. ltb k 256) order_headers refl h e)

-- the places are those of an array of thirteen, and tell the header
pub place_below : (h : ℕ) → h < 256 → row_place h < 13
place_below h l = ltb-true _ _ (same_below (λ k. ltb (row_place k) 13) (λ k. true) 256 refl h l)

place_back : (h : ℕ) → among h order_headers ≡ true → get_or order_headers (row_place h) 0 ≡ h
place_back h e =
    rw e at (same_below (λ k. cond (among k order_headers) (get_or order_headers (row_place k) 0) k) (λ k. k) 256 refl h (listed_octet h e))

-- ---- the marks of the headers that have stood

pub record Stood (seen : List Bool) (before : List ℕ) : Type 0 where
  pub long : length seen ≡ 13
  pub told : (h : ℕ) → among h order_headers ≡ true → get_or seen (row_place h) false ≡ among h before

none_marked : (n i : ℕ) → get_or (replicate n false) i false ≡ false
none_marked zero i = refl
none_marked (suc n) zero = refl
none_marked (suc n) (suc i) = none_marked n i

marks_none : Stood (replicate 13 false) []
marks_none = record { long = refl; told = λ h e. none_marked 13 (row_place h) }

-- one more
marks_more : (seen : List Bool) (before : List ℕ) (h : ℕ) → among h order_headers ≡ true → Stood seen before
    → Stood (set seen (row_place h) true) (h ∷ before)
marks_more seen before h e m =
    record { long = length-set seen (row_place h) true ∙ m.long; told = λ k f. go k f (eqb k h) refl }
  where
    go : (k : ℕ) → among k order_headers ≡ true → (b : Bool) → eqb k h ≡ b
        → get_or (set seen (row_place h) true) (row_place k) false ≡ b || among k before
    go k f true g =
        rw (eqb-true k h g) (get_or-set_same seen (row_place h) true false (omega (arith, place_below h (listed_octet h e), m.long)))
    go k f false g =
        get_or-set_other seen (row_place h) (row_place k) true false
        (λ p. eqb-false k h g (sym (place_back k f) ∙ (ap (λ (i : ℕ). get_or order_headers i 0) p ∙ place_back h e)))
        ∙ m.told k f

-- ---- the loop

-- what is wrong with the whole is what is wrong from here on
pub record Going (s : List ℕ) (seen : List Bool) (at : ℕ) : Type 0 where
  pub before : List ℕ
  pub left : order_fault s ≡ left_fault (get_or s 0 0) before at s
  pub marks : Stood seen before

pub no_form : (s : List ℕ) → length s ≡ 0 → order_fault s ≡ Bad bad_form 0
unfolding order_fault
no_form [] e = refl
no_form (x ∷ xs) e = absurd (omega arith)

pub other_form : (s : List ℕ) → (length s ≡ 0 → ⊥) → among (get_or s 0 0) order_forms ≡ false → order_fault s ≡ Bad wrong_order 0
unfolding order_fault
other_form [] n e = absurd (n refl)
other_form (x ∷ xs) n e = rw e

pub going_first : (s : List ℕ) → (length s ≡ 0 → ⊥) → among (get_or s 0 0) order_forms ≡ true → Going s (replicate 13 false) 1
unfolding order_fault
going_first [] n e = absurd (n refl)
going_first (x ∷ xs) n e = record { before = []; left = rw e; marks = marks_none }

-- at a parameter
module _ (s : List ℕ) (seen : List Bool) (at : ℕ) (g : Going s seen at) (l : at < length s) (o : get_or s at 0 < 256) where
  abbrev form : ℕ
  form = get_or s 0 0

  abbrev h : ℕ
  h = get_or s at 0

  abbrev behind : ℕ
  behind = at + 1 + order_after (layout_of h) (get_or s (at + 1) 0)

  here : order_fault s
      ≡ fault_then (fault_then (ordered (may_stand form h && not (among h g.before))) (own_fault (layout_of h) (at + 1) (drop (at + 1) s)))
      (left_fault form (h ∷ g.before) behind s)
  unfolding parameter_fault
  here = g.left ∙ turn form g.before at s l

  pub may_not : may_stand form h ≡ false → order_fault s ≡ Bad wrong_order 0
  may_not e = here ∙ rw e

  -- one that may stand, by its mark
  module _ (e : may_stand form h ≡ true) where
    listed : among h order_headers ≡ true
    listed = stands_listed form h e

    pub stood : get_or seen (row_place h) false ≡ true → order_fault s ≡ Bad wrong_order 0
    stood f = here ∙ rw (e, sym (g.marks.told h listed) ∙ f)

    stands : get_or seen (row_place h) false ≡ false
        → order_fault s ≡ fault_then (own_fault (layout_of h) (at + 1) (drop (at + 1) s)) (left_fault form (h ∷ g.before) behind s)
    stands f = here ∙ rw (e, sym (g.marks.told h listed) ∙ f)

    pub own_bad : get_or seen (row_place h) false ≡ false → (k i : ℕ) → own_fault (layout_of h) (at + 1) (drop (at + 1) s) ≡ Bad k i
        → order_fault s ≡ Bad k i
    own_bad f k i w = stands f ∙ rw w

    pub going_on : get_or seen (row_place h) false ≡ false → own_fault (layout_of h) (at + 1) (drop (at + 1) s) ≡ Sound
        → Going s (set seen (row_place h) true) behind
    going_on f w =
        record { before = h ∷ g.before; left = stands f ∙ rw w; marks = marks_more seen g.before h listed g.marks }
