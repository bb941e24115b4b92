-- Charging information (F7): what is sound may be said and is drawn again from what it says; what may be said, drawn, is sound and says the
-- same. First for the octets of one field, by how they are drawn; then for any list in which no field stands twice; then for the contents.
use Rattle.std.specs.Prelude.{ℕ, zero, suc, ◌+◌, ◌-◌, ◌*◌, ◌/◌, ◌%◌, ◌^◌, ◌≤◌, ◌<◌, Bool, false, cond, not, ◌&&◌, ◌⊎◌, eqb, leb, get_or, take, drop, replicate}
use Rattle.std.proofs.Common.{pow-suc, arith, sym, ap, ◌∙◌, subst, length-drop, take-append-drop}
use Rattle.std.proofs.Math.Path.{◌≡◌, refl}
use Rattle.std.proofs.Math.Bool.{true}
use Rattle.std.proofs.Math.Logic.{inl, inr}
use mathlib.Core.List.{List, [], ◌∷◌, ◌++◌, map, append_assoc, append-nil}
use borrow.Author.Tests.{eqb-true, eqb-false, eq-eqb, ne_eqb, leb-true, le-leb, ltb-true, lt-ltb, not-true}
use Rattle.std.proofs.Math.ListN.{length, length-replicate}
use Rattle.std.proofs.Math.Seq.{take_at, drop_at}
use Rattle.annex.specs.Answers.{bad_digit, check_digit, Sound}
use Rattle.annex.specs.Digits.{zero_from, zero_to}
use Rattle.annex.specs.Rates.{
  kinds,
  drawn_as,
  width_of,
  same_field,
  is_kind,
  fields_of,
  has_field,
  drawing,
  drawn_for,
  is_mbi_code,
  is_right,
  numbers_drawn,
  kind_in,
  field_octets,
  drawn_fault,
  check_right,
  decimal,
  made_by,
  value_in,
  field_in,
  charges_of,
  value_of,
  characters_of,
  drawn_octets,
  octets_for,
  charged_contents,
  fits,
  Chargeable,
}
use Rattle.annex.specs.Heads.{clear, charging_information, zeroes_of, form_of}
use Rattle.annex.specs.Contents.{charging_fault, fault_of}
use Rattle.annex.specs.Items.{Item}
use Rattle.annex.specs.Allowed.{every, is_octet}
use Rattle.annex.specs.declared.Alphabet.TheVariants.{Dialled}
use Rattle.annex.specs.declared.Charges.{Charges}
use Rattle.annex.specs.declared.Check.TheVariants.{Charging}
use Rattle.annex.specs.declared.Drawn.{Drawn}
use Rattle.annex.specs.declared.Drawn.TheVariants.{Whole, Halves, Character}
use Rattle.annex.specs.declared.Field.{Field}
use Rattle.laws.specs.Bools.{and_left, and_right, and_both, or_left, or_right}
use Rattle.laws.specs.Drawings.{each_field, same_self, met, same_charges}
use Rattle.laws.specs.Faults.{passed, then_sound, then_both}
use Rattle.laws.specs.Leaves.{as_they_are}
use Rattle.laws.specs.Members.{among_every}
use Rattle.theorems.specs.Lists.{every_drop}
use Rattle.theorems.specs.Transfers.{AllowedItem}

-- ---- octets that are right

-- as many as are drawn, each as it is drawn, and an octet
abbrev Right : List Drawn → List ℕ → Type 0
Right [] [] = Unit {0}
Right [] (x ∷ xs) = ⊥
Right (d ∷ ds) [] = ⊥
Right (d ∷ ds) (x ∷ xs) = (is_right d x ≡ true) × (x < 256) × Right ds xs

-- that is: nothing is wrong with them
sound_right : (at : ℕ) (ds : List Drawn) (xs : List ℕ) → every is_octet xs ≡ true → length xs ≡ length ds → drawn_fault at ds xs ≡ Sound
    → Right ds xs
unfolding drawn_fault
sound_right at [] [] o l f = tt
sound_right at [] (x ∷ xs) o l f = absurd (omega arith)
sound_right at (d ∷ ds) [] o l f = absurd (omega arith)
sound_right at (d ∷ ds) (x ∷ xs) o l f =
    let p = passed (is_right d x) (drawn_fault (at + 1) ds xs) bad_digit at f in (
      p.0,
      ltb-true x 256 (and_left (is_octet x) (every is_octet xs) o),
      sound_right (at + 1) ds xs (and_right (is_octet x) (every is_octet xs) o) (omega arith) p.1,
    )

right_sound : (at : ℕ) (ds : List Drawn) (xs : List ℕ) → Right ds xs → drawn_fault at ds xs ≡ Sound
unfolding drawn_fault
right_sound at [] xs r = refl
right_sound at (d ∷ ds) [] r = refl
right_sound at (d ∷ ds) (x ∷ xs) r = rw r.0 (right_sound (at + 1) ds xs r.2)

right_length : (ds : List Drawn) (xs : List ℕ) → Right ds xs → length xs ≡ length ds
right_length [] [] r = refl
right_length [] (x ∷ xs) r = absurd r
right_length (d ∷ ds) [] r = absurd r
right_length (d ∷ ds) (x ∷ xs) r = ap suc (right_length ds xs r.2)

right_octets : (ds : List Drawn) (xs : List ℕ) → Right ds xs → every is_octet xs ≡ true
right_octets [] [] r = refl
right_octets [] (x ∷ xs) r = absurd r
right_octets (d ∷ ds) [] r = absurd r
right_octets (d ∷ ds) (x ∷ xs) r = and_both (is_octet x) (every is_octet xs) (lt-ltb x 256 r.1) (right_octets ds xs r.2)

-- a run of w octets that are drawn alike, and others behind it
right_parts : (w : ℕ) (d : Drawn) (ds : List Drawn) (xs : List ℕ) → Right (replicate w d ++ ds) xs
    → Right (replicate w d) (take w xs) × Right ds (drop w xs)
right_parts zero d ds xs r = (tt, r)
right_parts (suc w) d ds [] r = absurd r
right_parts (suc w) d ds (x ∷ xs) r =
    let p = right_parts w d ds xs r.2 in
    ((r.0, r.1, p.0), p.1)

right_joined : (es ds : List Drawn) (ys zs : List ℕ) → Right es ys → Right ds zs → Right (es ++ ds) (ys ++ zs)
right_joined [] ds [] zs r q = q
right_joined [] ds (y ∷ ys) zs r q = absurd r
right_joined (e ∷ es) ds [] zs r q = absurd r
right_joined (e ∷ es) ds (y ∷ ys) zs r q = (r.0, r.1, right_joined es ds ys zs r.2 q)

-- ---- the octets of one field

-- a test of both bounds
within : (a x b : ℕ) → leb a x && leb x b ≡ true → (a ≤ x) × (x ≤ b)
within a x b t = (leb-true a x (and_left (leb a x) (leb x b) t), leb-true x b (and_right (leb a x) (leb x b) t))

between : (a x b : ℕ) → a ≤ x → x ≤ b → leb a x && leb x b ≡ true
between a x b l m = and_both (leb a x) (leb x b) (le-leb a x l) (le-leb x b m)

-- a half of MBI is the code of its digit, and a digit's code is a half of MBI that stands for it
half_opened : (h : ℕ) → is_mbi_code h ≡ true → (zero_to Dialled (zero_from Dialled h) ≡ h) × (zero_from Dialled h ≤ 9)
half_opened h t = by (eqb h 10) refl (within 1 h 10 t)
  where
    by : (b : Bool) → eqb h 10 ≡ b → (1 ≤ h) × (h ≤ 10) → (zero_to Dialled (cond b 0 h) ≡ h) × (cond b 0 h ≤ 9)
    by true e l = (sym (eqb-true h 10 e), omega arith)
    by false e l = (rw (ne_eqb h 0 (λ z. omega arith)), omega (arith, eqb-false h 10 e))

half_closed : (d : ℕ) → d ≤ 9 → (is_mbi_code (zero_to Dialled d) ≡ true) × (zero_from Dialled (zero_to Dialled d) ≡ d)
half_closed d l = by (eqb d 0) refl
  where
    by : (b : Bool) → eqb d 0 ≡ b → (is_mbi_code (cond b 10 d) ≡ true) × (zero_from Dialled (cond b 10 d) ≡ d)
    by true e = (refl, sym (eqb-true d 0 e))
    by false e = (between 1 d 10 (omega (arith, eqb-false d 0 e)) (omega arith), rw (ne_eqb d 10 (λ z. omega arith)))

-- characters that are right, behind those of n: they are those of the number that they make, and it fits
characters_opened : (k n w m : ℕ) (xs : List ℕ) → m ≡ k + w → n < 10 ^ k → Right (replicate w Character) xs
    → (characters_of m (decimal n (numbers_drawn (replicate w Character) xs)) ≡ characters_of k n ++ xs)
    × (decimal n (numbers_drawn (replicate w Character) xs) < 10 ^ m)
unfolding numbers_drawn decimal characters_of
characters_opened k n zero m [] e l r = let q : m ≡ k = omega arith in rw (q, append-nil) (refl, l)
characters_opened k n zero m (x ∷ xs) e l r = absurd r
characters_opened k n (suc w) m [] e l r = absurd r
characters_opened k n (suc w) m (x ∷ xs) e l r =
    let c = within 0x30 x 0x39 r.0 in
    let p = characters_opened (suc k) (10 * n + x % 16) w m xs (omega arith) (rw pow-suc (omega arith)) r.2 in
    let f : (10 * n + x % 16) / 10 ≡ n = omega arith in
    let g : 0x30 + (10 * n + x % 16) % 10 ≡ x = omega arith in
    (rw (f, g, append_assoc) at p.0, p.1)

-- the characters of a number that fits, before others: they are right, and make the number
characters_closed : (w v m p : ℕ) (ys : List ℕ) → p ≡ w + m → v < 10 ^ w → Right (replicate m Character) ys
    → Right (replicate p Character) (characters_of w v ++ ys)
    × (decimal 0 (numbers_drawn (replicate p Character) (characters_of w v ++ ys)) ≡ decimal v (numbers_drawn (replicate m Character) ys))
unfolding characters_of numbers_drawn decimal
characters_closed zero v m p ys e l r = let q : p ≡ m = omega arith in let z : v ≡ 0 = omega arith in rw (q, z) (r, refl)
characters_closed (suc w) v m p ys e l r =
    let c = 0x30 + v % 10 in
    let b : v / 10 < 10 ^ w = omega (arith, pow-suc 10 w) in
    let g : 10 * (v / 10) + c % 16 ≡ v = omega arith in
    let t = between 0x30 c 0x39 (omega arith) (omega arith) in
    let q = characters_closed w (v / 10) (suc m) p (c ∷ ys) (omega arith) b (t, omega arith, r) in
    rw append_assoc (q.0, rw g at q.1)

-- the octets of a field: one, or a run of characters
data Run : Drawn → ℕ → Type 0 where
  whole : Run Whole 1
  halved : Run Halves 1
  written : (w : ℕ) → Run Character w

-- octets that are right are those of the number that they make, and it fits
run_opened : {d : Drawn} {w : ℕ} → Run d w → (xs : List ℕ) → Right (replicate w d) xs
    → (drawn_octets d w (made_by d w xs) ≡ xs) × (fits d w (made_by d w xs) ≡ true)
unfolding numbers_drawn decimal characters_of
run_opened whole [] r = absurd r
run_opened whole (x ∷ []) r = let e : 10 * 0 + x ≡ x = omega arith in rw e (refl, lt-ltb x 256 r.1)
run_opened whole (x ∷ y ∷ xs) r = absurd r.2
run_opened halved [] r = absurd r
run_opened halved (x ∷ []) r =
    let p = half_opened (x / 16) (and_left (is_mbi_code (x / 16)) (is_mbi_code (x % 16)) r.0) in
    let q = half_opened (x % 16) (and_right (is_mbi_code (x / 16)) (is_mbi_code (x % 16)) r.0) in
    let a = zero_from Dialled (x / 16) in
    let b = zero_from Dialled (x % 16) in
    let v = 10 * (10 * 0 + a) + b in
    let e : v / 10 ≡ a = omega arith in
    let f : v % 10 ≡ b = omega arith in
    let g : 16 * (x / 16) + x % 16 ≡ x = omega arith in
    (rw (e, f, p.0, q.0, g), lt-ltb v 100 (omega arith))
run_opened halved (x ∷ y ∷ xs) r = absurd r.2
run_opened (written w) xs r =
    let p = characters_opened 0 0 w w xs (omega arith) (omega arith) r in
    (p.0, lt-ltb (made_by Character w xs) (10 ^ w) p.1)

-- the octets of a number that fits are right, and make the number
run_closed : {d : Drawn} {w : ℕ} → Run d w → (v : ℕ) → fits d w v ≡ true
    → Right (replicate w d) (drawn_octets d w v) × (made_by d w (drawn_octets d w v) ≡ v)
unfolding numbers_drawn decimal
run_closed whole v t = ((refl, ltb-true v 256 t, tt), omega arith)
run_closed halved v t =
    let l : v < 100 = ltb-true v 100 t in
    let p = half_closed (v / 10) (omega arith) in
    let q = half_closed (v % 10) (omega arith) in
    let a = zero_to Dialled (v / 10) in
    let b = zero_to Dialled (v % 10) in
    let c = within 1 a 10 p.0 in
    let d = within 1 b 10 q.0 in
    let e : (16 * a + b) / 16 ≡ a = omega arith in
    let f : (16 * a + b) % 16 ≡ b = omega arith in
    rw (e, f, p.1, q.1) ((and_both (is_mbi_code a) (is_mbi_code b) p.0 q.0, omega arith, tt), omega arith)
run_closed (written w) v t =
    let l : v < 10 ^ w = ltb-true v (10 ^ w) t in
    rw append-nil at (characters_closed w v 0 w [] (omega arith) l tt)

-- ---- the fields of a list

-- each field has its octets drawn so
run : (f : Field) → Run (drawn_as f) (width_of f)
run =
    each_field (λ f. Run (drawn_as f) (width_of f))
    (whole, written _, written _, written _, written _, written _, halved, written _, written _, written _, written _)

has_here : (g : Field) (gs : List Field) → has_field g (g ∷ gs) ≡ true
has_here g gs = rw (same_self g)

has_there : (f g : Field) (gs : List Field) → has_field f gs ≡ true → has_field f (g ∷ gs) ≡ true
has_there f g gs h =
    elim (met f g) [ inl e ↦ subst (λ (k : Field). has_field k (g ∷ gs) ≡ true) (sym e) (has_here g gs) | inr e ↦ rw e h ]

-- no field stands twice
abbrev apart : List Field → Bool
apart [] = true
apart (f ∷ fs) = not (has_field f fs) && apart fs

-- so it is in each kind of the list
apart_kind : (k : ℕ) → is_kind k ≡ true → apart (fields_of k) ≡ true
unfolding is_kind fields_of
apart_kind = among_every (λ k. apart (fields_of k)) (map (λ r. r.number) kinds) refl

-- octets that are right: the number of a field that they have fits, and that of another is 0
value_fits_lem : (f : Field) (fs : List Field) (xs : List ℕ) → Right (drawing fs) xs → has_field f fs ≡ true
    → fits (drawn_as f) (width_of f) (value_in f fs xs) ≡ true
value_fits_lem f [] xs r h = absurd (let z : ◌≡◌ {A = ℕ} 0 1 = cc in omega arith)
value_fits_lem f (g ∷ gs) xs r h =
    let p = right_parts (width_of g) (drawn_as g) (drawing gs) xs r in
    elim (met f g) [
      | inl e ↦ rw (e, same_self g) (run_opened (run g) (take (width_of g) xs) p.0).1
      | inr e ↦ rw e (value_fits_lem f gs (drop (width_of g) xs) p.1 (rw e at h))
    ]

value_none : (f : Field) (fs : List Field) (xs : List ℕ) → has_field f fs ≡ false → value_in f fs xs ≡ 0
value_none f [] xs h = refl
value_none f (g ∷ gs) xs h =
    rw (or_left (same_field f g) (has_field f gs) h)
    (value_none f gs (drop (width_of g) xs) (or_right (same_field f g) (has_field f gs) h))

module _ (c : Charges) where
  -- octets that are right are those of charges that have their numbers
  drawn_back : (fs : List Field) (xs : List ℕ) → apart fs ≡ true → Right (drawing fs) xs
      → ((f : Field) → has_field f fs ≡ true → value_of f c ≡ value_in f fs xs) → octets_for fs c ≡ xs
  unfolding octets_for
  drawn_back [] [] a r v = refl
  drawn_back [] (x ∷ xs) a r v = absurd r
  drawn_back (g ∷ gs) xs a r v =
      let w = width_of g in
      let p = right_parts w (drawn_as g) (drawing gs) xs r in
      let e : value_of g c ≡ made_by (drawn_as g) w (take w xs) = rw (same_self g) at (v g (has_here g gs)) in
      let t = drawn_back gs (drop w xs) (and_right (not (has_field g gs)) (apart gs) a) p.1 (λ f h. by f h (met f g)) in
      rw (e, (run_opened (run g) (take w xs) p.0).0, t) (take-append-drop w xs)
    where
      by : (f : Field) → has_field f gs ≡ true → (f ≡ g) ⊎ (same_field f g ≡ false) → value_of f c ≡ value_in f gs (drop (width_of g) xs)
      by f h (inl e) =
          let n = not-true (has_field g gs) (and_left (not (has_field g gs)) (apart gs) a) in
          let m : has_field g gs ≡ true = rw e at h in
          absurd (let z : ◌≡◌ {A = ℕ} 0 1 = cc in omega arith)
      by f h (inr e) = rw e at (v f (has_there f g gs h))

  -- the fields of a list fit their octets
  abbrev Fit : List Field → Type 0
  Fit fs = (f : Field) → has_field f fs ≡ true → fits (drawn_as f) (width_of f) (value_of f c) ≡ true

  -- then they are drawn right, and have their numbers again
  drawn_right : (fs : List Field) → Fit fs → Right (drawing fs) (octets_for fs c)
  unfolding octets_for
  drawn_right [] t = tt
  drawn_right (g ∷ gs) t =
      right_joined (replicate (width_of g) (drawn_as g)) (drawing gs) (drawn_octets (drawn_as g) (width_of g) (value_of g c)) (octets_for gs c)
      (run_closed (run g) (value_of g c) (t g (has_here g gs))).0 (drawn_right gs (λ f h. t f (has_there f g gs h)))

  drawn_value : (f : Field) (fs : List Field) → Fit fs → has_field f fs ≡ true → value_in f fs (octets_for fs c) ≡ value_of f c
  unfolding octets_for
  drawn_value f [] t h = absurd (let z : ◌≡◌ {A = ℕ} 0 1 = cc in omega arith)
  drawn_value f (g ∷ gs) t h =
      let w = width_of g in
      let ys = drawn_octets (drawn_as g) w (value_of g c) in
      let p = run_closed (run g) (value_of g c) (t g (has_here g gs)) in
      let n : length ys ≡ w = right_length (replicate w (drawn_as g)) ys p.0 ∙ length-replicate w (drawn_as g) in
      elim (met f g) [
        | inl e ↦ rw (e, same_self g, take_at ys (octets_for gs c) w n) p.1
        | inr e ↦ rw (e, drop_at ys (octets_for gs c) w n) (drawn_value f gs (λ i k. t i (has_there i g gs k)) (rw e at h))
      ]

-- ---- the contents

-- the number that contents say of a field
value_said : (s : List ℕ) (f : Field) → value_of f (charges_of s) ≡ value_in f (fields_of (kind_in s)) (field_octets s)
unfolding charges_of field_in
value_said s f =
    each_field (λ g. value_of g (charges_of s) ≡ field_in g s) (refl, refl, refl, refl, refl, refl, refl, refl, refl, refl, refl) f

-- what sound contents keep
record Kept (s : List ℕ) : Type 0 where
  two : 2 ≤ length s
  listed : is_kind (kind_in s) ≡ true
  right : Right (drawn_for (kind_in s)) (field_octets s)
  check : check_right (kind_in s) (field_octets s) ≡ true

kept : (s : List ℕ) → every is_octet s ≡ true → charging_fault s ≡ Sound → Kept s
unfolding charging_fault
kept s o e =
    let k = kind_in s in
    let a = is_kind k in
    let b = eqb (length s) (2 + length (drawn_for k)) in
    let p = then_sound (a && b) _ e in
    let q = then_both (drawn_fault 2 (drawn_for k) (field_octets s)) _ p.1 in
    let l : length s ≡ 2 + length (drawn_for k) = eqb-true (length s) (2 + length (drawn_for k)) (and_right a b p.0) in
    let n : length (field_octets s) ≡ length (drawn_for k) = omega (arith, length-drop 2 s) in
    record {
      two = omega arith;
      listed = and_left a b p.0;
      right = sound_right 2 (drawn_for k) (field_octets s) (every_drop is_octet 2 s o) n q.0;
      check = (passed (check_right k (field_octets s)) Sound check_digit (length s - 1) q.1).0;
    }

kept_drawn : (s : List ℕ) → Kept s → octets_for (fields_of (kind_in s)) (charges_of s) ≡ field_octets s
kept_drawn s p =
    drawn_back (charges_of s) (fields_of (kind_in s)) (field_octets s) (apart_kind (kind_in s) p.listed) p.right (λ f h. value_said s f)

-- what is sound may be said
pub sound_chargeable : (s : List ℕ) → every is_octet s ≡ true → charging_fault s ≡ Sound → Chargeable (charges_of s)
unfolding charges_of
sound_chargeable s o e =
    let p = kept s o e in
    let fs = fields_of (kind_in s) in
    record {
      listed = p.listed;
      fitting = λ f h. rw (value_said s f) (value_fits_lem f fs (field_octets s) p.right h);
      others = λ f h. value_said s f ∙ value_none f fs (field_octets s) h;
      checked = rw (kept_drawn s p) p.check;
    }

-- and is drawn again from what it says: nothing of it is lost, and no field is misread
pub drawn_again : (s : List ℕ) → every is_octet s ≡ true → charging_fault s ≡ Sound → charged_contents (get_or s 0 0) (charges_of s) ≡ s
unfolding charges_of charged_contents
drawn_again [] o e = absurd (omega (arith, (kept [] o e).two))
drawn_again (x ∷ []) o e = absurd (omega (arith, (kept (x ∷ []) o e).two))
drawn_again (x ∷ k ∷ xs) o e = ap (λ l. x ∷ k ∷ l) (kept_drawn (x ∷ k ∷ xs) (kept (x ∷ k ∷ xs) o e))

-- what may be said, drawn, is sound and says the same
pub said_again : (x : ℕ) → x < 256 → (c : Charges) → Chargeable c
    → (charging_fault (charged_contents x c) ≡ Sound) × (charges_of (charged_contents x c) ≡ c)
unfolding charged_contents charging_fault charges_of
said_again x l c h =
    let k = c.kind in
    let fs = fields_of k in
    let ys = octets_for fs c in
    let r = drawn_right c fs h.fitting in
    let n : length (charged_contents x c) ≡ 2 + length (drawn_for k) = omega (arith, right_length (drawn_for k) ys r) in (
      rw (h.listed, eq-eqb _ _ n, right_sound 2 (drawn_for k) ys r, h.checked),
      same_charges (charges_of (charged_contents x c)) c refl (λ f. value_said (charged_contents x c) f ∙ by f (has_field f fs) refl),
    )
  where
    by : (f : Field) (b : Bool) → has_field f (fields_of c.kind) ≡ b
        → value_in f (fields_of c.kind) (octets_for (fields_of c.kind) c) ≡ value_of f c
    by f true e = drawn_value c f (fields_of c.kind) h.fitting e
    by f false e = value_none f (fields_of c.kind) (octets_for (fields_of c.kind) c) e ∙ sym (h.others f e)

-- and is octets
pub said_octets : (x : ℕ) → x < 256 → (c : Charges) → Chargeable c → every is_octet (charged_contents x c) ≡ true
unfolding charged_contents is_kind
said_octets x l c h =
    let fs = fields_of c.kind in
    let ys = octets_for fs c in
    let k : is_octet c.kind ≡ true = among_every is_octet (map (λ r. r.number) kinds) refl c.kind h.listed in
    rw (lt-ltb x 256 l, k) (right_octets (drawing fs) ys (drawn_right c fs h.fitting))

-- ---- in a record

-- F7 in it is sound, so that it says what may be said, and is drawn again from that
pub item_charged : (i : Item) → AllowedItem i → i.header ≡ charging_information
    → Chargeable (charges_of i.values) × (charged_contents (get_or i.values 0 0) (charges_of i.values) ≡ i.values)
unfolding fault_of form_of
item_charged i a h =
    let s = i.values in
    let f : fault_of charging_information s ≡ Sound = rw h at (sym (as_they_are Charging i (rw h)).fault ∙ a.faultless) in
    let e = (then_sound (clear (zeroes_of charging_information) (get_or s 0 0)) (charging_fault s) f).1 in
    (sound_chargeable s a.held.octets e, drawn_again s a.held.octets e)

-- no number that may be said is too large for two octets
pub value_small : (c : Charges) → Chargeable c → (f : Field) → value_of f c < 10000
value_small c h f = by (has_field f (fields_of c.kind)) refl
  where
    few : (g : Field) (v : ℕ) → fits (drawn_as g) (width_of g) v ≡ true → v < 10000
    few =
        each_field (λ g. (v : ℕ) → fits (drawn_as g) (width_of g) v ≡ true → v < 10000) (
          λ v t. omega (arith, ltb-true v 256 t),
          λ v t. omega (arith, ltb-true v 100 t),
          λ v t. omega (arith, ltb-true v 1000 t),
          λ v t. omega (arith, ltb-true v 1000 t),
          λ v t. omega (arith, ltb-true v 1000 t),
          λ v t. omega (arith, ltb-true v 1000 t),
          λ v t. omega (arith, ltb-true v 100 t),
          λ v t. omega (arith, ltb-true v 1000 t),
          λ v t. omega (arith, ltb-true v 10000 t),
          λ v t. omega (arith, ltb-true v 1000 t),
          λ v t. omega (arith, ltb-true v 10 t),
        )

    by : (b : Bool) → has_field f (fields_of c.kind) ≡ b → value_of f c < 10000
    by true e = few f (value_of f c) (h.fitting f e)
    by false e = omega (arith, h.others f e)
