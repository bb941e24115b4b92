-- Laws of a number's contents: the two octets of its fields, and the digits after them.
use Rattle.std.specs.Prelude.{ℕ, zero, suc, ◌+◌, ◌*◌, ◌/◌, ◌%◌, ◌<◌, ◌≤◌, ◌≡◌, refl, List, [], ◌∷◌, Bool, true, false, cond, not, ◌&&◌, eqb, leb, ltb, length, get_or, drop}
use Rattle.std.proofs.Common.{arith, ap, eqb-true, leb-true, le-leb, ltb-true, lt-ltb, le-ltb, eq-eqb, ne_eqb}
use Rattle.std.proofs.lemmas.Bool.{eqb-false}
use Rattle.annex.specs.Units.{octets_of}
use Rattle.annex.specs.Digits.{is_digit, halves, halves_fault, digits_fault, digits_of, packed, halves_for, count_of, number_fault_in, number_fault}
use Rattle.annex.specs.Answers.{formed, formed_then, Sound}
use Rattle.annex.specs.Contents.{presentation_of, calling_fault}
use Rattle.annex.specs.Items.{Item, number_item, open_by, number_contents, own_fields}
use Rattle.annex.specs.declared.Holding.TheVariants.{AsNumber}
use Rattle.annex.specs.Allowed.{every, is_octet, fields_right, withheld_right}
use Rattle.annex.specs.declared.Alphabet.TheVariants.{Numbered}
use Rattle.laws.specs.Bools.{and_left, and_right}
use Rattle.laws.specs.Faults.{formed_sound, then_sound}
use Rattle.laws.specs.Halves.{length-digits_of}
use Rattle.laws.specs.Joined.{unpacked, length-packed, packed_back, packed_sound, packed_octets}

-- ---- the fields

-- fields by their bits, as facts
pub record Fields (i : Item) : Type 0 where
  pub type_small : i.number_type ≤ 127
  pub incomplete_small : i.incomplete ≤ 1
  pub plan_small : i.plan ≤ 7
  pub presentation_small : i.presentation ≤ 3
  pub screening_small : i.screening ≤ 3

right_fields : (i : Item) → fields_right i ≡ true → Fields i
right_fields i r =
    let a = leb i.number_type 127 in
    let b = leb i.incomplete 1 in
    let c = leb i.plan 7 in
    let d = leb i.presentation 3 in
    let e = leb i.screening 3 in
    let r₁ = and_right a (b && (c && (d && e))) r in
    let r₂ = and_right b (c && (d && e)) r₁ in
    let r₃ = and_right c (d && e) r₂ in
    record {
      type_small = leb-true _ _ (and_left a (b && (c && (d && e))) r);
      incomplete_small = leb-true _ _ (and_left b (c && (d && e)) r₁);
      plan_small = leb-true _ _ (and_left c (d && e) r₂);
      presentation_small = leb-true _ _ (and_left d e r₃);
      screening_small = leb-true _ _ (and_right d e r₃);
    }

open_fields : (h x y : ℕ) (vs : List ℕ) → y < 256 → fields_right (number_item h x y vs) ≡ true
open_fields h x y vs b =
    rw (
      le-leb (x % 128) 127 (omega arith),
      le-leb (y / 128) 1 (omega arith),
      le-leb (y / 16 % 8) 7 (omega arith),
      le-leb (y / 4 % 4) 3 (omega arith),
      le-leb (y % 4) 3 (omega arith),
    )

-- ---- sound contents

-- they hold digits, and fields within their bits, and are what those stand for
pub record NumberOpen (s : List ℕ) : Type 0 where
  pub digits : every is_digit (digits_of Numbered (count_of s) (drop 2 s)) ≡ true
  pub right : (h : ℕ) (vs : List ℕ) → fields_right (number_item h (get_or s 0 0) (get_or s 1 0) vs) ≡ true
  pub contents : (h : ℕ) (vs : List ℕ)
      → number_contents (number_item h (get_or s 0 0) (get_or s 1 0) vs) (digits_of Numbered (count_of s) (drop 2 s)) ≡ s

-- not odd with no digit octet
some_digit : (x n : ℕ) → x < 256 → not (eqb (x / 128) 1 && eqb (suc (suc n)) 2) ≡ true → x / 128 ≤ n * 2
some_digit x zero b t = odd_none (eqb (x / 128) 1) refl t
  where
    odd_none : (v : Bool) → eqb (x / 128) 1 ≡ v → not (v && true) ≡ true → x / 128 ≤ 0
    odd_none true e u = absurd (let z : ◌≡◌ {A = ℕ} 0 1 = cc in omega arith)
    odd_none false e u = omega (arith, eqb-false (x / 128) 1 e)
some_digit x (suc n) b t = omega arith

pub number_open : (at : ℕ) (s : List ℕ) → every is_octet s ≡ true → number_fault at s ≡ Sound → NumberOpen s
unfolding number_fault_in
number_open at [] o f = absurd (let z : ◌≡◌ {A = ℕ} 0 1 = cc in omega arith)
number_open at (x ∷ []) o f = absurd (let z : ◌≡◌ {A = ℕ} 0 1 = cc in omega arith)
number_open at (x ∷ y ∷ t) o f =
    let o' = and_right (is_octet x) (is_octet y && every is_octet t) o in
    let a : x < 256 = ltb-true x 256 (and_left (is_octet x) (is_octet y && every is_octet t) o) in
    let b : y < 256 = ltb-true y 256 (and_left (is_octet y) (every is_octet t) o') in
    let n = count_of (x ∷ y ∷ t) in
    let v = not (eqb (x / 128) 1 && eqb (suc (suc (length t))) 2) in
    let w = digits_fault Numbered n (at + 2) t in
    let p = then_sound v w (then_sound (not (ltb (suc (suc (length t))) 2)) (formed_then v w) f).1 in
    let m : x / 128 ≤ length t * 2 = some_digit x (length t) a p.0 in
    let k : length t ≡ (octets_of n).0 = omega arith in
    let u = unpacked Numbered n (at + 2) t k p.1 in
    let ds = digits_of Numbered n t in
    let c : length ds ≡ n.0 = length-digits_of Numbered n t (omega arith) in
    let e : 128 * (n.0 % 2) + x % 128 ≡ x = omega arith in
    let g : 128 * (y / 128) + 16 * (y / 16 % 8) + 4 * (y / 4 % 4) + y % 4 ≡ y = omega arith in
    record { digits = u.digits; right = λ h vs. open_fields h x y vs b; contents = λ h vs. rw (c, e, g, u.back) }

-- ---- fields and digits that are right

-- they stand for octets, sound, that open to them
pub record NumberClosed (i : Item) (ds : List ℕ) : Type 0 where
  pub sound : (at : ℕ) → number_fault at (number_contents i ds) ≡ Sound
  pub digits : digits_of Numbered (count_of (number_contents i ds)) (packed Numbered ds) ≡ ds
  pub opens : number_item i.header (get_or (number_contents i ds) 0 0) (get_or (number_contents i ds) 1 0) i.values ≡ own_fields i
  pub octets : every is_octet (number_contents i ds) ≡ true

-- odd: some digit octet
odd_some : (n x p : ℕ) → x / 128 ≡ n % 2 → p ≡ (n + 1) / 2 → not (eqb (x / 128) 1 && eqb (suc (suc p)) 2) ≡ true
odd_some n x zero e f = rw (ne_eqb (x / 128) 1 (λ z. omega arith))
odd_some n x (suc p) e f = rw (ne_eqb (suc (suc (suc p))) 2 (λ z. omega arith)) (none (eqb (x / 128) 1))
  where
    none : (v : Bool) → not (v && false) ≡ true
    none true = refl
    none false = refl

round_up : (n : ℕ) → (n + 1) / 2 ≡ n / 2 + n % 2
round_up n = omega arith

pub number_closed : (i : Item) (ds : List ℕ) → fields_right i ≡ true → every is_digit ds ≡ true → NumberClosed i ds
unfolding number_fault_in
number_closed i ds r d =
    let f = right_fields i r in
    let n = length ds in
    let t = packed Numbered ds in
    let l : length t ≡ (octets_of (halves_for ds)).0 = length-packed Numbered ds in
    let x = 128 * (n % 2) + i.number_type in
    let y = 128 * i.incomplete + 16 * i.plan + 4 * i.presentation + i.screening in
    let a : x / 128 ≡ n % 2 = omega arith in
    let b : x % 128 ≡ i.number_type = omega arith in
    let m : (count_of (x ∷ y ∷ t)).0 ≡ n = omega (arith, round_up n) in
    let c : count_of (x ∷ y ∷ t) ≡ halves_for ds = ap (λ (k : ℕ). record { 0 = k }) m in
    let g : y / 128 ≡ i.incomplete = omega arith in
    let h : y / 16 % 8 ≡ i.plan = omega arith in
    let j : y / 4 % 4 ≡ i.presentation = omega arith in
    let k : y % 4 ≡ i.screening = omega arith in
    record {
      sound =
          λ at. rw (le-ltb (suc (suc (length t))) 2 (omega arith), odd_some n x (length t) a l, c) (packed_sound Numbered (at + 2) ds d);
      digits = rw c (packed_back Numbered ds d);
      opens = rw (b, g, h, j, k);
      octets = rw (lt-ltb x 256 (omega arith), lt-ltb y 256 (omega arith)) (packed_octets Numbered ds d);
    }

-- ---- a calling number

-- two octets, the first 0, the second below 16: what presentation 2 asks
abbrev is_withheld : List ℕ → Bool
is_withheld s = eqb (length s) 2 && (eqb (get_or s 0 0) 0 && ltb (get_or s 1 0) 16)

-- what is sound as a calling number is sound as a number, and keeps the rule of presentation 2
pub record CallingOpen (h : ℕ) (s : List ℕ) : Type 0 where
  pub number : number_fault 0 s ≡ Sound
  pub withheld : cond (eqb (presentation_of s) 2) (withheld_right (open_by (AsNumber true) h s)) true ≡ true

withheld_open : (h : ℕ) (s : List ℕ) → is_withheld s ≡ true → (number_fault 0 s ≡ Sound) × (withheld_right (open_by (AsNumber true) h s) ≡ true)
unfolding number_fault_in digits_fault halves halves_fault digits_of
withheld_open h [] t = absurd (let z : ◌≡◌ {A = ℕ} 0 1 = cc in omega arith)
withheld_open h (x ∷ []) t = absurd (let z : ◌≡◌ {A = ℕ} 0 1 = cc in omega arith)
withheld_open h (x ∷ y ∷ []) t =
    let a : x ≡ 0 = eqb-true x 0 (and_left (eqb x 0) (ltb y 16) t) in
    let b : y < 16 = ltb-true y 16 (and_right (eqb x 0) (ltb y 16) t) in
    let c : y / 128 ≡ 0 = omega arith in
    let d : y / 16 % 8 ≡ 0 = omega arith in
    rw a (refl, rw (c, d))
withheld_open h (x ∷ y ∷ w ∷ s) t =
    let n = suc (suc (suc (length s))) in
    absurd (omega (arith, eqb-true n 2 (and_left (eqb n 2) (eqb x 0 && ltb y 16) t)))

pub calling_open : (h : ℕ) (s : List ℕ) → calling_fault s ≡ Sound → CallingOpen h s
unfolding calling_fault
calling_open h s f = let p = by (eqb (presentation_of s) 2) f in record { number = p.0; withheld = p.1 }
  where
    by : (v : Bool) → cond v (formed (is_withheld s)) (number_fault 0 s) ≡ Sound
        → (number_fault 0 s ≡ Sound) × (cond v (withheld_right (open_by (AsNumber true) h s)) true ≡ true)
    by true g = withheld_open h s (formed_sound (is_withheld s) g)
    by false g = (g, refl)

-- a number that keeps it is sound as a calling number
withheld_closed : (i : Item) → i.presentation ≡ 2 → i.screening ≤ 3 → withheld_right i ≡ true
    → is_withheld (number_contents i i.values) ≡ true
withheld_closed i p s w =
    let a = eqb i.number_type 0 in
    let b = eqb i.incomplete 0 in
    let c = eqb i.plan 0 in
    let d = eqb (length i.values) 0 in
    let w₁ = and_right a (b && (c && d)) w in
    let w₂ = and_right b (c && d) w₁ in
    let e = eqb-true i.number_type 0 (and_left a (b && (c && d)) w) in
    let f = eqb-true i.incomplete 0 (and_left b (c && d) w₁) in
    let g = eqb-true i.plan 0 (and_left c d w₂) in
    let n = eqb-true (length i.values) 0 (and_right c d w₂) in
    let t = packed Numbered i.values in
    let x = 128 * (length i.values % 2) + i.number_type in
    let y = 128 * i.incomplete + 16 * i.plan + 4 * i.presentation + i.screening in
    let k = length-packed Numbered i.values in
    rw (eq-eqb (suc (suc (length t))) 2 (omega arith), eq-eqb x 0 (omega arith), lt-ltb y 16 (omega arith))

pub calling_closed : (i : Item) → fields_right i ≡ true → cond (eqb i.presentation 2) (withheld_right i) true ≡ true
    → every is_digit i.values ≡ true → calling_fault (number_contents i i.values) ≡ Sound
unfolding calling_fault
calling_closed i r w d =
    let n = number_closed i i.values r d in
    let p : presentation_of (number_contents i i.values) ≡ i.presentation = ap (λ k. k.presentation) n.opens in
    rw p (by (eqb i.presentation 2) refl w (n.sound 0))
  where
    by : (v : Bool) → eqb i.presentation 2 ≡ v → cond v (withheld_right i) true ≡ true
        → number_fault 0 (number_contents i i.values) ≡ Sound
        → cond v (formed (is_withheld (number_contents i i.values))) (number_fault 0 (number_contents i i.values)) ≡ Sound
    by true e u f = rw (withheld_closed i (eqb-true _ _ e) (right_fields i r).screening_small u)
    by false e u f = f
