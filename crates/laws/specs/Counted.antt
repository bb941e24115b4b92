-- Laws of contents that begin with a count octet: its marks, and the digits after it.
use Rattle.std.specs.Prelude.{ℕ, suc, ◌+◌, ◌*◌, ◌/◌, ◌%◌, ◌<◌, ◌≤◌, ◌≡◌, refl, List, [], ◌∷◌, Bool, true, eqb, leb, length, get_or}
use Rattle.std.proofs.Common.{arith, eqb-true, leb-true, le-leb, ltb-true, lt-ltb, eq-eqb}
use Rattle.annex.specs.Units.{counted_by, octets_of, after_of}
use Rattle.annex.specs.Heads.{clear, most_digits}
use Rattle.annex.specs.declared.Marks.{Marks}
use Rattle.annex.specs.declared.Marks.TheVariants.{Unmarked, Notified, Verified, Typed}
use Rattle.annex.specs.Digits.{is_digit, digits_of, packed}
use Rattle.annex.specs.Contents.{dialled_fault}
use Rattle.annex.specs.Items.{Item, open_marks, open_by, upper_marks, contents_by, own_marks}
use Rattle.annex.specs.declared.Holding.TheVariants.{AsDigits}
use Rattle.annex.specs.Allowed.{every, is_octet, length_fits, marks_right}
use Rattle.annex.specs.declared.Alphabet.TheVariants.{Dialled}
use Rattle.annex.specs.declared.Extent.TheVariants.{Counted}
use Rattle.annex.specs.declared.CountingUnit.TheVariants.{HalfOctet}
use Rattle.annex.specs.Answers.{Sound}
use Rattle.laws.specs.Bools.{same, same→eq, and_left, and_right, and_both}
use Rattle.laws.specs.Octet.{range}
use Rattle.laws.specs.Halves.{length-digits_of}
use Rattle.laws.specs.Joined.{unpacked, length-packed, packed_back, packed_sound, packed_octets}
use Rattle.laws.specs.Headers.{zeroes_for, none_asked}

-- ---- the upper two bits u of a count octet

-- what the zero bits say of them
abbrev upper_clear : Marks → ℕ → Bool
upper_clear Unmarked u = eqb u 0
upper_clear Notified u = eqb (u % 2) 0
upper_clear Verified u = true
upper_clear Typed u = true

abbrev upper_test : Marks → ℕ → Bool
upper_test m x = same (clear (zeroes_for m) x) (upper_clear m (x / 64))

clear_upper : (m : Marks) (x : ℕ) → x < 256 → clear (zeroes_for m) x ≡ upper_clear m (x / 64)
clear_upper Unmarked x h = same→eq _ _ (range (upper_test Unmarked) 0 256 tt x (omega arith) h)
clear_upper Notified x h = same→eq _ _ (range (upper_test Notified) 0 256 tt x (omega arith) h)
clear_upper Verified x h = none_asked 0 x refl
clear_upper Typed x h = none_asked 0 x refl

-- marks opened
open_values : (m : Marks) (h u : ℕ) (vs : List ℕ) → (open_marks m h u vs).values ≡ vs
open_values Unmarked h u vs = refl
open_values Notified h u vs = refl
open_values Verified h u vs = refl
open_values Typed h u vs = refl

open_upper : (m : Marks) (h u : ℕ) (vs : List ℕ) → upper_clear m u ≡ true → upper_marks m (open_marks m h u vs) ≡ u
open_upper Unmarked h u vs c = omega (arith, eqb-true u 0 c)
open_upper Notified h u vs c = omega (arith, eqb-true (u % 2) 0 c)
open_upper Verified h u vs c = omega arith
open_upper Typed h u vs c = refl

open_right : (m : Marks) (h u : ℕ) (vs : List ℕ) → u ≤ 3 → marks_right m (open_marks m h u vs) ≡ true
open_right Unmarked h u vs l = refl
open_right Notified h u vs l = le-leb (u / 2) 1 (omega arith)
open_right Verified h u vs l = and_both (leb (u / 2) 1) (leb (u % 2) 1) (le-leb (u / 2) 1 (omega arith)) (le-leb (u % 2) 1 (omega arith))
open_right Typed h u vs l = le-leb u 3 l

-- marks that are right
upper_small : (m : Marks) (i : Item) → marks_right m i ≡ true → upper_marks m i ≤ 3
upper_small Unmarked i r = omega arith
upper_small Notified i r = omega (arith, leb-true i.notification 1 r)
upper_small Verified i r =
    let a = leb i.notification 1 in
    let b = leb i.verification 1 in
    omega (arith, leb-true i.notification 1 (and_left a b r), leb-true i.verification 1 (and_right a b r))
upper_small Typed i r = leb-true i.dialling 3 r

upper_clear_lem : (m : Marks) (i : Item) → upper_clear m (upper_marks m i) ≡ true
upper_clear_lem Unmarked i = refl
upper_clear_lem Notified i = let e : 2 * i.notification % 2 ≡ 0 = omega arith in rw e
upper_clear_lem Verified i = refl
upper_clear_lem Typed i = refl

upper_open : (m : Marks) (i : Item) → marks_right m i ≡ true → open_marks m i.header (upper_marks m i) i.values ≡ own_marks m i
upper_open Unmarked i r = refl
upper_open Notified i r = let e : 2 * i.notification / 2 ≡ i.notification = omega arith in rw e
upper_open Verified i r =
    let l = leb-true i.verification 1 (and_right (leb i.notification 1) (leb i.verification 1) r) in
    let e : (2 * i.notification + i.verification) / 2 ≡ i.notification = omega arith in
    let f : (2 * i.notification + i.verification) % 2 ≡ i.verification = omega arith in
    rw (e, f)
upper_open Typed i r = refl

-- ---- the count octet and its digits

-- what sound contents open to: they are its contents, its digits are digits and not too many, its marks are right
pub record CountedOpen (m : Marks) (h : ℕ) (s : List ℕ) : Type 0 where
  pub contents : contents_by (AsDigits m) (open_by (AsDigits m) h s) ≡ s
  pub digits : every is_digit (open_by (AsDigits m) h s).values ≡ true
  pub few : leb (length (open_by (AsDigits m) h s).values) most_digits ≡ true
  pub right : marks_right m (open_by (AsDigits m) h s) ≡ true

pub counted_open : (m : Marks) (h : ℕ) (s : List ℕ) → every is_octet s ≡ true → length_fits (Counted HalfOctet) s ≡ true
    → clear (zeroes_for m) (get_or s 0 0) ≡ true → dialled_fault s ≡ Sound → CountedOpen m h s
unfolding after_of dialled_fault
counted_open m h [] o l c f = absurd (let z : ◌≡◌ {A = ℕ} 0 1 = cc in omega arith)
counted_open m h (x ∷ s) o l c f =
    let b : x < 256 = ltb-true x 256 (and_left (is_octet x) (every is_octet s) o) in
    let k : length s ≡ (octets_of (counted_by x)).0 = omega (arith, eqb-true (suc (length s)) (1 + (octets_of (counted_by x)).0) l) in
    let vs = digits_of Dialled (counted_by x) s in
    let p = unpacked Dialled (counted_by x) 1 s k f in
    let v : (open_marks m h (x / 64) vs).values ≡ vs = open_values m h (x / 64) vs in
    let n : length vs ≡ x % 64 = length-digits_of Dialled (counted_by x) s (omega arith) in
    let u : upper_marks m (open_marks m h (x / 64) vs) ≡ x / 64 = open_upper m h (x / 64) vs (rw (clear_upper m x b) at c) in
    let e : 64 * (x / 64) + x % 64 ≡ x = omega arith in
    record {
      contents = rw (v, u, n, e, p.back);
      digits = rw v p.digits;
      few = rw (v, n) (le-leb (x % 64) most_digits (omega arith));
      right = open_right m h (x / 64) vs (omega arith);
    }

-- what right marks and digits stand for: contents of the count's length, clear of the zero bits, sound, that open to them
pub record CountedClosed (m : Marks) (i : Item) : Type 0 where
  pub fits : length_fits (Counted HalfOctet) (contents_by (AsDigits m) i) ≡ true
  pub clears : clear (zeroes_for m) (get_or (contents_by (AsDigits m) i) 0 0) ≡ true
  pub sound : dialled_fault (contents_by (AsDigits m) i) ≡ Sound
  pub opens : open_by (AsDigits m) i.header (contents_by (AsDigits m) i) ≡ own_marks m i
  pub octets : every is_octet (contents_by (AsDigits m) i) ≡ true

pub counted_closed : (m : Marks) (i : Item) → leb (length i.values) most_digits ≡ true → marks_right m i ≡ true
    → every is_digit i.values ≡ true → CountedClosed m i
unfolding after_of dialled_fault
counted_closed m i l r d =
    let n = length i.values in
    let few : n ≤ most_digits = leb-true n most_digits l in
    let up = upper_small m i r in
    let x = 64 * upper_marks m i + n in
    let e : x % 64 ≡ n = omega arith in
    let f : x / 64 ≡ upper_marks m i = omega arith in
    let b : x < 256 = omega arith in
    record {
      fits =
          eq-eqb (suc (length (packed Dialled i.values))) (1 + (octets_of (counted_by x)).0)
          (omega (arith, length-packed Dialled i.values));
      clears = rw (clear_upper m x b, f) (upper_clear_lem m i);
      sound = rw e (packed_sound Dialled 1 i.values d);
      opens = rw (e, f, packed_back Dialled i.values d) (upper_open m i r);
      octets = and_both (is_octet x) (every is_octet (packed Dialled i.values)) (lt-ltb x 256 b) (packed_octets Dialled i.values d);
    }
