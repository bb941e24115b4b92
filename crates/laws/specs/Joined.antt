-- Laws of digits in half-octets, over the alphabet: digits packed into octets are sound and read back, and octets that are sound hold
-- digits that pack to them.
use Rattle.std.specs.Prelude.{ℕ, zero, suc, ◌+◌, ◌*◌, ◌/◌, ◌%◌, ◌<◌, ◌≤◌, ◌≡◌, refl, List, [], ◌∷◌, map, Bool, true, cond, not, ◌&&◌, ◌||◌, eqb, leb, length}
use Rattle.std.proofs.Common.{arith, ap, eqb-true, leb-true, lt-ltb}
use Rattle.std.proofs.lemmas.List.{length-map}
use Rattle.annex.specs.Answers.{bad_digit, Sound, Bad}
use Rattle.annex.specs.Units.{octets_of}
use Rattle.annex.specs.Digits.{
  halves,
  joined,
  digit_of,
  code_of,
  is_code,
  last_code,
  other_zero,
  is_digit,
  is_digit_in,
  halves_fault,
  digits_fault,
  digits_of,
  packed,
  halves_for,
}
use Rattle.annex.specs.declared.HalfOctets.{HalfOctets}
use Rattle.annex.specs.Allowed.{every, is_octet}
use Rattle.annex.specs.declared.Alphabet.{Alphabet}
use Rattle.annex.specs.declared.Alphabet.TheVariants.{Dialled, Numbered, Decimal}
use Rattle.laws.specs.Bools.{T_true, and_left, and_right, and_both}
use Rattle.laws.specs.Octet.{range}
use Rattle.laws.specs.Faults.{passed}

-- ---- one digit and its code

-- a digit's code is a code, and stands for the digit
pub record Coded (z : Alphabet) (d : ℕ) : Type 0 where
  pub back : digit_of z (code_of z d) ≡ d
  pub code : is_code z (code_of z d) ≡ true
  pub small : code_of z d ≤ 12

coded_test : Alphabet → ℕ → Bool
coded_test z d = not (is_digit_in z d) || (eqb (digit_of z (code_of z d)) d && (is_code z (code_of z d) && leb (code_of z d) 12))

coded_all : (z : Alphabet) (d : ℕ) → d < 12 → coded_test z d ≡ true
unfolding coded_test digit_of code_of is_code
coded_all Dialled d h = T_true _ (range (coded_test Dialled) 0 12 tt d (omega arith) (omega arith))
coded_all Numbered d h = T_true _ (range (coded_test Numbered) 0 12 tt d (omega arith) (omega arith))
coded_all Decimal d h = T_true _ (range (coded_test Decimal) 0 12 tt d (omega arith) (omega arith))

digit_small : (z : Alphabet) (d : ℕ) → is_digit_in z d ≡ true → d < 12
digit_small Dialled d h = omega (arith, leb-true d 11 h)
digit_small Numbered d h = omega (arith, leb-true d 11 h)
digit_small Decimal d h = omega (arith, leb-true d 9 h)

pub coded : (z : Alphabet) (d : ℕ) → is_digit_in z d ≡ true → Coded z d
unfolding coded_test
coded z d h =
    let t = rw h at (coded_all z d (digit_small z d h)) in
    let b = eqb (digit_of z (code_of z d)) d in
    let c = is_code z (code_of z d) in
    let s = leb (code_of z d) 12 in
    record {
      back = eqb-true _ _ (and_left b (c && s) t);
      code = and_left c s (and_right b (c && s) t);
      small = leb-true _ _ (and_right c s (and_right b (c && s) t));
    }

-- a code stands for a digit, whose code it is
pub record Decoded (z : Alphabet) (h : ℕ) : Type 0 where
  pub back : code_of z (digit_of z h) ≡ h
  pub digit : is_digit_in z (digit_of z h) ≡ true

decoded_test : Alphabet → ℕ → Bool
decoded_test z h = not (is_code z h) || (eqb (code_of z (digit_of z h)) h && is_digit_in z (digit_of z h))

decoded_all : (z : Alphabet) (h : ℕ) → h < 13 → decoded_test z h ≡ true
unfolding decoded_test digit_of code_of is_code
decoded_all Dialled h l = T_true _ (range (decoded_test Dialled) 0 13 tt h (omega arith) (omega arith))
decoded_all Numbered h l = T_true _ (range (decoded_test Numbered) 0 13 tt h (omega arith) (omega arith))
decoded_all Decimal h l = T_true _ (range (decoded_test Decimal) 0 13 tt h (omega arith) (omega arith))

pub code_small : (z : Alphabet) (h : ℕ) → is_code z h ≡ true → h ≤ 12
unfolding is_code
code_small z h c = go z (leb-true h (last_code z) (and_left (leb h (last_code z)) (not (eqb h (other_zero z))) c))
  where
    go : (z : Alphabet) → h ≤ last_code z → h ≤ 12
    go Dialled l = l
    go Numbered l = l
    go Decimal l = omega arith

pub decoded : (z : Alphabet) (h : ℕ) → is_code z h ≡ true → Decoded z h
unfolding decoded_test
decoded z h c =
    let t = rw c at (decoded_all z h (omega (arith, code_small z h c))) in
    let b = eqb (code_of z (digit_of z h)) h in
    record { back = eqb-true _ _ (and_left b (is_digit_in z (digit_of z h)) t); digit = and_right b (is_digit_in z (digit_of z h)) t }

-- ---- digits packed into octets

pub length-joined : (hs : List ℕ) → length (joined hs) ≡ (length hs + 1) / 2
unfolding joined
length-joined [] = refl
length-joined (a ∷ []) = refl
length-joined (a ∷ b ∷ hs) = omega (arith, length-joined hs)

pub length-packed : (z : Alphabet) (ds : List ℕ) → length (packed z ds) ≡ (octets_of (halves_for ds)).0
unfolding packed
length-packed z ds = rw (length-joined (map (code_of z) ds), length-map ds (code_of z))

-- digits packed read back
pub packed_back : (z : Alphabet) (ds : List ℕ) → every (is_digit_in z) ds ≡ true → digits_of z (halves_for ds) (packed z ds) ≡ ds
unfolding digits_of packed joined halves
packed_back z [] h = refl
packed_back z (a ∷ []) h =
    let c = coded z a (and_left (is_digit_in z a) true h) in
    let e : code_of z a % 16 ≡ code_of z a = omega arith in
    rw (e, c.back)
packed_back z (a ∷ b ∷ ds) h =
    let h' = and_right (is_digit_in z a) (is_digit_in z b && every (is_digit_in z) ds) h in
    let c = coded z a (and_left (is_digit_in z a) (is_digit_in z b && every (is_digit_in z) ds) h) in
    let d = coded z b (and_left (is_digit_in z b) (every (is_digit_in z) ds) h') in
    let e : (code_of z a + 16 * code_of z b) % 16 ≡ code_of z a = omega arith in
    let f : (code_of z a + 16 * code_of z b) / 16 ≡ code_of z b = omega arith in
    rw (e, f, c.back, d.back) (ap (λ l. a ∷ b ∷ l) (packed_back z ds (and_right (is_digit_in z b) (every (is_digit_in z) ds) h')))

halves_sound : (z : Alphabet) (i : ℕ) (ds : List ℕ) → every (is_digit_in z) ds ≡ true
    → halves_fault z (length ds) i (halves (packed z ds)) ≡ Sound
unfolding halves_fault packed joined halves
halves_sound z i [] h = refl
halves_sound z i (a ∷ []) h =
    let c = coded z a (and_left (is_digit_in z a) true h) in
    let e : code_of z a % 16 ≡ code_of z a = omega arith in
    let f : code_of z a / 16 ≡ 0 = omega arith in
    rw (e, f, c.code)
halves_sound z i (a ∷ b ∷ ds) h =
    let h' = and_right (is_digit_in z a) (is_digit_in z b && every (is_digit_in z) ds) h in
    let c = coded z a (and_left (is_digit_in z a) (is_digit_in z b && every (is_digit_in z) ds) h) in
    let d = coded z b (and_left (is_digit_in z b) (every (is_digit_in z) ds) h') in
    let e : (code_of z a + 16 * code_of z b) % 16 ≡ code_of z a = omega arith in
    let f : (code_of z a + 16 * code_of z b) / 16 ≡ code_of z b = omega arith in
    rw (e, f, c.code, d.code) (halves_sound z (i + 1 + 1) ds (and_right (is_digit_in z b) (every (is_digit_in z) ds) h'))

-- and are sound
pub packed_sound : (z : Alphabet) (at : ℕ) (ds : List ℕ) → every (is_digit_in z) ds ≡ true
    → digits_fault z (halves_for ds) at (packed z ds) ≡ Sound
unfolding digits_fault
packed_sound z at ds h = halves_sound z (2 * at) ds h

-- the octets are octets
pub packed_octets : (z : Alphabet) (ds : List ℕ) → every (is_digit_in z) ds ≡ true → every is_octet (packed z ds) ≡ true
unfolding packed joined
packed_octets z [] h = refl
packed_octets z (a ∷ []) h =
    let c = coded z a (and_left (is_digit_in z a) true h) in
    rw (lt-ltb (code_of z a) 256 (omega arith))
packed_octets z (a ∷ b ∷ ds) h =
    let h' = and_right (is_digit_in z a) (is_digit_in z b && every (is_digit_in z) ds) h in
    let c = coded z a (and_left (is_digit_in z a) (is_digit_in z b && every (is_digit_in z) ds) h) in
    let d = coded z b (and_left (is_digit_in z b) (every (is_digit_in z) ds) h') in
    rw (lt-ltb (code_of z a + 16 * code_of z b) 256 (omega arith))
    (packed_octets z ds (and_right (is_digit_in z b) (every (is_digit_in z) ds) h'))

-- and so are the digits
pub digits_octets : (ds : List ℕ) → every is_digit ds ≡ true → every is_octet ds ≡ true
digits_octets [] h = refl
digits_octets (d ∷ ds) h =
    and_both (is_octet d) (every is_octet ds) (lt-ltb d 256 (omega (arith, leb-true d 11 (and_left (is_digit d) (every is_digit ds) h))))
    (digits_octets ds (and_right (is_digit d) (every is_digit ds) h))

-- ---- octets that are sound

-- they hold digits, and the digits pack to them
pub record Unpacked (z : Alphabet) (n : HalfOctets) (s : List ℕ) : Type 0 where
  pub back : packed z (digits_of z n s) ≡ s
  pub digits : every (is_digit_in z) (digits_of z n s) ≡ true

halves_back : (z : Alphabet) (n i : ℕ) (s : List ℕ) → length s ≡ (n + 1) / 2 → halves_fault z n i (halves s) ≡ Sound
    → Unpacked z (record { 0 = n }) s
unfolding digits_of packed joined halves halves_fault
halves_back z zero i [] l g = record { back = refl; digits = refl }
halves_back z zero i (x ∷ s) l g = absurd (omega arith)
halves_back z (suc n) i [] l g = absurd (omega arith)
halves_back z (suc zero) i (x ∷ []) l g =
    let p = passed (is_code z (x % 16)) (cond (eqb (x / 16) 0) Sound (Bad bad_digit ((i + 1) / 2))) bad_digit (i / 2) g in
    let q = passed (eqb (x / 16) 0) Sound bad_digit ((i + 1) / 2) p.1 in
    let d = decoded z (x % 16) p.0 in
    let e : x % 16 ≡ x = omega (arith, eqb-true (x / 16) 0 q.0) in
    record { back = rw (d.back, e); digits = rw d.digit }
halves_back z (suc zero) i (x ∷ y ∷ s) l g = absurd (omega arith)
halves_back z (suc (suc n)) i (x ∷ s) l g =
    let r = halves_fault z n (i + 1 + 1) (halves s) in
    let p = passed (is_code z (x % 16)) (cond (is_code z (x / 16)) r (Bad bad_digit ((i + 1) / 2))) bad_digit (i / 2) g in
    let q = passed (is_code z (x / 16)) r bad_digit ((i + 1) / 2) p.1 in
    let c = decoded z (x % 16) p.0 in
    let d = decoded z (x / 16) q.0 in
    let e : x % 16 + 16 * (x / 16) ≡ x = omega arith in
    let k : length s ≡ (n + 1) / 2 = omega arith in
    let u = halves_back z n (i + 1 + 1) s k q.1 in
    record { back = rw (c.back, d.back, e) (ap (λ l. x ∷ l) u.back); digits = rw (c.digit, d.digit) u.digits }

pub unpacked : (z : Alphabet) (n : HalfOctets) (at : ℕ) (s : List ℕ) → length s ≡ (octets_of n).0 → digits_fault z n at s ≡ Sound
    → Unpacked z n s
unfolding digits_fault
unpacked z n at s l g = halves_back z n.0 (2 * at) s l g
