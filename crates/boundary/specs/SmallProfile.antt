-- Places and values are below 2^16 where a message is read or written by the mobile call profile; and twelve octets are room enough for the
-- pairs of any D6 that it takes.
use Rattle.std.specs.Prelude.{ℕ, ◌*◌, ◌-◌, ◌/◌, ◌≤◌, ◌≡◌, refl, Bool, true, false, cond, not, List, [], ◌∷◌, ltb, length, Err}
use Rattle.std.proofs.Common.{arith, le-ltb}
use Rattle.annex.specs.Answers.{outside_profile, absent, no_room, number_of, refuse, and_then, Answer, Accepted, Refused}
use Rattle.annex.specs.Items.{Item, Part}
use Rattle.annex.specs.Allowed.{every, Each, is_octet, items_in}
use Rattle.annex.specs.Reading.{verdict_of, record_of}
use Rattle.annex.specs.Records.{view}
use Rattle.annex.specs.Writing.{struct_writing}
use Rattle.annex.specs.Image.{most_image, imaged_of}
use Rattle.annex.specs.Profile.{
  pair_octets,
  pairs_in,
  OfPairs,
  pairs_right,
  added_class,
  some,
  is_headed,
  is_in_profile,
  profiled,
  profile_verdict,
  profile_refusal,
  profile_writing,
  values_under,
  classes_of,
  most_classes,
  classes_answer,
}
use Rattle.annex.specs.Packed.{packed_answer, image_reading, profile_image_reading, profile_image_writing}
use Rattle.annex.specs.Promises.{TkClassesPromise}
use Rattle.theorems.specs.Profiles.{pairs_even, of_pairs, classes_few, profile_taken}
use Rattle.boundary.specs.Small.{Upto, farthest, upto_refuse, upto_then, verdict_upto}
use Rattle.boundary.specs.SmallImages.{image_upto, most_written, struct_upto, room_upto, imaged_upto}

-- the end mark is no further than the message
profiled_upto : (k : ℕ) (r : List Part) (a : Answer) → Upto k a → Upto k (profiled r a)
profiled_upto k r a u =
    upto_then a (λ n. refuse (not (is_in_profile r)) outside_profile (n - 1) (Accepted n)) k k (omega arith) u
    (λ n h. upto_refuse (not (is_in_profile r)) outside_profile (n - 1) k (Accepted n) (omega arith) (omega arith, h))

verdict_small : (m : List ℕ) → Upto farthest (profile_verdict m)
unfolding profile_verdict
verdict_small m = profiled_upto farthest (record_of m) (verdict_of m) (verdict_upto m)

pub profile_image_upto : (m : List ℕ) (room : ℕ) → every is_octet m ≡ true → Upto most_image (profile_image_reading m room)
unfolding profile_image_reading
profile_image_upto m room o =
    upto_then (profile_verdict m) (λ _. image_reading m room) farthest most_image (omega arith) (verdict_small m) (λ _ _. image_upto m room o)

pub profile_write_upto : (image : List ℕ) (room : ℕ) → Upto most_written (profile_image_writing image room)
unfolding profile_image_writing profile_writing profile_refusal
profile_write_upto image room =
    let s = (imaged_of image).held in
    imaged_upto image (profile_writing s room)
    (room_upto (profiled (view s) (struct_writing s)) room (profiled_upto most_written (view s) (struct_writing s) (struct_upto s)))

-- ---- the pairs of D6

-- where each D6 holds pairs, those told are such
under_right : (is : List Item) → Each (λ i. is_headed added_class i ≡ true → OfPairs i.values) is
    → pairs_right (values_under added_class is) ≡ true
unfolding values_under pairs_in
under_right [] p = refl
under_right (i ∷ is) p = go (is_headed added_class i) refl (under_right is p.1)
  where
    go : (b : Bool) → is_headed added_class i ≡ b → pairs_right (values_under added_class is) ≡ true
        → pairs_right (cond b i.values (values_under added_class is)) ≡ true
    go true e g = (of_pairs i.values).1 (p.0 e)
    go false e g = g

-- TK_ADDED_MAX of the header for C and ADDED_MAX of the Rust wrapper are this number: two octets to a name
abbrev pub most_added : ℕ
most_added = 2 * most_classes

pub added_max : most_added ≡ 12
added_max = refl

classes_small : (m : List ℕ) (n : ℕ) → profile_verdict m ≡ Accepted n → length (pair_octets (classes_of (record_of m))) ≤ most_added
classes_small m n e =
    let right = under_right (items_in (record_of m)) (profile_taken m n e).1.opened in
    omega (arith, pairs_even (classes_of (record_of m)), classes_few (values_under added_class (items_in (record_of m))) right)

-- the profile's refusals, then 16, and else an answer
abbrev pub absent_or : List ℕ → Answer → Answer
absent_or m a = and_then (profile_verdict m) (λ _. refuse (not (some (is_headed added_class) (items_in (record_of m)))) absent 0 a)

pub classes_upto : (m : List ℕ) (room : ℕ) → Upto farthest (classes_answer m room)
unfolding classes_answer
classes_upto m room = go (profile_verdict m) refl (verdict_small m)
  where
    k : ℕ
    k = length (pair_octets (classes_of (record_of m)))

    none : Bool
    none = not (some (is_headed added_class) (items_in (record_of m)))

    go : (a : Answer) → profile_verdict m ≡ a → Upto farthest a
        → Upto farthest (and_then a (λ _. refuse none absent 0 (refuse (ltb room k) no_room 0 (Accepted k))))
    go (Accepted n) e u =
        upto_refuse none absent 0 farthest _ (omega arith)
        (upto_refuse (ltb room k) no_room 0 farthest (Accepted k) (omega arith) (omega arith, omega (arith, classes_small m n e)))
    go (Err r) e u = (u.0, omega arith)

-- with so much room, the pairs are refused for what is wrong with the message alone, or for want of D6, never for want of room
pub classes_roomy : (m room : List ℕ) → most_added ≤ length room → (r : ℕ) (now : List ℕ) → TkClassesPromise m room r now
    → r / 4294967296 ≡ number_of (absent_or m (Accepted 0))
unfolding classes_answer
classes_roomy m room l r now p = rw p.0 (go (profile_verdict m) refl)
  where
    k : ℕ
    k = length (pair_octets (classes_of (record_of m)))

    none : Bool
    none = not (some (is_headed added_class) (items_in (record_of m)))

    by : (b : Bool) → packed_answer (refuse b absent 0 (Accepted k)) / 4294967296 ≡ number_of (refuse b absent 0 (Accepted 0))
    by true = omega arith
    by false = omega arith

    go : (a : Answer) → profile_verdict m ≡ a
        → packed_answer (and_then a (λ _. refuse none absent 0 (refuse (ltb (length room) k) no_room 0 (Accepted k)))) / 4294967296
        ≡ number_of (and_then a (λ _. refuse none absent 0 (Accepted 0)))
    go (Accepted n) e = rw (le-ltb (length room) k (omega (arith, classes_small m n e))) (by none)
    go (Err r) e = omega arith
