-- What is told of a message that the profile takes: its record, its network and the pairs of its D6, as the code finds them.
use Rattle.std.specs.Prelude.{ℕ, ◌%◌, ◌≤◌, ◌<◌, ◌≡◌, false, ◌&&◌, ◌||◌, List, [], ◌++◌, length, drop, Err}
use Rattle.std.proofs.Common.{arith, sym, ap, ◌∙◌}
use Rattle.std.proofs.Math.Path.{refl}
use Rattle.std.proofs.Math.Bool.{true, cond}
use borrow.Author.Tests.{eqb-true, lt-ltb, le-ltb}
use Rattle.std.proofs.Math.Dec.{eqb}
use Rattle.annex.specs.Answers.{no_room, absent, and_then, room_after, Answer, Accepted, Refused}
use Rattle.annex.specs.Allowed.{every, is_octet}
use Rattle.annex.specs.Reading.{verdict_of, record_of}
use Rattle.annex.specs.Records.{pack, read_by, reading_of}
use Rattle.annex.specs.Profile.{
  pair_octets,
  pairs_in,
  names_right,
  pairs_right,
  data_enquiry,
  phs,
  mobile,
  originating_region,
  added_class,
  profile_verdict,
  classes_of,
  profile_of,
  profile_by,
  profile_reading,
  classes_answer,
  classes_given,
}
use Rattle.annex.specs.Image.{image_of}
use Rattle.annex.specs.Packed.{image_reading, image_read, profile_image_reading, profile_image_read}
use Rattle.annex.specs.Promises.{ProfileReadPromise, ImageReadPromise, ProfileImageReadPromise, ClassesPromise}
use Rattle.annex.specs.declared.Profile.{Profile}
use Rattle.annex.specs.declared.ProfileReading.{ProfileReading}
use Rattle.annex.specs.declared.Reading.{Reading}
use Rattle.laws.specs.Bools.{and_left, and_right}
use Rattle.theorems.specs.Places.{is_found}
use Rattle.theorems.specs.Profiles.{octets_back, in_profile, profile_taken}
use Rattle.profile.specs.Answering.{verdict_inside}
use Rattle.profile.specs.Pairs.{opened_to}
use Rattle.profile.specs.Keeping.{
  headed,
  contents_under,
  kind_in,
  network_in,
  network_said,
  keeps_plain,
  classes_under,
  added_under,
  network_under,
  keeps_so,
}

-- what the code makes of 7E's octet and of D6's contents
abbrev pub told_by : ℕ → List ℕ → Profile
told_by x s = record { network = network_said x; classes = (opened_to (pairs_in s)).count; class = (opened_to (pairs_in s)).class }

-- ---- refused

-- a refusal, with the record of nothing beside it, and what that tells
abbrev pub refused_with : Answer → ProfileReading
refused_with a = record { answer = a; «record» = pack []; profile = profile_of [] }

pub classes_passed : (m : List ℕ) (k p : ℕ) → profile_verdict m ≡ Refused k p → (room : List ℕ) → ClassesPromise m room (Refused k p) room
unfolding classes_answer classes_given
classes_passed m k p e room = (rw e, rw e)

module _ (m : List ℕ) (o : every is_octet m ≡ true) where
  -- what does not keep the profile is refused
  outside : keeps_plain m ≡ false → (n : ℕ) → profile_verdict m ≡ Accepted n → ⊥
  outside k n e =
      let t = profile_taken m n e in
      let z = sym k ∙ keeps_so m o n t.0 ∙ (in_profile (record_of m)).1 t.1 in
      let w : ◌≡◌ {A = ℕ} 0 1 = cc in
      omega arith

  pub read_outside : keeps_plain m ≡ false → ProfileReadPromise m (refused_with (profile_verdict m))
  unfolding profile_reading
  read_outside k = go (profile_verdict m) (outside k)
    where
      go : (a : Answer) → ((n : ℕ) → a ≡ Accepted n → ⊥) → refused_with a ≡ profile_by a (record_of m)
      go (Accepted n) f = absurd (f n refl)
      go (Err r) f = refl

  pub image_outside : keeps_plain m ≡ false → (room : List ℕ) → ProfileImageReadPromise m room (profile_verdict m) room
  unfolding profile_image_reading profile_image_read
  image_outside k room = go (profile_verdict m) (outside k)
    where
      go : (a : Answer) → ((n : ℕ) → a ≡ Accepted n → ⊥) → let b = and_then a (λ _. image_reading m (length room)) in
          (a ≡ b) × (room ≡ room_after b (image_of (record_of m)) room)
      go (Accepted n) f = absurd (f n refl)
      go (Err r) f = (refl, refl)

  -- and what keeps it is refused where reading refuses it
  module _ (k : keeps_plain m ≡ true) where
    passed_on : (j p : ℕ) → verdict_of m ≡ Refused j p → profile_verdict m ≡ Refused j p
    unfolding profile_verdict
    passed_on j p e = rw e

    pub kept_taken : (n : ℕ) → verdict_of m ≡ Accepted n → profile_verdict m ≡ Accepted n
    kept_taken n e = sym (verdict_inside m o n e k)

    pub read_refused : (j p : ℕ) → verdict_of m ≡ Refused j p → ProfileReadPromise m (refused_with (Refused j p))
    unfolding profile_reading
    read_refused j p e = rw (passed_on j p e)

    pub image_kept : (room : List ℕ) (r : Answer) (now : List ℕ) → ImageReadPromise m room r now → ProfileImageReadPromise m room r now
    unfolding image_reading image_read profile_image_reading profile_image_read
    image_kept room r now q = go (verdict_of m) refl
      where
        go : (a : Answer) → verdict_of m ≡ a → ProfileImageReadPromise m room r now
        go (Accepted n) e = let t = kept_taken n e in (q.0 ∙ rw t, q.1 ∙ rw t)
        go (Err r) e = let t = passed_on r.0 r.1 e in (q.0 ∙ rw (e, t), q.1 ∙ rw (e, t))

-- reading answers with the verdict
pub reading_verdict : (m : List ℕ) (r : Reading) → r ≡ reading_of m → r.answer ≡ verdict_of m
unfolding reading_of
reading_verdict m r e = ap (λ (x : Reading). x.answer) e ∙ go (verdict_of m)
  where
    go : (a : Answer) → (read_by a (record_of m)).answer ≡ a
    go (Accepted n) = refl
    go (Err r) = refl

-- ---- taken

module _ (m : List ℕ) (o : every is_octet m ≡ true) (n : ℕ) (e : profile_verdict m ≡ Accepted n) where
  accepted : verdict_of m ≡ Accepted n
  accepted = (profile_taken m n e).0

  -- D6's contents, none where there is none, are pairs
  pub pairs_taken : pairs_right (contents_under added_class m) ≡ true
  unfolding keeps_plain
  pairs_taken =
      let kind = eqb (kind_in m) data_enquiry in
      let network = eqb (network_in m) phs || eqb (network_in m) mobile in
      let region = is_found (headed originating_region m) in
      let added = cond (eqb (network_in m) mobile) (is_found (headed added_class m)) true in
      let opened = pairs_right (contents_under added_class m) in
      let kept : kind && (network && (region && (added && opened))) ≡ true =
      keeps_so m o n accepted ∙ (in_profile (record_of m)).1 (profile_taken m n e).1 in
      and_right added opened
      (and_right region (added && opened)
      (and_right network (region && (added && opened)) (and_right kind (network && (region && (added && opened))) kept)))

  pub told_so : told_by (network_in m) (contents_under added_class m) ≡ profile_of (record_of m)
  told_so =
      rw (network_under m o n accepted phs refl, network_under m o n accepted mobile refl, classes_under m o n accepted)

  pub read_taken : (r : Reading) → r ≡ reading_of m
      → ProfileReadPromise m (record { answer = Accepted n; «record» = r.«record»; profile = profile_of (record_of m) })
  unfolding profile_reading reading_of
  read_taken r f = rw (e, f, accepted)

  -- D6's pairs, laid out, are its contents
  laid : pair_octets (classes_of (record_of m)) ≡ contents_under added_class m
  laid =
      let s = contents_under added_class m in
      let even = eqb-true (length s % 2) 0 (and_left (eqb (length s % 2) 0) (names_right (pairs_in s)) pairs_taken) in
      rw (classes_under m o n accepted) (octets_back s even)

  module _ (room : List ℕ) where
    pub classes_absent : is_found (headed added_class m) ≡ false → ClassesPromise m room (Refused absent 0) room
    unfolding classes_answer classes_given
    classes_absent f = let t = added_under m o n accepted ∙ f in (rw (e, t), rw (e, t))

    module _ (f : is_found (headed added_class m) ≡ true) where
      pub classes_short : length room < length (contents_under added_class m) → ClassesPromise m room (Refused no_room 0) room
      unfolding classes_answer classes_given
      classes_short l =
          let t = added_under m o n accepted ∙ f in
          let s = lt-ltb (length room) (length (contents_under added_class m)) l in
          (rw (e, t, laid, s), rw (e, t, laid, s))

      pub classes_done : length (contents_under added_class m) ≤ length room
          → ClassesPromise m room (Accepted (length (contents_under added_class m)))
          (contents_under added_class m ++ drop (length (contents_under added_class m)) room)
      unfolding classes_answer classes_given
      classes_done l =
          let t = added_under m o n accepted ∙ f in
          let s = le-ltb (length room) (length (contents_under added_class m)) l in
          (rw (e, t, laid, s), rw (e, t, laid, s))
