-- The answers by the profile, with what lent octets then hold, of the steps that the code takes.
use Rattle.std.specs.Prelude.{ℕ, ◌+◌, ◌-◌, ◌≤◌, ◌<◌, ◌≡◌, Bool, not, List, ◌++◌, ltb, take, drop, Err}
use native.Mathlib.Omega.{arith}
use Rattle.std.proofs.Math.Path.{refl, sym, ap}
use Rattle.std.proofs.Common.{◌∙◌, length-take-le}
use Rattle.std.proofs.Math.Bool.{true, false}
use borrow.Author.Tests.{leb-true, leb-false, lt-ltb, le-ltb}
use Rattle.std.proofs.Math.ListN.{length}
use Rattle.std.proofs.Math.Seq.{take_at}
use Rattle.annex.specs.Answers.{over_the_limits, outside_profile, no_room, given_of, refuse, and_then, room_after, Answer, Accepted, Refused}
use Rattle.annex.specs.Heads.{most_octets}
use Rattle.annex.specs.Layout.{layout}
use Rattle.annex.specs.Allowed.{every, is_octet, Held}
use Rattle.annex.specs.Reading.{verdict_of}
use Rattle.annex.specs.Records.{is_whole, view}
use Rattle.annex.specs.Writing.{record_writing, struct_writing, writing_of, written_of}
use Rattle.annex.specs.Image.{imaged_of}
use Rattle.annex.specs.Profile.{is_in_profile, profiled, profile_verdict, profile_refusal, profile_writing, profile_written}
use Rattle.annex.specs.Packed.{image_writing, image_written, profile_image_writing, profile_image_written}
use Rattle.annex.specs.Promises.{
  WritePromise,
  ImageWritePromise,
  ProfileVerdictPromise,
  ProfileWritePromise,
  ProfileImageWritePromise,
  Keeps,
}
use Rattle.annex.specs.Memory.{put, copying}
use Rattle.annex.specs.declared.Record.{Record}
use Rattle.laws.specs.Steps.{passed, then_passed}
use Rattle.theorems.specs.Layouts.{laid_then_read}
use Rattle.theorems.specs.Writings.{writable_allowed, writing_writable}
use Rattle.theorems.specs.ImageWritings.{image_view_held}
use Rattle.theorems.specs.Profiles.{end_last}
use Rattle.profile.specs.Keeping.{keeps_plain, keeps_so}

-- ---- the verdict

module _ (m : List ℕ) where
  pub verdict_refused : (k p : ℕ) → verdict_of m ≡ Refused k p → ProfileVerdictPromise m (Refused k p)
  unfolding profile_verdict
  verdict_refused k p e = rw e

  module _ (o : every is_octet m ≡ true) (n : ℕ) (e : verdict_of m ≡ Accepted n) where
    pub verdict_outside : keeps_plain m ≡ false → ProfileVerdictPromise m (Refused outside_profile (n - 1))
    unfolding profile_verdict
    verdict_outside k = rw (e, ← keeps_so m o n e, k)

    pub verdict_inside : keeps_plain m ≡ true → ProfileVerdictPromise m (Accepted n)
    unfolding profile_verdict
    verdict_inside k = rw (e, ← keeps_so m o n e, k)

-- ---- octets copied to the front of room, where they fit

module _ (s room : List ℕ) (b : Bool) (now : List ℕ) (c : Keeps (copying room 0 s) b now) where
  pub copied_short : b ≡ false → (length room < length s) × (now ≡ room)
  copied_short e = (omega (arith, leb-false (0 + length s) (length room) (sym c.0 ∙ e)), c.1 ∙ rw e)

  pub copied_whole : b ≡ true → (length s ≤ length room) × (now ≡ s ++ drop (length s) room)
  unfolding put
  copied_whole e =
      let z : 0 + length s ≡ length s = omega arith in
      (omega (arith, leb-true (0 + length s) (length room) (sym c.0 ∙ e)), c.1 ∙ rw (e, z))

-- ---- writing

-- a message handed out: 20 at its end mark, then 15
abbrev pub handing : List ℕ → ℕ → Answer
handing m room =
    refuse (not (keeps_plain m)) outside_profile (length m - 1) (refuse (ltb room (length m)) no_room 0 (Accepted (length m)))

-- what writing gave in a draft, handed out: refused, or the message at the draft's front
abbrev pub handing_by : Answer → List ℕ → ℕ → Answer
handing_by (Accepted n) d room = handing (take n d) room
handing_by (Err r) d room = Err r

-- a message has an octet at least, and lies within the draft
abbrev pub Within : Answer → ℕ → Type 0
Within (Accepted n) l = (0 < n) × (n ≤ l)
Within (Err r) l = Unit {0}

abbrev pub HandsOut : Answer → List ℕ → List ℕ → Answer → List ℕ → Type 0
HandsOut a d room r now =
    (r ≡ handing_by a d (length room)) × (now ≡ room_after (handing_by a d (length room)) (take (given_of a) d) room)

-- accepted: the message at the draft's front
module _ (a : Answer) (n : ℕ) (e : a ≡ Accepted n) (d room : List ℕ) (w : Within a (length d)) where
  pub within : (0 < n) × (n ≤ length d)
  within = rw e at w

  pub front_long : length (take n d) ≡ n
  front_long = length-take-le n d within.1

  pub hands_outside : keeps_plain (take n d) ≡ false → HandsOut a d room (Refused outside_profile (n - 1)) room
  hands_outside k = (rw (e, k, front_long), rw (e, k))

  module _ (k : keeps_plain (take n d) ≡ true) where
    pub hands_short : length room < length (take n d) → HandsOut a d room (Refused no_room 0) room
    hands_short l = let t = lt-ltb (length room) (length (take n d)) l in (rw (e, k, t), rw (e, k, t))

    pub hands_done : length (take n d) ≤ length room → HandsOut a d room (Accepted n) (take n d ++ drop (length (take n d)) room)
    hands_done l = let t = le-ltb (length room) (length (take n d)) l in (rw (e, k, t, front_long), rw (e, k, t))

-- what writing gave in a draft of 272 octets, which suffice: the message of a record that may be written
record Drafted (s : Record) (n : ℕ) : Type 0 where
  accepted : struct_writing s ≡ Accepted n
  length-given : n ≡ length (layout (view s))
  some : 0 < n
  few : n ≤ most_octets
  kept : keeps_plain (layout (view s)) ≡ is_in_profile (view s)

module _ (s : Record) (h : Held (view s)) where
  drafted_so : (n : ℕ) → struct_writing s ≡ Accepted n → Drafted s n
  unfolding struct_writing
  drafted_so n e =
      let m = layout (view s) in
      let w = writing_writable (view s) h n (passed (not (is_whole s)) over_the_limits 0 n (record_writing (view s)) e).1 in
      let l = laid_then_read (view s) (writable_allowed (view s) w.0) in
      record {
        accepted = e;
        length-given = w.1;
        some = omega (arith, w.1, (end_last m (length m) l.0).0);
        few = omega (arith, w.1, l.3);
        kept = keeps_so m l.2 (length m) l.0 ∙ ap is_in_profile l.1;
      }

  drafted : (n : ℕ) → writing_of s most_octets ≡ Accepted n → Drafted s n
  unfolding writing_of
  drafted n e =
      let t = then_passed (struct_writing s) _ n e in
      let u = passed (ltb most_octets t.0) _ 0 n (Accepted t.0) t.2 in
      let same : t.0 ≡ n = ap given_of u.1 in
      drafted_so n (rw same at t.1)

  -- what is handed out of it is the profile's answer, a refusal too
  drafted_handed : (n : ℕ) → Drafted s n → (room : ℕ) → profile_writing s room ≡ handing (layout (view s)) room
  unfolding profile_writing profile_refusal
  drafted_handed n d room = rw (d.accepted, d.kept, d.length-given) (go (is_in_profile (view s)) (length (layout (view s))))
    where
      go : (b : Bool) (n : ℕ)
          → and_then (refuse (not b) outside_profile (n - 1) (Accepted n)) (λ k. refuse (ltb room k) no_room 0 (Accepted k))
          ≡ refuse (not b) outside_profile (n - 1) (refuse (ltb room n) no_room 0 (Accepted n))
      go true n = refl
      go false n = refl

  draft_refused : (k p room : ℕ) (a : Answer) → struct_writing s ≡ a
      → and_then a (λ n. refuse (ltb most_octets n) no_room 0 (Accepted n)) ≡ Refused k p
      → and_then (profiled (view s) a) (λ n. refuse (ltb room n) no_room 0 (Accepted n)) ≡ Refused k p
  draft_refused k p room (Err r) f g = g
  draft_refused k p room (Accepted n) f g =
      let t = rw (le-ltb most_octets n (drafted_so n f).few) at g in
      absurd (let z : ◌≡◌ {A = ℕ} 0 1 = cc in omega arith)

  draft_handed : (d room : List ℕ) (w : Answer) → writing_of s most_octets ≡ w
      → HandsOut w (room_after w (layout (view s)) d) room (profile_writing s (length room)) (profile_written s room)
  unfolding writing_of profile_writing profile_refusal profile_written
  draft_handed d room (Accepted n) e =
      let g = drafted n e in
      let h = drafted_handed n g (length room) in
      let t = take_at (layout (view s)) (drop n d) n (sym g.length-given) in
      (rw t h, rw (t, h))
  draft_handed d room (Err r) e =
      let q = draft_refused r.0 r.1 (length room) (struct_writing s) refl e in
      (q, rw q)

  draft_within : (w : Answer) → writing_of s most_octets ≡ w → Within w most_octets
  draft_within (Accepted n) e = ((drafted n e).some, (drafted n e).few)
  draft_within (Err r) e = tt

-- the same of what a call answered and left in a draft of 272 octets: of a struct, and of an image
module _ (d : List ℕ) (l : length d ≡ most_octets) (a : Answer) (left : List ℕ) where
  module _ (s : Record) (h : Held (view s)) (p : WritePromise s d a left) where
    pub write_within : Within a most_octets
    write_within = rw (p.0, l) (draft_within s h (writing_of s most_octets) refl)

    pub write_handed : (room : List ℕ) (r : Answer) (now : List ℕ) → HandsOut a left room r now → ProfileWritePromise s room r now
    unfolding written_of
    write_handed room r now q =
        let t = draft_handed s h d room (writing_of s most_octets) refl in
        let g : HandsOut (writing_of s most_octets) (room_after (writing_of s most_octets) (layout (view s)) d) room r now =
        rw (p.0, p.1, l) at q in
        (g.0 ∙ sym t.0, g.1 ∙ sym t.1)

module _ (d : List ℕ) (l : length d ≡ most_octets) (a : Answer) (left image : List ℕ) (o : every is_octet image ≡ true)
    (p : ImageWritePromise image d a left) where
  pub image_within : Within a most_octets
  unfolding image_writing
  image_within = rw p.0 (go (imaged_of image).answer)
    where
      go : (b : Answer) → Within (and_then b (λ _. writing_of (imaged_of image).held (length d))) most_octets
      go (Accepted n) = write_within d l _ _ (imaged_of image).held (image_view_held image o) (refl, refl)
      go (Err r) = tt

  pub image_handed : (room : List ℕ) (r : Answer) (now : List ℕ) → HandsOut a left room r now → ProfileImageWritePromise image room r now
  unfolding image_writing image_written written_of profile_image_writing profile_image_written profile_written
  image_handed room r now q = go (imaged_of image).answer (rw (p.0, p.1) at q)
    where
      go : (b : Answer) → let w = and_then b (λ _. writing_of (imaged_of image).held (length d)) in
          HandsOut w (room_after w (layout (view (imaged_of image).held)) d) room r now
          → let g = and_then b (λ _. profile_writing (imaged_of image).held (length room)) in
          (r ≡ g) × (now ≡ room_after g (layout (view (imaged_of image).held)) room)
      go (Accepted n) f = write_handed d l _ _ (imaged_of image).held (image_view_held image o) (refl, refl) room r now f
      go (Err r) f = f
