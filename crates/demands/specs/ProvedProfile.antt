-- What demand 2 says of the mobile call profile (document 02, request f) holds, by what stands in `theorems`.
use Rattle.std.specs.Prelude.{ℕ, ◌-◌, ◌≤◌, ◌<◌, ◌≡◌, Bool, false, not, ◌||◌, List, [], ◌∷◌, ◌++◌, ◌↔◌, eqb, ltb, get_or, take, drop, Err}
use Rattle.std.proofs.Common.{arith, ◌∙◌, take_at}
use Rattle.std.proofs.Math.Path.{refl, sym, ap}
use Rattle.std.proofs.Math.Bool.{true, and-true}
use borrow.Author.Tests.{eqb-true, ltb-true, ltb-false, le-ltb}
use Rattle.std.proofs.Math.ListN.{length}
use Rattle.std.proofs.Math.Seq.{take-append_seam}
use Rattle.annex.specs.Answers.{absent, no_room, outside_profile, refuse, number_of, Answer, Accepted, Refused}
use Rattle.annex.specs.Units.{name_of, extent_of}
use Rattle.annex.specs.Heads.{end_mark, often_of, form_of}
use Rattle.annex.specs.Items.{Item, Part, holding_of, contents_of}
use Rattle.annex.specs.Layout.{layout}
use Rattle.annex.specs.Allowed.{times_in, length_right, items_in, names_of, Allowed, Writable}
use Rattle.annex.specs.Reading.{record_of}
use Rattle.annex.specs.Records.{pad, pack, is_whole, view}
use Rattle.annex.specs.Profile.{
  pair_octets,
  pairs_in,
  OfPairs,
  adjacent_network,
  phs,
  mobile,
  added_class,
  some,
  is_headed,
  is_network,
  InProfile,
  profile_verdict,
  profile_refusal,
  profile_writing,
  network_value,
  values_under,
  classes_of,
  profile_of,
  profile_by,
  profile_reading,
  classes_answer,
  classes_given,
}
use Rattle.annex.specs.Promises.{VerdictPromise, RecordRefusalPromise, ProfileReadPromise, ProfileWritePromise, ClassesPromise}
use Rattle.annex.specs.declared.Check.TheVariants.{Nothing}
use Rattle.annex.specs.declared.ProfileReading.{ProfileReading}
use Rattle.annex.specs.declared.Record.{Record}
use Rattle.laws.specs.Bools.{and_left}
use Rattle.laws.specs.Leaves.{as_they_are}
use Rattle.theorems.specs.Lists.{each_right, times_append, times_here}
use Rattle.theorems.specs.Records.{allowed_items, item_allowed, names_append}
use Rattle.theorems.specs.Layouts.{laid_then_read}
use Rattle.theorems.specs.Views.{FitsStruct, view_pack}
use Rattle.theorems.specs.Writings.{writable_allowed, allowed_writable, StructWritten, struct_written, struct_writes, packed_writes}
use Rattle.theorems.specs.Places.{name_is}
use Rattle.theorems.specs.Finds.{transfer_contents}
use Rattle.theorems.specs.Headed.{some_one, found_in, nothing_found, some_found, values_found}
use Rattle.theorems.specs.Profiles.{
  only_pairs,
  outside_so,
  profile_refuses,
  laid_then_taken,
  taken_exactly,
  profile_written_lem,
  profile_writes,
  profile_room,
  profile_after,
  profile_wrote,
}
use Rattle.tight.specs.Numbers.{profile_answer}
use Rattle.demands.specs.Demands.{Octetwise, IsAccepted}

-- ---- reading

pub profile_verdict_so : (m : List ℕ) (r : ProfileReading) → ProfileReadPromise m r → r.answer ≡ profile_verdict m
unfolding profile_reading
profile_verdict_so m r p = ap (λ (x : ProfileReading). x.answer) p ∙ profile_answer (profile_verdict m) (record_of m)

pub profile_accepted_so : (m : List ℕ) → Octetwise m → (r : ProfileReading) → ProfileReadPromise m r
    → IsAccepted r.answer ↔ ((s : List Part) × Allowed s × InProfile s × (layout s ≡ m))
profile_accepted_so m o r p =
    let v = profile_verdict_so m r p in
    let e = taken_exactly m o in
    (λ w. e.0 (w.0, sym v ∙ w.1), λ w. let t = e.1 w in (t.0, v ∙ t.1))

pub profile_record_so : (s : List Part) → Allowed s → InProfile s → (r : ProfileReading) → ProfileReadPromise (layout s) r
    → r ≡ record { answer = Accepted (length (layout s)); «record» = pack s; profile = profile_of s }
unfolding profile_reading
profile_record_so s a i r p = p ∙ rw (laid_then_taken s a i, (laid_then_read s a).1)

pub profile_passed_so : (m : List ℕ) (k p : ℕ) → VerdictPromise m (Refused k p) → (r : ProfileReading) → ProfileReadPromise m r
    → r.answer ≡ Refused k p
unfolding profile_verdict
profile_passed_so m k p v r q = profile_verdict_so m r q ∙ rw (sym v)

pub profile_outside_so : (s : List Part) → Allowed s → (InProfile s → ⊥) → (r : ProfileReading) → ProfileReadPromise (layout s) r
    → (p : ℕ) × (r.answer ≡ Refused outside_profile p) × (drop p (layout s) ≡ end_mark ∷ [])
profile_outside_so s a f r p =
    let n = length (layout s) in
    let l = laid_then_read s a in
    let d = profile_refuses (layout s) n l.0 (λ i. f (rw l.1 at i)) in
    (n - 1, profile_verdict_so (layout s) r p ∙ d.0, d.1)

pub profile_none_so : (m : List ℕ) (r : ProfileReading) → ProfileReadPromise m r → (k p : ℕ) → r.answer ≡ Refused k p
    → (r.«record» ≡ pack []) × (r.profile ≡ profile_of [])
unfolding profile_reading
profile_none_so m r p k q e = rw p (by (profile_verdict m) (sym (profile_verdict_so m r p) ∙ e))
  where
    by : (a : Answer) → a ≡ Refused k q
        → ((profile_by a (record_of m)).«record» ≡ pack []) × ((profile_by a (record_of m)).profile ≡ profile_of [])
    by (Accepted n) f = absurd (let z : ◌≡◌ {A = ℕ} 0 1 = cc in omega arith)
    by (Err r) f = (refl, refl)

-- ---- writing

-- a struct that was written: nothing refuses it, the room suffices, it may be written, and its record is in the profile
wrote : (q : Record) → FitsStruct q → (room n : ℕ) → profile_writing q room ≡ Accepted n
    → (profile_refusal q ≡ Accepted n) × (n ≤ room) × StructWritten q n × InProfile (view q)
wrote q f room n e =
    let t = profile_wrote q room n e in
    let d = profile_written_lem q n t.0 in
    (t.0, t.1, struct_written q f n d.accepted, d.inside)

pub profile_written_so : (q : Record) → FitsStruct q → (room : List ℕ) (w : Answer) (now : List ℕ) → ProfileWritePromise q room w now
    → IsAccepted w ↔ ((is_whole q ≡ true) × Writable (view q) × InProfile (view q) × (length (layout (view q)) ≤ length room))
profile_written_so q f room w now p = (
  λ a.
      let t = wrote q f (length room) a.0 (sym p.0 ∙ a.1) in
      (t.2.whole, t.2.writable, t.3, rw t.2.length-given at t.1),
  λ a.
      let n = length (layout (view q)) in
      let e = profile_writes q n (struct_writes q a.0 a.1) a.2 in
      (n, p.0 ∙ profile_room q n e (length room) a.3),
)

pub profile_allowed_so : (s : List Part) → Writable s → InProfile s → (room : List ℕ) → length (layout s) ≤ length room
    → (w : Answer) (now : List ℕ) → ProfileWritePromise (pack s) room w now
    → (w ≡ Accepted (length (layout s))) × (now ≡ layout s ++ drop (length (layout s)) room)
profile_allowed_so s a i room l w now p =
    let n = length (layout s) in
    let v : view (pack s) ≡ s = view_pack s (writable_allowed s a).held in
    let e = profile_writes (pack s) n (packed_writes s a) (rw v i) in
    (p.0 ∙ profile_room (pack s) n e (length room) l, p.1 ∙ rw v at (profile_after (pack s) n e room l))

pub profile_message_so : (q : Record) → FitsStruct q → (room : List ℕ) (n : ℕ) (now : List ℕ) → ProfileWritePromise q room (Accepted n) now
    → (n ≡ length (layout (view q))) × (now ≡ layout (view q) ++ drop n room)
profile_message_so q f room n now p =
    let t = wrote q f (length room) n (sym p.0) in
    (t.2.length-given, p.1 ∙ profile_after q n t.0 room t.1)

pub profile_write_passed_so : (q : Record) (k p : ℕ) → RecordRefusalPromise q (Refused k p) → (room : List ℕ) (w : Answer) (now : List ℕ)
    → ProfileWritePromise q room w now → w ≡ Refused k p
unfolding profile_writing profile_refusal
profile_write_passed_so q k p v room w now e = e.0 ∙ rw (sym v)

pub profile_write_outside_so : (q : Record) → is_whole q ≡ true → Writable (view q) → (InProfile (view q) → ⊥)
    → (room : List ℕ) (w : Answer) (now : List ℕ) → ProfileWritePromise q room w now
    → (p : ℕ) × (w ≡ Refused outside_profile p) × (drop p (layout (view q)) ≡ end_mark ∷ [])
unfolding profile_writing profile_refusal
profile_write_outside_so q h a f room w now e =
    let s = view q in
    let n = length (layout s) in
    let l = laid_then_read s (writable_allowed s a) in
    let d = profile_refuses (layout s) n l.0 (λ i. f (rw l.1 at i)) in
    (n - 1, e.0 ∙ rw (struct_writes q h a, outside_so s f), d.1)

-- ---- the round trip

pub profile_back_so : (m : List ℕ) → Octetwise m → (r : ProfileReading) → ProfileReadPromise m r → IsAccepted r.answer
    → (room : List ℕ) → length m ≤ length room → (w : Answer) (now : List ℕ) → ProfileWritePromise r.«record» room w now
    → (w ≡ Accepted (length m)) × (now ≡ m ++ drop (length m) room)
profile_back_so m o r p t room l w now v =
    let d = (profile_accepted_so m o r p).0 t in
    let s = d.0 in
    let same : r.«record» ≡ pack s = ap (λ (x : ProfileReading). x.«record») (profile_record_so s d.1 d.2 r (rw d.3 p)) in
    rw d.3 at (profile_allowed_so s (allowed_writable s d.1) d.2 room (rw d.3 l) w now (rw same at v))

pub profile_reads_so : (q : Record) → FitsStruct q → (room : List ℕ) (n : ℕ) (now : List ℕ) → ProfileWritePromise q room (Accepted n) now
    → (r : ProfileReading) → ProfileReadPromise (take n now) r
    → r ≡ record { answer = Accepted n; «record» = pack (view q); profile = profile_of (view q) }
profile_reads_so q f room n now p r s =
    let t = wrote q f (length room) n (sym p.0) in
    let b = profile_message_so q f room n now p in
    let front : take n now ≡ layout (view q) = rw b.1 (take_at (layout (view q)) (drop n room) n (sym b.0)) in
    rw b.0 (profile_record_so (view q) (writable_allowed (view q) t.2.writable) t.3 r (rw front at s))

-- ---- what is told beside the record

one_value : (vs : List ℕ) → length vs ≡ 1 → vs ≡ get_or vs 0 0 ∷ []
one_value [] e = absurd (omega arith)
one_value (v ∷ []) e = refl
one_value (u ∷ v ∷ vs) e = absurd (omega arith)

-- one transfer parameter of a record in the profile
module _ (s : List Part) (a : Allowed s) (i : InProfile s) (front : List Item) (one : Item) (back : List Item)
    (w : items_in s ≡ front ++ (one ∷ back)) where
  -- its name stands once: none of it stands before, and a test that passes only at the header is a test of this parameter
  module _ (k : ℕ) (single : often_of (name_of k) ≡ 1) (h : one.header ≡ k) where
    once : times_in (name_of k) (names_of (front ++ (one ∷ back))) ≤ 1
    once = rw (w, single) at ((allowed_items s a).often (name_of k))

    none_before : times_in (name_of k) (names_of front) ≡ 0
    none_before =
        let both = rw (names_append front (one ∷ back), times_append, h) at once in
        omega (arith, both, times_here (name_of k) (names_of back))

    some_here : (t : Item → Bool) → ((j : Item) → t j ≡ true → is_headed k j ≡ true) → some t (items_in s) ≡ t one
    some_here t only =
        let name : Item → ℕ = λ j. name_of j.header in
        rw w (some_one name (name_of k) t (λ j e. ap name_of (eqb-true j.header k (only j e))) front one back (ap name_of h) once)

  -- 7E: its contents are one octet, which says 2 or 3
  module _ (h : one.header ≡ adjacent_network) where
    value : ℕ
    value = get_or one.values 0 0

    one_octet : one.values ≡ value ∷ []
    unfolding value length_right contents_of holding_of form_of extent_of
    one_octet =
        one_value one.values (eqb-true (length one.values) 1 (rw h at (item_allowed s a front one back w).length_right_holds))

    says : (x : ℕ) → some (is_network x) (items_in s) ≡ eqb value x
    unfolding value often_of
    says x = some_here adjacent_network refl h (is_network x) (λ j e. and_left (is_headed adjacent_network j) _ e) ∙ rw h

    pub profile_network_so : (one.values ≡ network_value (profile_of s).network ∷ []) × (0 < network_value (profile_of s).network)
    profile_network_so = go (eqb value phs) refl (rw (says phs, says mobile) at i.network)
      where
        go : (b : Bool) → eqb value phs ≡ b → b || eqb value mobile ≡ true
            → (one.values ≡ network_value (profile_of s).network ∷ []) × (0 < network_value (profile_of s).network)
        go true e t = rw (says phs, e) (one_octet ∙ rw (eqb-true value phs e), omega arith)
        go false e t = rw (says phs, e, says mobile, t) (one_octet ∙ rw (eqb-true value mobile t), omega arith)

  -- D6: its contents are pairs laid out, and those are told
  module _ (h : one.header ≡ added_class) where
    pub profile_pairs_so : OfPairs one.values
    profile_pairs_so =
        (each_right (λ (j : Item). is_headed added_class j ≡ true → OfPairs j.values) front (one ∷ back) (rw w at i.opened)).0 (rw h)

    classes_here : (c : OfPairs one.values) → classes_of s ≡ c.pairs
    unfolding form_of often_of
    classes_here c =
        let part = transfer_contents s a (name_of added_class) 0 front one back w (ap name_of h) (none_before added_class refl h) in
        let values : values_under added_class (items_in s) ≡ one.values =
        values_found added_class Nothing refl refl refl s a ∙ part ∙ (as_they_are Nothing one (rw h)).contents in
        ap pairs_in values ∙ sym (only_pairs one.values c)

    pub profile_classes_so : (c : OfPairs one.values) → take (profile_of s).classes (profile_of s).class ≡ c.pairs
    unfolding pad
    profile_classes_so c = rw (classes_here c) (take-append_seam c.pairs _)

    pub classes_told_so : (room : List ℕ) → length one.values ≤ length room
        → (r : Answer) (now : List ℕ) → ClassesPromise (layout s) room r now
        → (r ≡ Accepted (length one.values)) × (now ≡ one.values ++ drop (length one.values) room)
    unfolding classes_answer classes_given often_of
    classes_told_so room l r now p =
        let n = length one.values in
        let same = (laid_then_read s a).1 in
        let there : some (is_headed added_class) (items_in s) ≡ true =
        some_here added_class refl h (is_headed added_class) (λ j e. e) ∙ rw h in
        let octets : pair_octets (classes_of s) ≡ one.values = rw (classes_here profile_pairs_so) profile_pairs_so.laid in
        let given : classes_answer (layout s) (length room) ≡ Accepted n =
        rw (laid_then_taken s a i, same, there, octets, le-ltb (length room) n l) in
        (p.0 ∙ given, p.1 ∙ rw (given, same, octets))

pub profile_unclassed_so : (s : List Part) → Allowed s → times_in (name_of added_class) (names_of (items_in s)) ≡ 0 → (profile_of s).classes ≡ 0
unfolding form_of often_of pairs_in
profile_unclassed_so s a z =
    let none = nothing_found s a (found_in added_class s) (rw z at (name_is (name_of added_class) 0 s a)) in
    ap (λ t. length (pairs_in t)) (values_found added_class Nothing refl refl refl s a ∙ none)

-- where only the room is asked for, no answer is 16
pub room_alone : (b : Bool) (n : ℕ) → refuse b no_room 0 (Accepted n) ≡ Refused absent 0 → ⊥
room_alone true n e = let z : ◌≡◌ {A = ℕ} 15 16 = ap number_of e in omega arith
room_alone false n e = let z : ◌≡◌ {A = ℕ} 0 16 = ap number_of e in omega arith

pub classes_there_so : (s : List Part) → Allowed s → InProfile s → (room : List ℕ) (r : Answer) (now : List ℕ)
    → ClassesPromise (layout s) room r now → (r ≡ Refused absent 0) ↔ (times_in (name_of added_class) (names_of (items_in s)) ≡ 0)
unfolding classes_answer form_of often_of
classes_there_so s a i room r now p = go (ltb 0 times) refl
  where
    times : ℕ
    times = times_in (name_of added_class) (names_of (items_in s))

    n : ℕ
    n = length (pair_octets (classes_of s))

    there : some (is_headed added_class) (items_in s) ≡ ltb 0 times
    there =
        some_found added_class Nothing refl refl refl s a (is_headed added_class) (λ j e. e)
        ∙ rw (name_is (name_of added_class) 0 s a) (and-true (ltb 0 times))

    answer : r ≡ refuse (not (some (is_headed added_class) (items_in s))) absent 0 (refuse (ltb (length room) n) no_room 0 (Accepted n))
    answer = p.0 ∙ rw (laid_then_taken s a i, (laid_then_read s a).1)

    go : (b : Bool) → ltb 0 times ≡ b → (r ≡ Refused absent 0) ↔ (times ≡ 0)
    go true e =
        let stands = ltb-true 0 times e in
        let q : r ≡ refuse (ltb (length room) n) no_room 0 (Accepted n) = answer ∙ rw (there, e) in
        (λ w. absurd (room_alone (ltb (length room) n) n (sym q ∙ w)), λ w. absurd (omega arith))
    go false e =
        let none = ltb-false 0 times e in
        (λ w. omega arith, λ w. answer ∙ rw (there, e))
