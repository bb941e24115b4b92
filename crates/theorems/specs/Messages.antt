-- A message that is accepted is an allowed record laid out: its common parameters, each of which opens to an allowed part, and the end
-- mark behind them.
use Rattle.std.specs.Prelude.{ℕ, ◌+◌, ◌≤◌, ◌≡◌, refl, Bool, true, false, cond, not, ◌||◌, List, [], ◌∷◌, ◌++◌, map, eqb, ltb, length}
use Rattle.std.proofs.Common.{arith, sym, ap, ◌∙◌, append_assoc, eqb-true, ltb-true, ltb-false, length-append}
use Rattle.std.proofs.lemmas.Bool.{not-true, not-false}
use Rattle.annex.specs.Answers.{over_the_limits, cut_short, Accepted}
use Rattle.annex.specs.Units.{name_of}
use Rattle.annex.specs.Heads.{among, end_mark, user_class, signal_kind, common_headers, most_octets}
use Rattle.annex.specs.Layout.{layout}
use Rattle.annex.specs.Allowed.{every, Each, is_octet, headers_of, part_names_of, Allowed}
use Rattle.annex.specs.Walk.{Seen, unseen, times_seen, counted, Par, walk, listing}
use Rattle.annex.specs.Reading.{
  whole_in,
  common_step,
  common_close,
  message_verdict,
  verdict_of,
  commons_of,
  open_common,
  without_end,
  record_of,
  message_verdict_by,
  verdict_by,
  commons_by,
  record_by,
}
use Rattle.annex.specs.Contents.{fault_of}
use Rattle.laws.specs.Bools.{and_left, and_right, or_right}
use Rattle.laws.specs.Steps.{passed, common_within}
use Rattle.laws.specs.Members.{among_every}
use Rattle.theorems.specs.Lists.{every_left, every_right, each_map}
use Rattle.theorems.specs.Trails.{laid_out, seen_by, Trail, walked}
use Rattle.theorems.specs.Counts.{
  names_in,
  Full,
  full_unseen,
  full_counted,
  none_seen,
  counted_once,
  seen_times,
  Sparing,
  sparing_cons,
  sparing_more,
}
use Rattle.theorems.specs.Steps.{Ending, common_accepted, CommonOwn, common_own}
use Rattle.theorems.specs.Commons.{AllowedPart, PartRead, part_read}
use Rattle.theorems.specs.Records.{Once, allowed, header_stands, Within, allowed_within}

-- ---- the end mark is last, and only last

-- the parameters before it, each accepted, with 01 and 06 seen behind them
abbrev pub Parts : Seen → List Par → Type 0
Parts seen [] = whole_in seen ≡ true
Parts seen (q ∷ qs) = CommonOwn (times_seen seen q.head) q.head q.own × Parts (counted seen q.head) qs

pub record Ended (seen : Seen) (qs ps : List Par) : Type 0 where
  pub laid : laid_out qs ≡ laid_out ps ++ (end_mark ∷ [])
  pub parts : Parts seen ps

nothing : {A : Type 0} (xs : List A) → length xs ≡ 0 → xs ≡ []
nothing [] e = refl
nothing (x ∷ xs) e = absurd (omega arith)

none_laid : (qs : List Par) → length (laid_out qs) ≡ 0 → qs ≡ []
unfolding laid_out
none_laid [] e = refl
none_laid (q ∷ qs) e = absurd (omega arith)

-- a parameter that a record may hold does not have the end mark's name
other_name : (h : ℕ) → among h common_headers ≡ true → eqb (name_of end_mark) (name_of h) ≡ false
other_name h e =
    not-true (eqb (name_of end_mark) (name_of h)) (among_every (λ k. not (eqb (name_of end_mark) (name_of k))) common_headers refl h e)

still_unseen : (seen : Seen) (h : ℕ) → Full seen → among h common_headers ≡ true → times_seen seen end_mark ≡ 0
    → times_seen (counted seen h) end_mark ≡ 0
still_unseen seen h f l z = omega (arith, rw (other_name h l) at (counted_once seen h (name_of end_mark) f))

pub ended : (qs : List Par) (seen : Seen) (p k n : ℕ) → Full seen → times_seen seen end_mark ≡ 0 → Trail common_step seen p qs
    → common_close (seen_by seen qs) k ≡ Accepted n → Ended seen qs (without_end qs)
unfolding seen_by laid_out
ended [] seen p k n f z t c =
    absurd
    (omega (
      arith,
      ltb-true 0 (times_seen seen end_mark) (not-false _ (passed (not (ltb 0 (times_seen seen end_mark))) cut_short k n (Accepted k) c).0),
    ))
ended (q ∷ qs) seen p k n f z t c =
    go (eqb q.head end_mark) refl (ended qs (counted seen q.head) (p + 1 + length q.own) k n (full_counted seen q.head f))
  where
    go : (b : Bool) → eqb q.head end_mark ≡ b
        →
        (times_seen (counted seen q.head) end_mark ≡ 0 → Trail common_step (counted seen q.head) (p + 1 + length q.own) qs
        → common_close (seen_by (counted seen q.head) qs) k ≡ Accepted n → Ended (counted seen q.head) qs (without_end qs))
        → Ended seen (q ∷ qs) (cond b (without_end qs) (q ∷ without_end qs))
    go true e ih =
        let o : Ending (whole_in seen) (length q.own) (q.own ++ laid_out qs) =
        rw e at (common_accepted (times_seen seen q.head) (whole_in seen) q.head (length q.own) (q.own ++ laid_out qs) t.1) in
        let none = none_laid qs (omega (arith, o.nothing, length-append q.own (laid_out qs))) in
        rw none (record { laid = rw (eqb-true q.head end_mark e, nothing q.own o.none); parts = o.whole_seen })
    go false e ih =
        let own = common_own (times_seen seen q.head) (whole_in seen) q.head q.own (laid_out qs) e t.1 in
        let r = ih (still_unseen seen q.head f own.listed z) t.2 c in
        record {
          laid = ap (λ (l : List ℕ). q.head ∷ l) (rw (append_assoc, ← r.laid));
          parts = (own, r.parts);
        }

-- an accepted message: its parameters, then the end mark
pub record MessageRead (m : List ℕ) (n : ℕ) : Type 0 where
  pub length-given : n ≡ length m
  pub few : length m ≤ most_octets
  pub trail : Trail common_step unseen 0 (commons_of m)
  pub laid : laid_out (without_end (commons_of m)) ++ (end_mark ∷ []) ≡ m
  pub parts : Parts unseen (without_end (commons_of m))

pub message_read : (m : List ℕ) (n : ℕ) → verdict_of m ≡ Accepted n → MessageRead m n
unfolding verdict_by message_verdict_by commons_by
message_read m n e =
    let v = passed (eqb (length m) 0 || ltb most_octets (length m)) over_the_limits 0 n (message_verdict m) e in
    let w =
    walked common_step common_close (λ seen h. common_within fault_of (times_seen seen h) (whole_in seen) h) m unseen 0 0 n (omega arith)
    v.1 in
    let qs = walk (listing common_step) unseen 0 0 m in
    let d = ended qs unseen 0 (0 + length m) n full_unseen refl w.trail w.closes in
    let c : Accepted (0 + length m) ≡ Accepted n =
    (passed (not (ltb 0 (times_seen (seen_by unseen qs) end_mark))) cut_short (0 + length m) n (Accepted (0 + length m)) w.closes).1 in
    let same : 0 + length m ≡ n = cc in
    record {
      length-given = omega arith;
      few = ltb-false most_octets (length m) (or_right (eqb (length m) 0) (ltb most_octets (length m)) v.0);
      trail = w.trail;
      laid = sym d.laid ∙ w.whole;
      parts = d.parts;
    }

-- ---- what the parts before it say

whole_behind : (ps : List Par) (seen : Seen) → Parts seen ps → whole_in (seen_by seen ps) ≡ true
unfolding seen_by
whole_behind [] seen w = w
whole_behind (q ∷ ps) seen w = whole_behind ps (counted seen q.head) w.1

sparing_parts : (ps : List Par) (seen : Seen) → Full seen → Sparing (λ x. 1) seen [] → Parts seen ps → Sparing (λ x. 1) seen (names_in ps)
sparing_parts [] seen f s w = s
sparing_parts (q ∷ ps) seen f s w =
    let h = q.head in
    sparing_cons (λ x. 1) seen h f (names_in ps)
    (sparing_parts ps (counted seen h) (full_counted seen h f) (sparing_more (λ x. 1) seen h f s (omega (arith, w.0.new))) w.1)

-- what each opens to
abbrev pub ReadBy : Par → Type 0
ReadBy q = PartRead q.head q.own (open_common q)

parts_laid : (ps : List Par) → Each ReadBy ps → layout (map open_common ps) ≡ laid_out ps ++ (end_mark ∷ [])
unfolding layout laid_out
parts_laid [] r = refl
parts_laid (q ∷ ps) r = rw (r.0.laid, parts_laid ps r.1, append_assoc)

parts_named : (ps : List Par) → Each ReadBy ps → part_names_of (map open_common ps) ≡ names_in ps
parts_named [] r = refl
parts_named (q ∷ ps) r = rw (r.0.header, parts_named ps r.1)

parts_allowed : (ps : List Par) → Parts unseen ps → Each ReadBy ps → Allowed (map open_common ps)
parts_allowed ps w r =
    allowed (map open_common ps) a once (has user_class refl (and_left (stood user_class) (stood signal_kind) whole))
    (has signal_kind refl (and_right (stood user_class) (stood signal_kind) whole))
  where
    stood : ℕ → Bool
    stood k = ltb 0 (times_seen (seen_by unseen ps) k)

    a : Each AllowedPart (map open_common ps)
    a = each_map ReadBy AllowedPart open_common (λ q b. b.allowed) ps r

    sparing : Sparing (λ x. 1) unseen (names_in ps)
    sparing = sparing_parts ps unseen full_unseen (λ u. omega (arith, none_seen u)) w

    once : Once (map open_common ps)
    once u = rw (parts_named ps r) (omega (arith, sparing u))

    whole : whole_in (seen_by unseen ps) ≡ true
    whole = whole_behind ps unseen w

    has : (k : ℕ) → among k common_headers ≡ true → stood k ≡ true → among k (headers_of (map open_common ps)) ≡ true
    has k l e =
        header_stands k l (map open_common ps) a
        (rw (parts_named ps r)
        (omega (arith, ltb-true 0 (times_seen (seen_by unseen ps) k) e, seen_times ps unseen (name_of k) full_unseen, none_seen (name_of k))))

each_part : (ps : List Par) (seen : Seen) → Parts seen ps → every is_octet (laid_out ps) ≡ true → Each ReadBy ps
unfolding laid_out
each_part [] seen w o = tt
each_part (q ∷ ps) seen w o =
    let h = q.head in
    let after = and_right (is_octet h) _ o in (
      part_read q (times_seen seen h) (ltb-true h 256 (and_left (is_octet h) _ o)) (every_left is_octet q.own _ after) w.0,
      each_part ps (counted seen h) w.1 (every_right is_octet q.own _ after),
    )

pub read_then_laid : (m : List ℕ) → every is_octet m ≡ true → (n : ℕ) → verdict_of m ≡ Accepted n
    → (n ≡ length m) × Allowed (record_of m) × (layout (record_of m) ≡ m)
unfolding record_by
read_then_laid m o n e =
    let w = message_read m n e in
    let ps = without_end (commons_of m) in
    let r = each_part ps unseen w.parts (every_left is_octet (laid_out ps) (end_mark ∷ []) (rw w.laid o)) in
    (w.length-given, parts_allowed ps w.parts r, parts_laid ps r ∙ w.laid)

-- the record of an accepted message has room in the struct
pub read_within : (m : List ℕ) → every is_octet m ≡ true → (n : ℕ) → verdict_of m ≡ Accepted n → Within (record_of m)
read_within m o n e = allowed_within (record_of m) (read_then_laid m o n e).1
