-- The mobile call profile (document 02, request f): its test says what `InProfile` says, and the added user classes are pairs in one way
-- alone. Read by the profile is exactly what an allowed record in it lays out to; that record, and what it tells, is the answer; and
-- writing by the profile and reading by it undo each other.
use Rattle.std.specs.Prelude.{ℕ, ◌+◌, ◌-◌, ◌*◌, ◌%◌, ◌≤◌, ◌<◌, ◌≡◌, refl, Bool, true, false, cond, not, ◌&&◌, ◌||◌, List, [], ◌∷◌, ◌++◌, map, ◌↔◌, eqb, ltb, length, drop}
use Rattle.std.proofs.Common.{arith, sym, ◌∙◌, length-append}
use Rattle.std.proofs.Math.Path.{ap}
use borrow.Author.Tests.{eqb-true, eq-eqb, ltb-false, le-ltb, not-false}
use Rattle.std.proofs.lemmas.List.{length-map}
use Rattle.std.proofs.Math.Seq.{drop-append_seam}
use Rattle.annex.specs.Answers.{outside_profile, given_of, Accepted, Refused}
use Rattle.annex.specs.Heads.{among, end_mark}
use Rattle.annex.specs.Orders.{once}
use Rattle.annex.specs.Items.{Item, Part}
use Rattle.annex.specs.Layout.{layout}
use Rattle.annex.specs.Allowed.{every, Each, is_octet, items_in, Allowed}
use Rattle.annex.specs.Reading.{verdict_of, record_of, commons_of, without_end}
use Rattle.annex.specs.Records.{view}
use Rattle.annex.specs.Writing.{struct_writing}
use Rattle.annex.specs.Profile.{
  class_names,
  pair_octets,
  pairs_in,
  names_right,
  OfPairs,
  pairs_right,
  phs,
  mobile,
  originating_region,
  added_class,
  some,
  is_enquiry,
  is_headed,
  is_network,
  InProfile,
  added_right,
  is_in_profile,
  profile_verdict,
  profile_refusal,
  profile_writing,
  profile_written,
  most_classes,
}
use Rattle.annex.specs.declared.AddedClass.{AddedClass}
use Rattle.annex.specs.declared.Record.{Record}
use Rattle.laws.specs.Bools.{and_left, and_right, and_both}
use Rattle.laws.specs.Members.{once_few}
use Rattle.laws.specs.Steps.{passed, then_passed}
use Rattle.theorems.specs.Trails.{laid_out}
use Rattle.theorems.specs.Messages.{message_read, read_then_laid}
use Rattle.theorems.specs.Layouts.{laid_then_read}

-- ---- the pairs of D6

-- laid out, pairs open to themselves
pub pairs_back : (cs : List AddedClass) → pairs_in (pair_octets cs) ≡ cs
unfolding pair_octets pairs_in
pairs_back [] = refl
pairs_back (c ∷ cs) = ap (λ (ds : List AddedClass). c ∷ ds) (pairs_back cs)

pub pairs_even : (cs : List AddedClass) → length (pair_octets cs) ≡ 2 * length cs
unfolding pair_octets
pairs_even [] = refl
pairs_even (c ∷ cs) = omega (arith, pairs_even cs)

-- and contents in which no octet is left over are laid out by the pairs that they open to
pub octets_back : (s : List ℕ) → length s % 2 ≡ 0 → pair_octets (pairs_in s) ≡ s
unfolding pair_octets pairs_in
octets_back [] e = refl
octets_back (n ∷ []) e = absurd (omega arith)
octets_back (n ∷ v ∷ s) e = ap (λ (t : List ℕ). n ∷ v ∷ t) (octets_back s (omega arith))

-- so the test says that they are pairs, in one way alone
pub of_pairs : (s : List ℕ) → (pairs_right s ≡ true) ↔ OfPairs s
of_pairs s = (
  λ e.
      record {
        pairs = pairs_in s;
        laid = octets_back s (eqb-true (length s % 2) 0 (and_left (eqb (length s % 2) 0) (names_right (pairs_in s)) e));
        right = and_right (eqb (length s % 2) 0) (names_right (pairs_in s)) e;
      },
  λ p.
      let even : length s % 2 ≡ 0 = rw (← p.laid) (omega (arith, pairs_even p.pairs)) in
      let same : pairs_in s ≡ p.pairs = rw (← p.laid) (pairs_back p.pairs) in
      and_both (eqb (length s % 2) 0) (names_right (pairs_in s)) (eq-eqb (length s % 2) 0 even) (rw same p.right),
)

pub only_pairs : (s : List ℕ) → (p : OfPairs s) → p.pairs ≡ pairs_in s
only_pairs s p = sym (ap pairs_in (sym p.laid) ∙ pairs_back p.pairs)

-- and there are no more of them than names
pub classes_few : (s : List ℕ) → pairs_right s ≡ true → length (pairs_in s) ≤ most_classes
classes_few s e =
    let cs = pairs_in s in
    let names = map (λ (c : AddedClass). c.name) cs in
    let defined = every (λ (c : AddedClass). among c.name class_names) cs in
    let right = and_right (eqb (length s % 2) 0) (names_right cs) e in
    let few = once_few (λ n. among n class_names) class_names (λ n t. t) names (and_right defined (once names) right)
    (named cs (and_left defined (once names) right)) in
    omega (arith, length-map cs (λ (c : AddedClass). c.name), few)
  where
    named : (cs : List AddedClass) → every (λ (c : AddedClass). among c.name class_names) cs ≡ true
        → every (λ n. among n class_names) (map (λ (c : AddedClass). c.name) cs) ≡ true
    named [] e = refl
    named (c ∷ cs) e =
        and_both (among c.name class_names) _ (and_left (among c.name class_names) _ e)
        (named cs (and_right (among c.name class_names) _ e))

-- ---- the test is the rules

-- of the parameters with a header, each passes
each_headed : (h : ℕ) (t : Item → Bool) (P : Item → Type 0) → ((i : Item) → (t i ≡ true) ↔ P i)
    → (is : List Item) → (every (λ i. cond (is_headed h i) (t i) true) is ≡ true) ↔ Each (λ i. is_headed h i ≡ true → P i) is
each_headed h t P w [] = (λ e. tt, λ e. refl)
each_headed h t P w (i ∷ is) =
    let ih = each_headed h t P w is in
    let here = cond (is_headed h i) (t i) true in
    let rest = every (λ i. cond (is_headed h i) (t i) true) is in (
      λ e. (λ f. (w i).0 (rw f at (and_left here rest e)), ih.0 (and_right here rest e)),
      λ p. and_both here rest (go (is_headed h i) refl p.0) (ih.1 p.1),
    )
  where
    go : (b : Bool) → is_headed h i ≡ b → (b ≡ true → P i) → cond b (t i) true ≡ true
    go true e f = (w i).1 (f refl)
    go false e f = refl

-- and where the one passes, the other does
implied : (a b : Bool) → (cond a b true ≡ true) ↔ (a ≡ true → b ≡ true)
implied true b = (λ e f. e, λ f. f refl)
implied false b = (λ e f. absurd (let z : ◌≡◌ {A = ℕ} 0 1 = cc in omega arith), λ f. refl)

pub in_profile : (r : List Part) → (is_in_profile r ≡ true) ↔ InProfile r
unfolding is_in_profile
in_profile r =
    let is = items_in r in
    let enquiry = some is_enquiry r in
    let network = some (is_network phs) is || some (is_network mobile) is in
    let region = some (is_headed originating_region) is in
    let added = cond (some (is_network mobile) is) (some (is_headed added_class) is) true in
    let opened = every added_right is in
    let asked = implied (some (is_network mobile) is) (some (is_headed added_class) is) in
    let pairs = each_headed added_class (λ i. pairs_right i.values) (λ i. OfPairs i.values) (λ i. of_pairs i.values) is in (
      λ e.
          let e₁ = and_right enquiry (network && (region && (added && opened))) e in
          let e₂ = and_right network (region && (added && opened)) e₁ in
          let e₃ = and_right region (added && opened) e₂ in
          record {
            enquiry = and_left enquiry _ e;
            network = and_left network _ e₁;
            region = and_left region _ e₂;
            added = asked.0 (and_left added opened e₃);
            opened = pairs.0 (and_right added opened e₃);
          },
      λ p.
          and_both enquiry _ p.enquiry
          (and_both network _ p.network
          (and_both region _ p.region
          (and_both added opened (asked.1 p.added) (pairs.1 p.opened)))),
    )

-- ---- reading

refuted : (b : Bool) → (b ≡ true → ⊥) → b ≡ false
refuted true f = absurd (f refl)
refuted false f = refl

pub outside_so : (r : List Part) → (InProfile r → ⊥) → is_in_profile r ≡ false
outside_so r f = refuted (is_in_profile r) (λ t. f ((in_profile r).0 t))

-- the end mark is the last octet of an accepted message
pub end_last : (m : List ℕ) (n : ℕ) → verdict_of m ≡ Accepted n → (0 < n) × (drop (n - 1) m ≡ end_mark ∷ [])
end_last m n e =
    let d = message_read m n e in
    let front = laid_out (without_end (commons_of m)) in
    let long : length m ≡ length front + 1 = ap length (sym d.laid) ∙ length-append front (end_mark ∷ []) in
    let at : n - 1 ≡ length front = omega (arith, d.length-given) in
    (omega (arith, d.length-given), rw at (ap (drop (length front)) (sym d.laid) ∙ drop-append_seam front (end_mark ∷ [])))

module _ (m : List ℕ) (n : ℕ) where
  -- it is taken exactly if reading accepts it and its record is in the profile
  pub profile_taken : profile_verdict m ≡ Accepted n → (verdict_of m ≡ Accepted n) × InProfile (record_of m)
  unfolding profile_verdict
  profile_taken e =
      let t = then_passed (verdict_of m) _ n e in
      let u = passed (not (is_in_profile (record_of m))) _ _ n (Accepted t.0) t.2 in
      let same : t.0 ≡ n = ap given_of u.1 in
      (rw same at t.1, (in_profile (record_of m)).0 (not-false (is_in_profile (record_of m)) u.0))

  pub profile_takes : verdict_of m ≡ Accepted n → InProfile (record_of m) → profile_verdict m ≡ Accepted n
  unfolding profile_verdict
  profile_takes e p = rw (e, (in_profile (record_of m)).1 p)

  -- and else it is refused, by reading or with 20, which stands at the end mark, the message's last octet
  pub profile_refuses : verdict_of m ≡ Accepted n → (InProfile (record_of m) → ⊥)
      → (profile_verdict m ≡ Refused outside_profile (n - 1)) × (drop (n - 1) m ≡ end_mark ∷ [])
  unfolding profile_verdict
  profile_refuses e f = (rw (e, outside_so (record_of m) f), (end_last m n e).1)

-- the message of an allowed record in the profile is taken, and its record is that one
pub laid_then_taken : (r : List Part) → Allowed r → InProfile r → profile_verdict (layout r) ≡ Accepted (length (layout r))
laid_then_taken r a p =
    let l = laid_then_read r a in
    profile_takes (layout r) (length (layout r)) l.0 (rw l.1 p)

-- so a message is taken exactly if such a record lays out to it
pub taken_exactly : (m : List ℕ) → every is_octet m ≡ true
    → ((n : ℕ) × (profile_verdict m ≡ Accepted n)) ↔ ((r : List Part) × Allowed r × InProfile r × (layout r ≡ m))
taken_exactly m o = (
  λ w.
      let t = profile_taken m w.0 w.1 in
      let l = read_then_laid m o w.0 t.0 in
      (record_of m, l.1, t.1, l.2),
  λ w. (length m, rw w.3 at (laid_then_taken w.0 w.1 w.2)),
)

-- ---- writing

-- a struct that is written by the profile is one that writing writes, and its record is in the profile
pub record ProfileWritten (s : Record) (n : ℕ) : Type 0 where
  pub accepted : struct_writing s ≡ Accepted n
  pub inside : InProfile (view s)

pub profile_written_lem : (s : Record) (n : ℕ) → profile_refusal s ≡ Accepted n → ProfileWritten s n
unfolding profile_refusal
profile_written_lem s n e =
    let t = then_passed (struct_writing s) _ n e in
    let u = passed (not (is_in_profile (view s))) _ _ n (Accepted t.0) t.2 in
    let same : t.0 ≡ n = ap given_of u.1 in
    record { accepted = rw same at t.1; inside = (in_profile (view s)).0 (not-false (is_in_profile (view s)) u.0) }

pub profile_writes : (s : Record) (n : ℕ) → struct_writing s ≡ Accepted n → InProfile (view s) → profile_refusal s ≡ Accepted n
unfolding profile_refusal
profile_writes s n e p = rw (e, (in_profile (view s)).1 p)

-- with room for it
module _ (s : Record) (n : ℕ) (e : profile_refusal s ≡ Accepted n) where
  pub profile_room : (room : ℕ) → n ≤ room → profile_writing s room ≡ Accepted n
  unfolding profile_writing
  profile_room room l = rw (e, le-ltb room n l)

  pub profile_after : (room : List ℕ) → n ≤ length room → profile_written s room ≡ layout (view s) ++ drop n room
  unfolding profile_written
  profile_after room l = rw (profile_room (length room) l)

-- and written in some room, it is not refused, and the room suffices
pub profile_wrote : (s : Record) (room n : ℕ) → profile_writing s room ≡ Accepted n → (profile_refusal s ≡ Accepted n) × (n ≤ room)
unfolding profile_writing
profile_wrote s room n e =
    let t = then_passed (profile_refusal s) _ n e in
    let u = passed (ltb room t.0) _ 0 n (Accepted t.0) t.2 in
    let same : t.0 ≡ n = ap given_of u.1 in
    (rw same at t.1, rw same at (ltb-false room t.0 u.0))
