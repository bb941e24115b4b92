-- The entries of CC that are left at a cursor, as the code goes over them: those of the carrier entry that it stands in, and the carrier
-- entries behind that. Each turn takes the first of them.
use Rattle.std.specs.Prelude.{ℕ, ◌+◌, ◌-◌, ◌≤◌, ◌<◌, ◌≡◌, true, false, cond, not, ◌&&◌, leb, ltb, length, get_or, take, drop, Err}
use native.Mathlib.Omega.{arith}
use Rattle.std.proofs.Math.Path.{refl, ap}
use Rattle.std.proofs.Common.{sym, subst, ◌∙◌, length-take, drop_of_length-le, drop-drop, get_or-take, length-take-le, take-take}
use Rattle.std.proofs.Math.Bool.{Bool}
use mathlib.Core.List.{List, [], ◌∷◌, ◌++◌, map}
use borrow.Author.Tests.{eqb-true, eqb-false, eq-eqb, ne_eqb, leb-true, leb-false, ltb-true, ltb-false, lt-ltb, le-ltb, not-true}
use Rattle.std.proofs.Math.Dec.{eqb}
use Rattle.std.proofs.Math.ListN.{length-drop}
use Rattle.annex.specs.Answers.{start_of, stop_of, fault_then, Fault, Sound, Found, At, Nowhere}
use Rattle.annex.specs.Carriers.{
  most_direction,
  lowest_carrier,
  lowest_dependent,
  is_tag,
  holds_code,
  entries_in,
  inside_of,
  octets_in,
  entries_right,
  entries_formed,
  entries_fault,
  code_formed,
  code_fault,
  dependent_formed,
  dependent_fault,
  carrier_formed,
  carrier_fault,
  carriers_in,
  carriers_formed,
}
use Rattle.annex.specs.Entering.{first_entry, in_carrier, entry_stretch, entry_behind, entry_next, entry_inside, is_code_here}
use Rattle.annex.specs.Transit.{Entry, entry, flat_entries}
use Rattle.annex.specs.Units.{after_of, lead_of}
use Rattle.annex.specs.Walk.{Par, par_of, pars}
use Rattle.annex.specs.Walking.{stretch_at, cursor_to}
use Rattle.annex.specs.declared.CountingUnit.TheVariants.{Octet}
use Rattle.annex.specs.declared.Cursor.{Cursor}
use Rattle.annex.specs.declared.Extent.TheVariants.{Counted}
use Rattle.laws.specs.Bools.{and_left, and_right}
use Rattle.laws.specs.Parts.{from_to}
use Rattle.laws.specs.Plain.{pars_next, pars_short}

-- ---- what the code asks of the next entry

-- its lowest tag, by its level
abbrev pub lowest_here : Cursor → ℕ
lowest_here c = cond (in_carrier c) lowest_dependent lowest_carrier

abbrev pub formed_in : List ℕ → Cursor → Found → Bool
formed_in s c (At a b) =
    is_tag (lowest_here c) (get_or s c.at 0) && cond (is_code_here s c) (code_formed (take (b - a) (drop a s))) true
formed_in s c Nowhere = false

abbrev pub entry_formed : List ℕ → Cursor → Bool
entry_formed s c = formed_in s c (entry_stretch s c)

abbrev pub fault_in : List ℕ → Cursor → Found → Fault
fault_in s c (At a b) = cond (is_code_here s c) (code_fault a (take (b - a) (drop a s))) Sound
fault_in s c Nowhere = Sound

abbrev pub entry_fault : List ℕ → Cursor → Fault
entry_fault s c = fault_in s c (entry_stretch s c)

-- ---- what is left

-- the octets of the carrier entry, and those behind it
abbrev dependents_left : List ℕ → Cursor → List ℕ
dependents_left s c = drop c.at (take c.end s)

abbrev carriers_left : List ℕ → Cursor → List ℕ
carriers_left s c = drop c.end s

-- their form, what is wrong with their digits, and the entries
abbrev pub formed_left : List ℕ → Cursor → Bool
formed_left s c =
    entries_formed lowest_dependent dependent_formed c.at (dependents_left s c)
    && entries_formed lowest_carrier carrier_formed c.end (carriers_left s c)

abbrev pub fault_left : List ℕ → Cursor → Fault
fault_left s c =
    fault_then (entries_fault dependent_fault (entries_in c.at (dependents_left s c)))
    (entries_fault carrier_fault (entries_in c.end (carriers_left s c)))

abbrev pub entries_left : List ℕ → Cursor → List Entry
entries_left s c = map (entry 2) (entries_in c.at (dependents_left s c)) ++ flat_entries (entries_in c.end (carriers_left s c))

-- a cursor of the code lies within
pub record Lies (s : List ℕ) (c : Cursor) : Type 0 where
  pub ends : c.at ≤ c.end
  pub within : c.end ≤ length s

-- ---- the first entry of octets t from the octet i on

module _ (t : List ℕ) (i : ℕ) where
  -- how many octets behind its tag are its own, and the entry
  abbrev pub own : ℕ
  own = after_of (Counted Octet) (get_or t (i + 1) 0)

  abbrev pub here : Par
  here = par_of i (get_or t i 0) own (drop (i + 1) t)

  -- where it is not cut
  module _ (l : i < length t) (w : own ≤ length t - (i + 1)) where
    own_long : length here.own ≡ own
    own_long = length-take-le own (drop (i + 1) t) (omega (arith, length-drop (i + 1) t))

    first_in : entries_in i (drop i t) ≡ here ∷ entries_in (i + 1 + own) (drop (i + 1 + own) t)
    first_in = pars_next (λ x. Counted Octet) t i own l refl w

    -- it and those behind it take up all the octets if those behind it do
    closed : eqb (octets_in (entries_in i (drop i t))) (length (drop i t))
        ≡ eqb (octets_in (entries_in (i + 1 + own) (drop (i + 1 + own) t))) (length (drop (i + 1 + own) t))
    closed =
        ap (λ (qs : List Par). eqb (octets_in qs) (length (drop i t))) first_in
        ∙ alike (octets_in (entries_in (i + 1 + own) (drop (i + 1 + own) t))) (length (drop (i + 1 + own) t))
        (1 + length here.own + octets_in (entries_in (i + 1 + own) (drop (i + 1 + own) t))) (length (drop i t))
        (omega (arith, own_long))
        (omega (arith, own_long, length-drop i t, length-drop (i + 1 + own) t))
      where
        alike : (a b c d : ℕ) → c ≡ 1 + own + a → d ≡ 1 + own + b → eqb c d ≡ eqb a b
        alike a b c d e f = go (eqb a b) refl
          where
            go : (x : Bool) → eqb a b ≡ x → eqb c d ≡ x
            go true q = eq-eqb c d (omega (arith, eqb-true a b q))
            go false q = ne_eqb c d (λ z. eqb-false a b q (omega arith))

    formed_first : (lowest : ℕ) (right : Par → Bool)
        → entries_formed lowest right i (drop i t)
        ≡ is_tag lowest (get_or t i 0) && right here && entries_formed lowest right (i + 1 + own) (drop (i + 1 + own) t)
    unfolding entries_formed
    formed_first lowest right =
        ap (λ (b : Bool). b && entries_right lowest right (entries_in i (drop i t))) closed
        ∙ ap (λ (qs : List Par). more && entries_right lowest right qs) first_in
        ∙ turned more (is_tag lowest (get_or t i 0)) (right here) _
      where
        more : Bool
        more = eqb (octets_in (entries_in (i + 1 + own) (drop (i + 1 + own) t))) (length (drop (i + 1 + own) t))

        turned : (m a b r : Bool) → m && (a && b && r) ≡ a && b && (m && r)
        turned true a b r = refl
        turned false true true r = refl
        turned false true false r = refl
        turned false false b r = refl

  -- where it is cut the form is wrong
  formed_cut : i < length t → length t - (i + 1) < own → (lowest : ℕ) (right : Par → Bool) → entries_formed lowest right i (drop i t) ≡ false
  unfolding entries_formed
  formed_cut l w lowest right =
      rw (pars_short (λ x. Counted Octet) t i own l refl w, ne_eqb 0 (length (drop i t)) (λ e. omega (arith, length-drop i t)))

-- no octets are no entries
pub formed_none : (lowest : ℕ) (right : Par → Bool) (at : ℕ) → entries_formed lowest right at [] ≡ true
unfolding entries_formed pars
formed_none lowest right at = refl

-- ---- where the next entry stands

pub record Stands (n i a b : ℕ) : Type 0 where
  pub tag : i < n
  pub start : a ≡ i + 2
  pub order : a ≤ b
  pub within : b ≤ n

-- its length octet counts what it holds
abbrev pub Sized : List ℕ → ℕ → ℕ → ℕ → Type 0
Sized t i a b = b ≡ a + get_or t (i + 1) 0

stretch_stands : (t : List ℕ) (i a b : ℕ) → stretch_at t i (Counted Octet) ≡ At a b → Stands (length t) i a b × Sized t i a b
unfolding stretch_at lead_of after_of
stretch_stands t i a b e = go (ltb i (length t)) (leb (own t i) (length t - (i + 1))) refl refl e
  where
    go : (x y : Bool) → ltb i (length t) ≡ x → leb (own t i) (length t - (i + 1)) ≡ y
        → cond x (cond y (At (i + 1 + 1) (i + 1 + own t i)) Nowhere) Nowhere ≡ At a b → Stands (length t) i a b × Sized t i a b
    go true true p q f =
        let u : i + 1 + 1 ≡ a = ap start_of f in
        let v : i + 1 + own t i ≡ b = ap stop_of f in
        let l = ltb-true i (length t) p in
        let m = leb-true (own t i) (length t - (i + 1)) q in
        (record { tag = l; start = omega arith; order = omega arith; within = omega arith }, omega arith)
    go true false p q f = absurd (let z : ◌≡◌ {A = ℕ} 0 1 = cc in omega arith)
    go false y p q f = absurd (let z : ◌≡◌ {A = ℕ} 0 1 = cc in omega arith)

entry_found_lem : (s : List ℕ) (c : Cursor) (a b : ℕ) → entry_stretch s c ≡ At a b → Stands (length s) c.at a b × Sized s c.at a b
unfolding entry_stretch
entry_found_lem s c a b e = go (in_carrier c) (ltb (length s) c.end) refl e
  where
    go : (x y : Bool) → ltb (length s) c.end ≡ y
        → cond x (cond y Nowhere (stretch_at (take c.end s) c.at (Counted Octet))) (stretch_at s c.at (Counted Octet)) ≡ At a b
        → Stands (length s) c.at a b × Sized s c.at a b
    go false y q f = stretch_stands s c.at a b f
    go true true q f = absurd (let z : ◌≡◌ {A = ℕ} 0 1 = cc in omega arith)
    go true false q f =
        let found = stretch_stands (take c.end s) c.at a b f in
        let k = found.0 in
        let l : length (take c.end s) ≡ c.end = length-take-le c.end s (ltb-false (length s) c.end q) in
        let w = ltb-false (length s) c.end q in
        let octet = get_or-take c.end s (c.at + 1) 0 (omega (arith, k.start, k.order, k.within, l)) in (
          record {
            tag = omega (arith, k.tag, l, w);
            start = k.start;
            order = k.order;
            within = omega (arith, k.within, l, w);
          },
          omega (arith, found.1, octet),
        )

pub entry_stands : (s : List ℕ) (c : Cursor) (a b : ℕ) → entry_stretch s c ≡ At a b → Stands (length s) c.at a b
entry_stands s c a b e = (entry_found_lem s c a b e).0

pub entry_sized : (s : List ℕ) (c : Cursor) (a b : ℕ) → entry_stretch s c ≡ At a b → Sized s c.at a b
entry_sized s c a b e = (entry_found_lem s c a b e).1

-- ---- the next entry at a cursor

-- what holds of it holds where it is cut, and where it is whole
next_by : (t : List ℕ) (i : ℕ) → i < length t → (P : Found → Type 0) → (length t - (i + 1) < own t i → P Nowhere)
    → (own t i ≤ length t - (i + 1) → P (At (i + 2) (i + 1 + own t i))) → P (stretch_at t i (Counted Octet))
unfolding stretch_at lead_of
next_by t i l P cut whole = go (leb (own t i) (length t - (i + 1))) refl
  where
    go : (b : Bool) → leb (own t i) (length t - (i + 1)) ≡ b
        → P (cond (ltb i (length t)) (cond b (At (i + 1 + 1) (i + 1 + own t i)) Nowhere) Nowhere)
    go true e =
        let a : i + 2 ≡ i + 1 + 1 = omega arith in
        rw (lt-ltb i (length t) l, ← a) (whole (leb-true _ _ e))
    go false e = rw (lt-ltb i (length t) l) (cut (leb-false _ _ e))

-- what the entry holds, where the octets of its level, up to its end, are those of s
inside_part : (s t : List ℕ) (i : ℕ) → take (i + 1 + own t i) t ≡ take (i + 1 + own t i) s
    → inside_of (here t i) ≡ take (i + 1 + own t i - (i + 2)) (drop (i + 2) s)
inside_part s t i e =
    let n = own t i in
    let less : i + 1 + n - (i + 1) ≡ n = omega arith in
    let two : i + 1 + 1 ≡ i + 2 = omega arith in
    ap (λ (ys : List ℕ). drop 1 ys) (rw less at (from_to (i + 1) (i + 1 + n) t) ∙ ap (drop (i + 1)) e)
    ∙ drop-drop 1 (i + 1) (take (i + 1 + n) s) ∙ ap (λ (j : ℕ). drop j (take (i + 1 + n) s)) two
    ∙ sym (from_to (i + 2) (i + 1 + n) s)

and_moved : (a r u : Bool) → (a && r) && u ≡ a && (r && u)
and_moved true r u = refl
and_moved false r u = refl

carried : (a d r : Bool) → (a && d) && r ≡ (a && true) && (d && r)
carried true d r = refl
carried false d r = refl

then_moved : (f g h : Fault) → fault_then (fault_then f g) h ≡ fault_then f (fault_then g h)
then_moved Sound g h = refl
then_moved (Err r) g h = refl

-- the next entry, with its level
abbrev pub entry_here : List ℕ → Cursor → Entry
entry_here s c = cond (in_carrier c) (entry 2 (here (take c.end s) c.at)) (entry 1 (here s c.at))

-- what a turn gives, of what was found
pub record Turn (s : List ℕ) (c : Cursor) (f : Found) : Type 0 where
  pub formed : formed_left s c ≡ formed_in s c f && formed_left s (entry_behind s c f)
  pub fault : formed_in s c f ≡ true → fault_left s c ≡ fault_then (fault_in s c f) (fault_left s (entry_behind s c f))
  pub entries : formed_in s c f ≡ true → entries_left s c ≡ entry_here s c ∷ entries_left s (entry_behind s c f)
  pub held : formed_in s c f ≡ true → inside_of (entry_here s c).par ≡ take (stop_of f - start_of f) (drop (start_of f) s)
  pub lies : Lies s (entry_behind s c f)
  pub onward : c.at < (entry_behind s c f).at

never : {A : Type 0} → false ≡ true → A
never e = absurd (let z : ◌≡◌ {A = ℕ} 0 1 = cc in omega arith)

-- where it is cut
cut_turn : (s : List ℕ) (c : Cursor) → Lies s c → c.at < length s → formed_left s c ≡ false → Turn s c Nowhere
cut_turn s c i l e =
    record {
      formed = e;
      fault = never;
      entries = never;
      held = never;
      lies = record { ends = omega arith; within = omega arith };
      onward = l;
    }

-- some octet is behind a tag
own_some : (t : List ℕ) (i : ℕ) → 1 ≤ own t i
unfolding after_of
own_some t i = omega arith

-- in a carrier entry
module _ (s : List ℕ) (at end : ℕ) (l : at < end) (w : end ≤ length s) where
  abbrev t : List ℕ
  t = take end s

  abbrev n : ℕ
  n = own t at

  long : length t ≡ end
  long = length-take-le end s w

  inside : at < length t
  inside = omega (arith, long)

  tag : get_or t at 0 ≡ get_or s at 0
  tag = get_or-take end s at 0 l

  -- a dependent entry that is whole
  module _ (m : n ≤ length t - (at + 1)) where
    part : inside_of (here t at) ≡ take (at + 1 + n - (at + 2)) (drop (at + 2) s)
    part = inside_part s t at (take-take (at + 1 + n) end s (omega (arith, long)))

    abbrev held_octets : List ℕ
    held_octets = take (at + 1 + n - (at + 2)) (drop (at + 2) s)

    -- its form, the fault of its digits, and those of the entries behind it at its level and above
    abbrev right_here : Bool
    right_here = is_tag lowest_dependent (get_or s at 0) && cond (holds_code (get_or s at 0)) (code_formed held_octets) true

    abbrev fault_here : Fault
    fault_here = cond (holds_code (get_or s at 0)) (code_fault (at + 2) held_octets) Sound

    abbrev rest : List Par
    rest = entries_in (at + 1 + n) (drop (at + 1 + n) t)

    abbrev right_behind : Bool
    right_behind = entries_formed lowest_dependent dependent_formed (at + 1 + n) (drop (at + 1 + n) t)

    abbrev right_above : Bool
    right_above = entries_formed lowest_carrier carrier_formed end (drop end s)

    abbrev above : List Par
    above = entries_in end (drop end s)

    formed_here : entries_formed lowest_dependent dependent_formed at (drop at t) ≡ right_here && right_behind
    formed_here = formed_first t at inside m lowest_dependent dependent_formed ∙ rw (tag, part)

    faulty_here : entries_fault dependent_fault (entries_in at (drop at t)) ≡ fault_then fault_here (entries_fault dependent_fault rest)
    unfolding entries_fault
    faulty_here = ap (entries_fault dependent_fault) (first_in t at inside m) ∙ rw (tag, part)

    dependent_turn : Turn s (cursor_to at end) (At (at + 2) (at + 1 + n))
    dependent_turn =
        record {
          formed =
              rw (lt-ltb at end l)
              (ap (λ (b : Bool). b && right_above) formed_here ∙ and_moved right_here right_behind right_above);
          fault = λ _.
              rw (lt-ltb at end l)
              (ap (λ (f : Fault). fault_then f (entries_fault carrier_fault above)) faulty_here
              ∙ then_moved fault_here (entries_fault dependent_fault rest) (entries_fault carrier_fault above));
          entries = λ _.
              rw (lt-ltb at end l) (ap (λ (qs : List Par). map (entry 2) qs ++ flat_entries above) (first_in t at inside m));
          held = λ _. rw (lt-ltb at end l) part;
          lies = rw (lt-ltb at end l) (record { ends = omega (arith, long); within = w });
          onward = rw (lt-ltb at end l) (omega arith);
        }

-- between carrier entries
module _ (s : List ℕ) (at : ℕ) (l : at < length s) where
  abbrev k : ℕ
  k = own s at

  -- nothing is left of the one before
  none_left : drop at (take at s) ≡ []
  none_left = drop_of_length-le (take at s) {i = at} (simp length-take (omega arith))

  -- a carrier entry that is whole
  module _ (m : k ≤ length s - (at + 1)) where
    held_so : inside_of (here s at) ≡ take (at + 1 + k - (at + 2)) (drop (at + 2) s)
    held_so = inside_part s s at refl

    -- the octets of the entry, as a cursor in it has them
    entered : inside_of (here s at) ≡ drop (at + 2) (take (at + 1 + k) s)
    entered = held_so ∙ from_to (at + 2) (at + 1 + k) s

    abbrev right_inside : Bool
    right_inside = entries_formed lowest_dependent dependent_formed (at + 2) (drop (at + 2) (take (at + 1 + k) s))

    abbrev right_next : Bool
    right_next = entries_formed lowest_carrier carrier_formed (at + 1 + k) (drop (at + 1 + k) s)

    formed_entry : entries_formed lowest_carrier carrier_formed at (drop at s)
        ≡ is_tag lowest_carrier (get_or s at 0) && right_inside && right_next
    formed_entry = formed_first s at l m lowest_carrier carrier_formed ∙ rw entered

    carrier_turn : Turn s (cursor_to at at) (At (at + 2) (at + 1 + k))
    unfolding entries_fault flat_entries pars
    carrier_turn =
        record {
          formed =
              rw (le-ltb at at (omega arith), none_left, formed_none lowest_dependent dependent_formed at)
              (formed_entry ∙ carried (is_tag lowest_carrier (get_or s at 0)) right_inside right_next);
          fault = λ _.
              rw (le-ltb at at (omega arith), none_left) (ap (entries_fault carrier_fault) (first_in s at l m) ∙ rw entered);
          entries = λ _.
              rw (le-ltb at at (omega arith), none_left) (ap flat_entries (first_in s at l m) ∙ rw entered);
          held = λ _. rw (le-ltb at at (omega arith)) held_so;
          lies = rw (le-ltb at at (omega arith)) (record { ends = omega (arith, own_some s at); within = omega arith });
          onward = rw (le-ltb at at (omega arith)) (omega arith);
        }

-- ---- a turn

turn : (s : List ℕ) (c : Cursor) → Lies s c → c.at < length s → Turn s c (entry_stretch s c)
unfolding entry_stretch
turn s c i l = go (in_carrier c) refl
  where
    between : (e : ℕ) → e ≡ c.at → Turn s (cursor_to c.at e) (stretch_at s c.at (Counted Octet))
    between e q =
        subst (λ (x : ℕ). Turn s (cursor_to c.at x) (stretch_at s c.at (Counted Octet))) (sym q)
        (next_by s c.at l (Turn s (cursor_to c.at c.at))
        (λ m. cut_turn s (cursor_to c.at c.at) (record { ends = omega arith; within = omega arith }) l
        (rw (none_left s c.at l, formed_none lowest_dependent dependent_formed c.at)
        (formed_cut s c.at l m lowest_carrier carrier_formed)))
        (carrier_turn s c.at l))

    go : (b : Bool) → in_carrier c ≡ b
        → Turn s c
        (cond b (cond (ltb (length s) c.end) Nowhere (stretch_at (take c.end s) c.at (Counted Octet)))
        (stretch_at s c.at (Counted Octet)))
    go true e =
        let k : c.at < c.end = ltb-true c.at c.end e in
        let w = i.within in
        let t : List ℕ = take c.end s in
        rw (le-ltb (length s) c.end w)
        (next_by t c.at (inside s c.at c.end k w) (Turn s c)
        (λ m. cut_turn s c i l (rw (formed_cut t c.at (inside s c.at c.end k w) m lowest_dependent dependent_formed)))
        (dependent_turn s c.at c.end k w))
    go false e = between c.end (omega (arith, ltb-false c.at c.end e, i.ends))

-- as the code takes it
module _ (s : List ℕ) (c : Cursor) (i : Lies s c) (l : c.at < length s) where
  pub formed_turn : formed_left s c ≡ entry_formed s c && formed_left s (entry_next s c)
  unfolding entry_next
  formed_turn = (turn s c i l).formed

  pub fault_turn : entry_formed s c ≡ true → fault_left s c ≡ fault_then (entry_fault s c) (fault_left s (entry_next s c))
  unfolding entry_next
  fault_turn = (turn s c i l).fault

  pub entries_turn : entry_formed s c ≡ true → entries_left s c ≡ entry_here s c ∷ entries_left s (entry_next s c)
  unfolding entry_next
  entries_turn = (turn s c i l).entries

  pub held_here : entry_formed s c ≡ true → inside_of (entry_here s c).par ≡ entry_inside s c
  held_here = (turn s c i l).held

  pub lies_next : Lies s (entry_next s c)
  unfolding entry_next
  lies_next = (turn s c i l).lies

  pub goes_on : c.at < (entry_next s c).at
  unfolding entry_next
  goes_on = (turn s c i l).onward

-- ---- the first and the last

pub lies_first : (s : List ℕ) → (length s ≡ 0 → ⊥) → Lies s first_entry
lies_first s n = record { ends = omega arith; within = omega (arith, n) }

front_none : (s : List ℕ) → drop 1 (take 1 s) ≡ []
front_none s = drop_of_length-le (take 1 s) {i = 1} (simp length-take (omega arith))

pub formed_first_left : (s : List ℕ) → formed_left s first_entry ≡ entries_formed lowest_carrier carrier_formed 1 (drop 1 s)
formed_first_left s = rw (front_none s, formed_none lowest_dependent dependent_formed 1)

-- in contents of the right form
pub formed_start : (s : List ℕ) → carriers_formed s ≡ true → Lies s first_entry × (formed_left s first_entry ≡ true)
unfolding carriers_formed
formed_start s e =
    let some = not (eqb (length s) 0) in
    let low = leb (get_or s 0 0) most_direction in
    let rest = and_right some _ e in (
      lies_first s (eqb-false (length s) 0 (not-true (eqb (length s) 0) (and_left some _ e))),
      formed_first_left s ∙ and_right low _ rest,
    )

pub fault_first_left : (s : List ℕ) → fault_left s first_entry ≡ entries_fault carrier_fault (carriers_in s)
unfolding entries_fault pars
fault_first_left s = rw (front_none s)

pub entries_first_left : (s : List ℕ) → entries_left s first_entry ≡ flat_entries (carriers_in s)
unfolding pars
entries_first_left s = rw (front_none s)

-- past the last nothing is left
module _ (s : List ℕ) (c : Cursor) (i : Lies s c) (l : length s ≤ c.at) where
  past_dependents : dependents_left s c ≡ []
  past_dependents = drop_of_length-le (take c.end s) {i = c.at} (simp length-take (omega arith))

  past_carriers : carriers_left s c ≡ []
  past_carriers = drop_of_length-le s {i = c.end} (omega (arith, i.ends))

  pub formed_past : formed_left s c ≡ true
  formed_past =
      rw (
        past_dependents,
        past_carriers,
        formed_none lowest_dependent dependent_formed c.at,
        formed_none lowest_carrier carrier_formed c.end,
      )

  pub fault_past : fault_left s c ≡ Sound
  unfolding entries_fault pars
  fault_past = rw (past_dependents, past_carriers)

  pub entries_past : entries_left s c ≡ []
  unfolding flat_entries pars
  entries_past = rw (past_dependents, past_carriers)
