-- Laws of D6's pairs as the code walks over them, a pair to a turn.
use Rattle.std.specs.Prelude.{ℕ, suc, ◌+◌, ◌*◌, ◌%◌, ◌≤◌, ◌<◌, ◌≡◌, refl, Bool, true, false, not, ◌&&◌, ◌||◌, List, [], ◌∷◌, ◌++◌, map, eqb, length, get_or, drop, set, replicate}
use Rattle.std.proofs.Common.{arith, sym, ap, ◌∙◌, append_assoc, append-nil, eqb-true, eq-eqb, ne_eqb, length-drop, length-append}
use Rattle.std.proofs.lemmas.Bool.{eqb-false}
use Rattle.std.proofs.lemmas.List.Edits.{sets}
use Rattle.annex.specs.Heads.{among}
use Rattle.annex.specs.Orders.{once}
use Rattle.annex.specs.Allowed.{every}
use Rattle.annex.specs.Records.{pad}
use Rattle.annex.specs.Profile.{class_names, named_class, pairs_in, names_right, pairs_right, most_classes, no_class}
use Rattle.annex.specs.declared.AddedClass.{AddedClass}
use Rattle.laws.specs.Bools.{and_left}
use Rattle.laws.specs.Filling.{sets-append, sets-pad}
use Rattle.laws.specs.Parts.{octet_next}
use Rattle.theorems.specs.Profiles.{classes_few}
use Rattle.profile.specs.declared.Opened.{Opened}

-- the struct that holds pairs
abbrev pub opened_to : List AddedClass → Opened
opened_to cs = record { count = length cs; class = pad most_classes no_class cs }

-- the names of the pairs
abbrev pub names_in : List ℕ → List ℕ
names_in s = map (λ c. c.name) (pairs_in s)

-- ---- one turn

-- a pair is left from i on
module _ (s : List ℕ) (i : ℕ) (l : i + 1 < length s) where
  two_next : drop i s ≡ get_or s i 0 ∷ get_or s (i + 1) 0 ∷ drop (i + 2) s
  two_next =
      let e : i + 1 + 1 ≡ i + 2 = omega arith in
      octet_next s i (omega arith) ∙ ap (λ (t : List ℕ). get_or s i 0 ∷ t) (rw e at (octet_next s (i + 1) l))

  pub pair_next : pairs_in (drop i s) ≡ named_class (get_or s i 0) (get_or s (i + 1) 0) ∷ pairs_in (drop (i + 2) s)
  unfolding pairs_in
  pair_next = rw two_next

-- none is left
few_left : (t : List ℕ) → length t ≤ 1 → pairs_in t ≡ []
unfolding pairs_in
few_left [] l = refl
few_left (x ∷ []) l = refl
few_left (x ∷ y ∷ t) l = absurd (omega arith)

pub pair_none : (s : List ℕ) (i : ℕ) → length s ≤ i + 1 → pairs_in (drop i s) ≡ []
pair_none s i l = few_left (drop i s) (omega (arith, length-drop i s))

-- ---- a name among them

pub named_next : (x : ℕ) (s : List ℕ) (i : ℕ) → i + 1 < length s
    → among x (names_in (drop i s)) ≡ eqb x (get_or s i 0) || among x (names_in (drop (i + 2) s))
named_next x s i l = rw (pair_next s i l)

pub named_none : (x : ℕ) (s : List ℕ) (i : ℕ) → length s ≤ i + 1 → among x (names_in (drop i s)) ≡ false
named_none x s i l = rw (pair_none s i l)

-- ---- the names are right

-- a pair, and the others behind it
turned : (e a l n o : Bool) → e && ((a && l) && (n && o)) ≡ a && (n && (e && (l && o)))
turned true true true true o = refl
turned true true true false o = refl
turned true true false true o = refl
turned true true false false o = refl
turned true false l n o = refl
turned false true l true o = refl
turned false true l false o = refl
turned false false l n o = refl

right_head : (n v : ℕ) (s : List ℕ) → pairs_right (n ∷ v ∷ s) ≡ among n class_names && (not (among n (names_in s)) && pairs_right s)
unfolding pairs_in
right_head n v s =
    let even : suc (suc (length s)) % 2 ≡ length s % 2 = omega arith in
    rw even
    (turned (eqb (length s % 2) 0) (among n class_names) (every (λ c. among c.name class_names) (pairs_in s)) (not (among n (names_in s)))
    (once (names_in s)))

pub right_next : (s : List ℕ) (i : ℕ) → i + 1 < length s
    → pairs_right (drop i s)
    ≡ among (get_or s i 0) class_names && (not (among (get_or s i 0) (names_in (drop (i + 2) s))) && pairs_right (drop (i + 2) s))
right_next s i l = ap pairs_right (two_next s i l) ∙ right_head (get_or s i 0) (get_or s (i + 1) 0) (drop (i + 2) s)

few_right : (t : List ℕ) → length t ≤ 1 → pairs_right t ≡ eqb (length t) 0
unfolding pairs_in
few_right [] l = refl
few_right (x ∷ []) l = refl
few_right (x ∷ y ∷ t) l = absurd (omega arith)

pub right_none : (s : List ℕ) (i : ℕ) → i ≤ length s → length s ≤ i + 1 → pairs_right (drop i s) ≡ eqb i (length s)
right_none s i h l = few_right (drop i s) (omega (arith, length-drop i s)) ∙ go (eqb i (length s)) refl
  where
    go : (b : Bool) → eqb i (length s) ≡ b → eqb (length (drop i s)) 0 ≡ b
    go true e = eq-eqb (length (drop i s)) 0 (omega (arith, length-drop i s, eqb-true i (length s) e))
    go false e = ne_eqb (length (drop i s)) 0 (λ z. eqb-false i (length s) e (omega (arith, length-drop i s)))

-- ---- the pairs put into six places

-- the first k of them stand there, and the others are left
pub record Opening (s : List ℕ) (class : List AddedClass) (k : ℕ) (rest : List ℕ) : Type 0 where
  pub done : List AddedClass
  pub held : class ≡ sets (replicate most_classes no_class) 0 done
  pub whole : done ++ pairs_in rest ≡ pairs_in s
  pub count : length done ≡ k
  pub even : length rest % 2 ≡ 0

pub opening_first : (s : List ℕ) → pairs_right s ≡ true → Opening s (replicate most_classes no_class) 0 s
opening_first s r =
    let even = eqb-true (length s % 2) 0 (and_left (eqb (length s % 2) 0) (names_right (pairs_in s)) r) in
    record { done = []; held = refl; whole = refl; count = refl; even = even }

module _ (s : List ℕ) (class : List AddedClass) (k : ℕ) (rest : List ℕ) (o : Opening s class k rest) (r : pairs_right s ≡ true) where
  -- a pair is left: then so is a place for it
  pub pair_left : 2 ≤ length rest → k < most_classes
  pair_left l =
      let two : 0 + 1 < length rest = omega arith in
      let long : length o.done + suc (length (pairs_in (drop 2 rest))) ≡ length (pairs_in s) =
      sym (length-append o.done (named_class (get_or rest 0 0) (get_or rest 1 0) ∷ pairs_in (drop 2 rest)))
      ∙ rw (← pair_next rest 0 two) (ap length o.whole) in
      omega (arith, o.count, classes_few s r)

  pub opening_next : 2 ≤ length rest → Opening s (set class k (named_class (get_or rest 0 0) (get_or rest 1 0))) (k + 1) (drop 2 rest)
  opening_next l =
      let c = named_class (get_or rest 0 0) (get_or rest 1 0) in
      let z = replicate most_classes no_class in
      let e : 0 + length o.done ≡ k = omega (arith, o.count) in
      let two : 0 + 1 < length rest = omega arith in
      record {
        done = o.done ++ (c ∷ []);
        held = rw o.held (rw e at (sym (sets-append o.done (c ∷ []) z 0)));
        whole = append_assoc o.done (c ∷ []) _ ∙ rw (← pair_next rest 0 two) o.whole;
        count = length-append o.done (c ∷ []) ∙ omega (arith, o.count);
        even = omega (arith, o.even, length-drop 2 rest);
      }

  -- none is left
  pub opening_done : length rest < 2 → (class ≡ pad most_classes no_class (pairs_in s)) × (k ≡ length (pairs_in s))
  opening_done l =
      let all : o.done ≡ pairs_in s = sym (append-nil o.done) ∙ rw (pair_none rest 0 (omega arith)) at o.whole in
      let few = classes_few s r in
      (o.held ∙ rw all (sets-pad most_classes no_class (pairs_in s) few), sym o.count ∙ ap length all)
