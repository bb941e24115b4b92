-- Laws of the entries of carriers (CC), at either level, and of a carrier code.
use Rattle.std.specs.Prelude.{ℕ, zero, suc, ◌+◌, ◌-◌, ◌*◌, ◌/◌, ◌%◌, ◌≤◌, ◌≡◌, refl, Bool, true, false, cond, not, ◌&&◌, ◌||◌, List, [], ◌∷◌, ◌++◌, map, eqb, leb, length, get_or, take, drop}
use Rattle.std.proofs.Common.{arith, sym, ap, ◌∙◌, append_assoc, append-nil, eqb-true, ne_eqb, leb-true, length-drop, length-append, take-append-drop, drop_of_length-le, drop-drop, length-take-le}
use Rattle.std.proofs.lemmas.List.{length-map}
use Rattle.annex.specs.Allowed.{every, Each}
use Rattle.annex.specs.Carriers.{
  entry_size,
  entries_in,
  inside_of,
  inside_at,
  octets_in,
  dependents_in,
  carriers_in,
  odd_count,
  even_count,
  code_formed,
  code_count,
  code_fault,
  code_digits,
}
use Rattle.annex.specs.Digits.{is_digit_in, digits_of, packed, halves_for}
use Rattle.annex.specs.Heads.{among}
use Rattle.annex.specs.Layout.{lay_all}
use Rattle.annex.specs.Transit.{code_octets, Entry, entry, no_entry, flat_entries, entries_of, is_code_entry, digits_in}
use Rattle.annex.specs.Units.{after_of, octets_of}
use Rattle.annex.specs.Walk.{Par, par_of, pars}
use Rattle.annex.specs.declared.Alphabet.TheVariants.{Decimal}
use Rattle.annex.specs.Answers.{Sound}
use Rattle.laws.specs.Bools.{and_left, and_right}
use Rattle.laws.specs.Halves.{length-digits_of}
use Rattle.laws.specs.Joined.{length-packed, packed_back, packed_sound, unpacked}

-- behind a tag stand the length octet and the octets that it counts
pub entry_size_lem : (t : ℕ) (xs : List ℕ) → entry_size t xs ≡ 1 + get_or xs 0 0
unfolding after_of
entry_size_lem t xs = refl

-- ---- octets as entries

-- an entry from its tag to its end
abbrev pub raw_entry : Par → List ℕ
raw_entry q = q.head ∷ q.own

-- its length octet counts what it holds
abbrev pub Counts : Par → Type 0
Counts q = q.own ≡ length (inside_of q) ∷ inside_of q

counts_own : (xs : List ℕ) (n : ℕ) → n ≡ 1 + get_or xs 0 0 → n ≤ length xs → take n xs ≡ length (drop 1 (take n xs)) ∷ drop 1 (take n xs)
counts_own [] n e l = absurd (omega arith)
counts_own (x ∷ xs) zero e l = absurd (omega arith)
counts_own (x ∷ xs) (suc n) e l =
    let same : length (take n xs) ≡ x = length-take-le n xs (omega arith) ∙ omega arith in
    ap (λ (y : ℕ). y ∷ take n xs) (sym same)

-- so it is of each, and one behind the other they are the octets, up to what they do not take up
pub entries_count : (k p : ℕ) (xs : List ℕ) → Each Counts (pars entry_size k p xs)
unfolding pars
entries_count k p [] = tt
entries_count (suc k) p (x ∷ xs) = entries_count k (p + 1) xs
entries_count zero p (x ∷ xs) = go (leb n (length xs)) refl (entries_count n (p + 1) xs)
  where
    n : ℕ
    n = entry_size x xs

    go : (b : Bool) → leb n (length xs) ≡ b → Each Counts (pars entry_size n (p + 1) xs)
        → Each Counts (cond b (par_of p x n xs ∷ pars entry_size n (p + 1) xs) [])
    go true e ih = (counts_own xs n (entry_size_lem x xs) (leb-true n (length xs) e), ih)
    go false e ih = tt

entries_raw : (k p : ℕ) (xs : List ℕ) →
    let qs = pars entry_size k p xs in
    lay_all raw_entry qs ++ drop (octets_in qs) (drop k xs) ≡ drop k xs
unfolding pars
entries_raw zero p [] = refl
entries_raw (suc k) p [] = refl
entries_raw (suc k) p (x ∷ xs) = entries_raw k (p + 1) xs
entries_raw zero p (x ∷ xs) = go (leb n (length xs)) refl (entries_raw n (p + 1) xs)
  where
    n : ℕ
    n = entry_size x xs

    rest : List Par
    rest = pars entry_size n (p + 1) xs

    go : (b : Bool) → leb n (length xs) ≡ b → lay_all raw_entry rest ++ drop (octets_in rest) (drop n xs) ≡ drop n xs →
        let qs = cond b (par_of p x n xs ∷ rest) [] in
        lay_all raw_entry qs ++ drop (octets_in qs) (x ∷ xs) ≡ x ∷ xs
    go false e ih = refl
    go true e ih =
        let long : length (take n xs) ≡ n = length-take-le n xs (leb-true n (length xs) e) in
        let far : 1 + length (take n xs) + octets_in rest ≡ suc (n + octets_in rest) = omega (arith, long) in
        rw far
        (ap (λ (ys : List ℕ). x ∷ ys)
        (append_assoc (take n xs) (lay_all raw_entry rest) (drop (n + octets_in rest) xs)
        ∙ ap (λ (ys : List ℕ). take n xs ++ (lay_all raw_entry rest ++ ys)) (sym (drop-drop (octets_in rest) n xs))
        ∙ ap (λ (ys : List ℕ). take n xs ++ ys) ih ∙ take-append-drop n xs))

-- where the last ends with the octets they are all of them
pub entries_all : (at : ℕ) (xs : List ℕ) → octets_in (entries_in at xs) ≡ length xs → lay_all raw_entry (entries_in at xs) ≡ xs
entries_all at xs e =
    let none : drop (octets_in (entries_in at xs)) xs ≡ [] = drop_of_length-le xs {i = octets_in (entries_in at xs)} (omega (arith, e)) in
    sym (append-nil (lay_all raw_entry (entries_in at xs)))
    ∙ ap (λ (ys : List ℕ). lay_all raw_entry (entries_in at xs) ++ ys) (sym none) ∙ entries_raw 0 at xs

-- ---- how many there are

-- entries take up no more octets than there are, and each at least two: its tag and its length octet
raw_long : (qs : List Par) → length (lay_all raw_entry qs) ≡ octets_in qs
raw_long [] = refl
raw_long (q ∷ qs) = simp length-append (omega (arith, raw_long qs))

octets_within : (at : ℕ) (xs : List ℕ) → octets_in (entries_in at xs) ≤ length xs
octets_within at xs =
    let qs = entries_in at xs in
    omega (arith, raw_long qs, simp length-append at (ap length (entries_raw 0 at xs)))

entries_few : (qs : List Par) → Each Counts qs → 2 * length qs ≤ octets_in qs
entries_few [] c = omega arith
entries_few (q ∷ qs) c = omega (arith, entries_few qs c.1, ap length c.0)

-- so it is where carrier entries have dependent entries in them
flat_few : (qs : List Par) → Each Counts qs → 2 * length (flat_entries qs) ≤ octets_in qs
unfolding flat_entries
flat_few [] c = omega arith
flat_few (q ∷ qs) c =
    let inside = entries_in (inside_at q) (inside_of q) in
    let own = ap length c.0 in
    simp (length-append, length-map)
    (omega (
      arith,
      flat_few qs c.1,
      entries_few inside (entries_count 0 (inside_at q) (inside_of q)),
      octets_within (inside_at q) (inside_of q),
      own,
    ))

-- with the direction's, half as many as octets, and one
pub entries_of_few : (s : List ℕ) → length (entries_of s) ≤ 1 + (length s - 1) / 2
unfolding entries_of
entries_of_few s =
    omega (
      arith,
      flat_few (carriers_in s) (entries_count 0 1 (drop 1 s)),
      octets_within 1 (drop 1 s),
      length-drop 1 s,
    )

-- ---- how much a dependent entry holds

-- an entry lies within the octets
short_entries : (n : ℕ) (qs : List Par) → octets_in qs ≤ n → Each (λ q. 1 + length q.own ≤ n) qs
short_entries n [] l = tt
short_entries n (q ∷ qs) l = (omega arith, short_entries n qs (omega arith))

-- so one in a carrier entry is shorter by its own tag and length octet, and by those of the carrier entry
abbrev Shorter : ℕ → Entry → Type 0
Shorter n e = e.level ≡ 2 → length e.par.own + 3 ≤ n

inner_shorter : (n k : ℕ) (qs : List Par) → Each (λ q. 1 + length q.own ≤ k) qs → k + 2 ≤ n → (rest : List Entry)
    → Each (Shorter n) rest → Each (Shorter n) (map (entry 2) qs ++ rest)
inner_shorter n k [] s l rest t = t
inner_shorter n k (q ∷ qs) s l rest t = (λ e. omega (arith, s.0), inner_shorter n k qs s.1 l rest t)

flat_shorter : (n : ℕ) (qs : List Par) → Each (λ q. 1 + length q.own ≤ n) qs → Each Counts qs → Each (Shorter n) (flat_entries qs)
unfolding flat_entries
flat_shorter n [] s c = tt
flat_shorter n (q ∷ qs) s c =
    let inside = length (inside_of q) in
    let held : length q.own ≡ 1 + inside = ap length c.0 ∙ omega arith in
    let each = short_entries inside (dependents_in q) (octets_within (inside_at q) (inside_of q)) in (
      λ e. absurd (omega arith),
      inner_shorter n inside (dependents_in q) each (omega (arith, s.0, held)) (flat_entries qs) (flat_shorter n qs s.1 c.1),
    )

one_shorter : (n : ℕ) (es : List Entry) → Each (Shorter n) es → (k : ℕ) → Shorter n (get_or es k no_entry)
one_shorter n [] s k e = absurd (omega arith)
one_shorter n (x ∷ es) s zero e = s.0 e
one_shorter n (x ∷ es) s (suc k) e = one_shorter n es s.1 k e

-- and by the direction octet
pub dependent_short : (s : List ℕ) (k : ℕ) →
    let e = get_or (entries_of s) k no_entry in
    e.level ≡ 2 → length e.par.own + 4 ≤ length s
unfolding entries_of
dependent_short s zero e = absurd (omega arith)
dependent_short s (suc k) e =
    let n = length (drop 1 s) in
    let each = short_entries n (carriers_in s) (octets_within 1 (drop 1 s)) in
    let t = one_shorter n (flat_entries (carriers_in s)) (flat_shorter n (carriers_in s) each (entries_count 0 1 (drop 1 s))) k e in
    omega (arith, t, length-drop 1 s)

-- ---- a code

-- it has as many digits as it counts
pub code_long : (s : List ℕ) → length (code_digits s) ≡ (code_count s).0
unfolding code_digits
code_long s = length-digits_of Decimal (code_count s) (drop 1 s) (omega arith)

-- two to an octet, but for the six that hold none
pub code_few : (s : List ℕ) (k : ℕ) →
    let e = get_or (entries_of s) k no_entry in
    is_code_entry e ≡ true → length (digits_in e) ≤ 2 * (length s - 6)
code_few s k t =
    let e = get_or (entries_of s) k no_entry in
    let d = dependent_short s k (eqb-true e.level 2 (and_left (eqb e.level 2) _ t)) in
    omega (
      arith,
      code_long (inside_of e.par),
      length-drop 1 (inside_of e.par),
      length-drop 1 e.par.own,
      d,
    )

-- its first octet, by the two that it may be
mark_by : (P : ℕ → Type 0) → P even_count → P odd_count → (x : ℕ) → among x (even_count ∷ odd_count ∷ []) ≡ true → P x
mark_by P p q x e = go (eqb x even_count) (eqb x odd_count) refl refl e
  where
    go : (a b : Bool) → eqb x even_count ≡ a → eqb x odd_count ≡ b → a || (b || false) ≡ true → P x
    go true b f g h = rw (eqb-true x even_count f) p
    go false true f g h = rw (eqb-true x odd_count g) q
    go false false f g h = absurd (let z : ◌≡◌ {A = ℕ} 0 1 = cc in omega arith)

-- the odd mark tells it; and where the mark is set there is a digit octet
mark_is : (x : ℕ) → among x (even_count ∷ odd_count ∷ []) ≡ true → (odd_count * (x / 128) ≡ x) × (x / 128 ≤ 1)
mark_is x e = mark_by (λ y. (odd_count * (y / 128) ≡ y) × (y / 128 ≤ 1)) (refl, omega arith) (refl, omega arith) x e

mark_some : (x n : ℕ) → among x (even_count ∷ odd_count ∷ []) ≡ true → not (eqb x odd_count && eqb (suc n) 1) ≡ true → x / 128 ≤ n * 2
mark_some x (suc n) e t = omega (arith, (mark_is x e).1)
mark_some x zero e t =
    mark_by (λ y. not (eqb y odd_count && true) ≡ true → y / 128 ≤ 0) (λ u. omega arith)
    (λ u. absurd (let z : ◌≡◌ {A = ℕ} 0 1 = cc in omega arith)) x e t

-- octets of the right form, with nothing wrong in their digits, are the code of these
pub record CodeOpen (s : List ℕ) : Type 0 where
  pub digits : every (is_digit_in Decimal) (code_digits s) ≡ true
  pub back : code_octets (code_digits s) ≡ s

pub code_open : (at : ℕ) (s : List ℕ) → code_formed s ≡ true → code_fault at s ≡ Sound → CodeOpen s
unfolding code_formed code_fault code_digits code_octets
code_open at [] f g = absurd (let z : ◌≡◌ {A = ℕ} 0 1 = cc in omega arith)
code_open at (x ∷ t) f g =
    let known = among x (even_count ∷ odd_count ∷ []) in
    let some = not (eqb x odd_count && eqb (suc (length t)) 1) in
    let n = code_count (x ∷ t) in
    let r = and_right (not (eqb (suc (length t)) 0)) (known && some) f in
    let m = mark_some x (length t) (and_left known some r) (and_right known some r) in
    let mark = mark_is x (and_left known some r) in
    let k : length t ≡ (octets_of n).0 = omega (arith, mark.1) in
    let u = unpacked Decimal n (at + 1) t k g in
    let c : length (digits_of Decimal n t) ≡ n.0 = length-digits_of Decimal n t (omega arith) in
    let e : odd_count * (n.0 % 2) ≡ x = omega (arith, mark.0, mark.1) in
    record { digits = u.digits; back = rw (c, e, u.back) }

-- and the code of digits is of the right form, with nothing wrong in it, and holds them
pub record CodeClosed (ds : List ℕ) : Type 0 where
  pub formed : code_formed (code_octets ds) ≡ true
  pub sound : (at : ℕ) → code_fault at (code_octets ds) ≡ Sound
  pub digits : code_digits (code_octets ds) ≡ ds

pub code_closed : (ds : List ℕ) → every (is_digit_in Decimal) ds ≡ true → CodeClosed ds
unfolding code_formed code_fault code_digits code_octets
code_closed ds d =
    let n = length ds in
    let t = packed Decimal ds in
    let x = odd_count * (n % 2) in
    let l : length t ≡ (octets_of (halves_for ds)).0 = length-packed Decimal ds in
    let m : (code_count (x ∷ t)).0 ≡ n = omega (arith, round_up n) in
    let c : code_count (x ∷ t) ≡ halves_for ds = ap (λ (k : ℕ). record { 0 = k }) m in
    record {
      formed = rw (ne_eqb (suc (length t)) 0 (λ z. omega arith)) (marked n (length t) l);
      sound = λ at. rw c (packed_sound Decimal (at + 1) ds d);
      digits = rw c (packed_back Decimal ds d);
    }
  where
    round_up : (n : ℕ) → (n + 1) / 2 ≡ n / 2 + n % 2
    round_up n = omega arith

    marked : (n k : ℕ) → k ≡ (n + 1) / 2 →
        let x = 128 * (n % 2) in
        (eqb x 0 || (eqb x 128 || false)) && not (eqb x 128 && eqb (suc k) 1) ≡ true
    marked n k e = go (n % 2) refl
      where
        go : (r : ℕ) → n % 2 ≡ r → (eqb (128 * r) 0 || (eqb (128 * r) 128 || false)) && not (eqb (128 * r) 128 && eqb (suc k) 1) ≡ true
        go zero f = refl
        go (suc zero) f = rw (ne_eqb (suc k) 1 (λ z. omega arith))
        go (suc (suc r)) f = absurd (omega arith)
