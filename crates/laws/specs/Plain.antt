-- Laws of the parameters of octets by the length rule alone, which the code walks over once a message is accepted: for accepted octets they
-- are the listed ones.
use Rattle.std.proofs.Math.Path.{◌≡◌, refl, sym, ap}
use Rattle.std.proofs.Common.{◌∙◌, length-drop, drop_of_length-le, get_or-drop, drop-cons, drop-drop, length-take-le, Err}
use Rattle.std.specs.Prelude.{Bool, not, ◌||◌, leb, length, get_or, take, drop}
use Rattle.std.proofs.Math.Bool.{true, false, cond}
use mathlib.Core.List.{List, [], ◌∷◌, map}
use Prim.Native.Nat.{ℕ, zero, suc, ◌+◌, ◌-◌, ◌≤◌, ◌<◌}
use Rattle.std.proofs.Math.Nat.{add-zero}
use Rattle.std.proofs.Math.Numerals.{add-one}
use native.Mathlib.Omega.{arith}
use borrow.Author.Tests.{leb-true, le-leb, lt-leb}
use Rattle.std.proofs.Math.Dec.{eqb, ltb}
use Rattle.annex.specs.Units.{after_of, common_extent_of, contents_in}
use Rattle.annex.specs.Answers.{over_the_limits, Answer, Accepted, Refused}
use Rattle.annex.specs.Contents.{Rule, fault_of}
use Rattle.annex.specs.Heads.{end_mark, transfer_data, most_octets}
use Rattle.annex.specs.Allowed.{Each}
use Rattle.annex.specs.Walk.{
  Seen,
  unseen,
  counted,
  Par,
  Step,
  by_step,
  walk,
  judging,
  listing,
  Size,
  size_by,
  common_size,
  transfer_size,
  par_of,
  pars,
}
use Rattle.annex.specs.Reading.{
  transfers_verdict,
  end_of,
  data_of,
  common_step,
  common_close,
  whole_in,
  commons_of,
  data_in,
  transfers_verdict_by,
  message_verdict_by,
  verdict_by,
  commons_by,
  transfers_by,
  transfer_step_by,
  data_by,
  common_step_by,
}
use Rattle.annex.specs.declared.Extent.{Extent}
use Rattle.laws.specs.Steps.{passed, transfer_taken, common_taken, common_formed, common_within, data_taken}

module _ (size : Size) where
  pars_none : (k p : ℕ) → pars size k p [] ≡ []
  unfolding pars
  pars_none zero p = refl
  pars_none (suc k) p = refl

  pub pars_skip : (k p : ℕ) (xs : List ℕ) → pars size k p xs ≡ pars size 0 (p + k) (drop k xs)
  unfolding pars
  pars_skip zero p xs = rw add-zero
  pars_skip (suc k) p [] = refl
  pars_skip (suc k) p (x ∷ xs) =
      let e : p + 1 + k ≡ p + suc k = omega arith in
      pars_skip k (p + 1) xs ∙ ap (λ (q : ℕ). pars size 0 q (drop k xs)) e

  -- one turn, at an index of the whole
  pub pars_end : (p i : ℕ) (t : List ℕ) → length t ≤ i → pars size 0 p (drop i t) ≡ []
  pars_end p i t h = rw (drop_of_length-le t) (pars_none 0 p)

  pars_cut : (p i : ℕ) (t : List ℕ) → i < length t → length (drop (i + 1) t) < size (get_or t i 0) (drop (i + 1) t)
      → pars size 0 p (drop i t) ≡ []
  unfolding pars
  pars_cut p i t h l = rw (drop-cons t i 0, ← add-one i, lt-leb _ _ l)

  pub pars_head : (p x n : ℕ) (xs : List ℕ) → n ≡ size x xs → n ≤ length xs
      → pars size 0 p (x ∷ xs) ≡ par_of p x n xs ∷ pars size 0 (p + 1 + n) (drop n xs)
  unfolding pars
  pars_head p x n xs e l =
      rw (← e, le-leb n (length xs) l) (ap (λ (r : List Par). par_of p x n xs ∷ r) (pars_skip n (p + 1) xs))

  pub pars_turn : (p q i n : ℕ) (t : List ℕ) → i < length t → n ≡ size (get_or t i 0) (drop (i + 1) t) → n ≤ length (drop (i + 1) t)
      → p + 1 + n ≡ q → pars size 0 p (drop i t) ≡ par_of p (get_or t i 0) n (drop (i + 1) t) ∷ pars size 0 q (drop (i + 1 + n) t)
  pars_turn p q i n t h e l w =
      rw (drop-cons t i 0, ← add-one i, ← w, ← drop-drop n (i + 1) t) (pars_head p (get_or t i 0) n (drop (i + 1) t) e l)

  -- parameters s places further on, by what is made of each
  pub pars_moved : {B : Type 0} (f g : Par → B) (s : ℕ) → ((p h n : ℕ) (xs : List ℕ) → f (par_of p h n xs) ≡ g (par_of (s + p) h n xs))
      → (k p : ℕ) (xs : List ℕ) → map f (pars size k p xs) ≡ map g (pars size k (s + p) xs)
  unfolding pars
  pars_moved f g s e k p [] = refl
  pars_moved f g s e (suc k) p (x ∷ xs) =
      let a : s + (p + 1) ≡ s + p + 1 = omega arith in
      rw a at (pars_moved f g s e k (p + 1) xs)
  pars_moved f g s e zero p (x ∷ xs) =
      let a : s + (p + 1) ≡ s + p + 1 = omega arith in
      go (leb (size x xs) (length xs)) (rw a at (pars_moved f g s e (size x xs) (p + 1) xs))
    where
      go : (b : Bool) → map f (pars size (size x xs) (p + 1) xs) ≡ map g (pars size (size x xs) (s + p + 1) xs)
          → map f (cond b (par_of p x (size x xs) xs ∷ pars size (size x xs) (p + 1) xs) [])
          ≡ map g (cond b (par_of (s + p) x (size x xs) xs ∷ pars size (size x xs) (s + p + 1) xs) [])
      go true ih = rw (e p x (size x xs) xs, ih)
      go false ih = refl

-- the octet behind a header
pub octet_behind : (t : List ℕ) (i : ℕ) → get_or (drop (i + 1) t) 0 0 ≡ get_or t (i + 1) 0
octet_behind t i = let z : i + 1 + 0 ≡ i + 1 = omega arith in get_or-drop (i + 1) t 0 0 ∙ rw z

-- one turn, where n is told by that octet
module _ (ext : ℕ → Extent) (t : List ℕ) (i n : ℕ) (inside : i < length t) (told : n ≡ after_of (ext (get_or t i 0)) (get_or t (i + 1) 0)) where
  sized : n ≡ size_by ext (get_or t i 0) (drop (i + 1) t)
  sized = told ∙ rw (octet_behind t i)

  pub pars_short : length t - (i + 1) < n → pars (size_by ext) 0 i (drop i t) ≡ []
  pars_short h = pars_cut (size_by ext) i i t inside (rw (← sized, length-drop) h)

  pub pars_next : n ≤ length t - (i + 1)
      → pars (size_by ext) 0 i (drop i t) ≡ par_of i (get_or t i 0) n (drop (i + 1) t) ∷ pars (size_by ext) 0 (i + 1 + n) (drop (i + 1 + n) t)
  pars_next h = pars_turn (size_by ext) i (i + 1 + n) i n t inside sized (rw length-drop h) refl

-- one octet on
onward : (m : List ℕ) (p x : ℕ) (xs : List ℕ) → drop p m ≡ x ∷ xs → (drop (p + 1) m ≡ xs) × (p + 1 ≤ length m) × (get_or m p 0 ≡ x)
onward m p x xs e =
    let h : p < length m = omega (arith, simp length-drop at (ap (λ (s : List ℕ). length s) e)) in
    let c : get_or m p 0 ∷ drop (suc p) m ≡ x ∷ xs = sym (drop-cons m p 0 h) ∙ e in
    (rw (add-one p) (cc), omega arith, cc)

-- a parameter of m that lies within it
pub record Lies (size : Size) (m : List ℕ) (q : Par) : Type 0 where
  pub long : length q.own ≡ size q.head (drop (q.place + 1) m)
  pub within : q.place + 1 + length q.own ≤ length m
  pub own : q.own ≡ take (length q.own) (drop (q.place + 1) m)
  pub head : q.head ≡ get_or m q.place 0

pub pars_lie : (size : Size) (m xs : List ℕ) (k p : ℕ) → drop p m ≡ xs → Each (Lies size m) (pars size k p xs)
unfolding pars
pars_lie size m [] k p e = tt
pars_lie size m (x ∷ xs) (suc k) p e = pars_lie size m xs k (p + 1) (onward m p x xs e).0
pars_lie size m (x ∷ xs) zero p e = go (leb (size x xs) (length xs)) refl (λ k. pars_lie size m xs k (p + 1))
  where
    go : (b : Bool) → leb (size x xs) (length xs) ≡ b → ((k : ℕ) → drop (p + 1) m ≡ xs → Each (Lies size m) (pars size k (p + 1) xs))
        → Each (Lies size m) (cond b (par_of p x (size x xs) xs ∷ pars size (size x xs) (p + 1) xs) [])
    go false f ih = tt
    go true f ih =
        let s = onward m p x xs e in
        let l : size x xs ≤ length xs = leb-true (size x xs) (length xs) f in
        let n : length (take (size x xs) xs) ≡ size x xs = length-take-le (size x xs) xs l in
        let t : length xs ≡ length m - (p + 1) = sym (ap (λ (r : List ℕ). length r) s.0) ∙ length-drop (p + 1) m in (
          record { long = rw s.0 n; within = omega (arith, s.1); own = rw (n, s.0); head = sym s.2 },
          ih (size x xs) s.0,
        )

-- ---- accepted octets

module _ (step : Step) (close : Seen → ℕ → Answer) (size : Size)
    (sized : (seen : Seen) (h : ℕ) (xs : List ℕ) (n : ℕ) → step seen h xs ≡ Accepted n → (n ≡ size h xs) × (n ≤ length xs)) where
  -- the listed parameters are those of the length rule
  pub listing_pars : (xs : List ℕ) (seen : Seen) (k p q : ℕ) → walk (judging step close) seen k p xs ≡ Accepted q
      → walk (listing step) seen k p xs ≡ pars size k p xs
  unfolding walk pars
  listing_pars [] seen k p q e = refl
  listing_pars (x ∷ xs) seen (suc k) p q e = listing_pars xs seen k (p + 1) q e
  listing_pars (x ∷ xs) seen zero p q e = go (step seen x xs) refl e (listing_pars xs (counted seen x))
    where
      go : (a : Answer) → step seen x xs ≡ a
          → by_step a (λ k r. Refused k (p + r)) (λ n. walk (judging step close) (counted seen x) n (p + 1) xs) ≡ Accepted q
          →
          ((k p q : ℕ) → walk (judging step close) (counted seen x) k p xs ≡ Accepted q
          → walk (listing step) (counted seen x) k p xs ≡ pars size k p xs)
          → by_step a (λ k r. []) (λ n. par_of p x n xs ∷ walk (listing step) (counted seen x) n (p + 1) xs)
          ≡ cond (leb (size x xs) (length xs)) (par_of p x (size x xs) xs ∷ pars size (size x xs) (p + 1) xs) []
      go (Accepted n) f e ih =
          let s = sized seen x xs n f in
          rw (← s.0, le-leb n (length xs) s.1) (ap (λ (r : List Par). par_of p x n xs ∷ r) (ih n (p + 1) q e))
      go (Err w) f e ih = absurd (let z : ◌≡◌ {A = ℕ} 0 1 = cc in omega arith)

-- what a step ensures of a parameter that it accepts holds of each that is listed
pub each_listed : (step : Step) (P : Par → Type 0)
    → ((seen : Seen) (p x : ℕ) (xs : List ℕ) (n : ℕ) → step seen x xs ≡ Accepted n → P (par_of p x n xs))
    → (xs : List ℕ) (seen : Seen) (k p : ℕ) → Each P (walk (listing step) seen k p xs)
unfolding walk
each_listed step P f [] seen k p = tt
each_listed step P f (x ∷ xs) seen (suc k) p = each_listed step P f xs seen k (p + 1)
each_listed step P f (x ∷ xs) seen zero p = go (step seen x xs) refl (λ k. each_listed step P f xs (counted seen x) k (p + 1))
  where
    go : (a : Answer) → step seen x xs ≡ a → ((k : ℕ) → Each P (walk (listing step) (counted seen x) k (p + 1) xs))
        → Each P (by_step a (λ k r. []) (λ n. par_of p x n xs ∷ walk (listing step) (counted seen x) n (p + 1) xs))
    go (Accepted n) e ih = (f seen p x xs n e, ih n)
    go (Err w) e ih = tt

module _ (rule : Rule) where
  pub transfer_sized : (seen : Seen) (h : ℕ) (xs : List ℕ) (n : ℕ) → transfer_step_by rule seen h xs ≡ Accepted n
      → (n ≡ transfer_size h xs) × (n ≤ length xs)
  transfer_sized seen h xs n e = let t = transfer_taken rule _ h xs n e in (t.size, t.within)

  pub transfers_plain : (t : List ℕ) (q : ℕ) → transfers_verdict_by rule t ≡ Accepted q → transfers_by rule t ≡ pars transfer_size 0 0 t
  unfolding transfers_verdict_by transfers_by
  transfers_plain t q e = listing_pars (transfer_step_by rule) (λ seen p. Accepted p) transfer_size transfer_sized t unseen 0 0 q e

  -- the end mark has no octets after it, C5 as many as its length octet says
  pub common_sized : (seen : Seen) (h : ℕ) (xs : List ℕ) (n : ℕ) → common_step_by rule seen h xs ≡ Accepted n
      → (n ≡ common_size h xs) × (n ≤ length xs)
  unfolding end_of common_extent_of after_of
  common_sized seen h xs n e =
      let t = common_taken rule _ _ h xs n e in
      let g = sym (common_formed rule _ _ h xs t.0 t.2) ∙ e in
      (by (eqb h end_mark) refl (eqb h transfer_data) t.0 t.1.size g, common_within rule _ _ h xs n e)
    where
      by : (a : Bool) → eqb h end_mark ≡ a → (b : Bool) (k : ℕ) → k ≡ common_size h xs
          → cond a (end_of (whole_in seen) xs) (cond b (data_by rule k xs) (Accepted k)) ≡ Accepted n → n ≡ common_size h xs
      by true f b k s g =
          let g₁ = passed (not (whole_in seen)) _ 0 n _ g in
          let g₂ = passed (ltb 0 (length xs)) _ 1 n (Accepted 0) g₁.1 in
          let same : 0 ≡ n = cc in
          rw f (sym same)
      by false f true k s g = (data_taken rule k xs n g).2 ∙ s
      by false f false k s g = let same : k ≡ n = cc in sym same ∙ s

  message_plain : (m : List ℕ) (q : ℕ) → message_verdict_by rule m ≡ Accepted q → commons_by rule m ≡ pars common_size 0 0 m
  unfolding message_verdict_by commons_by
  message_plain m q e = listing_pars (common_step_by rule) common_close common_size common_sized m unseen 0 0 q e

  pub commons_plain : (m : List ℕ) (q : ℕ) → verdict_by rule m ≡ Accepted q → commons_by rule m ≡ pars common_size 0 0 m
  unfolding verdict_by
  commons_plain m q e =
      message_plain m q (passed (eqb (length m) 0 || ltb most_octets (length m)) over_the_limits 0 q (message_verdict_by rule m) e).1

-- the transfer data of an accepted message is accepted
unfoldable pub InnerSound : Par → Type 0
InnerSound q = q.head ≡ transfer_data → (k : ℕ) × (transfers_verdict (data_in q) ≡ Accepted k)

common_inner : (seen : Seen) (p h : ℕ) (xs : List ℕ) (n : ℕ) → common_step seen h xs ≡ Accepted n → InnerSound (par_of p h n xs)
unfolding InnerSound
common_inner seen p h xs n e five =
    let t = common_taken fault_of _ _ h xs n e in
    let b : eqb h end_mark ≡ false = rw five in
    let a : eqb h transfer_data ≡ true = rw five in
    inner t.0 (rw (b, a) at (sym (common_formed fault_of _ _ h xs t.0 t.2) ∙ e))
  where
    inner : (k : ℕ) → data_of k xs ≡ Accepted n → (q : ℕ) × (transfers_verdict (data_in (par_of p h n xs)) ≡ Accepted q)
    inner k g =
        let d = data_taken fault_of k xs n g in
        (d.0, ap (λ (j : ℕ). transfers_verdict (contents_in (common_extent_of transfer_data) (take j xs))) d.2 ∙ d.1)

pub commons_inner : (m : List ℕ) → Each InnerSound (commons_of m)
unfolding commons_by
commons_inner m = each_listed common_step InnerSound common_inner m unseen 0 0
