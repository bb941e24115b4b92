-- How often names were seen: after parameters, as often as before and as often as the name stands among theirs. That each parameter's name
-- was seen less often than it may stand is that no name stands oftener.
use Rattle.std.specs.Prelude.{ℕ, zero, suc, ◌+◌, ◌≤◌, ◌<◌, ◌≡◌, refl, Bool, true, false, cond, List, [], ◌∷◌, map, eqb, length, get_or, replicate}
use Rattle.std.proofs.Common.{arith, ◌∙◌, eqb-true, eq-eqb, length-set, get_or-set_same, get_or-set_other}
use Rattle.std.proofs.lemmas.Bool.{eqb-false}
use Rattle.annex.specs.Units.{name_of}
use Rattle.annex.specs.Heads.{name_count}
use Rattle.annex.specs.Allowed.{times_in}
use Rattle.annex.specs.Walk.{Seen, unseen, times_seen, counted, Par, Step}
use Rattle.annex.specs.Answers.{Accepted}
use Rattle.theorems.specs.Trails.{seen_by, Trail}

-- the names of parameters
abbrev pub names_in : List Par → List ℕ
names_in qs = map (λ q. name_of q.head) qs

-- each name is counted
abbrev pub Full : Seen → Type 0
Full seen = length seen ≡ name_count

pub full_unseen : Full unseen
full_unseen = refl

pub full_counted : (seen : Seen) (h : ℕ) → Full seen → Full (counted seen h)
full_counted seen h f = length-set seen (name_of h) _ ∙ f

pub none_seen : (u : ℕ) → get_or unseen u 0 ≡ 0
none_seen u = go name_count u
  where
    go : (n u : ℕ) → ◌≡◌ {A = ℕ} (get_or (replicate n 0) u 0) 0
    go zero u = refl
    go (suc n) zero = refl
    go (suc n) (suc u) = go n u

pub counted_once : (seen : Seen) (h u : ℕ) → Full seen → get_or (counted seen h) u 0 ≡ get_or seen u 0 + cond (eqb u (name_of h)) 1 0
counted_once seen h u f = go (eqb u (name_of h)) refl
  where
    go : (b : Bool) → eqb u (name_of h) ≡ b → get_or (counted seen h) u 0 ≡ get_or seen u 0 + cond b 1 0
    go true e = rw (eqb-true u (name_of h) e) (get_or-set_same seen (name_of h) (times_seen seen h + 1) 0 (omega arith))
    go false e = get_or-set_other seen (name_of h) u (times_seen seen h + 1) 0 (eqb-false u (name_of h) e) ∙ omega arith

-- a name moves from those to come to those seen
pub moved : (seen : Seen) (h u : ℕ) (xs : List ℕ) → Full seen
    → get_or (counted seen h) u 0 + times_in u xs ≡ get_or seen u 0 + times_in u (name_of h ∷ xs)
moved seen h u xs f = go (eqb u (name_of h)) (counted_once seen h u f)
  where
    go : (b : Bool) → get_or (counted seen h) u 0 ≡ get_or seen u 0 + cond b 1 0
        → get_or (counted seen h) u 0 + times_in u xs ≡ get_or seen u 0 + cond b (suc (times_in u xs)) (times_in u xs)
    go true e = omega arith
    go false e = omega arith

pub seen_times : (qs : List Par) (seen : Seen) (u : ℕ) → Full seen → get_or (seen_by seen qs) u 0 ≡ get_or seen u 0 + times_in u (names_in qs)
unfolding seen_by
seen_times [] seen u f = omega arith
seen_times (q ∷ qs) seen u f =
    seen_times qs (counted seen q.head) u (full_counted seen q.head f) ∙ moved seen q.head u (names_in qs) f

-- no name stands oftener than it may, among those seen and these
abbrev pub Sparing : (ℕ → ℕ) → Seen → List ℕ → Type 0
Sparing often seen xs = (u : ℕ) → get_or seen u 0 + times_in u xs ≤ often u

module _ (often : ℕ → ℕ) (seen : Seen) (h : ℕ) (f : Full seen) where
  pub sparing_first : (xs : List ℕ) → Sparing often seen (name_of h ∷ xs) → times_seen seen h < often (name_of h)
  sparing_first xs s = let l = s (name_of h) in omega (arith, rw (eq-eqb (name_of h) (name_of h) refl) at l)

  pub sparing_rest : (xs : List ℕ) → Sparing often seen (name_of h ∷ xs) → Sparing often (counted seen h) xs
  sparing_rest xs s u = rw (moved seen h u xs f) (s u)

  pub sparing_cons : (xs : List ℕ) → Sparing often (counted seen h) xs → Sparing often seen (name_of h ∷ xs)
  sparing_cons xs s u = rw (← moved seen h u xs f) (s u)

  pub sparing_more : Sparing often seen [] → times_seen seen h < often (name_of h) → Sparing often (counted seen h) []
  sparing_more s l u = go (eqb u (name_of h)) refl (counted_once seen h u f)
    where
      go : (b : Bool) → eqb u (name_of h) ≡ b → get_or (counted seen h) u 0 ≡ get_or seen u 0 + cond b 1 0
          → get_or (counted seen h) u 0 + 0 ≤ often u
      go true e q = rw (eqb-true u (name_of h) e) (omega (arith, rw (eqb-true u (name_of h) e) at q))
      go false e q = omega (arith, s u)

-- a step that accepts a name only while it was seen less often than it may stand
pub sparing_trail : (often : ℕ → ℕ) (step : Step)
    → ((seen : Seen) (h : ℕ) (xs : List ℕ) (n : ℕ) → step seen h xs ≡ Accepted n → times_seen seen h < often (name_of h))
    → (qs : List Par) (seen : Seen) (p : ℕ) → Full seen → Sparing often seen [] → Trail step seen p qs → Sparing often seen (names_in qs)
sparing_trail often step fewer [] seen p f s t = s
sparing_trail often step fewer (q ∷ qs) seen p f s t =
    let h = q.head in
    sparing_cons often seen h f (names_in qs)
    (sparing_trail often step fewer qs (counted seen h) _ (full_counted seen h f) (sparing_more often seen h f s (fewer seen h _ _ t.1))
    t.2)
