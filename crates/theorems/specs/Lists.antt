-- Laws of lists: tests of each, how often one stands, and the pigeonhole law.
use Rattle.std.specs.Prelude.{ℕ, zero, suc, ◌+◌, ◌*◌, ◌≤◌, ◌<◌, ◌≡◌, refl, Bool, true, false, cond, ◌||◌, List, [], ◌∷◌, ◌++◌, map, eqb, leb, take, drop}
use Rattle.std.proofs.Common.{mul-suc, mul-le-mul_left, arith, subst, eqb-true, eq-eqb, leb-true, le-leb}
use Rattle.annex.specs.Heads.{among}
use Rattle.annex.specs.Allowed.{every, Each, times_in, at_most}
use Rattle.laws.specs.Bools.{and_left, and_right, and_both}
use Rattle.laws.specs.Members.{sum_of}

module _ {A : Type 0} (f : A → Bool) where
  pub every_append : (xs ys : List A) → every f xs ≡ true → every f ys ≡ true → every f (xs ++ ys) ≡ true
  every_append [] ys p q = q
  every_append (x ∷ xs) ys p q =
      and_both (f x) _ (and_left (f x) _ p) (every_append xs ys (and_right (f x) _ p) q)

  pub every_left : (xs ys : List A) → every f (xs ++ ys) ≡ true → every f xs ≡ true
  every_left [] ys p = refl
  every_left (x ∷ xs) ys p = and_both (f x) _ (and_left (f x) _ p) (every_left xs ys (and_right (f x) _ p))

  pub every_right : (xs ys : List A) → every f (xs ++ ys) ≡ true → every f ys ≡ true
  every_right [] ys p = p
  every_right (x ∷ xs) ys p = every_right xs ys (and_right (f x) _ p)

  pub every_drop : (n : ℕ) (xs : List A) → every f xs ≡ true → every f (drop n xs) ≡ true
  every_drop zero xs p = p
  every_drop (suc n) [] p = p
  every_drop (suc n) (x ∷ xs) p = every_drop n xs (and_right (f x) _ p)

  pub every_take : (n : ℕ) (xs : List A) → every f xs ≡ true → every f (take n xs) ≡ true
  every_take zero xs p = refl
  every_take (suc n) [] p = p
  every_take (suc n) (x ∷ xs) p = and_both (f x) _ (and_left (f x) _ p) (every_take n xs (and_right (f x) _ p))

  pub every_all : (xs : List A) → ((x : A) → f x ≡ true) → every f xs ≡ true
  every_all [] h = refl
  every_all (x ∷ xs) h = and_both (f x) _ (h x) (every_all xs h)

module _ {A : Type 0} (P : A → Type 0) where
  pub each_append : (xs ys : List A) → Each P xs → Each P ys → Each P (xs ++ ys)
  each_append [] ys p q = q
  each_append (x ∷ xs) ys p q = (p.0, each_append xs ys p.1 q)

  pub each_left : (xs ys : List A) → Each P (xs ++ ys) → Each P xs
  each_left [] ys p = tt
  each_left (x ∷ xs) ys p = (p.0, each_left xs ys p.1)

  pub each_right : (xs ys : List A) → Each P (xs ++ ys) → Each P ys
  each_right [] ys p = p
  each_right (x ∷ xs) ys p = each_right xs ys p.1

  pub each_drop : (n : ℕ) (xs : List A) → Each P xs → Each P (drop n xs)
  each_drop zero xs p = p
  each_drop (suc n) [] p = p
  each_drop (suc n) (x ∷ xs) p = each_drop n xs p.1

  pub each_take : (n : ℕ) (xs : List A) → Each P xs → Each P (take n xs)
  each_take zero xs p = tt
  each_take (suc n) [] p = p
  each_take (suc n) (x ∷ xs) p = (p.0, each_take n xs p.1)

  -- what holds of each, as a test of each
  pub each_every : (f : A → Bool) → ((x : A) → P x → f x ≡ true) → (xs : List A) → Each P xs → every f xs ≡ true
  each_every f h [] p = refl
  each_every f h (x ∷ xs) p = and_both (f x) _ (h x p.0) (each_every f h xs p.1)

pub each_so : {A : Type 0} (P Q : A → Type 0) → ((x : A) → P x → Q x) → (xs : List A) → Each P xs → Each Q xs
each_so P Q h [] p = tt
each_so P Q h (x ∷ xs) p = (h x p.0, each_so P Q h xs p.1)

pub each_map : {A B : Type 0} (P : A → Type 0) (Q : B → Type 0) (g : A → B) → ((x : A) → P x → Q (g x)) → (xs : List A) → Each P xs
    → Each Q (map g xs)
each_map P Q g h [] p = tt
each_map P Q g h (x ∷ xs) p = (h x p.0, each_map P Q g h xs p.1)

-- what holds of each of a list holds of one that is among them
pub among_each : (P : ℕ → Type 0) (ks : List ℕ) → Each P ks → (x : ℕ) → among x ks ≡ true → P x
among_each P [] p x e = absurd (let z : ◌≡◌ {A = ℕ} 0 1 = cc in omega arith)
among_each P (k ∷ ks) p x e = go (eqb x k) refl e (among_each P ks p.1 x)
  where
    go : (b : Bool) → eqb x k ≡ b → b || among x ks ≡ true → (among x ks ≡ true → P x) → P x
    go true q r f = rw (eqb-true x k q) p.0
    go false q r f = f r

-- ---- how often one stands

pub times_append : (u : ℕ) (xs ys : List ℕ) → times_in u (xs ++ ys) ≡ times_in u xs + times_in u ys
times_append u [] ys = omega arith
times_append u (x ∷ xs) ys = go (eqb u x) (times_append u xs ys)
  where
    go : (b : Bool) → times_in u (xs ++ ys) ≡ times_in u xs + times_in u ys
        → cond b (suc (times_in u (xs ++ ys))) (times_in u (xs ++ ys)) ≡ cond b (suc (times_in u xs)) (times_in u xs) + times_in u ys
    go true e = omega arith
    go false e = omega arith

pub times_here : (x : ℕ) (xs : List ℕ) → times_in x (x ∷ xs) ≡ suc (times_in x xs)
times_here x xs = rw (eq-eqb x x refl)

pub times_rest : (u x : ℕ) (xs : List ℕ) → times_in u xs ≤ times_in u (x ∷ xs)
times_rest u x xs = go (eqb u x)
  where
    go : (b : Bool) → times_in u xs ≤ cond b (suc (times_in u xs)) (times_in u xs)
    go true = omega arith
    go false = omega arith

-- what is tested of each is so of one that stands there
pub stands : (f : ℕ → Bool) (xs : List ℕ) (u : ℕ) → every f xs ≡ true → 0 < times_in u xs → f u ≡ true
stands f [] u p h = absurd (omega arith)
stands f (x ∷ xs) u p h = go (eqb u x) refl (stands f xs u (and_right (f x) _ p)) h
  where
    go : (b : Bool) → eqb u x ≡ b → (0 < times_in u xs → f u ≡ true) → 0 < cond b (suc (times_in u xs)) (times_in u xs) → f u ≡ true
    go true e r q = rw (eqb-true u x e) (and_left (f x) _ p)
    go false e r q = r q

pub at_most_lem : (often : ℕ → ℕ) (xs : List ℕ) → at_most often xs ≡ true → (u : ℕ) → times_in u xs ≤ often u
at_most_lem often xs p u = go (times_in u xs) refl
  where
    go : (n : ℕ) → times_in u xs ≡ n → times_in u xs ≤ often u
    go zero e = omega arith
    go (suc n) e = leb-true (times_in u xs) (often u) (stands (λ x. leb (times_in x xs) (often x)) xs u p (omega arith))

pub most_at : (often : ℕ → ℕ) (xs : List ℕ) → ((u : ℕ) → times_in u xs ≤ often u) → at_most often xs ≡ true
most_at often xs h = every_all (λ x. leb (times_in x xs) (often x)) xs (λ x. le-leb _ _ (h x))

pub among-append : (x : ℕ) (xs ys : List ℕ) → among x (xs ++ ys) ≡ among x xs || among x ys
among-append x [] ys = refl
among-append x (y ∷ xs) ys = go (eqb x y) (among-append x xs ys)
  where
    go : (b : Bool) → among x (xs ++ ys) ≡ among x xs || among x ys → b || among x (xs ++ ys) ≡ b || among x xs || among x ys
    go true e = refl
    go false e = e

-- ---- pigeonhole: what is weighed of a list is at most the weights of all that may stand in it, as often as they may

sum_more : (f g : ℕ → ℕ) (us : List ℕ) → ((u : ℕ) → f u ≤ g u) → sum_of f us ≤ sum_of g us
sum_more f g [] h = omega arith
sum_more f g (u ∷ us) h = omega (arith, h u, sum_more f g us h)

module _ (w : ℕ → ℕ) where
  abbrev weighed : List ℕ → ℕ → ℕ
  weighed xs u = w u * times_in u xs

  weighed_more : (x : ℕ) (xs : List ℕ) (u : ℕ) → weighed xs u ≤ weighed (x ∷ xs) u
  weighed_more x xs u = mul-le-mul_left (w u) (times_rest u x xs)

  weighed_one : (x : ℕ) (xs : List ℕ) → weighed (x ∷ xs) x ≡ w x + weighed xs x
  weighed_one x xs = rw (times_here x xs) (omega (arith, mul-suc (w x) (times_in x xs)))

  one_more : (x : ℕ) (xs us : List ℕ) → among x us ≡ true → w x + sum_of (weighed xs) us ≤ sum_of (weighed (x ∷ xs)) us
  one_more x xs [] e = absurd (let z : ◌≡◌ {A = ℕ} 0 1 = cc in omega arith)
  one_more x xs (u ∷ us) e = go (eqb x u) refl e (one_more x xs us)
    where
      rest : sum_of (weighed xs) us ≤ sum_of (weighed (x ∷ xs)) us
      rest = sum_more (weighed xs) (weighed (x ∷ xs)) us (weighed_more x xs)

      go : (b : Bool) → eqb x u ≡ b → b || among x us ≡ true
          → (among x us ≡ true → w x + sum_of (weighed xs) us ≤ sum_of (weighed (x ∷ xs)) us)
          → w x + (weighed xs u + sum_of (weighed xs) us) ≤ weighed (x ∷ xs) u + sum_of (weighed (x ∷ xs)) us
      go true p q r =
          let P : ℕ → Type 0 = λ v. w x + (weighed xs v + sum_of (weighed xs) us) ≤ weighed (x ∷ xs) v + sum_of (weighed (x ∷ xs)) us in
          subst P (eqb-true x u p) (omega (arith, weighed_one x xs, rest))
      go false p q r = omega (arith, weighed_more x xs u, r q)

  weighed_all : (us xs : List ℕ) → every (λ x. among x us) xs ≡ true → sum_of w xs ≤ sum_of (weighed xs) us
  weighed_all us [] e = omega arith
  weighed_all us (x ∷ xs) e =
      omega (arith, weighed_all us xs (and_right (among x us) _ e), one_more x xs us (and_left (among x us) _ e))

  pub pigeons : (often : ℕ → ℕ) (us xs : List ℕ) → every (λ x. among x us) xs ≡ true → ((u : ℕ) → times_in u xs ≤ often u)
      → sum_of w xs ≤ sum_of (λ u. w u * often u) us
  pigeons often us xs e h =
      omega (arith, weighed_all us xs e, sum_more (weighed xs) (λ u. w u * often u) us (λ u. mul-le-mul_left (w u) (h u)))
