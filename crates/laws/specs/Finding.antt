-- Laws of finding by the length rule alone: what is found lies within the octets, and is what the definition finds in an accepted message.
use Rattle.std.specs.Prelude.{◌≡◌, refl, Bool, true, false, cond, List, [], ◌∷◌, ℕ, zero, suc, ◌+◌, ◌-◌, ◌≤◌, eqb, length, get_or, take, drop}
use Rattle.std.proofs.Common.{ap, ◌∙◌, arith, eqb-true, length-take, drop-drop}
use Rattle.annex.specs.Units.{name_of, lead_of, extent_of, common_extent_of}
use Rattle.annex.specs.Heads.{end_mark, transfer_data, kth}
use Rattle.annex.specs.Allowed.{Each}
use Rattle.annex.specs.Walk.{Par, size_by, common_size, transfer_size}
use Rattle.annex.specs.Reading.{transfers_of, verdict_of, data_in}
use Rattle.annex.specs.Finding.{stretch_of, common_in, common_found, transfer_in, transfer_among, transfer_found, found_by}
use Rattle.annex.specs.Answers.{start_of, stop_of, Accepted, Found, At, Nowhere}
use Rattle.annex.specs.declared.Key.{Key}
use Rattle.annex.specs.declared.Key.TheVariants.{Header, Name}
use Rattle.annex.specs.Contents.{fault_of}
use Rattle.annex.specs.Walking.{
  is_sought,
  which_of,
  extent_by,
  whole_of,
  sought_in,
  contents_at,
  contents_found,
  common_plain,
  moved,
  in_data,
  transfer_plain,
  plain_by,
}
use Rattle.laws.specs.Extents.{lead_within}
use Rattle.laws.specs.Parts.{from_to}
use Rattle.laws.specs.Plain.{Lies, pars_lie, transfers_plain, commons_plain, InnerSound, commons_inner}

-- ---- what is found lies within n octets

pub record Inside (n : ℕ) (f : Found) : Type 0 where
  pub at : (s e : ℕ) → f ≡ At s e → (s ≤ e) × (e ≤ n)

nowhere_inside : (n : ℕ) → Inside n Nowhere
nowhere_inside n = record { at = λ s e f. absurd (let z : ◌≡◌ {A = ℕ} 0 1 = cc in omega arith) }

at_inside : (n s e : ℕ) → s ≤ e → e ≤ n → Inside n (At s e)
at_inside n s e h l = record { at = λ a b f. let p : s ≡ a = ap start_of f in let q : e ≡ b = ap stop_of f in (omega arith, omega arith) }

sought_inside : (k : Key) (which : ℕ) (t : List ℕ) (qs : List Par) → Each (Lies (size_by (extent_by k)) t) qs
    → Inside (length t) (contents_at k t (sought_in k which qs))
unfolding sought_in
sought_inside k which t [] l = nowhere_inside (length t)
sought_inside k which t (q ∷ qs) l = go (is_sought k q.head) which (λ w. sought_inside k w t qs l.1)
  where
    go : (b : Bool) (which : ℕ) → ((w : ℕ) → Inside (length t) (contents_at k t (sought_in k w qs)))
        → Inside (length t) (contents_at k t (cond b (kth which (whole_of q) (λ w. sought_in k w qs)) (sought_in k which qs)))
    go true zero ih =
        let w = lead_within (extent_by k q.head) (get_or (drop (q.place + 1) t) 0 0) in
        rw (← l.0.head) (at_inside (length t) _ _ (omega (arith, l.0.long)) l.0.within)
    go true (suc which) ih = ih which
    go false which ih = ih which

pub search_inside : (k : Key) (t : List ℕ) → Inside (length t) (contents_found k t)
search_inside k t = sought_inside k (which_of k) t _ (pars_lie (size_by (extent_by k)) t t 0 0 refl)

-- ---- in a message, by the length rule alone

pub common_inside : (h : ℕ) (m : List ℕ) → Inside (length m) (common_plain h m)
common_inside h m = go (eqb h end_mark)
  where
    go : (b : Bool) → Inside (length m) (cond b Nowhere (contents_found (Header h) m))
    go true = nowhere_inside (length m)
    go false = search_inside (Header h) m

moved_inside : (k n s : ℕ) (f : Found) → s + k ≤ n → Inside k f → Inside n (moved s f)
moved_inside k n s (At a e) h i = let w = i.at a e refl in at_inside n (s + a) (s + e) (omega arith) (omega arith)
moved_inside k n s Nowhere h i = nowhere_inside n

transfer_inside : (x which : ℕ) (m : List ℕ) → Inside (length m) (transfer_plain x which m)
transfer_inside x which m = go (contents_found (Header transfer_data) m) (search_inside (Header transfer_data) m)
  where
    go : (f : Found) → Inside (length m) f → Inside (length m) (in_data x which m f)
    go (At s e) i =
        let w = i.at s e refl in
        let t = take (e - s) (drop s m) in
        let l : length t ≤ e - s = simp length-take (omega arith) in
        moved_inside (length t) (length m) s _ (omega arith) (search_inside (Name x which) t)
    go Nowhere i = nowhere_inside (length m)

pub plain_inside : (k : Key) (m : List ℕ) → Inside (length m) (plain_by k m)
plain_inside (Header h) m = common_inside h m
plain_inside (Name x which) m = transfer_inside x which m

-- ---- in an accepted message it is what the definition finds

-- the first of some parameters by g
first_by : (b : Bool) (g : Found → Found) (f f' r r' : Found) → (b ≡ true → f ≡ g f') → r ≡ g r' → cond b f r ≡ g (cond b f' r')
first_by true g f f' r r' p q = p refl
first_by false g f f' r r' p q = q

kth_by : (which : ℕ) (g : Found → Found) (f f' : Found) (r r' : ℕ → Found) → f ≡ g f' → ((w : ℕ) → r w ≡ g (r' w))
    → kth which f r ≡ g (kth which f' r')
kth_by zero g f f' r r' p q = p
kth_by (suc w) g f f' r r' p q = q w

common_first : (h : ℕ) (m : List ℕ) (qs : List Par) → Each (Lies common_size m) qs
    → common_in h qs ≡ contents_at (Header h) m (sought_in (Header h) 0 qs)
unfolding common_in sought_in
common_first h m [] l = refl
common_first h m (q ∷ qs) l = first_by (eqb q.head h) (contents_at (Header h) m) _ _ _ _ first (common_first h m qs l.1)
  where
    first : eqb q.head h ≡ true → stretch_of (common_extent_of h) 0 q ≡ contents_at (Header h) m (whole_of q)
    first e =
        let z : 0 + q.place ≡ q.place = omega arith in
        rw (← l.0.head, eqb-true q.head h e, z)

-- the name alone says which are passed over
transfer_sought : (x k which s : ℕ) (t : List ℕ) (qs : List Par) → Each (Lies transfer_size t) qs
    → transfer_in x which s qs ≡ moved s (contents_at (Name x k) t (sought_in (Name x k) which qs))
unfolding transfer_in sought_in
transfer_sought x k which s t [] l = refl
transfer_sought x k which s t (q ∷ qs) l =
    first_by (eqb x (name_of q.head)) (λ f. moved s (contents_at (Name x k) t f)) _ _ _ _
    (λ e.
    kth_by which (λ f. moved s (contents_at (Name x k) t f)) _ _ (λ w. transfer_in x w s qs) (λ w. sought_in (Name x k) w qs) first
    (λ w. transfer_sought x k w s t qs l.1))
    (transfer_sought x k which s t qs l.1)
  where
    first : stretch_of (extent_of q.head) s q ≡ moved s (contents_at (Name x k) t (whole_of q))
    first =
        let p : s + q.place + 1 + lead_of (extent_of q.head) ≡ s + (q.place + 1 + lead_of (extent_of q.head)) = omega arith in
        let r : s + q.place + 1 + length q.own ≡ s + (q.place + 1 + length q.own) = omega arith in
        rw (← l.0.head, p, r)

pub common_plain_lem : (h : ℕ) (m : List ℕ) (n : ℕ) → verdict_of m ≡ Accepted n → common_found h m ≡ common_plain h m
unfolding common_found
common_plain_lem h m n e = rw (commons_plain fault_of m n e, common_first h m _ (pars_lie common_size m m 0 0 refl))

-- C5's contents are its transfer data
data_first : (x which : ℕ) (m : List ℕ) (q : Par) → Lies common_size m q → InnerSound q → q.head ≡ transfer_data
    → transfer_in x which (q.place + 2) (transfers_of (data_in q)) ≡ in_data x which m (contents_at (Header transfer_data) m (whole_of q))
unfolding InnerSound common_extent_of lead_of
data_first x which m q l d f =
    let n = length q.own in
    let j : q.place + 1 + 1 ≡ q.place + 2 = omega arith in
    let k : q.place + 1 + n - (q.place + 2) ≡ n - 1 = omega arith in
    let t : drop 1 q.own ≡ take (n - 1) (drop (q.place + 2) m) =
    ap (λ (r : List ℕ). drop 1 r) l.own ∙ rw (← from_to 1 n (drop (q.place + 1) m), drop-drop, j) in
    rw (
      transfers_plain fault_of (data_in q) _ (d f).1,
      transfer_sought x which which (q.place + 2) (data_in q) _ (pars_lie transfer_size (data_in q) (data_in q) 0 0 refl),
      ← l.head,
      f,
      j,
      k,
      ← t,
    )

among_first : (x which : ℕ) (m : List ℕ) (qs : List Par) → Each (Lies common_size m) qs → Each InnerSound qs
    → transfer_among x which qs ≡ in_data x which m (contents_at (Header transfer_data) m (sought_in (Header transfer_data) 0 qs))
unfolding transfer_among sought_in
among_first x which m [] l i = refl
among_first x which m (q ∷ qs) l i =
    first_by (eqb q.head transfer_data) (λ f. in_data x which m (contents_at (Header transfer_data) m f)) _ _ _ _
    (λ e. data_first x which m q l.0 i.0 (eqb-true q.head transfer_data e))
    (among_first x which m qs l.1 i.1)

pub transfer_plain_lem : (x which : ℕ) (m : List ℕ) (n : ℕ) → verdict_of m ≡ Accepted n → transfer_found x which m ≡ transfer_plain x which m
unfolding transfer_found
transfer_plain_lem x which m n e =
    let p = commons_plain fault_of m n e in
    rw p (among_first x which m _ (pars_lie common_size m m 0 0 refl) (rw p at (commons_inner m)))

pub plain_found : (k : Key) (m : List ℕ) (n : ℕ) → verdict_of m ≡ Accepted n → found_by k m ≡ plain_by k m
plain_found (Header h) m n e = common_plain_lem h m n e
plain_found (Name x which) m n e = transfer_plain_lem x which m n e
