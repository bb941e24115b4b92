-- Laws of the steps of reading: what an accepted step says, and that its octets, and a refusal's place, lie within what it was handed; and
-- of 8 and 9 of a header to be written.
use Rattle.std.proofs.Math.Path.{◌≡◌, refl, sym}
use Rattle.std.proofs.Common.{ap, ◌∙◌, Err}
use Rattle.std.specs.Prelude.{Bool, true, false, cond, not, ◌||◌, eqb, leb, get_or, take, drop}
use mathlib.Core.List.{List, [], ◌∷◌}
use Prim.Native.Nat.{ℕ, zero, suc, ◌+◌, ◌-◌, ◌≤◌, ◌<◌}
use native.Mathlib.Omega.{arith}
use borrow.Author.Tests.{le-ltb, ltb-false, leb-false, not-false}
use Rattle.std.proofs.Math.Dec.{ltb}
use Rattle.std.proofs.Math.ListN.{length, length-drop, length-take}
use Rattle.laws.specs.Parts.{from_to}
use Rattle.laws.specs.Extents.{lead_within}
use Rattle.laws.specs.Bools.{or_right}
use Rattle.laws.specs.Offsets.{RuleWithin, reading_within}
use Rattle.annex.specs.Answers.{
  over_the_limits,
  unlisted,
  repeated,
  cut_short,
  not_allowed,
  missing,
  left_over,
  unused_name,
  other_pli,
  repeated_name,
  cut_contents,
  no_room,
  place_of,
  given_of,
  refuse,
  sound_then,
  reading_at,
  and_then,
  shifted,
  Answer,
  Accepted,
  Refused,
  Fault,
  Sound,
  Bad,
}
use Rattle.annex.specs.Units.{name_of, after_of, lead_of, extent_of, common_extent_of, contents_in}
use Rattle.annex.specs.Heads.{among, listed_headers, end_mark, transfer_data, most_octets, name_used, pli_right, often_of}
use Rattle.annex.specs.Contents.{Rule}
use Rattle.annex.specs.Walk.{Seen, unseen, times_seen, counted, Step, walk, judging, by_step}
use Rattle.annex.specs.Reading.{
  octet_allowed,
  common_form,
  end_of,
  transfer_by,
  transfers_verdict_by,
  data_by,
  common_by,
  transfer_step_by,
  common_step_by,
  common_close,
  whole_in,
  message_verdict_by,
  verdict_by,
}
use Rattle.annex.specs.Writing.{head_writing}

-- ---- answers

-- a refusal comes before what follows
pub refuse_then : (b : Bool) (k p : ℕ) (a : Answer) (f : ℕ → Answer) → and_then (refuse b k p a) f ≡ refuse b k p (and_then a f)
refuse_then true k p a f = refl
refuse_then false k p a f = refl

-- what is accepted was not refused on the way
pub passed : (b : Bool) (k p n : ℕ) (a : Answer) → refuse b k p a ≡ Accepted n → (b ≡ false) × (a ≡ Accepted n)
passed true k p n a e = absurd (let z : ◌≡◌ {A = ℕ} 0 1 = cc in omega arith)
passed false k p n a e = (refl, e)

pub then_passed : (a : Answer) (f : ℕ → Answer) (n : ℕ) → and_then a f ≡ Accepted n → (q : ℕ) × (a ≡ Accepted q) × (f q ≡ Accepted n)
then_passed (Accepted q) f n e = (q, refl, e)
then_passed (Err r) f n e = absurd (let z : ◌≡◌ {A = ℕ} 0 1 = cc in omega arith)

-- the answer of a listing: what was found, then so many where the room holds them
pub told_passed : (a : Answer) (room count n : ℕ) → and_then a (λ _. refuse (ltb room count) no_room 0 (Accepted count)) ≡ Accepted n
    → (q : ℕ) × (a ≡ Accepted q) × (n ≡ count) × (n ≤ room)
told_passed a room count n e =
    let t = then_passed a _ n e in
    let u = passed (ltb room count) no_room 0 n (Accepted count) t.2 in
    let same : n ≡ count = sym (ap given_of u.1) in
    (t.0, t.1, same, omega (arith, ltb-false room count u.0))

-- never 15, where the room holds what may be found
pub told_roomy : (a : Answer) (room count : ℕ) → ((q : ℕ) → a ≡ Accepted q → count ≤ room)
    → and_then a (λ _. refuse (ltb room count) no_room 0 (Accepted count)) ≡ and_then a (λ _. Accepted count)
told_roomy (Accepted q) room count f = rw (le-ltb room count (f q refl))
told_roomy (Err r) room count f = refl

pub sounded : (place : ℕ → ℕ → ℕ) (f : Fault) (n : ℕ) (a : Answer) → sound_then place f a ≡ Accepted n → (f ≡ Sound) × (a ≡ Accepted n)
sounded place Sound n a e = (refl, e)
sounded place (Err r) n a e = absurd (let z : ◌≡◌ {A = ℕ} 0 1 = cc in omega arith)

-- 8 and 9 of a header to be written are one refusal, whatever the place and what follows
pub head_refuse : (h : ℕ) → (b : Bool) × (k : ℕ) × ((p : ℕ) (a : Answer) → head_writing p h a ≡ refuse b k p a)
head_refuse h = go (name_used h) (pli_right h)
  where
    go : (u r : Bool)
        → (b : Bool) × (k : ℕ) × ((p : ℕ) (a : Answer) → refuse (not u) unused_name p (refuse (not r) other_pli p a) ≡ refuse b k p a)
    go false r = (true, unused_name, λ p a. refl)
    go true r = (not r, other_pli, λ p a. refl)

-- what is accepted has passed them
pub record HeadTaken (h n : ℕ) (a : Answer) : Type 0 where
  pub used : name_used h ≡ true
  pub pli : pli_right h ≡ true
  pub rest : a ≡ Accepted n

pub head_taken : (p h n : ℕ) (a : Answer) → head_writing p h a ≡ Accepted n → HeadTaken h n a
head_taken p h n a e =
    let e₁ = passed (not (name_used h)) _ p n _ e in
    let e₂ = passed (not (pli_right h)) _ p n a e₁.1 in
    record { used = not-false _ e₁.0; pli = not-false _ e₂.0; rest = e₂.1 }

pub head_right : (p h : ℕ) (a : Answer) → name_used h ≡ true → pli_right h ≡ true → head_writing p h a ≡ a
head_right p h a u r = rw (u, r)

-- they come before what follows
pub head_then_lem : (p h : ℕ) (a : Answer) (f : ℕ → Answer) → and_then (head_writing p h a) f ≡ head_writing p h (and_then a f)
head_then_lem p h a f = let o = head_refuse h in rw (o.2 p a, o.2 p (and_then a f)) (refuse_then o.0 o.1 p a f)

-- where an answer is a refusal, its place is at most l
pub record PlaceTo (l : ℕ) (a : Answer) : Type 0 where
  pub at : (k p : ℕ) → a ≡ Refused k p → p ≤ l

pub accepted_place : (l n : ℕ) → PlaceTo l (Accepted n)
accepted_place l n = record { at = λ k p e. absurd (let z : ◌≡◌ {A = ℕ} 0 1 = cc in omega arith) }

refused_place : (l k p : ℕ) → p ≤ l → PlaceTo l (Refused k p)
refused_place l k p h = record { at = λ j q e. let same : p ≡ q = ap place_of e in omega arith }

refuse_else : (l : ℕ) (b : Bool) (k p : ℕ) (a : Answer) → p ≤ l → (b ≡ false → PlaceTo l a) → PlaceTo l (refuse b k p a)
refuse_else l true k p a h g = refused_place l k p h
refuse_else l false k p a h g = g refl

pub refuse_place : (l : ℕ) (b : Bool) (k p : ℕ) (a : Answer) → p ≤ l → PlaceTo l a → PlaceTo l (refuse b k p a)
refuse_place l b k p a h g = refuse_else l b k p a h (λ _. g)

pub then_place : (l : ℕ) (a : Answer) (f : ℕ → Answer) → PlaceTo l a → ((q : ℕ) → PlaceTo l (f q)) → PlaceTo l (and_then a f)
then_place l (Accepted q) f g h = h q
then_place l (Err r) f g h = g

pub head_place : (l p h : ℕ) (a : Answer) → p ≤ l → PlaceTo l a → PlaceTo l (head_writing p h a)
head_place l p h a i g = let o = head_refuse h in rw (o.2 p a) (refuse_place l o.0 o.1 p a i g)

-- a fault is placed at most at l where its placing says so
pub sound_place : (l : ℕ) (place : ℕ → ℕ → ℕ) (f : Fault) (a : Answer) → ((k i : ℕ) → f ≡ Bad k i → place k i ≤ l) → PlaceTo l a
    → PlaceTo l (sound_then place f a)
sound_place l place Sound a h g = g
sound_place l place (Err r) a h g = refused_place l r.0 (place r.0 r.1) (h r.0 r.1 refl)

pub place_told : (l : ℕ) (a : Answer) → PlaceTo l a → place_of a ≤ l
place_told l (Accepted n) g = omega arith
place_told l (Err r) g = g.at r.0 r.1 refl

pub place_up : (l m : ℕ) (a : Answer) → l ≤ m → PlaceTo l a → PlaceTo m a
place_up l m a h g = record { at = λ k p e. omega (arith, g.at k p e) }

-- ---- places in a walk

module _ (step : Step) (close : Seen → ℕ → Answer)
    (l : ℕ) (placed : (seen : Seen) (h : ℕ) (xs : List ℕ) → PlaceTo (length xs + l) (step seen h xs))
    (closed : (seen : Seen) (p : ℕ) → PlaceTo (p + l) (close seen p)) where
  walk_place : (xs : List ℕ) (seen : Seen) (k p : ℕ) → PlaceTo (p + length xs + l) (walk (judging step close) seen k p xs)
  unfolding walk
  walk_place [] seen k p = let e : p + 0 + l ≡ p + l = omega arith in rw e (closed seen p)
  walk_place (x ∷ xs) seen (suc k) p = place_up (p + 1 + length xs + l) _ _ (omega arith) (walk_place xs seen k (p + 1))
  walk_place (x ∷ xs) seen zero p = go (step seen x xs) refl (walk_place xs (counted seen x))
    where
      go : (a : Answer) → step seen x xs ≡ a → ((k p : ℕ) → PlaceTo (p + length xs + l) (walk (judging step close) (counted seen x) k p xs))
          → PlaceTo (p + suc (length xs) + l)
          (by_step a (λ k q. Refused k (p + q)) (λ n. walk (judging step close) (counted seen x) n (p + 1) xs))
      go (Accepted n) e ih = place_up (p + 1 + length xs + l) _ _ (omega arith) (ih n (p + 1))
      go (Err r) e ih = refused_place _ r.0 (p + r.1) (omega (arith, (placed seen x xs).at r.0 r.1 e))

-- ---- a common parameter

pub record FormTaken (times h : ℕ) (xs : List ℕ) (n : ℕ) : Type 0 where
  pub listed : among h listed_headers ≡ true
  pub once : times ≡ 0
  pub size : n ≡ after_of (common_extent_of h) (get_or xs 0 0)
  pub within : n ≤ length xs
  pub right : octet_allowed h (get_or xs 0 0) ≡ true

pub form_taken : (times h : ℕ) (xs : List ℕ) (n : ℕ) → common_form times h xs ≡ Accepted n → FormTaken times h xs n
unfolding common_form
form_taken times h xs n e =
    let l = after_of (common_extent_of h) (get_or xs 0 0) in
    let e₁ = passed (not (among h listed_headers)) _ 0 n _ e in
    let e₂ = passed (ltb 0 times) _ 0 n _ e₁.1 in
    let e₃ = passed (ltb (length xs) l) _ 0 n _ e₂.1 in
    let e₄ = passed (not (octet_allowed h (get_or xs 0 0))) _ 0 n (Accepted l) e₃.1 in
    let same : l ≡ n = cc in
    record {
      listed = not-false (among h listed_headers) e₁.0;
      once = omega (arith, ltb-false 0 times e₂.0);
      size = sym same;
      within = omega (arith, ltb-false (length xs) l e₃.0);
      right = not-false (octet_allowed h (get_or xs 0 0)) e₄.0;
    }

form_place : (times h : ℕ) (xs : List ℕ) → PlaceTo 0 (common_form times h xs)
unfolding common_form
form_place times h xs =
    let n = after_of (common_extent_of h) (get_or xs 0 0) in
    let right = refuse_place 0 (not (octet_allowed h (get_or xs 0 0))) not_allowed 0 (Accepted n) (omega arith) (accepted_place 0 n) in
    let whole = refuse_place 0 (ltb (length xs) n) cut_short 0 _ (omega arith) right in
    let once = refuse_place 0 (ltb 0 times) repeated 0 _ (omega arith) whole in
    refuse_place 0 (not (among h listed_headers)) unlisted 0 _ (omega arith) once

end_place : (whole : Bool) (xs : List ℕ) → PlaceTo 1 (end_of whole xs)
unfolding end_of
end_place whole xs =
    let last = refuse_place 1 (ltb 0 (length xs)) left_over 1 (Accepted 0) (omega arith) (accepted_place 1 0) in
    refuse_place 1 (not whole) missing 0 _ (omega arith) last

close_place : (seen : Seen) (p : ℕ) → PlaceTo (p + 2) (common_close seen p)
close_place seen p =
    refuse_place (p + 2) (not (ltb 0 (times_seen seen end_mark))) cut_short p (Accepted p) (omega arith) (accepted_place (p + 2) p)

behind_data : (n : ℕ) (xs : List ℕ) → n ≤ length xs → length (contents_in (common_extent_of transfer_data) (take n xs)) ≤ length xs
unfolding common_extent_of lead_of
behind_data n xs h = simp (length-drop, length-take) (omega arith)

shifted_place : (l s : ℕ) (a : Answer) → PlaceTo l a → PlaceTo (s + l) (shifted s a)
shifted_place l s (Accepted n) g = accepted_place (s + l) n
shifted_place l s (Err r) g = refused_place (s + l) r.0 (s + r.1) (omega (arith, g.at r.0 r.1 refl))

-- C5 by the part behind its length octet
data_part_lem : (n : ℕ) (xs : List ℕ) → contents_in (common_extent_of transfer_data) (take n xs) ≡ take (n - 1) (drop 1 xs)
unfolding common_extent_of lead_of
data_part_lem n xs = sym (from_to 1 n xs)

-- ---- by any rule of contents

-- what an accepted transfer parameter has passed
pub record TransferTaken (rule : Rule) (times h : ℕ) (xs : List ℕ) (n : ℕ) : Type 0 where
  pub used : name_used h ≡ true
  pub pli : pli_right h ≡ true
  pub often : times < often_of (name_of h)
  pub size : n ≡ after_of (extent_of h) (get_or xs 0 0)
  pub within : n ≤ length xs
  pub sound : rule h (contents_in (extent_of h) (take n xs)) ≡ Sound

module _ (rule : Rule) where
  pub transfer_taken : (times h : ℕ) (xs : List ℕ) (n : ℕ) → transfer_by rule times h xs ≡ Accepted n → TransferTaken rule times h xs n
  unfolding transfer_by
  transfer_taken times h xs n e =
      let l = after_of (extent_of h) (get_or xs 0 0) in
      let e₁ = passed (not (name_used h)) _ 0 n _ e in
      let e₂ = passed (not (pli_right h)) _ 0 n _ e₁.1 in
      let e₃ = passed (leb (often_of (name_of h)) times) _ 0 n _ e₂.1 in
      let e₄ = passed (ltb (length xs) l) _ 0 n _ e₃.1 in
      let e₅ = sounded (reading_at (1 + lead_of (extent_of h))) (rule h (contents_in (extent_of h) (take l xs))) n (Accepted l) e₄.1 in
      let same : l ≡ n = cc in
      record {
        used = not-false (name_used h) e₁.0;
        pli = not-false (pli_right h) e₂.0;
        often = leb-false (often_of (name_of h)) times e₃.0;
        size = sym same;
        within = omega (arith, ltb-false (length xs) l e₄.0);
        sound = rw same at e₅.0;
      }

  -- what follows 2 to 5
  pub common_formed : (times : ℕ) (whole : Bool) (h : ℕ) (xs : List ℕ) (n : ℕ) → common_form times h xs ≡ Accepted n
      → common_by rule times whole h xs ≡ cond (eqb h end_mark) (end_of whole xs) (cond (eqb h transfer_data) (data_by rule n xs) (Accepted n))
  unfolding common_by
  common_formed times whole h xs n e = rw e

  pub common_refused : (times : ℕ) (whole : Bool) (h : ℕ) (xs : List ℕ) (k p : ℕ) → common_form times h xs ≡ Refused k p
      → common_by rule times whole h xs ≡ Refused k p
  unfolding common_by
  common_refused times whole h xs k p e = rw e

  -- ---- C5 and the whole step

  pub data_told : (n : ℕ) (xs : List ℕ)
      → data_by rule n xs ≡ and_then (shifted 2 (transfers_verdict_by rule (take (n - 1) (drop 1 xs)))) (λ _. Accepted n)
  unfolding data_by
  data_told n xs = rw (data_part_lem n xs)

  pub data_taken : (n : ℕ) (xs : List ℕ) (k : ℕ) → data_by rule n xs ≡ Accepted k
      → (q : ℕ) × (transfers_verdict_by rule (contents_in (common_extent_of transfer_data) (take n xs)) ≡ Accepted q) × (k ≡ n)
  unfolding data_by
  data_taken n xs k e = go (transfers_verdict_by rule (contents_in (common_extent_of transfer_data) (take n xs))) refl e
    where
      go : (a : Answer) → transfers_verdict_by rule (contents_in (common_extent_of transfer_data) (take n xs)) ≡ a
          → and_then (shifted 2 a) (λ _. Accepted n) ≡ Accepted k
          → (q : ℕ) × (transfers_verdict_by rule (contents_in (common_extent_of transfer_data) (take n xs)) ≡ Accepted q) × (k ≡ n)
      go (Accepted q) f e = (q, f, cc)
      go (Err r) f e = absurd (let z : ◌≡◌ {A = ℕ} 0 1 = cc in omega arith)

  -- an accepted common parameter lies within its octets
  pub common_within : (times : ℕ) (whole : Bool) (h : ℕ) (xs : List ℕ) (n : ℕ) → common_by rule times whole h xs ≡ Accepted n → n ≤ length xs
  unfolding end_of
  common_within times whole h xs n e = go (common_form times h xs) refl
    where
      by_end : end_of whole xs ≡ Accepted n → n ≤ length xs
      by_end f =
          let f₁ = passed (not whole) _ 0 n _ f in
          let f₂ = passed (ltb 0 (length xs)) _ 1 n (Accepted 0) f₁.1 in
          let same : 0 ≡ n = cc in
          omega arith

      by_kind : (a b : Bool) (k : ℕ) → k ≤ length xs → cond a (end_of whole xs) (cond b (data_by rule k xs) (Accepted k)) ≡ Accepted n
          → n ≤ length xs
      by_kind true b k l f = by_end f
      by_kind false true k l f = omega (arith, (data_taken k xs n f).2)
      by_kind false false k l f = let same : k ≡ n = cc in omega arith

      go : (a : Answer) → common_form times h xs ≡ a → n ≤ length xs
      go (Accepted k) f =
          by_kind (eqb h end_mark) (eqb h transfer_data) k (form_taken times h xs k f).within (sym (common_formed times whole h xs k f) ∙ e)
      go (Err r) f = absurd (let g = common_refused times whole h xs r.0 r.1 f in let z : ◌≡◌ {A = ℕ} 0 1 = cc in omega arith)

  -- an accepted common parameter has passed 2 to 5
  pub common_taken : (times : ℕ) (whole : Bool) (h : ℕ) (xs : List ℕ) (n : ℕ) → common_by rule times whole h xs ≡ Accepted n
      → (k : ℕ) × FormTaken times h xs k × (common_form times h xs ≡ Accepted k)
  common_taken times whole h xs n e = go (common_form times h xs) refl
    where
      go : (a : Answer) → common_form times h xs ≡ a → (k : ℕ) × FormTaken times h xs k × (common_form times h xs ≡ Accepted k)
      go (Accepted k) f = (k, form_taken times h xs k f, f)
      go (Err r) f = absurd (let g = common_refused times whole h xs r.0 r.1 f in let z : ◌≡◌ {A = ℕ} 0 1 = cc in omega arith)

-- ---- places, by a rule whose faults lie within the contents

module _ (rule : Rule) (inside : RuleWithin rule) where
  -- a transfer parameter's refusals lie within it
  pub transfer_place : (times h : ℕ) (xs : List ℕ) → PlaceTo (length xs) (transfer_by rule times h xs)
  unfolding transfer_by
  transfer_place times h xs =
      let l = length xs in
      let e = extent_of h in
      let n = after_of e (get_or xs 0 0) in
      let whole = refuse_else l (ltb l n) cut_contents 0 _ (omega arith) (λ w. sound n (lead_within e (get_or xs 0 0)) (ltb-false l n w)) in
      let once = refuse_place l (leb (often_of (name_of h)) times) repeated_name 0 _ (omega arith) whole in
      let right = refuse_place l (not (pli_right h)) other_pli 0 _ (omega arith) once in
      refuse_place l (not (name_used h)) unused_name 0 _ (omega arith) right
    where
      sound : (n : ℕ) → lead_of (extent_of h) ≤ n → n ≤ length xs
          → PlaceTo (length xs)
          (sound_then (reading_at (1 + lead_of (extent_of h))) (rule h (contents_in (extent_of h) (take n xs))) (Accepted n))
      sound n front whole =
          let c = contents_in (extent_of h) (take n xs) in
          let lead = lead_of (extent_of h) in
          let few : lead + length c ≤ length xs = omega (arith, length-drop lead (take n xs), length-take n xs) in
          sound_place (length xs) (reading_at (1 + lead)) (rule h c) (Accepted n)
          (λ k i f. omega (arith, reading_within lead (length c) (rule h c) (inside h c) k i f)) (accepted_place (length xs) n)

  pub transfers_place : (t : List ℕ) → PlaceTo (length t) (transfers_verdict_by rule t)
  unfolding transfers_verdict_by
  transfers_place t =
      let f : 0 + length t + 0 ≡ length t = omega arith in
      rw f at
      (walk_place (transfer_step_by rule) (λ seen p. Accepted p) 0
      (λ seen h xs. place_up (length xs) (length xs + 0) (transfer_step_by rule seen h xs) (omega arith) (transfer_place _ h xs))
      (λ seen p. accepted_place (p + 0) p) t unseen 0 0)

  data_place : (n : ℕ) (xs : List ℕ) → n ≤ length xs → PlaceTo (2 + length xs) (data_by rule n xs)
  unfolding data_by
  data_place n xs h =
      let t = contents_in (common_extent_of transfer_data) (take n xs) in
      place_up (2 + length t) (2 + length xs) _ (omega (arith, behind_data n xs h))
      (then_place (2 + length t) _ _ (shifted_place (length t) 2 _ (transfers_place t)) (λ _. accepted_place (2 + length t) n))

  pub common_place : (times : ℕ) (whole : Bool) (h : ℕ) (xs : List ℕ) → PlaceTo (length xs + 2) (common_by rule times whole h xs)
  common_place times whole h xs = go (common_form times h xs) refl
    where
      by_kind : (a b : Bool) (n : ℕ) → n ≤ length xs
          → PlaceTo (length xs + 2) (cond a (end_of whole xs) (cond b (data_by rule n xs) (Accepted n)))
      by_kind true b n l = place_up 1 _ _ (omega arith) (end_place whole xs)
      by_kind false true n l = place_up (2 + length xs) _ _ (omega arith) (data_place n xs l)
      by_kind false false n l = accepted_place _ n

      go : (a : Answer) → common_form times h xs ≡ a → PlaceTo (length xs + 2) (common_by rule times whole h xs)
      go (Accepted n) e =
          rw (common_formed rule times whole h xs n e) (by_kind (eqb h end_mark) (eqb h transfer_data) n (form_taken times h xs n e).within)
      go (Err r) e =
          rw (common_refused rule times whole h xs r.0 r.1 e) (refused_place _ r.0 r.1 (omega (arith, (form_place times h xs).at r.0 r.1 e)))

  -- no place of a verdict is more than two over the octets that a message may have
  pub verdict_place : (m : List ℕ) → PlaceTo (most_octets + 2) (verdict_by rule m)
  unfolding verdict_by message_verdict_by
  verdict_place m =
      refuse_else (most_octets + 2) (eqb (length m) 0 || ltb most_octets (length m)) over_the_limits 0 (message_verdict_by rule m) (omega arith)
      (λ e. place_up (0 + length m + 2) (most_octets + 2) _
      (omega (arith, ltb-false most_octets (length m) (or_right (eqb (length m) 0) _ e)))
      (walk_place (common_step_by rule) common_close 2
      (λ seen h xs. common_place (times_seen seen h) (whole_in seen) h xs) close_place m unseen 0 0))
