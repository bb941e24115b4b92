-- What the place of a 13 means (document 02, request e): reading refuses with 13 at the first bad octet of a transfer parameter, and no
-- parameter before that one has a bad octet. Any other number of a transfer parameter is told at its header.
use Prim.Native.Nat.{ℕ, zero, suc, ◌+◌, ◌-◌, ◌≤◌}
use native.Mathlib.Omega.{arith}
use Rattle.std.specs.Prelude.{◌≡◌, Bool, true, false, cond, not, ◌||◌, ◌⊎◌, eqb, leb, ltb, length, get_or, take, drop, Err}
use Rattle.std.proofs.Math.Path.{refl, sym, ap}
use Rattle.std.proofs.Common.{subst, ◌∙◌, inl, inr, get_or-take, get_or-drop, take-take, drop-drop}
use mathlib.Core.List.{List, [], ◌∷◌, ◌++◌}
use borrow.Author.Tests.{ltb-true, ltb-false, le-leb, eqb-true}
use Rattle.std.proofs.Math.ListN.{length-drop}
use Rattle.annex.specs.Answers.{
  number_of,
  place_of,
  over_the_limits,
  unlisted,
  repeated,
  cut_short,
  not_allowed,
  missing,
  left_over,
  unused_name,
  other_pli,
  repeated_name,
  cut_contents,
  bad_digit,
  no_room,
  refuse,
  sound_then,
  reading_at,
  and_then,
  shifted,
  outside_profile,
  absent,
  Answer,
  Accepted,
  Refused,
  ChargingAnswer,
  Is,
  Found,
  At,
  Nowhere,
  Fault,
  Sound,
  Bad,
}
use Rattle.annex.specs.Units.{name_of, lead_of, extent_of, common_extent_of, contents_in}
use Rattle.annex.specs.Heads.{among, listed_headers, end_mark, transfer_data, most_octets, name_used, pli_right, often_of}
use Rattle.annex.specs.Contents.{fault_of}
use Rattle.annex.specs.Allowed.{Each, items_in}
use Rattle.annex.specs.Walk.{
  Seen,
  unseen,
  times_seen,
  counted,
  Par,
  Step,
  by_step,
  walk,
  judging,
  listing,
  Size,
  common_size,
  transfer_size,
  par_of,
  pars,
}
use Rattle.annex.specs.Reading.{
  octet_allowed,
  common_form,
  end_of,
  common_close,
  data_in,
  transfer_of,
  transfer_step,
  transfers_verdict,
  data_of,
  common_of,
  common_step,
  verdict_of,
  record_of,
  commons_of,
  transfers_of,
  transfer_by,
  transfers_verdict_by,
  data_by,
  message_verdict_by,
  verdict_by,
  commons_by,
  transfers_by,
}
use Rattle.annex.specs.BadHalves.{bad_at, FirstBad, transfer_pars, own_contents, NoneBadOf, NoneBadIn, header_in, contents_start, ShownAt}
use Rattle.annex.specs.Image.{image_of}
use Rattle.annex.specs.Finding.{found_answer, find_answer, find_part}
use Rattle.annex.specs.Spans.{rows_of, spans_of, spans_by}
use Rattle.annex.specs.Editing.{Edit, record_editing, editing_of}
use Rattle.annex.specs.Charging.{charging_found, charging_by, charging_of, charging_octets, octet_charging_by, octet_charging}
use Rattle.annex.specs.Opened.{order_found, order_rows_of, order_answer}
use Rattle.annex.specs.Transit.{is_code_entry, digits_in, carriers_found, carrier_rows_of, carriers_answer, entry_found, digits_answer}
use Rattle.annex.specs.Packed.{image_reading, profile_image_reading}
use Rattle.annex.specs.Profile.{
  pair_octets,
  added_class,
  some,
  is_headed,
  is_in_profile,
  profile_verdict,
  classes_of,
  profile_by,
  profile_reading,
  classes_answer,
}
use Rattle.laws.specs.Extents.{lead_within}
use Rattle.laws.specs.Parts.{from_to}
use Rattle.laws.specs.Firsts.{first_bad, none_bad}
use Rattle.laws.specs.Places.{record_place}
use Rattle.laws.specs.Steps.{transfer_taken, form_taken, common_formed, common_refused}
use Rattle.theorems.specs.Lists.{each_right, each_so}
use Rattle.laws.specs.Plain.{Lies, pars_lie, each_listed, transfer_sized, transfers_plain, common_sized, InnerSound, commons_inner}

-- ---- refusals

-- an answer that refuses with j was not refused on the way with another number
other : (b : Bool) (k p : ℕ) (a : Answer) (j q : ℕ) → (k ≡ j → ⊥) → refuse b k p a ≡ Refused j q → (b ≡ false) × (a ≡ Refused j q)
other true k p a j q n e = absurd (n (ap number_of e))
other false k p a j q n e = (refl, e)

-- 13 is placed at its octet
placed : (s : ℕ) (f : Fault) (n q : ℕ) → sound_then (reading_at s) f (Accepted n) ≡ Refused bad_digit q
    → (i : ℕ) × (f ≡ Bad bad_digit i) × (q ≡ s + i)
placed s Sound n q e = absurd (let z : ◌≡◌ {A = ℕ} 0 1 = cc in omega arith)
placed s (Err r) n q e =
    let number : r.0 ≡ bad_digit = ap number_of e in
    let place : reading_at s r.0 r.1 ≡ q = ap place_of e in
    (r.1, rw number, sym place ∙ rw number)

-- ---- a walk that is refused

-- it stops at a parameter with the header x at the place `at`, before the octets ys, behind those that are listed
record Stops (step : Step) (size : Size) (seen : Seen) (k p : ℕ) (xs : List ℕ) (num pl : ℕ) : Type 0 where
  pub at : ℕ
  pub x : ℕ
  pub ys : List ℕ
  pub names : Seen
  pub q : ℕ
  pub refused : step names x ys ≡ Refused num q
  pub place : pl ≡ at + q
  pub whole : (n : ℕ) → n ≡ size x ys → n ≤ length ys
      → pars size k p xs ≡ walk (listing step) seen k p xs ++ (par_of at x n ys ∷ pars size n (at + 1) ys)

module _ (step : Step) (close : Seen → ℕ → Answer) (size : Size)
    (sized : (seen : Seen) (h : ℕ) (xs : List ℕ) (n : ℕ) → step seen h xs ≡ Accepted n → (n ≡ size h xs) × (n ≤ length xs))
    (num : ℕ) (closed : (seen : Seen) (p q : ℕ) → close seen p ≡ Refused num q → ⊥) where
  stops : (xs : List ℕ) (seen : Seen) (k p pl : ℕ) → walk (judging step close) seen k p xs ≡ Refused num pl
      → Stops step size seen k p xs num pl
  unfolding walk pars
  stops [] seen k p pl e = absurd (closed seen p pl e)
  stops (x ∷ xs) seen (suc k) p pl e =
      let s = stops xs seen k (p + 1) pl e in
      record {
        at = s.at;
        x = s.x;
        ys = s.ys;
        names = s.names;
        q = s.q;
        refused = s.refused;
        place = s.place;
        whole = s.whole;
      }
  stops (x ∷ xs) seen zero p pl e = go (step seen x xs) refl e (λ n. stops xs (counted seen x) n (p + 1) pl)
    where
      go : (a : Answer) → step seen x xs ≡ a
          → by_step a (λ k q. Refused k (p + q)) (λ n. walk (judging step close) (counted seen x) n (p + 1) xs) ≡ Refused num pl
          → ((n : ℕ) → walk (judging step close) (counted seen x) n (p + 1) xs ≡ Refused num pl
          → Stops step size (counted seen x) n (p + 1) xs num pl)
          → Stops step size seen 0 p (x ∷ xs) num pl
      go (Accepted n) f e ih =
          let s = ih n e in
          let z = sized seen x xs n f in
          record {
            at = s.at;
            x = s.x;
            ys = s.ys;
            names = s.names;
            q = s.q;
            refused = s.refused;
            place = s.place;
            whole = λ l m w.
                rw (f, ← z.0, le-leb n (length xs) z.1) (ap (λ (r : List Par). par_of p x n xs ∷ r) (s.whole l m w));
          }
      go (Err r) f e ih =
          let number : r.0 ≡ num = ap number_of e in
          let there : p + r.1 ≡ pl = ap place_of e in
          record {
            at = p;
            x = x;
            ys = xs;
            names = seen;
            q = r.1;
            refused = f ∙ rw number;
            place = sym there;
            whole = λ n m w. rw (f, ← m, le-leb n (length xs) w);
          }

-- ---- transfer data

-- contents in which nothing is wrong
abbrev SoundOf : Par → Type 0
SoundOf q = fault_of q.head (own_contents q) ≡ Sound

-- of each parameter that is listed
listed_none : (t : List ℕ) → Each NoneBadOf (transfers_of t)
unfolding transfers_by
listed_none t =
    each_so SoundOf NoneBadOf (λ q. none_bad q.head (own_contents q)) (transfers_of t)
    (each_listed transfer_step SoundOf (λ seen p h xs n e. (transfer_taken fault_of _ h xs n e).sound) t unseen 0 0)

-- 13 of a parameter: it is not cut, and its contents have that fault
transfer_stops : (times h : ℕ) (xs : List ℕ) (q : ℕ) → transfer_of times h xs ≡ Refused bad_digit q →
    let n = transfer_size h xs in
    (n ≤ length xs) × (i : ℕ) × (fault_of h (contents_in (extent_of h) (take n xs)) ≡ Bad bad_digit i) × (q ≡ 1 + lead_of (extent_of h) + i)
unfolding transfer_by
transfer_stops times h xs q e =
    let n = transfer_size h xs in
    let e₁ = other (not (name_used h)) unused_name 0 _ bad_digit q (λ z. omega arith) e in
    let e₂ = other (not (pli_right h)) other_pli 0 _ bad_digit q (λ z. omega arith) e₁.1 in
    let e₃ = other (leb (often_of (name_of h)) times) repeated_name 0 _ bad_digit q (λ z. omega arith) e₂.1 in
    let e₄ = other (ltb (length xs) n) cut_contents 0 _ bad_digit q (λ z. omega arith) e₃.1 in
    let w = placed (1 + lead_of (extent_of h)) _ n q e₄.1 in
    (ltb-false (length xs) n e₄.0, w.0, w.1, w.2)

-- any other number is told at the header
abbrev AtHeader : Answer → Type 0
AtHeader a = (k q : ℕ) → a ≡ Refused k q → (k ≡ bad_digit) ⊎ (q ≡ 0)

refuse_header : (b : Bool) (j : ℕ) (a : Answer) → AtHeader a → AtHeader (refuse b j 0 a)
refuse_header true j a h k q e = inr (sym (ap place_of e))
refuse_header false j a h k q e = h k q e

sound_header : (s : ℕ) (f : Fault) (n : ℕ) → AtHeader (sound_then (reading_at s) f (Accepted n))
sound_header s Sound n k q e = absurd (let z : ◌≡◌ {A = ℕ} 0 1 = cc in omega arith)
sound_header s (Err r) n k q e =
    let number : r.0 ≡ k = ap number_of e in
    let place : reading_at s r.0 r.1 ≡ q = ap place_of e in
    go (eqb r.0 bad_digit) refl (sym number) place
  where
    go : (b : Bool) → eqb r.0 bad_digit ≡ b → k ≡ r.0 → cond b (s + r.1) 0 ≡ q → (k ≡ bad_digit) ⊎ (q ≡ 0)
    go true t number place = inl (number ∙ eqb-true r.0 bad_digit t)
    go false t number place = inr (sym place)

pub at_the_header : (times h : ℕ) (xs : List ℕ) → AtHeader (transfer_of times h xs)
unfolding transfer_by
at_the_header times h xs =
    refuse_header (not (name_used h)) unused_name _
    (refuse_header (not (pli_right h)) other_pli _
    (refuse_header (leb (often_of (name_of h)) times) repeated_name _
    (refuse_header (ltb (length xs) (transfer_size h xs)) cut_contents _
    (sound_header (1 + lead_of (extent_of h)) (fault_of h (contents_in (extent_of h) (take (transfer_size h xs) xs))) (transfer_size h xs)))))

-- 13 of the transfer data t, at the place p counted from its start
record TransferShown (t : List ℕ) (p : ℕ) : Type 0 where
  pub front : List Par
  pub one : Par
  pub back : List Par
  pub parameters : pars transfer_size 0 0 t ≡ front ++ (one ∷ back)
  pub offset : ℕ
  pub place : p ≡ one.place + 1 + lead_of (extent_of one.head) + offset
  pub first : FirstBad one.head (own_contents one) offset
  pub none_before : Each NoneBadOf front

transfers_shown : (t : List ℕ) (p : ℕ) → transfers_verdict t ≡ Refused bad_digit p → TransferShown t p
unfolding transfers_verdict_by transfers_by
transfers_shown t p e =
    let s =
    stops transfer_step (λ seen p. Accepted p) transfer_size (transfer_sized fault_of) bad_digit
    (λ seen p q f. absurd (let z : ◌≡◌ {A = ℕ} 0 1 = cc in omega arith)) t unseen 0 0 p e in
    let w = transfer_stops _ s.x s.ys s.q s.refused in
    let n = transfer_size s.x s.ys in
    record {
      front = transfers_of t;
      one = par_of s.at s.x n s.ys;
      back = pars transfer_size n (s.at + 1) s.ys;
      parameters = s.whole n refl w.0;
      offset = w.1;
      place = omega (arith, s.place, w.3);
      first = first_bad s.x _ w.1 w.2;
      none_before = listed_none t;
    }

-- ---- a common parameter

form_stops : (times h : ℕ) (xs : List ℕ) (q : ℕ) → common_form times h xs ≡ Refused bad_digit q → ⊥
unfolding common_form
form_stops times h xs q e =
    let n = common_size h xs in
    let e₁ = other (not (among h listed_headers)) unlisted 0 _ bad_digit q (λ z. omega arith) e in
    let e₂ = other (ltb 0 times) repeated 0 _ bad_digit q (λ z. omega arith) e₁.1 in
    let e₃ = other (ltb (length xs) n) cut_short 0 _ bad_digit q (λ z. omega arith) e₂.1 in
    let e₄ = other (not (octet_allowed h (get_or xs 0 0))) not_allowed 0 (Accepted n) bad_digit q (λ z. omega arith) e₃.1 in
    absurd (let f = e₄.1 in let z : ◌≡◌ {A = ℕ} 0 1 = cc in omega arith)

end_stops : (whole : Bool) (xs : List ℕ) (q : ℕ) → end_of whole xs ≡ Refused bad_digit q → ⊥
unfolding end_of
end_stops whole xs q e =
    let e₁ = other (not whole) missing 0 _ bad_digit q (λ z. omega arith) e in
    let e₂ = other (ltb 0 (length xs)) left_over 1 (Accepted 0) bad_digit q (λ z. omega arith) e₁.1 in
    absurd (let f = e₂.1 in let z : ◌≡◌ {A = ℕ} 0 1 = cc in omega arith)

data_stops : (n : ℕ) (xs : List ℕ) (q : ℕ) → data_of n xs ≡ Refused bad_digit q
    → (p : ℕ) × (transfers_verdict (contents_in (common_extent_of transfer_data) (take n xs)) ≡ Refused bad_digit p) × (q ≡ 2 + p)
unfolding data_by
data_stops n xs q e = go (transfers_verdict (contents_in (common_extent_of transfer_data) (take n xs))) refl e
  where
    go : (a : Answer) → transfers_verdict (contents_in (common_extent_of transfer_data) (take n xs)) ≡ a
        → and_then (shifted 2 a) (λ _. Accepted n) ≡ Refused bad_digit q
        → (p : ℕ) × (transfers_verdict (contents_in (common_extent_of transfer_data) (take n xs)) ≡ Refused bad_digit p) × (q ≡ 2 + p)
    go (Accepted k) f e = absurd (let z : ◌≡◌ {A = ℕ} 0 1 = cc in omega arith)
    go (Err r) f e =
        let number : r.0 ≡ bad_digit = ap number_of e in
        let place : 2 + r.1 ≡ q = ap place_of e in
        (r.1, f ∙ rw number, sym place)

-- 13 of a common parameter: it is C5, which is not cut, and its transfer data is refused so
common_stops : (times : ℕ) (whole : Bool) (h : ℕ) (xs : List ℕ) (q : ℕ) → common_of times whole h xs ≡ Refused bad_digit q →
    let n = common_size h xs in
    (h ≡ transfer_data) × (n ≤ length xs)
    × (p : ℕ) × (transfers_verdict (contents_in (common_extent_of transfer_data) (take n xs)) ≡ Refused bad_digit p) × (q ≡ 2 + p)
common_stops times whole h xs q e = go (common_form times h xs) refl
  where
    Stop : Type 0
    Stop =
        (h ≡ transfer_data) × (common_size h xs ≤ length xs)
        × (p : ℕ) × (transfers_verdict (contents_in (common_extent_of transfer_data) (take (common_size h xs) xs)) ≡ Refused bad_digit p)
        × (q ≡ 2 + p)

    by_kind : (n : ℕ) → n ≡ common_size h xs → n ≤ length xs → (a b : Bool) → eqb h transfer_data ≡ b
        → cond a (end_of whole xs) (cond b (data_of n xs) (Accepted n)) ≡ Refused bad_digit q → Stop
    by_kind n s l true b t f = absurd (end_stops whole xs q f)
    by_kind n s l false true t f =
        let w = data_stops n xs q f in
        (eqb-true h transfer_data t, rw (← s) l, w.0, rw (← s) w.1, w.2)
    by_kind n s l false false t f = absurd (let z : ◌≡◌ {A = ℕ} 0 1 = cc in omega arith)

    go : (a : Answer) → common_form times h xs ≡ a → Stop
    go (Accepted n) f =
        let t = form_taken times h xs n f in
        by_kind n t.size t.within (eqb h end_mark) (eqb h transfer_data) refl (sym (common_formed fault_of times whole h xs n f) ∙ e)
    go (Err r) f =
        let g = sym (common_refused fault_of times whole h xs r.0 r.1 f) ∙ e in
        absurd (form_stops times h xs q (f ∙ g))

common_closed : (seen : Seen) (p q : ℕ) → common_close seen p ≡ Refused bad_digit q → ⊥
common_closed seen p q e =
    let f = (other (not (ltb 0 (times_seen seen end_mark))) cut_short p (Accepted p) bad_digit q (λ z. omega arith) e).1 in
    absurd (let z : ◌≡◌ {A = ℕ} 0 1 = cc in omega arith)

-- transfer data in which nothing is wrong has no bad octet
inner_none : (q : Par) → InnerSound q → NoneBadIn q
unfolding InnerSound
inner_none q i five =
    let k = i five in
    rw (transfers_plain fault_of (data_in q) k.0 k.1) at (listed_none (data_in q))

-- ---- where a parameter of transfer data stands in the message

-- a part of a part
part_of : (a n b k : ℕ) (m : List ℕ) → a + n ≤ k → take n (drop a (take k (drop b m))) ≡ take n (drop (b + a) m)
part_of a n b k m l =
    ap (take n) (sym (from_to a k (drop b m)))
    ∙ rw (take-take n (k - a) (drop a (drop b m)) (omega arith), drop-drop a b m)

module _ (m : List ℕ) (c one : Par)
    (lies : Lies common_size m c) (inner : Lies transfer_size (data_in c) one) where
  data_there : data_in c ≡ take (length c.own - 1) (drop (c.place + 2) m)
  unfolding common_extent_of lead_of
  data_there =
      let at : c.place + 1 + 1 ≡ c.place + 2 = omega arith in
      ap (drop 1) lies.own ∙ sym (from_to 1 (length c.own) (drop (c.place + 1) m)) ∙ rw (drop-drop 1 (c.place + 1) m, at)

  data_long : length (data_in c) ≡ length c.own - 1
  unfolding common_extent_of lead_of
  data_long = length-drop 1 c.own

  header_there : get_or m (header_in c one) 0 ≡ one.head
  header_there =
      sym
      (inner.head ∙ ap (λ (t : List ℕ). get_or t one.place 0) data_there
      ∙ get_or-take (length c.own - 1) (drop (c.place + 2) m) one.place 0 (omega (arith, inner.within, data_long))
      ∙ get_or-drop (c.place + 2) m one.place 0)

  own_there : one.own ≡ take (length one.own) (drop (header_in c one + 1) m)
  own_there =
      let at : c.place + 2 + (one.place + 1) ≡ header_in c one + 1 = omega arith in
      inner.own ∙ ap (λ (t : List ℕ). take (length one.own) (drop (one.place + 1) t)) data_there
      ∙ part_of (one.place + 1) (length one.own) (c.place + 2) (length c.own - 1) m (omega (arith, inner.within, data_long))
      ∙ rw at

  abbrev lead : ℕ
  lead = lead_of (extent_of one.head)

  contents_there : own_contents one ≡ take (length (own_contents one)) (drop (contents_start c one) m)
  contents_there =
      ap (drop lead) own_there ∙ sym (from_to lead (length one.own) (drop (header_in c one + 1) m))
      ∙ rw (drop-drop lead (header_in c one + 1) m, length-drop lead one.own)

  contents_inside : contents_start c one + length (own_contents one) ≤ length m
  contents_inside =
      omega (
        arith,
        lies.within,
        inner.within,
        data_long,
        length-drop lead one.own,
        inner.long,
        lead_within (extent_of one.head) (get_or (drop (one.place + 1) (data_in c)) 0 0),
      )

-- ---- the message

verdict_stops : (m : List ℕ) (p : ℕ) → verdict_of m ≡ Refused bad_digit p → Stops common_step common_size unseen 0 0 m bad_digit p
unfolding verdict_by message_verdict_by
verdict_stops m p e =
    stops common_step common_close common_size (common_sized fault_of) bad_digit common_closed m unseen 0 0 p
    (other (eqb (length m) 0 || ltb most_octets (length m)) over_the_limits 0 _ bad_digit p (λ z. omega arith) e).1

pub shown : (m : List ℕ) (p : ℕ) → verdict_of m ≡ Refused bad_digit p → ShownAt m p
unfolding commons_by
shown m p e =
    let s = verdict_stops m p e in
    let w = common_stops _ _ s.x s.ys s.q s.refused in
    let n = common_size s.x s.ys in
    let c = par_of s.at s.x n s.ys in
    let t = transfers_shown (data_in c) w.2 w.3 in
    let parameters = s.whole n refl w.1 in
    let lies = (each_right (Lies common_size m) (commons_of m) _ (rw parameters at (pars_lie common_size m m 0 0 refl))).0 in
    let within = rw t.parameters at (pars_lie transfer_size (data_in c) (data_in c) 0 0 refl) in
    let inner = (each_right (Lies transfer_size (data_in c)) t.front _ within).0 in
    record {
      ahead = commons_of m;
      c = c;
      rest = pars common_size n (s.at + 1) s.ys;
      commons = parameters;
      transfers = w.0;
      front = t.front;
      one = t.one;
      back = t.back;
      parameters = t.parameters;
      header = header_there m c t.one lies inner;
      contents = contents_there m c t.one lies inner;
      inside = contents_inside m c t.one lies inner;
      offset = t.offset;
      place = omega (arith, s.place, w.4, t.place);
      first = t.first;
      none_ahead = each_so InnerSound NoneBadIn inner_none (commons_of m) (commons_inner m);
      none_before = t.none_before;
    }

-- ---- there is one such place

-- the first of a list that some property does not hold of
first_same : {A : Type 0} (P : A → Type 0) (front : List A) (x : A) (back other : List A) (y : A) (rest : List A)
    → front ++ (x ∷ back) ≡ other ++ (y ∷ rest) → Each P front → Each P other → (P x → ⊥) → (P y → ⊥) → x ≡ y
first_same P [] x back [] y rest e f o m n = cc
first_same P [] x back (z ∷ other) y rest e f o m n = absurd (let same : z ≡ x = cc in m (subst P same o.0))
first_same P (z ∷ front) x back [] y rest e f o m n = absurd (let same : z ≡ y = cc in n (subst P same f.0))
first_same P (z ∷ front) x back (w ∷ other) y rest e f o m n =
    let behind : front ++ (x ∷ back) ≡ other ++ (y ∷ rest) = cc in
    first_same P front x back other y rest behind f.1 o.1 m n

first_offset : (h : ℕ) (s : List ℕ) (i j : ℕ) → FirstBad h s i → FirstBad h s j → i ≡ j
first_offset h s i j a b = go (ltb i j) refl (ltb j i) refl
  where
    both : (k : ℕ) → bad_at h s k ≡ true → bad_at h s k ≡ false → ⊥
    both k t f = absurd (let z : ◌≡◌ {A = ℕ} 0 1 = cc in omega arith)

    go : (t : Bool) → ltb i j ≡ t → (u : Bool) → ltb j i ≡ u → i ≡ j
    go true e u f = absurd (both i a.bad (b.before i (ltb-true i j e)))
    go false e true f = absurd (both j b.bad (a.before j (ltb-true j i f)))
    go false e false f = omega (arith, ltb-false i j e, ltb-false j i f)

-- a parameter, and transfer data, with a bad octet
one_bad : (q : Par) (i : ℕ) → FirstBad q.head (own_contents q) i → NoneBadOf q → ⊥
one_bad q i f n = let g = n i f.within in let b = f.bad in absurd (let z : ◌≡◌ {A = ℕ} 0 1 = cc in omega arith)

data_bad : (m : List ℕ) (p : ℕ) → (w : ShownAt m p) → NoneBadIn w.c → ⊥
data_bad m p w n = one_bad w.one w.offset w.first (each_right NoneBadOf w.front _ (rw w.parameters at (n w.transfers))).0

pub one_shown : (m : List ℕ) (p q : ℕ) → ShownAt m p → ShownAt m q → p ≡ q
one_shown m p q v w =
    let same-c =
    first_same NoneBadIn v.ahead v.c v.rest w.ahead w.c w.rest (sym v.commons ∙ w.commons) v.none_ahead
    w.none_ahead (data_bad m p v) (data_bad m q w) in
    let same-one =
    first_same NoneBadOf v.front v.one v.back w.front w.one w.back
    (sym v.parameters ∙ ap transfer_pars same-c ∙ w.parameters) v.none_before w.none_before
    (one_bad v.one v.offset v.first) (one_bad w.one w.offset w.first) in
    let first = rw same-one at v.first in
    let same-offset = first_offset w.one.head (own_contents w.one) v.offset w.offset first w.first in
    v.place ∙ rw (same-c, same-one, same-offset) (sym w.place)

-- ---- the calls that pass it on

-- an answer that refuses with 13 only where reading does, and at the same place
abbrev pub Passes : List ℕ → Answer → Type 0
Passes m a = (p : ℕ) → a ≡ Refused bad_digit p → verdict_of m ≡ Refused bad_digit p

then_passes : (m : List ℕ) (a : Answer) (f : ℕ → Answer) → Passes m a → ((n p : ℕ) → f n ≡ Refused bad_digit p → ⊥) → Passes m (and_then a f)
then_passes m (Accepted n) f g h p e = absurd (h n p e)
then_passes m (Err r) f g h p e = g p e

-- 16, and 15, are other numbers
absent_other : (f : Found) (p : ℕ) → found_answer f ≡ Refused bad_digit p → ⊥
absent_other (At s e) p q = absurd (let z : ◌≡◌ {A = ℕ} 0 1 = cc in omega arith)
absent_other Nowhere p q = let z : ◌≡◌ {A = ℕ} 16 13 = ap number_of q in omega arith

number_other : (k : ℕ) → (k ≡ bad_digit → ⊥) → (b : Bool) (q n p : ℕ) → refuse b k q (Accepted n) ≡ Refused bad_digit p → ⊥
number_other k o b q n p e =
    let f = (other b k q (Accepted n) bad_digit p o e).1 in
    absurd (let z : ◌≡◌ {A = ℕ} 0 1 = cc in omega arith)

room_other : (b : Bool) (n p : ℕ) → refuse b no_room 0 (Accepted n) ≡ Refused bad_digit p → ⊥
room_other b n p e = number_other no_room (λ z. omega arith) b 0 n p e

pub find_passes : (m : List ℕ) (f : Found) → Passes m (find_answer m f)
find_passes m f = then_passes m (verdict_of m) (λ _. found_answer f) (λ p e. e) (λ n p. absent_other f p)

pub spans_passes : (m : List ℕ) (room : ℕ) → Passes m (spans_of m room)
unfolding spans_by
spans_passes m room =
    then_passes m (verdict_of m) _ (λ p e. e) (λ n p. room_other (ltb room (length (rows_of m))) (length (rows_of m)) p)

pub image_passes : (m : List ℕ) (room : ℕ) → Passes m (image_reading m room)
unfolding image_reading
image_passes m room =
    let n = length (image_of (record_of m)) in
    then_passes m (verdict_of m) _ (λ p e. e) (λ _ p. room_other (ltb room n) n p)

pub profile_passes : (m : List ℕ) → Passes m (profile_verdict m)
unfolding profile_verdict
profile_passes m =
    then_passes m (verdict_of m) _ (λ p e. e)
    (λ n p. number_other outside_profile (λ z. omega arith) (not (is_in_profile (record_of m))) (n - 1) n p)

pub profile_image_passes : (m : List ℕ) (room : ℕ) → Passes m (profile_image_reading m room)
unfolding profile_image_reading
profile_image_passes m room p e = go (profile_verdict m) (profile_passes m) e
  where
    go : (a : Answer) → Passes m a → and_then a (λ _. image_reading m room) ≡ Refused bad_digit p → verdict_of m ≡ Refused bad_digit p
    go (Accepted n) w f = image_passes m room p f
    go (Err r) w f = w p f

pub profile_read_passes : (m : List ℕ) → Passes m (profile_reading m).answer
unfolding profile_reading
profile_read_passes m = go (profile_verdict m) (profile_passes m)
  where
    go : (a : Answer) → Passes m a → Passes m (profile_by a (record_of m)).answer
    go (Accepted n) w = w
    go (Err r) w = w

pub classes_passes : (m : List ℕ) (room : ℕ) → Passes m (classes_answer m room)
unfolding classes_answer
classes_passes m room =
    let n = length (pair_octets (classes_of (record_of m))) in
    let none = not (some (is_headed added_class) (items_in (record_of m))) in
    then_passes m (profile_verdict m) _ (profile_passes m)
    (λ _ p e. room_other (ltb room n) n p (other none absent 0 _ bad_digit p (λ z. omega arith) e).1)

pub order_passes : (m : List ℕ) (room : ℕ) → Passes m (order_answer m room)
unfolding order_answer
order_passes m room =
    let n = length (order_rows_of m) in
    then_passes m (find_answer m (order_found m)) _ (find_passes m (order_found m)) (λ _ p. room_other (ltb room n) n p)

pub carriers_passes : (m : List ℕ) (which room : ℕ) → Passes m (carriers_answer m which room)
unfolding carriers_answer
carriers_passes m which room =
    let n = length (carrier_rows_of which m) in
    then_passes m (find_answer m (carriers_found which m)) _ (find_passes m (carriers_found which m)) (λ _ p. room_other (ltb room n) n p)

pub carrier_digits_passes : (m : List ℕ) (which row room : ℕ) → Passes m (digits_answer m which row room)
unfolding digits_answer
carrier_digits_passes m which row room =
    let e = entry_found which row m in
    let n = length (digits_in e) in
    then_passes m (find_answer m (carriers_found which m)) _ (find_passes m (carriers_found which m))
    (λ _ p f. room_other (ltb room n) n p (other (not (is_code_entry e)) absent 0 _ bad_digit p (λ z. omega arith) f).1)

pub charging_passes : (m : List ℕ) (p : ℕ) → charging_of m ≡ Refused bad_digit p → verdict_of m ≡ Refused bad_digit p
unfolding charging_of
charging_passes m p e = go (find_answer m (charging_found m)) (find_passes m (charging_found m)) e
  where
    go : (a : Answer) → Passes m a → charging_by a (find_part m (charging_found m)) ≡ Refused bad_digit p
        → verdict_of m ≡ Refused bad_digit p
    go (Accepted n) w e = absurd (let z : ◌≡◌ {A = ℕ} 0 1 = cc in omega arith)
    go (Err r) w e =
        let number : r.0 ≡ bad_digit = ap number_of e in
        w r.1 (rw number) ∙ ap (Refused bad_digit) (ap place_of e)

pub octet_charging_passes : (m : List ℕ) (room : ℕ) → Passes m (octet_charging m room)
unfolding octet_charging
octet_charging_passes m room p e = go (charging_of m) (charging_passes m) e
  where
    go : (a : ChargingAnswer) → ((p : ℕ) → a ≡ Refused bad_digit p → verdict_of m ≡ Refused bad_digit p)
        → octet_charging_by a room ≡ Refused bad_digit p → verdict_of m ≡ Refused bad_digit p
    go (Is c) w e = absurd (room_other (ltb room charging_octets) charging_octets p e)
    go (Err r) w e =
        let number : r.0 ≡ bad_digit = ap number_of e in
        w r.1 (rw number) ∙ ap (Refused bad_digit) (ap place_of e)

-- an edit passes on what reading refuses, and tells its own 13 at 0
pub edit_passes : (e : Edit) (d : List ℕ) (n p : ℕ) → editing_of e d n ≡ Refused bad_digit p
    → (verdict_of (take n d) ≡ Refused bad_digit p) ⊎ (((q : ℕ) × (verdict_of (take n d) ≡ Accepted q)) × (p ≡ 0))
unfolding editing_of
edit_passes e d n p f =
    go (verdict_of (take n d)) refl (other (ltb (length d) n) no_room 0 _ bad_digit p (λ z. omega arith) f).1
  where
    go : (a : Answer) → verdict_of (take n d) ≡ a
        → and_then a (λ _. record_editing e (record_of (take n d)) (length d)) ≡ Refused bad_digit p
        → (verdict_of (take n d) ≡ Refused bad_digit p) ⊎ (((q : ℕ) × (verdict_of (take n d) ≡ Accepted q)) × (p ≡ 0))
    go (Accepted q) v g = inr ((q, v), omega (arith, (record_place e (record_of (take n d)) (length d)).at bad_digit p g))
    go (Err r) v g = inl (v ∙ g)
