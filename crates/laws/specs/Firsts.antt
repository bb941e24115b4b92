-- Of contents, 13 is told of their first bad octet, and where nothing is wrong no octet is bad.
use Prim.Native.Nat.{ℕ, zero, suc, ◌+◌, ◌-◌, ◌*◌, ◌/◌, ◌%◌, ◌≤◌, ◌<◌}
use native.Mathlib.Omega.{arith}
use Rattle.std.specs.Prelude.{◌≡◌, cond, not, ◌&&◌, ◌⊎◌, get_or, take, drop, Err}
use Rattle.std.proofs.Math.Path.{refl}
use Rattle.std.proofs.Common.{sym, ap, ◌∙◌, inl, inr, get_or-take, get_or-drop, length-take-le}
use Rattle.std.proofs.Math.Bool.{Bool, true, false}
use mathlib.Core.List.{List, [], ◌∷◌}
use borrow.Author.Tests.{leb-true, ltb-true, ltb-false, eqb-true, eqb-false, lt-ltb, le-ltb, le-leb, lt-leb, not-true}
use Rattle.std.proofs.Math.Dec.{eqb, leb, ltb}
use Rattle.std.proofs.Math.ListN.{length, length-drop}
use Rattle.std.proofs.Math.Seq.{drop-drop}
use Rattle.annex.specs.Answers.{fault_number_of, offset_of, bad_form, bad_digit, check_digit, wrong_order, formed_then, formed, fault_then, Fault, Sound, Bad}
use Rattle.annex.specs.Units.{counted_by, whole_count}
use Rattle.annex.specs.Heads.{among, clear, added_calling_number, withheld, zeroes_of, form_of}
use Rattle.annex.specs.Digits.{halves, halves_fault, digits_fault, odd_of, count_of, number_fault_in, number_fault}
use Rattle.annex.specs.Rates.{is_kind, is_right, drawn_for, kind_in, field_octets, drawn_fault, check_right}
use Rattle.annex.specs.Orders.{
  order_forms,
  layout_of,
  may_stand,
  order_size,
  is_figure,
  is_are_character,
  outside_fault,
  repeat_right,
  forward_fault,
  control_fault,
  logic_fault,
  layout_fault,
  ordered,
  own_fault,
  parameter_fault,
  parameters_fault,
  order_fault,
}
use Rattle.annex.specs.Carriers.{
  holds_code,
  entry_size,
  entries_in,
  inside_of,
  inside_at,
  entries_fault,
  code_count,
  code_fault,
  dependent_fault,
  carrier_fault,
  carriers_formed,
  carriers_fault,
}
use Rattle.annex.specs.Contents.{
  presentation_of,
  calling_fault,
  generic_fault,
  dialled_fault,
  two_fault,
  charging_fault,
  check_fault,
  fault_by,
  fault_of,
}
use Rattle.annex.specs.Walk.{Par, Size, par_of, pars}
use Rattle.annex.specs.BadHalves.{
  Good,
  unread,
  behind,
  half_good,
  digits_good,
  dialled_good,
  number_good,
  calling_good,
  generic_good,
  charging_good,
  layout_good,
  pars_good,
  parameter_good,
  order_good,
  code_good,
  dependent_good,
  carrier_good,
  carriers_good,
  check_good,
  good_by,
  bad_at,
  FirstBad,
  NoneBad,
}
use Rattle.annex.specs.declared.HalfOctets.{HalfOctets}
use Rattle.annex.specs.declared.Alphabet.{Alphabet}
use Rattle.annex.specs.declared.Alphabet.TheVariants.{Dialled, Numbered, Decimal}
use Rattle.annex.specs.declared.Check.{Check}
use Rattle.annex.specs.declared.Check.TheVariants.{Nothing, Long, Two, Charging, Order, Carriers}
use Rattle.annex.specs.declared.Drawn.{Drawn}
use Rattle.annex.specs.declared.Drawn.TheVariants.{Whole}
use Rattle.annex.specs.declared.Form.{Form}
use Rattle.annex.specs.declared.Form.TheVariants.{Checked, Digits, Number, Calling, Generic}
use Rattle.annex.specs.declared.OrderLayout.{OrderLayout}
use Rattle.annex.specs.declared.OrderLayout.TheVariants.{
  TrunkKind,
  ReleaseKind,
  RedirectReason,
  SentDigits,
  ForwardNumber,
  AreControl,
  AreLogic,
  Guidance,
  WaitingTime,
}
use Rattle.laws.specs.Bools.{and_left, and_right}
use Rattle.laws.specs.Entries.{entry_size_lem}
use Rattle.laws.specs.Halves.{first_left, half_turn}
use Rattle.laws.specs.Orders.{after_some}

-- 12 at the start of contents of so many octets, though there may be none, or at an octet
abbrev pub LiesIn : ℕ → ℕ → ℕ → Type 0
LiesIn size k i = ((k ≡ bad_form) × (i ≡ 0)) ⊎ (i < size)

-- ---- octets that are good

-- both halves of one octet
both : (l h : Bool) (f : Fault) (a : ℕ) → cond l (cond h f (Bad bad_digit a)) (Bad bad_digit a) ≡ cond (l && h) f (Bad bad_digit a)
both true h f a = refl
both false h f a = refl

digits_turn : (z : Alphabet) (n at x : ℕ) (s : List ℕ)
    → halves_fault z n (2 * at) (halves (x ∷ s))
    ≡ cond (digits_good z (record { 0 = n }) 0 x) (halves_fault z (n - 2) (2 * (at + 1)) (halves s)) (Bad bad_digit at)
unfolding halves
digits_turn z n at x s =
    let low : 2 * at / 2 ≡ at = omega arith in
    let high : (2 * at + 1) / 2 ≡ at = omega arith in
    let next : 2 * at + 1 + 1 ≡ 2 * (at + 1) = omega arith in
    half_turn z n (2 * at) (x % 16) (x / 16 ∷ halves s) (ltb 0 n) (n - 1) refl refl
    ∙ rw (half_turn z (n - 1) (2 * at + 1) (x / 16) (halves s) (ltb 1 n) (n - 2) (first_left 1 n) (omega arith), low, high, next)
    (both (half_good z (record { 0 = n }) 0 (x % 16)) (half_good z (record { 0 = n }) 1 (x / 16)) _ at)

fewer : (z : Alphabet) (n j y : ℕ) → digits_good z (record { 0 = n }) (suc j) y ≡ digits_good z (record { 0 = n - 2 }) j y
fewer z n j y = rw (less (2 * j) (2 * suc j) (omega arith), less (2 * j + 1) (2 * suc j + 1) (omega arith))
  where
    less : (i k : ℕ) → k ≡ i + 2 → ltb k n ≡ ltb i (n - 2)
    less i k e = go (ltb i (n - 2)) refl
      where
        go : (b : Bool) → ltb i (n - 2) ≡ b → ltb k n ≡ b
        go true t = lt-ltb k n (omega (arith, ltb-true i (n - 2) t))
        go false t = le-ltb k n (omega (arith, ltb-false i (n - 2) t))

-- octets before the first parameter or entry, if they are good by it
early_good : (size : Size) (G : Par → Good) → ((q : Par) (j y : ℕ) → j < q.place → G q j y ≡ true)
    → (at j y : ℕ) (xs : List ℕ) → j < at → pars_good G (pars size 0 at xs) j y ≡ true
unfolding pars pars_good
early_good size G u at j y [] l = refl
early_good size G u at j y (x ∷ xs) l = go (leb (size x xs) (length xs))
  where
    n : ℕ
    n = size x xs

    go : (b : Bool) → pars_good G (cond b (par_of at x n xs ∷ pars size n (at + 1) xs) []) j y ≡ true
    go true = rw (le-leb j (at + length (take n xs)) (omega arith)) (u (par_of at x n xs) j y l)
    go false = refl

-- before a parameter of an order, and before an entry of either level
parameter_early : (q : Par) (j y : ℕ) → j < q.place → parameter_good q j y ≡ true
parameter_early q j y l = rw (lt-ltb j (q.place + 1) (omega arith))

dependent_early : (q : Par) (j y : ℕ) → j < q.place → dependent_good q j y ≡ true
dependent_early q j y l = go (holds_code q.head)
  where
    go : (b : Bool) → cond b (behind (inside_at q) (code_good (inside_of q))) unread j y ≡ true
    go true = rw (lt-ltb j (inside_at q) (omega arith))
    go false = refl

carrier_early : (q : Par) (j y : ℕ) → j < q.place → carrier_good q j y ≡ true
carrier_early q j y l = early_good entry_size dependent_good dependent_early (inside_at q) j y (inside_of q) (omega arith)

-- ---- what a fault shows of the octets from a to b

abbrev AllGood : (ℕ → Bool) → ℕ → ℕ → Type 0
AllGood good a b = (j : ℕ) → a ≤ j → j < b → good j ≡ true

-- of octets by their offsets, whether each is good: where nothing is wrong all are, and 13 has the offset of the first that is not; any
-- other number is 12 at the start, or stands at one of all the octets
pub record Shows (good : ℕ → Bool) (size a b : ℕ) (f : Fault) : Type 0 where
  pub sound : f ≡ Sound → AllGood good a b
  pub bad : (i : ℕ) → f ≡ Bad bad_digit i → (a ≤ i) × (i < b) × (good i ≡ false) × AllGood good a i
  pub other : (k i : ℕ) → f ≡ Bad k i → (k ≡ bad_digit) ⊎ LiesIn size k i

module _ (good : ℕ → Bool) (size : ℕ) where
  all_good : (a b : ℕ) → AllGood good a b → Shows good size a b Sound
  all_good a b g =
      record {
        sound = λ e. g;
        bad = λ i e. absurd (let z : ◌≡◌ {A = ℕ} 0 1 = cc in omega arith);
        other = λ k i e. absurd (let z : ◌≡◌ {A = ℕ} 0 1 = cc in omega arith);
      }

  -- another number shows nothing
  other_shown : (a b k i : ℕ) → (k ≡ bad_digit → ⊥) → LiesIn size k i → Shows good size a b (Bad k i)
  other_shown a b k i n p =
      record {
        sound = λ e. absurd (let z : ◌≡◌ {A = ℕ} 0 1 = cc in omega arith);
        bad = λ j e. absurd (n (ap fault_number_of e));
        other = λ l j e. inr (rw (ap fault_number_of e, ap offset_of e) at p);
      }

  form_shown : (a b : ℕ) → Shows good size a b (Bad bad_form 0)
  form_shown a b = other_shown a b bad_form 0 (λ e. omega arith) (inl (refl, refl))

  formed_shown : (a b : ℕ) (t : Bool) (f : Fault) → (t ≡ true → Shows good size a b f) → Shows good size a b (formed_then t f)
  formed_shown a b true f w = w refl
  formed_shown a b false f w = form_shown a b

  -- one stretch and then the next
  then_shown : (a b c : ℕ) → a ≤ b → b ≤ c → (f g : Fault) → Shows good size a b f → Shows good size b c g
      → Shows good size a c (fault_then f g)
  then_shown a b c l m Sound g v w =
      record { sound = λ e j p q. either j p q (λ r. w.sound e j r q); bad = λ i e. later i (w.bad i e); other = w.other }
    where
      either : (j : ℕ) → a ≤ j → j < c → (b ≤ j → good j ≡ true) → good j ≡ true
      either j p q h = go (ltb j b) refl
        where
          go : (t : Bool) → ltb j b ≡ t → good j ≡ true
          go true e = v.sound refl j p (ltb-true j b e)
          go false e = h (ltb-false j b e)

      later : (i : ℕ) → (b ≤ i) × (i < c) × (good i ≡ false) × AllGood good b i
          → (a ≤ i) × (i < c) × (good i ≡ false) × AllGood good a i
      later i s = (omega (arith, s.0), s.1, s.2, λ j p q. either j p (omega (arith, s.1)) (λ r. s.3 j r q))
  then_shown a b c l m (Err r) g v w =
      record {
        sound = λ e. absurd (let z : ◌≡◌ {A = ℕ} 0 1 = cc in omega arith);
        bad = λ j e. let s = v.bad j e in (s.0, omega (arith, s.1), s.2, s.3);
        other = v.other;
      }

  -- behind octets that are good
  front_shown : (a b c : ℕ) → a ≤ b → b ≤ c → (f : Fault) → AllGood good a b → Shows good size b c f → Shows good size a c f
  front_shown a b c l m f g w = then_shown a b c l m Sound f (all_good a b g) w

  -- one octet, and those behind it
  tested_shown : (a c : ℕ) → a < c → (t : Bool) (f : Fault) → good a ≡ t → Shows good size (a + 1) c f
      → Shows good size a c (cond t f (Bad bad_digit a))
  tested_shown a c l true f e w =
      front_shown a (a + 1) c (omega arith) (omega arith) f
      (λ j p q. let same : j ≡ a = omega arith in ap good same ∙ e) w
  tested_shown a c l false f e w =
      record {
        sound = λ n. absurd (let z : ◌≡◌ {A = ℕ} 0 1 = cc in omega arith);
        bad = λ i n.
            let same : a ≡ i = ap offset_of n in
            (omega arith, omega arith, ap good (sym same) ∙ e, λ j p q. absurd (omega arith));
        other = λ k i n. inl (sym (ap fault_number_of n));
      }

  -- ---- octets s that stand from the offset `at` on

  -- they are good as G says, by their numbers among them
  abbrev Agrees : ℕ → Good → List ℕ → Type 0
  Agrees at G s = (j : ℕ) → j < length s → good (at + j) ≡ G j (get_or s j 0)

  -- what agrees from one offset on, behind the first octet
  next_agrees : (at : ℕ) (G H : Good) (x : ℕ) (s : List ℕ) → ((j y : ℕ) → G (suc j) y ≡ H j y) → Agrees at G (x ∷ s) → Agrees (at + 1) H s
  next_agrees at G H x s e g j l =
      let same : at + 1 + j ≡ at + suc j = omega arith in
      ap good same ∙ g (suc j) (omega arith) ∙ e j (get_or s j 0)

  unread_shown : (at : ℕ) (s : List ℕ) (t : Bool) → Agrees at unread s → Shows good size at (at + length s) (formed t)
  unread_shown at s t g =
      formed_shown at (at + length s) t Sound
      (λ _. all_good at (at + length s) (λ j p q. let same : at + (j - at) ≡ j = omega arith in rw same at (g (j - at) (omega arith))))

  behind_shown : (at k : ℕ) (G : Good) (s : List ℕ) (f : Fault) → k ≤ length s → Agrees at (behind k G) s
      → (Agrees (at + k) G (drop k s) → Shows good size (at + k) (at + k + length (drop k s)) f) → Shows good size at (at + length s) f
  behind_shown at k G s f l g w =
      let end : at + k + length (drop k s) ≡ at + length s = omega (arith, length-drop k s) in
      front_shown at (at + k) (at + length s) (omega arith) (omega arith) f
      (λ j p q.
      let same : at + (j - at) ≡ j = omega arith in
      let h = g (j - at) (omega arith) in
      rw (same, lt-ltb (j - at) k (omega arith)) at h)
      (rw end at
      (w
      (λ j m.
      let same : at + k + j ≡ at + (k + j) = omega arith in
      let less : k + j - k ≡ j = omega arith in
      ap good same ∙ g (k + j) (omega (arith, length-drop k s))
      ∙ rw (le-ltb (k + j) k (omega arith), less, get_or-drop k s j 0))))

  -- ---- digits, characters and drawn octets

  halves_shown : (z : Alphabet) (n at : ℕ) (s : List ℕ) → Agrees at (digits_good z (record { 0 = n })) s
      → Shows good size at (at + length s) (halves_fault z n (2 * at) (halves s))
  unfolding halves_fault halves
  halves_shown z n at [] g = all_good at (at + 0) (λ j p q. absurd (omega arith))
  halves_shown z n at (x ∷ s) g =
      let end : at + 1 + length s ≡ at + suc (length s) = omega arith in
      let here : at + 0 ≡ at = omega arith in
      let next = next_agrees at (digits_good z (record { 0 = n })) (digits_good z (record { 0 = n - 2 })) x s (fewer z n) g in
      rw (digits_turn z n at x s)
      (tested_shown at (at + suc (length s)) (omega arith) _ _ (rw here at (g 0 (omega arith)))
      (rw end at (halves_shown z (n - 2) (at + 1) s next)))

  digits_shown : (z : Alphabet) (n : HalfOctets) (at : ℕ) (s : List ℕ) → Agrees at (digits_good z n) s
      → Shows good size at (at + length s) (digits_fault z n at s)
  unfolding digits_fault
  digits_shown z n at s g = halves_shown z n.0 at s g

  number_shown : (z : Alphabet) (at : ℕ) (s : List ℕ) → Agrees at (number_good z s) s
      → Shows good size at (at + length s) (number_fault_in z at s)
  unfolding number_fault_in
  number_shown z at s g =
      formed_shown at (at + length s) (not (ltb (length s) 2)) _
      (λ t. formed_shown at (at + length s) (not (eqb (odd_of s) 1 && eqb (length s) 2)) _
      (λ u. behind_shown at 2 (digits_good z (count_of s)) s _ (ltb-false (length s) 2 (not-true (ltb (length s) 2) t)) g
      (digits_shown z (count_of s) (at + 2) (drop 2 s))))

  outside_shown : (known : ℕ → Bool) (at : ℕ) (s : List ℕ) → Agrees at (λ j x. known x) s
      → Shows good size at (at + length s) (outside_fault known at s)
  unfolding outside_fault
  outside_shown known at [] g = all_good at (at + 0) (λ j p q. absurd (omega arith))
  outside_shown known at (x ∷ s) g =
      let end : at + 1 + length s ≡ at + suc (length s) = omega arith in
      let here : at + 0 ≡ at = omega arith in
      tested_shown at (at + suc (length s)) (omega arith) (known x) _ (rw here at (g 0 (omega arith)))
      (rw end at (outside_shown known (at + 1) s (next_agrees at (λ j y. known y) (λ j y. known y) x s (λ j y. refl) g)))

  drawn_shown : (at : ℕ) (ds : List Drawn) (s : List ℕ) → Agrees at (λ j x. is_right (get_or ds j Whole) x) s
      → Shows good size at (at + length s) (drawn_fault at ds s)
  unfolding drawn_fault
  drawn_shown at [] s g = unread_shown at s true g
  drawn_shown at (d ∷ ds) [] g = all_good at (at + 0) (λ j p q. absurd (omega arith))
  drawn_shown at (d ∷ ds) (x ∷ s) g =
      let end : at + 1 + length s ≡ at + suc (length s) = omega arith in
      let here : at + 0 ≡ at = omega arith in
      tested_shown at (at + suc (length s)) (omega arith) (is_right d x) _ (rw here at (g 0 (omega arith)))
      (rw end at
      (drawn_shown (at + 1) ds s
      (next_agrees at (λ j y. is_right (get_or (d ∷ ds) j Whole) y) (λ j y. is_right (get_or ds j Whole) y) x s (λ j y. refl) g)))

  -- ---- a connection order

  layout_shown : (k : OrderLayout) (at : ℕ) (own : List ℕ) → 0 < length own → Agrees at (layout_good k own) own
      → Shows good size at (at + length own) (layout_fault k at own)
  unfolding layout_fault forward_fault control_fault logic_fault
  layout_shown TrunkKind at own l g = unread_shown at own true g
  layout_shown ReleaseKind at own l g = unread_shown at own (eqb (get_or own 0 0) 1) g
  layout_shown RedirectReason at own l g = unread_shown at own (leb 128 (get_or own 0 0)) g
  layout_shown SentDigits at own l g =
      let n = whole_count (get_or own 0 0) in
      behind_shown at 1 (digits_good Dialled n) own _ l g (digits_shown Dialled n (at + 1) (drop 1 own))
  layout_shown ForwardNumber at own l g =
      formed_shown at (at + length own) (eqb (get_or (drop 1 own) 1 0 % 16) 0) _
      (λ t. behind_shown at 1 (number_good Decimal (drop 1 own)) own _ l g (number_shown Decimal (at + 1) (drop 1 own)))
  layout_shown AreControl at own l g =
      let some = leb 3 (length (drop 1 own)) in
      let start : at + 1 + 2 ≡ at + 3 = omega arith in
      formed_shown at (at + length own) (some && repeat_right (drop 1 own)) _
      (λ t. rw (start, drop-drop 2 1 own)
      (behind_shown at 3 (λ j x. is_are_character x) own _
      (omega (arith, length-drop 1 own, leb-true 3 (length (drop 1 own)) (and_left some (repeat_right (drop 1 own)) t))) g
      (outside_shown is_are_character (at + 3) (drop 3 own))))
  layout_shown AreLogic at own l g = unread_shown at own (leb 2 (length (drop 1 own)) && repeat_right (drop 1 own)) g
  layout_shown Guidance at own l g = unread_shown at own true g
  layout_shown WaitingTime at own l g = outside_shown is_figure at own g

  -- the octets from behind the one before on are good as the parameters say
  abbrev InParameters : ℕ → ℕ → List ℕ → Type 0
  InParameters k at xs =
      (j : ℕ) → at + k ≤ j → j < at + length xs → good j ≡ pars_good parameter_good (pars order_size k at xs) j (get_or xs (j - at) 0)

  -- 12 and 19 show nothing, whatever follows
  cut_shown : 0 < size → (a b : ℕ) (t : Bool) (g : Fault) → Shows good size a b (fault_then (fault_then (ordered t) (Bad bad_form 0)) g)
  cut_shown m a b true g = form_shown a b
  cut_shown m a b false g = other_shown a b wrong_order 0 (λ e. omega arith) (inr m)

  ordered_shown : 0 < size → (a b : ℕ) (t : Bool) → AllGood good a b → Shows good size a b (ordered t)
  ordered_shown m a b true g = all_good a b g
  ordered_shown m a b false g = other_shown a b wrong_order 0 (λ e. omega arith) (inr m)

  parameters_shown : 0 < size → (form : ℕ) (before : List ℕ) (k at : ℕ) (xs : List ℕ) → InParameters k at xs
      → Shows good size (at + k) (at + length xs) (parameters_fault form before k at xs)
  unfolding parameters_fault parameter_fault own_fault pars pars_good
  parameters_shown m form before k at [] g = all_good (at + k) (at + 0) (λ j p q. absurd (omega arith))
  parameters_shown m form before (suc k) at (x ∷ xs) g =
      let start : at + 1 + k ≡ at + suc k = omega arith in
      let end : at + 1 + length xs ≡ at + suc (length xs) = omega arith in
      rw (start, end) at
      (parameters_shown m form before k (at + 1) xs
      (λ j p q.
      let next : j - at ≡ suc (j - (at + 1)) = omega arith in
      g j (omega arith) (omega arith) ∙ rw next))
  parameters_shown m form before zero at (x ∷ xs) g =
      go (leb n (length xs)) refl g (λ before. parameters_shown m form before n (at + 1) xs)
    where
      n : ℕ
      n = order_size x xs

      go : (b : Bool) → leb n (length xs) ≡ b
          → ((j : ℕ) → at + 0 ≤ j → j < at + suc (length xs)
          → good j ≡ pars_good parameter_good (cond b (par_of at x n xs ∷ pars order_size n (at + 1) xs) []) j (get_or (x ∷ xs) (j - at) 0))
          → ((before : List ℕ) → InParameters n (at + 1) xs
          → Shows good size (at + 1 + n) (at + 1 + length xs) (parameters_fault form before n (at + 1) xs))
          → Shows good size (at + 0) (at + suc (length xs))
          (fault_then
          (fault_then (ordered (may_stand form x && not (among x before))) (formed_then b (layout_fault (layout_of x) (at + 1) (take n xs))))
          (parameters_fault form (x ∷ before) n (at + 1) xs))
      go false e g ih = cut_shown m _ _ (may_stand form x && not (among x before)) _
      go true e g ih =
          then_shown (at + 0) (at + 1 + n) (at + suc (length xs)) (omega arith) (omega (arith, within)) _ _
          (then_shown (at + 0) (at + 1) (at + 1 + n) (omega arith) (omega arith) _ _
          (ordered_shown m (at + 0) (at + 1) (may_stand form x && not (among x before)) header)
          (rw long at (layout_shown (layout_of x) (at + 1) own (omega (arith, long, after_some (layout_of x) (get_or xs 0 0))) inside)))
          (rw end at (ih (x ∷ before) later))
        where
          own : List ℕ
          own = take n xs

          within : n ≤ length xs
          within = leb-true n (length xs) e

          long : length own ≡ n
          long = length-take-le n xs within

          end : at + 1 + length xs ≡ at + suc (length xs)
          end = omega arith

          header : AllGood good (at + 0) (at + 1)
          header j p q = g j p (omega arith) ∙ rw (le-leb j (at + length own) (omega arith), lt-ltb j (at + 1) q)

          inside : Agrees (at + 1) (layout_good (layout_of x) own) own
          inside j l =
              let less : at + 1 + j - (at + 1) ≡ j = omega arith in
              let next : at + 1 + j - at ≡ suc j = omega arith in
              g (at + 1 + j) (omega arith) (omega (arith, within, long))
              ∙ rw (
                le-leb (at + 1 + j) (at + length own) (omega (arith, long)),
                le-ltb (at + 1 + j) (at + 1) (omega arith),
                less,
                next,
                get_or-take n xs j 0 (omega (arith, long)),
              )

          later : InParameters n (at + 1) xs
          later j p q =
              let next : j - at ≡ suc (j - (at + 1)) = omega arith in
              g j (omega arith) (omega arith) ∙ rw (lt-leb j (at + length own) (omega (arith, long)), next)

  order_shown : (s : List ℕ) → length s ≤ size → Agrees 0 (order_good s) s → Shows good size 0 (0 + length s) (order_fault s)
  unfolding order_fault
  order_shown [] m g = form_shown 0 0
  order_shown (form ∷ xs) m g =
      let end : 1 + length xs ≡ 0 + suc (length xs) = omega arith in
      then_shown 0 1 (0 + suc (length xs)) (omega arith) (omega arith) _ _
      (ordered_shown (omega arith) 0 1 (among form order_forms)
      (λ j p q. told j (omega arith) ∙ early_good order_size parameter_good parameter_early 1 j _ xs q))
      (rw end at (parameters_shown (omega arith) form [] 0 1 xs behind_form))
    where
      told : (j : ℕ) → j < suc (length xs) → good j ≡ pars_good parameter_good (pars order_size 0 1 xs) j (get_or (form ∷ xs) j 0)
      told j l = let same : 0 + j ≡ j = omega arith in rw same at (g j l)

      behind_form : InParameters 0 1 xs
      behind_form j p q =
          let next : j ≡ suc (j - 1) = omega arith in
          told j (omega arith) ∙ ap (λ (i : ℕ). pars_good parameter_good (pars order_size 0 1 xs) j (get_or (form ∷ xs) i 0)) next

  -- ---- carriers

  -- the octets from behind the one before on are good as entries say
  abbrev InEntries : (Par → Good) → ℕ → ℕ → List ℕ → Type 0
  InEntries G k at xs = (j : ℕ) → at + k ≤ j → j < at + length xs → good j ≡ pars_good G (pars entry_size k at xs) j (get_or xs (j - at) 0)

  -- the octets of an entry, its tag among them, are good as it says
  abbrev InEntry : (Par → Good) → Par → Type 0
  InEntry G q = (j : ℕ) → q.place ≤ j → j < q.place + 1 + length q.own → good j ≡ G q j (get_or (q.head ∷ q.own) (j - q.place) 0)

  -- what is wrong with each entry is shown, and so it is of all
  entries_shown : (fault : Par → Fault) (G : Par → Good)
      → ((q : Par) → 0 < length q.own → InEntry G q → Shows good size q.place (q.place + 1 + length q.own) (fault q))
      → (k at : ℕ) (xs : List ℕ) → InEntries G k at xs
      → Shows good size (at + k) (at + length xs) (entries_fault fault (pars entry_size k at xs))
  unfolding pars pars_good entries_fault
  entries_shown fault G each k at [] g = all_good (at + k) (at + 0) (λ j p q. absurd (omega arith))
  entries_shown fault G each (suc k) at (x ∷ xs) g =
      let start : at + 1 + k ≡ at + suc k = omega arith in
      let end : at + 1 + length xs ≡ at + suc (length xs) = omega arith in
      rw (start, end) at
      (entries_shown fault G each k (at + 1) xs
      (λ j p q.
      let next : j - at ≡ suc (j - (at + 1)) = omega arith in
      g j (omega arith) (omega arith) ∙ rw next))
  entries_shown fault G each zero at (x ∷ xs) g =
      go (leb n (length xs)) refl g (entries_shown fault G each n (at + 1) xs)
    where
      n : ℕ
      n = entry_size x xs

      go : (b : Bool) → leb n (length xs) ≡ b
          → ((j : ℕ) → at + 0 ≤ j → j < at + suc (length xs)
          → good j ≡ pars_good G (cond b (par_of at x n xs ∷ pars entry_size n (at + 1) xs) []) j (get_or (x ∷ xs) (j - at) 0))
          → (InEntries G n (at + 1) xs
          → Shows good size (at + 1 + n) (at + 1 + length xs) (entries_fault fault (pars entry_size n (at + 1) xs)))
          → Shows good size (at + 0) (at + suc (length xs))
          (entries_fault fault (cond b (par_of at x n xs ∷ pars entry_size n (at + 1) xs) []))
      go false e g ih = all_good (at + 0) (at + suc (length xs)) (λ j p q. g j p q)
      go true e g ih =
          then_shown (at + 0) (at + 1 + n) (at + suc (length xs)) (omega arith) (omega (arith, within)) _ _
          (front_shown (at + 0) at (at + 1 + n) (omega arith) (omega arith) _ (λ j p l. absurd (omega arith))
          (rw long at (each q (omega (arith, long, entry_size_lem x xs)) inside)))
          (rw end at (ih later))
        where
          q : Par
          q = par_of at x n xs

          within : n ≤ length xs
          within = leb-true n (length xs) e

          long : length q.own ≡ n
          long = length-take-le n xs within

          end : at + 1 + length xs ≡ at + suc (length xs)
          end = omega arith

          octet : (j : ℕ) → j < suc n → get_or (x ∷ xs) j 0 ≡ get_or (x ∷ q.own) j 0
          octet zero l = refl
          octet (suc j) l = sym (get_or-take n xs j 0 (omega arith))

          inside : InEntry G q
          inside j p l =
              g j (omega arith) (omega (arith, within, long))
              ∙ rw (le-leb j (at + length q.own) (omega arith), octet (j - at) (omega (arith, long)))

          later : InEntries G n (at + 1) xs
          later j p l =
              let next : j - at ≡ suc (j - (at + 1)) = omega arith in
              g j (omega arith) (omega arith) ∙ rw (lt-leb j (at + length q.own) (omega (arith, long)), next)

  -- a code: what stands before its digits is unread
  code_shown : (at : ℕ) (s : List ℕ) → Agrees at (code_good s) s → Shows good size at (at + length s) (code_fault at s)
  unfolding code_fault digits_fault halves_fault halves
  code_shown at [] g = all_good at (at + 0) (λ j p q. absurd (omega arith))
  code_shown at (x ∷ s) g =
      let n = code_count (x ∷ s) in
      behind_shown at 1 (digits_good Decimal n) (x ∷ s) _ (omega arith) g (digits_shown Decimal n (at + 1) s)

  -- an entry's octets behind its length octet
  own_octet : (q : Par) (j : ℕ) → get_or (q.head ∷ q.own) (q.place + 2 + j - q.place) 0 ≡ get_or (inside_of q) j 0
  own_octet q j =
      let e : q.place + 2 + j - q.place ≡ suc (1 + j) = omega arith in
      rw e (sym (get_or-drop 1 q.own j 0))

  inside_end : (q : Par) → 0 < length q.own → q.place + 2 + length (inside_of q) ≡ q.place + 1 + length q.own
  inside_end q l = omega (arith, length-drop 1 q.own)

  dependent_shown : (q : Par) → 0 < length q.own → InEntry dependent_good q
      → Shows good size q.place (q.place + 1 + length q.own) (dependent_fault q)
  dependent_shown q l g = go (holds_code q.head) g
    where
      n : ℕ
      n = q.place + 1 + length q.own

      go : (b : Bool)
          → ((j : ℕ) → q.place ≤ j → j < n
          → good j ≡ cond b (behind (inside_at q) (code_good (inside_of q))) unread j (get_or (q.head ∷ q.own) (j - q.place) 0))
          → Shows good size q.place n (cond b (code_fault (inside_at q) (inside_of q)) Sound)
      go false g = all_good q.place n g
      go true g =
          front_shown q.place (inside_at q) n (omega arith) (omega arith) _
          (λ j a b. g j a (omega arith) ∙ rw (lt-ltb j (inside_at q) b))
          (rw (inside_end q l) at (code_shown (inside_at q) (inside_of q) agrees))
        where
          agrees : Agrees (inside_at q) (code_good (inside_of q)) (inside_of q)
          agrees j m =
              let less : inside_at q + j - inside_at q ≡ j = omega arith in
              g (inside_at q + j) (omega arith) (omega (arith, inside_end q l))
              ∙ rw (le-ltb (inside_at q + j) (inside_at q) (omega arith), less, own_octet q j)

  carrier_shown : (q : Par) → 0 < length q.own → InEntry carrier_good q
      → Shows good size q.place (q.place + 1 + length q.own) (carrier_fault q)
  carrier_shown q l g =
      front_shown q.place (inside_at q) (q.place + 1 + length q.own) (omega arith) (omega arith) _
      (λ j a b. g j a (omega arith) ∙ early_good entry_size dependent_good dependent_early (inside_at q) j _ (inside_of q) b)
      (rw (start, inside_end q l) at (entries_shown dependent_fault dependent_good dependent_shown 0 (inside_at q) (inside_of q) agrees))
    where
      start : inside_at q + 0 ≡ inside_at q
      start = omega arith

      agrees : InEntries dependent_good 0 (inside_at q) (inside_of q)
      agrees j a b =
          let same : q.place + 2 + (j - inside_at q) ≡ j = omega arith in
          g j (omega arith) (omega (arith, inside_end q l))
          ∙ ap (λ (x : ℕ). carrier_good q j x) (rw same at (own_octet q (j - inside_at q)))

  carriers_shown : (s : List ℕ) → Agrees 0 (carriers_good s) s → Shows good size 0 (0 + length s) (carriers_fault s)
  unfolding carriers_fault carriers_formed
  carriers_shown [] g = form_shown 0 0
  carriers_shown (d ∷ xs) g =
      let end : 1 + length xs ≡ 0 + suc (length xs) = omega arith in
      formed_shown 0 (0 + suc (length xs)) (carriers_formed (d ∷ xs)) _
      (λ t. front_shown 0 1 (0 + suc (length xs)) (omega arith) (omega arith) _
      (λ j p q. told j (omega arith) ∙ early_good entry_size carrier_good carrier_early 1 j _ xs q)
      (rw end at (entries_shown carrier_fault carrier_good carrier_shown 0 1 xs behind_direction)))
    where
      told : (j : ℕ) → j < suc (length xs) → good j ≡ pars_good carrier_good (entries_in 1 xs) j (get_or (d ∷ xs) j 0)
      told j l = let same : 0 + j ≡ j = omega arith in rw same at (g j l)

      behind_direction : InEntries carrier_good 0 1 xs
      behind_direction j p q =
          let next : j ≡ suc (j - 1) = omega arith in
          told j (omega arith) ∙ ap (λ (i : ℕ). pars_good carrier_good (entries_in 1 xs) j (get_or (d ∷ xs) i 0)) next

  -- ---- contents

  charging_shown : (s : List ℕ) → length s ≤ size → Agrees 0 (charging_good s) s → Shows good size 0 (0 + length s) (charging_fault s)
  unfolding charging_fault
  charging_shown s m g =
      let k = kind_in s in
      let n = 0 + length s in
      let long = eqb (length s) (2 + length (drawn_for k)) in
      formed_shown 0 n (is_kind k && long) _
      (λ t.
      let two : 2 ≤ length s = omega (arith, eqb-true (length s) (2 + length (drawn_for k)) (and_right (is_kind k) long t)) in
      then_shown 0 n n (omega arith) (omega arith) _ _
      (behind_shown 0 2 (λ j x. is_right (get_or (drawn_for k) j Whole) x) s _ two g (drawn_shown 2 (drawn_for k) (field_octets s)))
      (checked two n (check_right k (field_octets s))))
    where
      checked : 2 ≤ length s → (n : ℕ) (t : Bool) → Shows good size n n (cond t Sound (Bad check_digit (length s - 1)))
      checked l n true = all_good n n (λ j p q. absurd (omega arith))
      checked l n false = other_shown n n check_digit (length s - 1) (λ e. omega arith) (inr (omega arith))

  check_shown : (c : Check) (s : List ℕ) → length s ≤ size → Agrees 0 (check_good c s) s → Shows good size 0 (0 + length s) (check_fault c s)
  unfolding two_fault
  check_shown Nothing s m g = unread_shown 0 s true g
  check_shown (Long n) s m g = unread_shown 0 s (eqb (length s) n) g
  check_shown (Two mask) s m g = unread_shown 0 s (eqb (length s) 2 && clear mask (get_or s 1 0)) g
  check_shown Charging s m g = charging_shown s m g
  check_shown Order s m g = order_shown s m g
  check_shown Carriers s m g = carriers_shown s g

  dialled_shown : (s : List ℕ) → Agrees 0 (dialled_good s) s → Shows good size 0 (0 + length s) (dialled_fault s)
  unfolding dialled_fault digits_fault halves_fault halves
  dialled_shown [] g = all_good 0 0 (λ j p q. absurd (omega arith))
  dialled_shown (x ∷ s) g =
      behind_shown 0 1 (digits_good Dialled (counted_by x)) (x ∷ s) _ (omega arith) g (digits_shown Dialled (counted_by x) 1 s)

  calling_shown : (s : List ℕ) → Agrees 0 (calling_good s) s → Shows good size 0 (0 + length s) (calling_fault s)
  unfolding calling_fault
  calling_shown s g = go (eqb (presentation_of s) withheld) g
    where
      nothing : Bool
      nothing = eqb (length s) 2 && (eqb (get_or s 0 0) 0 && ltb (get_or s 1 0) 16)

      go : (b : Bool) → Agrees 0 (cond b unread (number_good Numbered s)) s
          → Shows good size 0 (0 + length s) (cond b (formed nothing) (number_fault 0 s))
      go true g = unread_shown 0 s nothing g
      go false g = number_shown Numbered 0 s g

  generic_shown : (s : List ℕ) → Agrees 0 (generic_good s) s → Shows good size 0 (0 + length s) (generic_fault s)
  unfolding generic_fault
  generic_shown s g =
      formed_shown 0 (0 + length s) (not (eqb (length s) 0)) _
      (λ t. go (omega (arith, eqb-false (length s) 0 (not-true (eqb (length s) 0) t))) (eqb (get_or s 0 0) added_calling_number) g)
    where
      go : 1 ≤ length s → (b : Bool) → Agrees 0 (cond b (behind 1 (number_good Numbered (drop 1 s))) unread) s
          → Shows good size 0 (0 + length s) (cond b (number_fault 1 (drop 1 s)) Sound)
      go l true g = behind_shown 0 1 (number_good Numbered (drop 1 s)) s _ l g (number_shown Numbered 1 (drop 1 s))
      go l false g = unread_shown 0 s true g

  by_shown : (f : Form) (s : List ℕ) → length s ≤ size → Agrees 0 (good_by f s) s → Shows good size 0 (0 + length s) (fault_by f s)
  by_shown (Checked c) s l g = check_shown c s l g
  by_shown (Digits m) s l g = dialled_shown s g
  by_shown Number s l g = number_shown Numbered 0 s g
  by_shown Calling s l g = calling_shown s g
  by_shown Generic s l g = generic_shown s g

-- what the rule in force shows of contents
pub fault_shown : (h : ℕ) (s : List ℕ) → Shows (λ j. good_by (form_of h) s j (get_or s j 0)) (length s) 0 (0 + length s) (fault_of h s)
unfolding fault_of
fault_shown h s =
    let good : ℕ → Bool = λ j. good_by (form_of h) s j (get_or s j 0) in
    formed_shown good (length s) 0 (0 + length s) (clear (zeroes_of h) (get_or s 0 0)) _
    (λ t. by_shown good (length s) (form_of h) s (omega arith) (λ j l. let same : 0 + j ≡ j = omega arith in ap good same))

pub first_bad : (h : ℕ) (s : List ℕ) (i : ℕ) → fault_of h s ≡ Bad bad_digit i → FirstBad h s i
unfolding bad_at
first_bad h s i e =
    let b = (fault_shown h s).bad i e in
    record { within = omega (arith, b.1); bad = rw b.2; before = λ j l. rw (b.3 j (omega arith) l) }

pub none_bad : (h : ℕ) (s : List ℕ) → fault_of h s ≡ Sound → NoneBad h s
unfolding bad_at
none_bad h s e j l = rw ((fault_shown h s).sound e j (omega arith) (omega arith))
