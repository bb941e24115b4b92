-- Where a fault lies: 12 may stand at the start of the contents though they are empty, and every other fault has its octet among them.
-- Whether there is one does not depend on where the octets stand.
use Rattle.std.specs.Prelude.{ℕ, zero, suc, ◌+◌, ◌*◌, ◌/◌, ◌%◌, ◌≤◌, ◌<◌, ◌≡◌, refl, Bool, true, false, cond, not, ◌&&◌, List, [], ◌∷◌, ◌⊎◌, eqb, leb, ltb, length, get_or, drop, Err}
use Rattle.std.proofs.Common.{arith, ◌∙◌, inl, inr, eqb-true}
use Rattle.annex.specs.Answers.{bad_digit, offset_of, formed_then, is_sound, reading_at, Fault, Sound, Bad}
use Rattle.annex.specs.Units.{whole_count}
use Rattle.annex.specs.Heads.{form_of}
use Rattle.annex.specs.Digits.{halves, is_code, halves_fault, digits_fault, odd_of, count_of, number_fault_in}
use Rattle.annex.specs.Orders.{is_figure, is_are_character, outside_fault, repeat_right, forward_fault, control_fault, layout_fault}
use Rattle.annex.specs.declared.OrderLayout.{OrderLayout}
use Rattle.annex.specs.declared.OrderLayout.TheVariants.{
  TrunkKind,
  ReleaseKind,
  RedirectReason,
  SentDigits,
  ForwardNumber,
  AreControl,
  AreLogic,
  Guidance,
  WaitingTime,
}
use Rattle.annex.specs.Contents.{Rule, fault_of}
use Rattle.annex.specs.BadHalves.{good_by}
use Rattle.annex.specs.declared.HalfOctets.{HalfOctets}
use Rattle.annex.specs.declared.Alphabet.{Alphabet}
use Rattle.annex.specs.declared.Alphabet.TheVariants.{Dialled, Decimal}
use Rattle.laws.specs.Firsts.{LiesIn, Shows, fault_shown}

-- a fault of contents of n octets lies in them
pub record Within (n : ℕ) (f : Fault) : Type 0 where
  pub at : (k j : ℕ) → f ≡ Bad k j → LiesIn n k j

pub fault_within : (h : ℕ) (s : List ℕ) → Within (length s) (fault_of h s)
fault_within h s = record { at = λ k j e. by k j e (shown.other k j e) }
  where
    shown : Shows (λ j. good_by (form_of h) s j (get_or s j 0)) (length s) 0 (0 + length s) (fault_of h s)
    shown = fault_shown h s

    by : (k j : ℕ) → fault_of h s ≡ Bad k j → (k ≡ bad_digit) ⊎ LiesIn (length s) k j → LiesIn (length s) k j
    by k j e (inl q) = inr (omega (arith, (shown.bad j (e ∙ rw q)).1))
    by k j e (inr p) = p

-- every fault that a rule of contents finds lies so
abbrev pub RuleWithin : Rule → Type 0
RuleWithin rule = (h : ℕ) (s : List ℕ) → Within (length s) (rule h s)

-- the offset is 0 or that of an octet
pub offset_within : (n : ℕ) (f : Fault) → Within n f → offset_of f < 1 + n
offset_within n Sound w = omega arith
offset_within n (Err r) w = go (w.at r.0 r.1 refl)
  where
    go : LiesIn n r.0 r.1 → r.1 < 1 + n
    go (inl o) = omega (arith, o.1)
    go (inr l) = omega arith

-- reading tells a fault at the header or at an octet behind it that is the parameter's own
pub reading_within : (lead n : ℕ) (f : Fault) → Within n f → (k i : ℕ) → f ≡ Bad k i → reading_at (1 + lead) k i ≤ lead + n
reading_within lead n f w k i e = go (eqb k bad_digit) refl (w.at k i e)
  where
    go : (b : Bool) → eqb k bad_digit ≡ b → LiesIn n k i → cond b (1 + lead + i) 0 ≤ lead + n
    go false t o = omega arith
    go true t (inl o) = absurd (omega (arith, eqb-true k bad_digit t, o.0))
    go true t (inr l) = omega arith

-- ---- octets that stand elsewhere

-- both faults are none, or both some
formed_alike : (b : Bool) (f g : Fault) → is_sound f ≡ is_sound g → is_sound (formed_then b f) ≡ is_sound (formed_then b g)
formed_alike true f g e = e
formed_alike false f g e = refl

tested_alike : (b : Bool) (f g : Fault) (k i j : ℕ) → is_sound f ≡ is_sound g → is_sound (cond b f (Bad k i)) ≡ is_sound (cond b g (Bad k j))
tested_alike true f g k i j e = e
tested_alike false f g k i j e = refl

halves_alike : (z : Alphabet) (n i j : ℕ) (hs : List ℕ) → is_sound (halves_fault z n i hs) ≡ is_sound (halves_fault z n j hs)
unfolding halves_fault
halves_alike z n i j [] = refl
halves_alike z zero i j (h ∷ hs) =
    tested_alike (eqb h 0) (halves_fault z zero (i + 1) hs) (halves_fault z zero (j + 1) hs) bad_digit (i / 2) (j / 2)
    (halves_alike z zero (i + 1) (j + 1) hs)
halves_alike z (suc n) i j (h ∷ hs) =
    tested_alike (is_code z h) (halves_fault z n (i + 1) hs) (halves_fault z n (j + 1) hs) bad_digit (i / 2) (j / 2)
    (halves_alike z n (i + 1) (j + 1) hs)

pub digits_alike : (z : Alphabet) (n : HalfOctets) (at to : ℕ) (s : List ℕ)
    → is_sound (digits_fault z n at s) ≡ is_sound (digits_fault z n to s)
unfolding digits_fault
digits_alike z n at to s = halves_alike z n.0 (2 * at) (2 * to) (halves s)

pub number_alike : (z : Alphabet) (at to : ℕ) (s : List ℕ) → is_sound (number_fault_in z at s) ≡ is_sound (number_fault_in z to s)
unfolding number_fault_in
number_alike z at to s =
    formed_alike (not (ltb (length s) 2)) _ _
    (formed_alike (not (eqb (odd_of s) 1 && eqb (length s) 2)) _ _ (digits_alike z (count_of s) (at + 2) (to + 2) (drop 2 s)))

outside_alike : (known : ℕ → Bool) (at to : ℕ) (xs : List ℕ) → is_sound (outside_fault known at xs) ≡ is_sound (outside_fault known to xs)
unfolding outside_fault
outside_alike known at to [] = refl
outside_alike known at to (x ∷ xs) =
    tested_alike (known x) (outside_fault known (at + 1) xs) (outside_fault known (to + 1) xs) bad_digit at to
    (outside_alike known (at + 1) (to + 1) xs)

-- the parameters of a connection order, by their layout
pub layout_alike : (k : OrderLayout) (at to : ℕ) (own : List ℕ) → is_sound (layout_fault k at own) ≡ is_sound (layout_fault k to own)
unfolding layout_fault forward_fault control_fault
layout_alike TrunkKind at to own = refl
layout_alike ReleaseKind at to own = refl
layout_alike RedirectReason at to own = refl
layout_alike SentDigits at to own = digits_alike Dialled (whole_count (get_or own 0 0)) (at + 1) (to + 1) (drop 1 own)
layout_alike ForwardNumber at to own =
    formed_alike (eqb (get_or (drop 1 own) 1 0 % 16) 0) _ _ (number_alike Decimal (at + 1) (to + 1) (drop 1 own))
layout_alike AreControl at to own =
    formed_alike (leb 3 (length (drop 1 own)) && repeat_right (drop 1 own)) _ _
    (outside_alike is_are_character (at + 1 + 2) (to + 1 + 2) (drop 2 (drop 1 own)))
layout_alike AreLogic at to own = refl
layout_alike Guidance at to own = refl
layout_alike WaitingTime at to own = outside_alike is_figure at to own
