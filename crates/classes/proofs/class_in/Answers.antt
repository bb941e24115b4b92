-- `class_in` meets its contract: an arm's function answers for the arm's header, headers with the same list have the same class, and a
-- header of no arm is unlisted.
use Prim.Native.Nat.{ℕ, ◌+◌, ◌≤◌, ◌<◌}
use native.Mathlib.Omega.{arith}
use native.Mathlib.Nat.{eq-or-lt_of_le}
use mathlib.Core.Path.{◌≡◌, refl, sym, ◌∙◌}
use mathlib.Core.Bool.{not, ◌||◌}
use mathlib.Core.List.{List, [], ◌∷◌}
use mathlib.Core.Logic.{◌⊎◌, inl, inr}
use lib.Dec.{T}
use Rattle.annex.specs.Answers.{no_class_list, Refused}
use Rattle.annex.specs.Heads.{among}
use Rattle.annex.specs.Classes.{class_lists}
use Rattle.classes.specs.Listed.{listed_class}
use Rattle.laws.specs.Octet.{all, among_any, None, rest}
use Rattle.classes.proofs.Arms.{listed, unlisted}
use Rattle.classes.proofs.class_in.Goals as goal

-- the two pairs of headers with the same list
result-events : (x : ℕ) → listed_class 0x79 x ≡ listed_class 0x7A x
unfolding listed_class
result-events x = refl

number-types : (x : ℕ) → listed_class 0xD7 x ≡ listed_class 0xDC x
unfolding listed_class
number-types x = refl

-- an arm of two headers
one_of_two : (a b : ℕ) → ((x : ℕ) → listed_class a x ≡ listed_class b x) → {h : ℕ} → (h ≡ a) ⊎ (h ≡ b) → (x : ℕ)
    → listed_class a x ≡ listed_class h x
one_of_two a b e (inl p) x = rw p
one_of_two a b e (inr p) x = rw p (e x)

-- two headers in a row are a range
next-or-it : (a : ℕ) {h : ℕ} → a ≤ h → h < a + 2 → (h ≡ a) ⊎ (h ≡ a + 1)
next-or-it a {h} p q = elim (eq-or-lt_of_le p) [ inl e ↦ inl (sym e) | inr l ↦ inr (omega arith) ]

-- the headers that have an arm of their own, the last arm first
abbrev arms : List (List ℕ)
arms =
    (0xD7 ∷ 0xDC ∷ []) ∷ (0x7E ∷ []) ∷ (0x7C ∷ []) ∷ (0x75 ∷ []) ∷ (0x6F ∷ []) ∷ (0x6E ∷ []) ∷ (0x68 ∷ []) ∷ (0x67 ∷ []) ∷ (0x52 ∷ []) ∷
    (0x46 ∷ []) ∷ (0x42 ∷ []) ∷ []

-- a header of no arm
none_of : (lo n h x : ℕ) → T (all (λ k. among_any k arms || not (among k (listed class_lists))) lo n) → None arms h → lo ≤ h → h < lo + n
    → Refused no_class_list 0 ≡ listed_class h x
unfolding listed_class
none_of lo n h x t r p q = unlisted class_lists h x (rest (λ k. not (among k (listed class_lists))) arms lo n t h r p q)

pub returns-in-66 : goal.returns-in-66
returns-in-66 c = rw c.in-66.is c.release_event.ensures

pub returns-in-70 : goal.returns-in-70
returns-in-70 c = rw c.in-70.is c.initial_setting.ensures

pub returns-in-82 : goal.returns-in-82
returns-in-82 c = rw c.in-82.is c.calling_user_class.ensures

pub returns-in-103 : goal.returns-in-103
returns-in-103 c = rw c.in-103.is c.charging_form.ensures

pub returns-in-104 : goal.returns-in-104
returns-in-104 c = rw c.in-104.is c.rejected_call.ensures

pub returns-in-110 : goal.returns-in-110
returns-in-110 c = rw c.in-110.is c.channel_request.ensures

pub returns-in-111 : goal.returns-in-111
returns-in-111 c = rw c.in-111.is c.isup_link.ensures

pub returns-in-117 : goal.returns-in-117
returns-in-117 c = rw c.in-117.is c.section_mbi.ensures

pub returns-in-124 : goal.returns-in-124
returns-in-124 c = rw c.in-124.is c.charging_order.ensures

pub returns-in-126 : goal.returns-in-126
returns-in-126 c = rw c.in-126.is c.adjacent_network.ensures

pub returns-in-215 : goal.returns-in-215
returns-in-215 c = c.number_type.ensures ∙ one_of_two 0xD7 0xDC number-types c.in-215.is _

pub returns-in-121 : goal.returns-in-121
returns-in-121 c =
    c.result_event.ensures ∙ one_of_two 0x79 0x7A result-events (next-or-it 0x79 (omega arith) (omega arith)) _

pub returns-in_default : goal.returns-in_default
returns-in_default c = none_of 0 0x79 _ _ tt c.in_default.in_default-own.rest (omega arith) (omega arith)

pub returns-in_default-2 : goal.returns-in_default-2
returns-in_default-2 c = none_of 0x7B 0x85 _ _ tt c.in_default.in_default-own.rest (omega arith) (omega arith)
