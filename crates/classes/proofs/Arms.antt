-- Laws for the arms of a `match` on an octet under a header: what the class is over an arm is one test that antt computes.
use Rattle.std.specs.Prelude.{Err}
use mathlib.Core.Path.{◌≡◌, refl, ap}
use mathlib.Core.Bool.{Bool, true, false, cond, not, ◌&&◌, ◌||◌}
use mathlib.Core.List.{List, [], ◌∷◌}
use Prim.Native.Nat.{ℕ, ◌+◌, ◌*◌, ◌/◌, ◌%◌, ◌≤◌, ◌<◌}
use native.Mathlib.Omega.{arith}
use lib.Dec.{T, eqb, eqb→eq}
use types.Run.{OneOf}
use Rattle.annex.specs.Answers.{no_class_list, class_value_of, ClassAnswer, Is, Refused}
use Rattle.annex.specs.Heads.{among}
use Rattle.annex.specs.Classes.{ClassList, class_by}
use Rattle.annex.specs.declared.Class.{Class}
use Rattle.annex.specs.declared.Class.TheVariants.{Named, HeldBack, Spare}
use Rattle.laws.specs.Bools.{T_true, true_t, and_left, and_right}
use Rattle.laws.specs.Octet.{all, all_of, among_any, None, range, span_by_lem, one_of_by}
use Rattle.classes.specs.Listed.{listed_in, listed_class}

-- the two classes are one
abbrev same_class : Class → Class → Bool
same_class a b = eqb (class_value_of a) (class_value_of b)

same_class_lem : (a b : Class) → T (same_class a b) → a ≡ b
same_class_lem Named Named t = refl
same_class_lem Named HeldBack t = absurd t
same_class_lem Named Spare t = absurd t
same_class_lem HeldBack Named t = absurd t
same_class_lem HeldBack HeldBack t = refl
same_class_lem HeldBack Spare t = absurd t
same_class_lem Spare Named t = absurd t
same_class_lem Spare HeldBack t = absurd t
same_class_lem Spare Spare t = refl

-- and the two answers
abbrev pub same_answer : ClassAnswer → ClassAnswer → Bool
same_answer (Is a) (Is b) = same_class a b
same_answer (Is a) (Err r) = false
same_answer (Err r) (Is b) = false
same_answer (Err r) (Err w) = eqb r.0 w.0 && eqb r.1 w.1

pub same_answer_lem : (a b : ClassAnswer) → T (same_answer a b) → a ≡ b
same_answer_lem (Is a) (Is b) t = ap Is (same_class_lem a b t)
same_answer_lem (Is a) (Err r) t = absurd t
same_answer_lem (Err r) (Is b) t = absurd t
same_answer_lem (Err r) (Err w) t =
    let both = T_true (eqb r.0 w.0 && eqb r.1 w.1) t in
    let e = eqb→eq r.0 w.0 (true_t (eqb r.0 w.0) (and_left (eqb r.0 w.0) (eqb r.1 w.1) both)) in
    let f = eqb→eq r.1 w.1 (true_t (eqb r.1 w.1) (and_right (eqb r.0 w.0) (eqb r.1 w.1) both)) in
    rw (e, f)

-- an arm of a range, or a `_`, with the keys of the arms before it
pub in_range : (h : ℕ) (v : ClassAnswer) (kss : List (List ℕ)) (lo n : ℕ)
    → T (all (λ k. among_any k kss || same_answer v (listed_class h k)) lo n) → (x : ℕ) → None kss x → lo ≤ x → x < lo + n
    → v ≡ listed_class h x
in_range h v = span_by_lem same_answer same_answer_lem v (listed_class h)

-- an arm of keys
pub at_keys : (h : ℕ) (v : ClassAnswer) (ks : List ℕ) → T (all_of (λ k. same_answer v (listed_class h k)) ks) → (x : ℕ) → OneOf ks x
    → v ≡ listed_class h x
at_keys h v = one_of_by same_answer same_answer_lem v (listed_class h)

-- an arm of a range of the high half around one of the low half
pub in_halves : (h : ℕ) (v : ClassAnswer) (hi m lo n : ℕ) → T (all (λ a. all (λ b. same_answer v (listed_class h (a * 16 + b))) lo n) hi m)
    → (x : ℕ) → hi ≤ x / 16 → x / 16 < hi + m → lo ≤ x % 16 → x % 16 < lo + n → v ≡ listed_class h x
in_halves h v hi m lo n t x p q r s =
    let e : x / 16 * 16 + x % 16 ≡ x = omega arith in
    rw e at (same_answer_lem v (listed_class h (x / 16 * 16 + x % 16))
    (range (λ b. same_answer v (listed_class h (x / 16 * 16 + b))) lo n
    (range (λ a. all (λ b. same_answer v (listed_class h (a * 16 + b))) lo n) hi m t (x / 16) p q) (x % 16) r s))

-- the headers of the lists
abbrev pub listed : List ClassList → List ℕ
listed [] = []
listed (l ∷ ls) = l.header ∷ listed ls

-- a header without a list: 17
pub unlisted : (ls : List ClassList) (h x : ℕ) → T (not (among h (listed ls))) → Refused no_class_list 0 ≡ listed_in ls h x
unlisted [] h x t = refl
unlisted (l ∷ ls) h x t = go (eqb h l.header) t (unlisted ls h x)
  where
    go : (b : Bool) → T (not (b || among h (listed ls))) → (T (not (among h (listed ls))) → Refused no_class_list 0 ≡ listed_in ls h x)
        → Refused no_class_list 0 ≡ cond b (Is (class_by l x)) (listed_in ls h x)
    go true u r = absurd u
    go false u r = r u
