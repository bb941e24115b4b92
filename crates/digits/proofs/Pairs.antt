-- Digits judged octet by octet: where each whole octet holds two digits and what is behind them is sound, nothing is wrong.
use Prim.Native.Nat.{ℕ, zero, suc, ◌+◌, ◌*◌, ◌/◌, ◌%◌, ◌<◌}
use native.Mathlib.Omega.{arith}
use mathlib.Core.Path.{◌≡◌, refl, sym, ap, ◌∙◌}
use mathlib.Core.Bool.{true}
use mathlib.Core.List.{List, [], ◌∷◌}
use lib.ListN.{length, get_or, take, drop, set, drop_of_length-le}
use lib.Seq.{sets, drop-cons}
use Rattle.annex.specs.Digits.{halves, digit_of, code_of, is_code, halves_fault, digits_fault, digits_of, packed}
use Rattle.annex.specs.Allowed.{every}
use Rattle.annex.specs.declared.HalfOctets.{HalfOctets}
use Rattle.annex.specs.declared.Alphabet.{Alphabet}
use Rattle.annex.specs.Answers.{Sound}
use Rattle.laws.specs.Bools.{and_left, and_right}
use Rattle.laws.specs.Joined.{code_small}
use Rattle.laws.specs.Halves.{halves_even, halves_odd, digits_of_at}
use Rattle.laws.specs.Stores.{sets-turn}
use Rattle.laws.specs.Laid.{packed_at, code_here, code_past}
use Rattle.digits.specs.Pairs.{is_pair}

pub pairs_sound : (z : Alphabet) (k m : ℕ) (s : List ℕ) → every (is_pair z) (take k s) ≡ true
    → ((q : ℕ) → halves_fault z m q (halves (drop k s)) ≡ Sound) → (p : ℕ) → halves_fault z (k * 2 + m) p (halves s) ≡ Sound
unfolding halves_fault halves
pairs_sound z zero m s e f p =
    let n : zero * 2 + m ≡ m = omega arith in
    rw n (f p)
pairs_sound z (suc k) m [] e f p = refl
pairs_sound z (suc k) m (x ∷ s) e f p =
    let n : suc k * 2 + m ≡ suc (suc (k * 2 + m)) = omega arith in
    let b = and_left (is_pair z x) (every (is_pair z) (take k s)) e in
    let r = and_right (is_pair z x) (every (is_pair z) (take k s)) e in
    rw (n, and_left (is_code z (x % 16)) (is_code z (x / 16)) b, and_right (is_code z (x % 16)) (is_code z (x / 16)) b)
    (pairs_sound z k m s r f (p + 1 + 1))

-- an even count of digits fills its octets
pub even_sound : (z : Alphabet) (n : HalfOctets) (k at : ℕ) (s : List ℕ) → n.0 ≡ k * 2 → drop k s ≡ [] → every (is_pair z) (take k s) ≡ true
    → digits_fault z n at s ≡ Sound
unfolding digits_fault halves_fault halves
even_sound z n k at s e d t =
    let g : n.0 ≡ k * 2 + 0 = omega arith in
    rw g (pairs_sound z k 0 s t (λ q. rw d) (2 * at))

-- of an odd count the last octet is the last digit's code itself: the filler above it is 0
pub odd_sound : (z : Alphabet) (n : HalfOctets) (k at x : ℕ) (s : List ℕ) → n.0 ≡ k * 2 + 1 → drop k s ≡ x ∷ []
    → every (is_pair z) (take k s) ≡ true → is_code z x ≡ true → digits_fault z n at s ≡ Sound
unfolding digits_fault halves_fault halves
odd_sound z n k at x s e d t c =
    let l = code_small z x c in
    let low : x % 16 ≡ x = omega arith in
    let high : x / 16 ≡ 0 = omega arith in
    rw e (pairs_sound z k 1 s t (λ q. rw (d, low, c, high)) (2 * at))

-- the last octet of a list
pub alone : (s : List ℕ) (k : ℕ) → length s ≡ k + 1 → drop k s ≡ get_or s k 0 ∷ []
alone s k e =
    drop-cons s k 0 (omega arith) ∙ ap (λ (l : List ℕ). get_or s k 0 ∷ l) (drop_of_length-le s {i = suc k} (omega arith))

-- ---- two digits at a time

-- two stores at the end of a run
pub sets-two : (l : List ℕ) (i : ℕ) (vs : List ℕ) (j a b : ℕ) → j + 1 < length vs → a ≡ get_or vs j 0 → b ≡ get_or vs (j + 1) 0
    → set (set (sets l i (take j vs)) (i + j) a) (i + j + 1) b ≡ sets l i (take (j + 2) vs)
sets-two l i vs j a b h e f =
    let g : i + j + 1 ≡ i + (j + 1) = omega arith in
    let k : j + 2 ≡ j + 1 + 1 = omega arith in
    rw (e, f, sets-turn l i vs j 0 (omega arith), g, k) (sets-turn l i vs (j + 1) 0 h)

-- the digits of octet i
pub low_digit : (z : Alphabet) (n : HalfOctets) (s : List ℕ) (i : ℕ) → 2 * i < n.0
    → digit_of z (get_or s i 0 % 16) ≡ get_or (digits_of z n s) (2 * i) 0
low_digit z n s i h =
    let e : 2 * i / 2 ≡ i = omega arith in
    sym (digits_of_at z n s (2 * i) h ∙ ap (digit_of z) (halves_even s (2 * i) (omega arith) ∙ rw e))

pub high_digit : (z : Alphabet) (n : HalfOctets) (s : List ℕ) (i : ℕ) → 2 * i + 1 < n.0
    → digit_of z (get_or s i 0 / 16) ≡ get_or (digits_of z n s) (2 * i + 1) 0
high_digit z n s i h =
    let e : (2 * i + 1) / 2 ≡ i = omega arith in
    sym (digits_of_at z n s (2 * i + 1) h ∙ ap (digit_of z) (halves_odd s (2 * i + 1) (λ k. omega arith) ∙ rw e))

-- the octet of two digits, and of an odd last one
pub pair_octet : (z : Alphabet) (ds : List ℕ) (i : ℕ) → 2 * i + 1 < length ds
    → get_or (packed z ds) i 0 ≡ code_of z (get_or ds (2 * i) 0) + 16 * code_of z (get_or ds (2 * i + 1) 0)
pair_octet z ds i h =
    let e : i * 2 ≡ 2 * i = omega arith in
    packed_at z ds i ∙ rw (e, code_here z ds (2 * i) (omega arith), code_here z ds (2 * i + 1) h)

pub last_octet : (z : Alphabet) (ds : List ℕ) (i : ℕ) → length ds ≡ 2 * i + 1 → get_or (packed z ds) i 0 ≡ code_of z (get_or ds (2 * i) 0)
last_octet z ds i h =
    let e : i * 2 ≡ 2 * i = omega arith in
    let c = code_of z (get_or ds (2 * i) 0) in
    let f : c + 16 * 0 ≡ c = omega arith in
    packed_at z ds i ∙ rw (e, code_here z ds (2 * i) (omega arith), code_past z ds (2 * i + 1) (omega arith), f)
