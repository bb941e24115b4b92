-- Numbers written as octets at the front of lent room, turn by turn, and behind what is stored first.
use Rattle.std.specs.Prelude.{ℕ, zero, suc, ◌+◌, ◌-◌, ◌%◌, ◌<◌, ◌≤◌, ◌≡◌, refl, true, List, [], ◌∷◌, ◌++◌, length, get_or, take, drop, set}
use Rattle.std.proofs.Common.{arith, sym, ap, ◌∙◌, append-nil, append_assoc, ltb-true, lt-ltb, length-append, length-drop, drop_of_length-le, take_at, drop-drop}
use Rattle.std.proofs.lemmas.List.{map-append, length-map}
use borrow.Rule.Slice.PartMut.{put_mid}
use Rattle.std.proofs.lemmas.List.Edits.{sets}
use Rattle.std.proofs.Math.Seq.{drop-append-add}
use Rattle.annex.specs.Allowed.{every, is_octet}
use Rattle.annex.specs.Memory.{put, low_octets, at_front}
use Rattle.laws.specs.Bools.{and_left, and_right}
use Rattle.laws.specs.Fronts.{front_turn, front_end, front_length, front_then}
use Rattle.laws.specs.Parts.{to_end}

-- octets of a slice as octets of a list
pub octets_every : (s : List ℕ) → ((i : ℕ) → get_or s i 0 < 256) → every is_octet s ≡ true
octets_every [] f = refl
octets_every (x ∷ s) f = rw (lt-ltb x 256 (f 0)) (octets_every s (λ i. f (suc i)))

-- octets are written as they are
pub low_octets_lem : (xs : List ℕ) → every is_octet xs ≡ true → low_octets xs ≡ xs
low_octets_lem [] h = refl
low_octets_lem (x ∷ xs) h =
    let l : x < 256 = ltb-true x 256 (and_left (is_octet x) (every is_octet xs) h) in
    let e : x % 256 ≡ x = omega arith in
    rw e (ap (λ s. x ∷ s) (low_octets_lem xs (and_right (is_octet x) (every is_octet xs) h)))

pub length_low : (xs : List ℕ) → length (low_octets xs) ≡ length xs
length_low xs = length-map xs (λ x. x % 256)

pub low_at : (xs : List ℕ) (i : ℕ) → get_or (low_octets xs) i 0 ≡ get_or xs i 0 % 256
low_at [] i = refl
low_at (x ∷ xs) zero = refl
low_at (x ∷ xs) (suc i) = low_at xs i

pub written_turn : (room xs : List ℕ) (j x : ℕ) → j < length xs → x ≡ get_or xs j 0 % 256
    → set (sets room 0 (take j (low_octets xs))) j x ≡ sets room 0 (take (j + 1) (low_octets xs))
written_turn room xs j x h e =
    rw (e ∙ sym (low_at xs j)) (front_turn room (low_octets xs) j 0 (omega (arith, length_low xs)))

pub written_end : (room xs : List ℕ) (j : ℕ) → length xs ≤ j → length xs ≤ length room
    → sets room 0 (take j (low_octets xs)) ≡ at_front xs room
written_end room xs j h k =
    front_end room (low_octets xs) j (omega (arith, length_low xs)) (omega (arith, length_low xs))
    ∙ ap (λ (n : ℕ). low_octets xs ++ drop n room) (length_low xs)

-- what is written leaves the length
pub written_length : (room xs : List ℕ) → length xs ≤ length room → length (at_front xs room) ≡ length room
written_length room xs h = rw (← length_low xs) (front_length room (low_octets xs) (omega (arith, length_low xs)))

-- written over what stands behind the first
pub put_behind : (room first xs : List ℕ) → put (at_front first room) (length first) (low_octets xs) ≡ at_front (first ++ xs) room
unfolding put
put_behind room first xs =
    let low = low_octets first in
    let n = length first in
    let k = length (low_octets xs) in
    let l : length low ≡ n = length_low first in
    let m : n + k ≡ length (first ++ xs) = omega (arith, length_low xs, length-append first xs) in
    let before : take n (at_front first room) ≡ low = take_at low (drop n room) n l in
    let behind : drop (n + k) (at_front first room) ≡ drop (length (first ++ xs)) room =
    ap (λ (j : ℕ). drop (j + k) (at_front first room)) (sym l) ∙ drop-append-add low (drop n room) k ∙ drop-drop k n room
    ∙ ap (λ (j : ℕ). drop j room) m in
    rw (before, behind, map-append (λ x. x % 256) first xs) (sym (append_assoc low (low_octets xs) (drop (length (first ++ xs)) room)))

-- the room from index at on, lent and written at its front
pub put_part : (room xs ys : List ℕ) (at : ℕ) → at ≤ length room → ys ≡ at_front xs (take (length room - at) (drop at room))
    → put_mid at (length room - at) room ys ≡ put room at (low_octets xs)
unfolding put
put_part room xs ys at h e =
    let none : drop (length room - at) (drop at room) ≡ [] =
    drop_of_length-le (drop at room) {i = length room - at} (rw (length-drop at room) (omega arith)) in
    let g : ys ≡ low_octets xs ++ drop (at + length (low_octets xs)) room =
    e ∙ ap (λ (s : List ℕ). low_octets xs ++ drop (length xs) s) (to_end at room)
    ∙ ap (λ (s : List ℕ). low_octets xs ++ s)
    (drop-drop (length xs) at room ∙ ap (λ (n : ℕ). drop (at + n) room) (sym (length_low xs))) in
    rw (none, append-nil ys) (ap (λ (s : List ℕ). take at room ++ s) g)

-- the room behind what is stored first, lent and written
pub written_then : (room low first xs ys : List ℕ) → low ≡ low_octets first → length first + length xs ≤ length room →
    let w = sets room 0 low in
    let k = length low in
    ys ≡ at_front xs (take (length w - k) (drop k w)) →
    put_mid k (length w - k) w ys ≡ at_front (first ++ xs) room
written_then room low first xs ys f l e =
    let n : length low ≡ length first = ap (λ (s : List ℕ). length s) f ∙ length_low first in
    let m : length (low ++ low_octets xs) ≡ length (first ++ xs) =
    rw (length-append low (low_octets xs), length-append first xs) (omega (arith, length_low xs)) in
    front_then room low (low_octets xs) ys (omega (arith, length_low xs)) (rw (length_low xs) e)
    ∙ rw (m, f) (ap (λ (s : List ℕ). s ++ drop (length (first ++ xs)) room) (sym (map-append (λ x. x % 256) first xs)))
