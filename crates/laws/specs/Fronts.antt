-- Laws of lists written at the front of lent room: the list, and behind it what the room held there.
use Rattle.std.specs.Prelude.{ℕ, ◌+◌, ◌-◌, ◌<◌, ◌≤◌, ◌≡◌, List, [], ◌++◌, length, get_or, take, drop, set}
use Rattle.std.proofs.Common.{arith, zero-add, sym, ap, ◌∙◌, append-nil, append_assoc, length-append, length-drop, drop_of_length-le, take_all, drop-drop}
use Rattle.std.proofs.lemmas.List.Edits.{sets, sets-eq}
use Rattle.std.proofs.Math.Seq.{take-append_seam, drop-append_seam}
use borrow.Rule.Slice.PartMut.{put_mid}
use Rattle.laws.specs.Stores.{sets-turn}
use Rattle.laws.specs.Parts.{to_end}

module _ {A : Type 0} where
  -- a turn of a loop that stores the elements of vs from the front on, and its end
  pub front_turn : (l vs : List A) (j : ℕ) (d : A) → j < length vs → set (sets l 0 (take j vs)) j (get_or vs j d) ≡ sets l 0 (take (j + 1) vs)
  front_turn l vs j d h = rw (zero-add j) at (sets-turn l 0 vs j d h)

  pub front_all : (l vs : List A) → length vs ≤ length l → sets l 0 vs ≡ vs ++ drop (length vs) l
  front_all l vs k = rw (zero-add (length vs)) at (sets-eq vs l 0 (omega arith))

  pub front_end : (l vs : List A) (j : ℕ) → length vs ≤ j → length vs ≤ length l → sets l 0 (take j vs) ≡ vs ++ drop (length vs) l
  front_end l vs j h k = rw (take_all j vs h) (front_all l vs k)

  -- what is written leaves the length
  pub front_length : (l vs : List A) → length vs ≤ length l → length (vs ++ drop (length vs) l) ≡ length l
  front_length l vs h = length-append vs (drop (length vs) l) ∙ rw (length-drop (length vs) l) (omega arith)

-- the room behind what is stored first, lent and written from its own front on
pub front_then : (room first xs ys : List ℕ) → length first + length xs ≤ length room →
    let w = sets room 0 first in
    let k = length first in
    ys ≡ xs ++ drop (length xs) (take (length w - k) (drop k w)) →
    put_mid k (length w - k) w ys ≡ (first ++ xs) ++ drop (length (first ++ xs)) room
front_then room first xs ys l e =
    let w = sets room 0 first in
    let k = length first in
    let f : w ≡ first ++ drop k room = front_all room first (omega arith) in
    let behind : drop k w ≡ drop k room = ap (drop k) f ∙ drop-append_seam first (drop k room) in
    let before : take k w ≡ first = ap (take k) f ∙ take-append_seam first (drop k room) in
    let all : drop (length w - k) (drop k w) ≡ [] = drop_of_length-le (drop k w) {i = length w - k} (rw (length-drop k w) (omega arith)) in
    let g : ys ≡ xs ++ drop (length (first ++ xs)) room =
    e ∙ ap (λ (s : List ℕ). xs ++ drop (length xs) s) (to_end k w ∙ behind)
    ∙ ap (λ (s : List ℕ). xs ++ s) (drop-drop (length xs) k room ∙ ap (λ (n : ℕ). drop n room) (sym (length-append first xs))) in
    rw (before, all, append-nil ys) (ap (λ (s : List ℕ). first ++ s) g ∙ sym (append_assoc first xs (drop (length (first ++ xs)) room)))

-- a part of a list overwritten by as many values
pub sets_part : {A : Type 0} (at k : ℕ) (l xs : List A) → k ≡ length xs → at + length xs ≤ length l → put_mid at k l xs ≡ sets l at xs
sets_part {A = A} at k l xs e h =
    sym
    (sets-eq xs l at h ∙ append_assoc (take at l) xs (drop (at + length xs) l)
    ∙ ap (λ (s : List A). take at l ++ (xs ++ s)) (sym (drop-drop (length xs) at l) ∙ ap (λ (n : ℕ). drop n (drop at l)) (sym e)))
