-- Octets laid out in the draft behind those that stand there, where they fit.
use Rattle.std.specs.Prelude.{ℕ, zero, suc, ◌+◌, ◌≤◌, ◌<◌, ◌≡◌, refl, Bool, true, false, cond, leb, take, set}
use Rattle.std.proofs.Common.{arith, ap, le-leb, leb-true, take_at}
use mathlib.Core.List.{List, [], ◌∷◌, ◌++◌, append_assoc}
use Rattle.std.proofs.Math.ListN.{length, drop, length-append, length-drop}
use Rattle.std.proofs.Math.Seq.{length-take-le}
use Rattle.annex.specs.Memory.{put, low_octets, laid_at}
use Rattle.annex.specs.Answers.{Accepted}
use Rattle.laws.specs.Written.{length_low}

module _ (d : List ℕ) (at : ℕ) (xs : List ℕ) where
  put_front : at + length xs ≤ length d → take (at + length xs) (put d at (low_octets xs)) ≡ take at d ++ low_octets xs
  unfolding put
  put_front h =
      let low = low_octets xs in
      let e : length (take at d ++ low) ≡ at + length xs =
      rw (length-append (take at d) low, length-take-le at d (omega arith), length_low xs) in
      let behind = drop (at + length low) d in
      rw (← append_assoc (take at d) low behind) (take_at (take at d ++ low) behind (at + length xs) e)

  put-length : at + length xs ≤ length d → length (put d at (low_octets xs)) ≡ length d
  unfolding put
  put-length h =
      let low = low_octets xs in
      rw (
        length-append (take at d) (low ++ drop (at + length low) d),
        length-append low (drop (at + length low) d),
        length-take-le at d (omega arith),
        length-drop (at + length low) d,
        length_low xs,
      )
      (omega arith)

  -- an accepted parameter, wherever its octets have room
  pub laid_front : (n : ℕ) → at + length xs ≤ length d → take (at + length xs) (laid_at (Accepted n) xs at d) ≡ take at d ++ low_octets xs
  laid_front n h = rw (le-leb (at + length xs) (length d) h) (put_front h)

  pub laid_length : (n : ℕ) → length (laid_at (Accepted n) xs at d) ≡ length d
  laid_length n = go (leb (at + length xs) (length d)) refl
    where
      go : (b : Bool) → leb (at + length xs) (length d) ≡ b → length (cond b (put d at (low_octets xs)) d) ≡ length d
      go true e = put-length (leb-true (at + length xs) (length d) e)
      go false e = refl

  -- and one laid out by a function that says whether it fits
  pub keeps_laid : (n : ℕ) (b : Bool) (now : List ℕ) → b ≡ leb (at + length xs) (length d) → now ≡ cond b (put d at (low_octets xs)) d
      → now ≡ laid_at (Accepted n) xs at d
  keeps_laid n b now e f = rw e at f

-- one octet
pub set_front : (d : List ℕ) (at x : ℕ) → at < length d → take (at + 1) (set d at x) ≡ take at d ++ x ∷ []
set_front [] at x h = absurd (omega arith)
set_front (y ∷ d) zero x h = refl
set_front (y ∷ d) (suc at) x h =
    let e : suc at + 1 ≡ suc (at + 1) = omega arith in
    rw e (ap (λ (l : List ℕ). y ∷ l) (set_front d at x (omega arith)))

-- two octets before others, stored after them: d was laid out behind two octets of the first draft
pub set-two : (first d : List ℕ) (at n x y : ℕ) (rest : List ℕ) → at + 2 ≤ length first → length d ≡ length first
    → take (at + 2 + n) d ≡ take (at + 2) first ++ rest → take (at + 2 + n) (set (set d at x) (at + 1) y) ≡ take at first ++ x ∷ y ∷ rest
set-two [] d at n x y rest h l e = absurd (omega arith)
set-two (a ∷ first) [] at n x y rest h l e = absurd (omega arith)
set-two (a ∷ []) (b ∷ d) zero n x y rest h l e = absurd (omega arith)
set-two (a ∷ c ∷ first) (b ∷ []) zero n x y rest h l e = absurd (omega arith)
set-two (a ∷ c ∷ first) (b ∷ b' ∷ d) zero n x y rest h l e =
    let m : 0 + 2 + n ≡ suc (suc n) = omega arith in
    let f : b ∷ b' ∷ take n d ≡ a ∷ c ∷ rest = rw m at e in
    let same : take n d ≡ rest = cc in
    rw (m, same)
set-two (a ∷ first) (b ∷ d) (suc at) n x y rest h l e =
    let m : suc at + 2 + n ≡ suc (at + 2 + n) = omega arith in
    let k : suc at + 2 ≡ suc (at + 2) = omega arith in
    let j : suc at + 1 ≡ suc (at + 1) = omega arith in
    let f : b ∷ take (at + 2 + n) d ≡ a ∷ (take (at + 2) first ++ rest) = rw (m, k) at e in
    let tail : take (at + 2 + n) d ≡ take (at + 2) first ++ rest = cc in
    let front : b ≡ a = cc in
    rw (m, j, front) (ap (λ (s : List ℕ). a ∷ s) (set-two first d at n x y rest (omega arith) (omega arith) tail))
