-- A part of octets, and laws of what can be read of octets that others were written over.
use Rattle.std.specs.Prelude.{◌≡◌, refl, ℕ, ◌+◌, ◌-◌, ◌≤◌, ◌<◌, take, get_or}
use Rattle.std.proofs.Common.{sym, ap, ◌∙◌, arith, length-take, length-drop, take-append-drop, get_or-take, get_or-drop, drop_at, drop-drop, length-take-le}
use mathlib.Core.List.{List, ◌++◌, append_assoc}
use Rattle.std.proofs.Math.ListN.{length, drop, length-append}
use Rattle.std.proofs.Math.Seq.{take_at}
use Rattle.annex.specs.Memory.{put}

-- the k octets of d from index from on
unfoldable pub part : List ℕ → ℕ → ℕ → List ℕ
part d from k = take k (drop from d)

-- ---- a part

pub length_part : (d : List ℕ) (from k : ℕ) → from + k ≤ length d → length (part d from k) ≡ k
unfolding part
length_part d from k h = simp (length-take, length-drop) (omega arith)

pub get_d_part : (d : List ℕ) (from k i : ℕ) → i < k → get_or (part d from k) i 0 ≡ get_or d (from + i) 0
unfolding part
get_d_part d from k i h = rw (get_or-take, get_or-drop)

-- written where it stands it changes nothing
pub put_part : (d : List ℕ) (at k : ℕ) → at + k ≤ length d → put d at (part d at k) ≡ d
unfolding put part
put_part d at k h =
    rw (length_part d at k h, ← drop-drop k at d, take-append-drop k (drop at d)) (take-append-drop at d)

-- ---- octets that s was written over, where it fits

module _ (d : List ℕ) (at : ℕ) (s : List ℕ) (fits : at + length s ≤ length d) where
  front : length (take at d) ≡ at
  front = length-take-le at d (omega arith)

  pub take_put : take at (put d at s) ≡ take at d
  unfolding put
  take_put = take_at (take at d) (s ++ drop (at + length s) d) at front

  pub part_put : part (put d at s) at (length s) ≡ s
  unfolding put part
  part_put =
      rw (drop_at (take at d) (s ++ drop (at + length s) d) at front)
      (take_at s (drop (at + length s) d) (length s) refl)

  pub drop-put : drop (at + length s) (put d at s) ≡ drop (at + length s) d
  unfolding put
  drop-put =
      let e : length (take at d ++ s) ≡ at + length s = simp length-append (omega (arith, front)) in
      rw (← append_assoc (take at d) s (drop (at + length s) d)) (drop_at (take at d ++ s) (drop (at + length s) d) (at + length s) e)

  -- an octet before, among and after those written
  pub get_d_before : (j : ℕ) → j < at → get_or (put d at s) j 0 ≡ get_or d j 0
  get_d_before j h =
      sym (get_or-take at (put d at s) j 0 h) ∙ ap (λ (l : List ℕ). get_or l j 0) take_put ∙ get_or-take at d j 0 h

  pub get_d_after : (j : ℕ) → at + length s ≤ j → get_or (put d at s) j 0 ≡ get_or d j 0
  get_d_after j h =
      let k : ℕ = j - (at + length s) in
      let e : at + length s + k ≡ j = omega arith in
      rw (← e)
      (sym (get_or-drop (at + length s) (put d at s) k 0) ∙ ap (λ (l : List ℕ). get_or l k 0) drop-put ∙ get_or-drop (at + length s) d k 0)
