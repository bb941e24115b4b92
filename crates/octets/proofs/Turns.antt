-- One turn of a loop that writes: a store takes what is written to one octet more, at its end or at its start.
use mathlib.Core.Path.{◌≡◌, refl, sym, ap, ◌∙◌}
use mathlib.Core.List.{List, [], ◌∷◌, ◌++◌, append_assoc}
use Prim.Native.Nat.{ℕ, suc, ◌+◌, ◌-◌, ◌≤◌, ◌<◌}
use native.Mathlib.Nat.{add-zero}
use native.Mathlib.Numerals.{add-one}
use native.Mathlib.Omega.{arith}
use lib.ListN.{length, take, drop, get_or, set, take-append-drop, drop_of_length-le, length-set}
use lib.Seq.{paste, paste-suc, take-suc, drop-cons, set_at, append_snoc, take_all, length-take-le}
use Rattle.annex.specs.Memory.{put}

-- ---- forward

-- the first i of the k octets of s are written over d₀
pub record Forward (d₀ : List ℕ) (at : ℕ) (s : List ℕ) (k i : ℕ) (d : List ℕ) : Type 0 where
  pub few : i ≤ k
  pub written : d ≡ put d₀ at (take i s)
  pub same : length d ≡ length d₀

put_none : (d : List ℕ) (at : ℕ) (s : List ℕ) → d ≡ put d at (take 0 s)
unfolding put
put_none d at s = rw (add-zero at, take-append-drop at d)

put_paste : (d : List ℕ) (at : ℕ) (s : List ℕ) (i : ℕ) → i ≤ length s → put d at (take i s) ≡ paste d at s i
unfolding put
put_paste d at s i h = rw (length-take-le i s h) (sym (append_assoc (take at d) (take i s) (drop (at + i) d)))

put_more : (d : List ℕ) (at : ℕ) (s : List ℕ) (i : ℕ) → i < length s → at + length s ≤ length d
    → set (put d at (take i s)) (at + i) (get_or s i 0) ≡ put d at (take (i + 1) s)
put_more d at s i hs hd =
    rw (add-one i, put_paste d at s i (omega arith), put_paste d at s (suc i) (omega arith)) (paste-suc d at s i 0 (omega arith) hs)

pub forward_start : (d : List ℕ) (at : ℕ) (s : List ℕ) (k : ℕ) → Forward d at s k 0 d
forward_start d at s k = record { few = omega arith; written = put_none d at s; same = refl }

pub forward_turn : (d₀ : List ℕ) (at : ℕ) (s : List ℕ) (k i : ℕ) (d : List ℕ) (v : ℕ) → length s ≡ k → at + k ≤ length d₀ → i < k
    → Forward d₀ at s k i d → v ≡ get_or s i 0 → Forward d₀ at s k (i + 1) (set d (at + i) v)
forward_turn d₀ at s k i d v e h l f g =
    record {
      few = omega arith;
      written = rw (g, f.written) (put_more d₀ at s i (omega arith) (omega arith));
      same = length-set d (at + i) v ∙ f.same;
    }

pub forward_end : (d₀ : List ℕ) (at : ℕ) (s : List ℕ) (k i : ℕ) (d : List ℕ) → length s ≡ k → k ≤ i → Forward d₀ at s k i d
    → d ≡ put d₀ at s
forward_end d₀ at s k i d e l f = f.written ∙ ap (put d₀ at) (take_all i s (omega arith))

-- ---- backward

-- the octets of s from i on are written over d₀
pub record Backward (d₀ : List ℕ) (at : ℕ) (s : List ℕ) (k i : ℕ) (d : List ℕ) : Type 0 where
  pub few : i ≤ k
  pub written : d ≡ put d₀ (at + i) (drop i s)
  pub same : length d ≡ length d₀

put_end : (d : List ℕ) (at : ℕ) (s : List ℕ) (k : ℕ) → length s ≡ k → d ≡ put d (at + k) (drop k s)
unfolding put
put_end d at s k e =
    let none : drop k s ≡ [] = let g : length s ≤ k = omega arith in drop_of_length-le s g in
    rw (none, add-zero) (sym (take-append-drop (at + k) d))

-- a store just before what is written
put_less : (d : List ℕ) (at v : ℕ) (s : List ℕ) → at < length d → set (put d (at + 1) s) at v ≡ put d at (v ∷ s)
unfolding put
put_less d at v s h =
    let r : List ℕ = s ++ drop (at + suc (length s)) d in
    let e : at + 1 + length s ≡ at + suc (length s) = omega arith in
    ap (λ (k : ℕ). set (take (at + 1) d ++ (s ++ drop k d)) at v) e
    ∙ ap (λ (l : List ℕ). set (l ++ r) at v) (ap (λ (k : ℕ). take k d) (add-one at) ∙ take-suc d at 0 h)
    ∙ ap (λ (l : List ℕ). set l at v) (append_snoc (take at d) (get_or d at 0) r)
    ∙ set_at (take at d) (get_or d at 0) r v at (length-take-le at d (omega arith))

put_back : (d : List ℕ) (at : ℕ) (s : List ℕ) (i : ℕ) → 0 < i → i ≤ length s → at + length s ≤ length d
    → set (put d (at + i) (drop i s)) (at + (i - 1)) (get_or s (i - 1) 0) ≡ put d (at + (i - 1)) (drop (i - 1) s)
put_back d at s i h l m =
    let j : ℕ = i - 1 in
    let e : i ≡ suc j = omega arith in
    let e' : at + i ≡ at + j + 1 = omega arith in
    ap (λ (k : ℕ). set (put d k (drop i s)) (at + j) (get_or s j 0)) e'
    ∙ put_less d (at + j) (get_or s j 0) (drop i s) (omega arith)
    ∙ ap (put d (at + j)) (ap (λ (k : ℕ). get_or s j 0 ∷ drop k s) e ∙ sym (drop-cons s j 0 (omega arith)))

pub backward_start : (d : List ℕ) (at : ℕ) (s : List ℕ) (k : ℕ) → length s ≡ k → Backward d at s k k d
backward_start d at s k e = record { few = omega arith; written = put_end d at s k e; same = refl }

pub backward_turn : (d₀ : List ℕ) (at : ℕ) (s : List ℕ) (k i : ℕ) (d : List ℕ) (v : ℕ) → length s ≡ k → at + k ≤ length d₀ → 0 < i
    → Backward d₀ at s k i d → v ≡ get_or s (i - 1) 0 → Backward d₀ at s k (i - 1) (set d (at + (i - 1)) v)
backward_turn d₀ at s k i d v e h l f g =
    record {
      few = omega arith;
      written = rw (g, f.written) (put_back d₀ at s i l (omega arith) (omega arith));
      same = length-set d (at + (i - 1)) v ∙ f.same;
    }

pub backward_end : (d₀ : List ℕ) (at : ℕ) (s : List ℕ) (k i : ℕ) (d : List ℕ) → i ≡ 0 → Backward d₀ at s k i d → d ≡ put d₀ at s
backward_end d₀ at s k i d e f = f.written ∙ rw (e, add-zero)
