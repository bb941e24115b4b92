-- Laws of the cursors of a walk over n octets, one after the other.
use Rattle.std.specs.Prelude.{ℕ, zero, suc, ◌-◌, ◌≤◌, ◌<◌, ◌≡◌, refl, Bool, true, false, cond, List, [], ◌∷◌, ltb, length}
use Rattle.std.proofs.Common.{arith, ap, lt-ltb, le-ltb, ltb-true, ltb-false}
use Rattle.annex.specs.Walking.{steps_by, steps_from}
use Rattle.annex.specs.declared.Cursor.{Cursor}

-- past the last there is none
pub steps_none : (next : Cursor → Cursor) (n : ℕ) (c : Cursor) → n ≤ c.at → steps_from next n c ≡ []
unfolding steps_from
steps_none next n c l = let z : n - c.at ≡ 0 = omega arith in rw z

-- no more than the octets
pub steps_few : (next : Cursor → Cursor) (n : ℕ) (c : Cursor) → length (steps_from next n c) ≤ n - c.at
unfolding steps_from
steps_few next n c = few (n - c.at) c
  where
    few : (k : ℕ) (c : Cursor) → length (steps_by next n k c) ≤ k
    few zero c = omega arith
    few (suc k) c = by_test (ltb c.at n) (few k (next c))
      where
        by_test : (b : Bool) → length (steps_by next n k (next c)) ≤ k → length (cond b (c ∷ steps_by next n k (next c)) []) ≤ suc k
        by_test true l = omega arith
        by_test false l = omega arith

-- where each is behind the one before
module _ (next : Cursor → Cursor) (n : ℕ) (onward : (c : Cursor) → c.at < n → c.at < (next c).at) where
  -- more is not asked
  enough : (j k : ℕ) (c : Cursor) → n - c.at ≤ j → n - c.at ≤ k → steps_by next n j c ≡ steps_by next n k c
  enough zero zero c p q = refl
  enough zero (suc k) c p q = rw (le-ltb c.at n (omega arith))
  enough (suc j) zero c p q = rw (le-ltb c.at n (omega arith))
  enough (suc j) (suc k) c p q = go (ltb c.at n) refl (enough j k (next c))
    where
      go : (b : Bool) → ltb c.at n ≡ b
          → (n - (next c).at ≤ j → n - (next c).at ≤ k → steps_by next n j (next c) ≡ steps_by next n k (next c))
          → cond b (c ∷ steps_by next n j (next c)) [] ≡ cond b (c ∷ steps_by next n k (next c)) []
      go true e ih =
          let h = ltb-true _ _ e in
          let o = onward c h in
          ap (λ (cs : List Cursor). c ∷ cs) (ih (omega arith) (omega arith))
      go false e ih = refl

  pub steps_more : (c : Cursor) → c.at < n → steps_from next n c ≡ c ∷ steps_from next n (next c)
  unfolding steps_from
  steps_more c l = by_count (n - c.at) refl
    where
      by_count : (k : ℕ) → n - c.at ≡ k → steps_by next n k c ≡ c ∷ steps_by next n (n - (next c).at) (next c)
      by_count zero e = absurd (omega arith)
      by_count (suc k) e =
          let o = onward c l in
          rw (lt-ltb c.at n l) (ap (λ (cs : List Cursor). c ∷ cs) (enough k (n - (next c).at) (next c) (omega arith) (omega arith)))

  -- a fact of all cursors that lie right: where one more is left, and past the last
  pub by_step : (Lies P : Cursor → Type 0) → ((c : Cursor) → Lies c → c.at < n → Lies (next c) × (P (next c) → P c))
      → ((c : Cursor) → Lies c → n ≤ c.at → P c) → (c : Cursor) → Lies c → P c
  by_step Lies P more none c i = go (n - c.at) c i (omega arith)
    where
      go : (k : ℕ) (c : Cursor) → Lies c → n - c.at ≤ k → P c
      go zero c i l = none c i (omega arith)
      go (suc k) c i l = by_test (ltb c.at n) refl (go k (next c))
        where
          by_test : (b : Bool) → ltb c.at n ≡ b → (Lies (next c) → n - (next c).at ≤ k → P (next c)) → P c
          by_test true e ih =
              let h = ltb-true _ _ e in
              let o = onward c h in
              let m = more c i h in
              m.1 (ih m.0 (omega arith))
          by_test false e ih = none c i (ltb-false _ _ e)
