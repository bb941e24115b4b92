-- A walk that is accepted throughout is the trail of its parameters: each stands where the one before it ends, and its step accepts it.
-- The trail, laid out, is what was walked; and what a trail lays out is walked as that trail.
use Prim.Native.Nat.{ℕ, zero, suc, ◌+◌, ◌≤◌}
use native.Mathlib.Omega.{arith}
use Rattle.std.proofs.Math.Nat.{add-zero}
use Rattle.std.specs.Prelude.{◌≡◌, take, Err}
use Rattle.std.proofs.Math.Path.{refl, ap}
use Rattle.std.proofs.Common.{sym, ◌∙◌, length-append, length-take-le}
use mathlib.Core.List.{List, [], ◌∷◌, ◌++◌}
use Rattle.std.proofs.Math.ListN.{length}
use Rattle.std.proofs.Math.Seq.{take-append_seam, drop-append_seam}
use Rattle.annex.specs.Walk.{Seen, counted, Par, Step, Walker, by_step, walk, judging, listing}
use Rattle.annex.specs.Answers.{Answer, Accepted, Refused}
use Rattle.laws.specs.Walks.{accepted, walk_end}

-- parameters, header and own octets, one after the other
unfoldable pub laid_out : List Par → List ℕ
laid_out [] = []
laid_out (q ∷ qs) = q.head ∷ (q.own ++ laid_out qs)

-- how often each name has been seen behind these parameters
unfoldable pub seen_by : Seen → List Par → Seen
seen_by seen [] = seen
seen_by seen (q ∷ qs) = seen_by (counted seen q.head) qs

-- the trail of a step, from the place p on
abbrev pub Trail : Step → Seen → ℕ → List Par → Type 0
Trail step seen p [] = Unit {0}
Trail step seen p (q ∷ qs) =
    (q.place ≡ p) × (step seen q.head (q.own ++ laid_out qs) ≡ Accepted (length q.own)) ×
    Trail step (counted seen q.head) (p + 1 + length q.own) qs

-- the octets xs, of which the first k belong to what stands before, are these parameters, and their end is accepted with n
pub record Walked (step : Step) (close : Seen → ℕ → Answer) (seen : Seen) (k p n : ℕ) (xs : List ℕ) (qs : List Par) : Type 0 where
  pub whole : take k xs ++ laid_out qs ≡ xs
  pub trail : Trail step seen (p + k) qs
  pub closes : close (seen_by seen qs) (p + length xs) ≡ Accepted n

module _ (step : Step) (close : Seen → ℕ → Answer)
    (within : (seen : Seen) (h : ℕ) (xs : List ℕ) (n : ℕ) → step seen h xs ≡ Accepted n → n ≤ length xs) where
  pub walked : (xs : List ℕ) (seen : Seen) (k p n : ℕ) → k ≤ length xs → walk (judging step close) seen k p xs ≡ Accepted n
      → Walked step close seen k p n xs (walk (listing step) seen k p xs)
  unfolding walk laid_out seen_by
  walked [] seen zero p n h e = record { whole = refl; trail = tt; closes = rw add-zero e }
  walked [] seen (suc k) p n h e = absurd (omega arith)
  walked (x ∷ xs) seen (suc k) p n h e =
      let w = walked xs seen k (p + 1) n (omega arith) e in
      let at : p + 1 + k ≡ p + suc k = omega arith in
      let end : p + 1 + length xs ≡ p + suc (length xs) = omega arith in
      record { whole = ap (λ (l : List ℕ). x ∷ l) w.whole; trail = rw (← at) w.trail; closes = rw (← end) w.closes }
  walked (x ∷ xs) seen zero p n h e = go (step seen x xs) refl e (λ k. walked xs (counted seen x) k (p + 1) n)
    where
      rest : ℕ → List Par
      rest k = walk (listing step) (counted seen x) k (p + 1) xs

      go : (a : Answer) → step seen x xs ≡ a
          → by_step a (λ k q. Refused k (p + q)) (λ n. walk (judging step close) (counted seen x) n (p + 1) xs) ≡ Accepted n
          →
          ((k : ℕ) → k ≤ length xs → walk (judging step close) (counted seen x) k (p + 1) xs ≡ Accepted n
          → Walked step close (counted seen x) k (p + 1) n xs (rest k))
          → Walked step close seen 0 p n (x ∷ xs) (by_step a (λ k q. []) (λ n. record { place = p; head = x; own = take n xs } ∷ rest n))
      go (Err r) f g ih = absurd (let z : ◌≡◌ {A = ℕ} 0 1 = cc in omega arith)
      go (Accepted k) f g ih =
          let l = within seen x xs k f in
          let w = ih k l g in
          let end : p + 1 + length xs ≡ p + suc (length xs) = omega arith in
          record {
            whole = ap (λ (l : List ℕ). x ∷ l) w.whole;
            trail = (sym (add-zero p), rw (w.whole, length-take-le k xs l) f, rw (add-zero, length-take-le k xs l) w.trail);
            closes = rw (← end) w.closes;
          }

-- what a walk makes of parameters
unfoldable pub made : {R : Type 0} → Walker R → Seen → ℕ → List Par → R
made r seen p [] = r.close seen p
made r seen p (q ∷ qs) = r.more q (made r (counted seen q.head) (p + 1 + length q.own) qs)

pub built : {R : Type 0} (r : Walker R) (qs : List Par) (seen : Seen) (p : ℕ) → Trail r.step seen p qs
    → walk r seen 0 p (laid_out qs) ≡ made r seen p qs
unfolding laid_out made
built r [] seen p t = walk_end r seen p 0 [] (omega arith)
built r (q ∷ qs) seen p t =
    rw (
      accepted r seen p q.head (q.own ++ laid_out qs) (length q.own) t.1 (simp length-append (omega arith)),
      take-append_seam,
      drop-append_seam,
      built r qs (counted seen q.head) (p + 1 + length q.own) t.2,
      ← t.0,
    )

pub made_list : (step : Step) (qs : List Par) (seen : Seen) (p : ℕ) → made (listing step) seen p qs ≡ qs
unfolding made
made_list step [] seen p = refl
made_list step (q ∷ qs) seen p = ap (λ (l : List Par). q ∷ l) (made_list step qs (counted seen q.head) (p + 1 + length q.own))

pub made_answer : (step : Step) (close : Seen → ℕ → Answer) (qs : List Par) (seen : Seen) (p : ℕ)
    → made (judging step close) seen p qs ≡ close (seen_by seen qs) (p + length (laid_out qs))
unfolding made seen_by laid_out
made_answer step close [] seen p = rw add-zero
made_answer step close (q ∷ qs) seen p =
    let at : p + 1 + length q.own + length (laid_out qs) ≡ p + suc (length (q.own ++ laid_out qs)) =
    omega (arith, length-append q.own (laid_out qs)) in
    made_answer step close qs (counted seen q.head) (p + 1 + length q.own) ∙ ap (close _) at
