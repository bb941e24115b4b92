-- Laws of rows: the parameters of accepted octets add up to them. Hence a walk by the length rule never meets a cut parameter, and the
-- rows from a parameter on are its own, for C5 those inside, and the rows from behind it on.
use Rattle.std.proofs.Math.Path.{◌≡◌, refl}
use Rattle.std.specs.Prelude.{Bool, cond, ◌||◌, eqb, ltb, get_or, take, drop, Err}
use Rattle.std.proofs.Math.Bool.{true, false}
use mathlib.Core.List.{List, [], ◌∷◌, ◌++◌, map}
use Prim.Native.Nat.{ℕ, zero, suc, ◌+◌, ◌-◌, ◌≤◌, ◌<◌}
use Rattle.std.proofs.Common.{zero-add, add-one, length-drop, drop-cons, length-take-le}
use native.Mathlib.Omega.{arith}
use borrow.Author.Tests.{leb-true}
use Rattle.std.proofs.Math.Dec.{leb}
use Rattle.std.proofs.Math.ListN.{length}
use Rattle.annex.specs.Units.{lead_of, extent_of, common_extent_of}
use Rattle.annex.specs.Answers.{over_the_limits, Answer, Accepted, Refused}
use Rattle.annex.specs.Heads.{most_octets}
use Rattle.annex.specs.Walk.{Seen, unseen, counted, Par, Step, by_step, walk, judging, listing, Size, common_size, transfer_size, pars}
use Rattle.annex.specs.Reading.{
  transfer_step,
  transfers_verdict,
  transfers_of,
  common_step,
  common_close,
  message_verdict,
  verdict_of,
  commons_of,
  transfers_verdict_by,
  message_verdict_by,
  verdict_by,
  commons_by,
  transfers_by,
}
use Rattle.annex.specs.Spans.{par_row, transfer_rows, inner_rows, common_rows, common_rows_by}
use Rattle.annex.specs.declared.Row.{Row}
use Rattle.annex.specs.declared.Extent.{Extent}
use Rattle.annex.specs.Contents.{fault_of}
use Rattle.laws.specs.Members.{sum_of}
use Rattle.laws.specs.Steps.{passed, transfer_taken, common_within}
use Rattle.laws.specs.Plain.{pars_turn, commons_plain, transfers_plain}

-- ---- sums

abbrev pub par_at : ℕ → ℕ → List ℕ → Par
par_at p h own = record { place = p; head = h; own = own }

-- a parameter's octets: its header and its own
abbrev pub octets_in : Par → ℕ
octets_in q = 1 + length q.own

-- ---- accepted octets

abbrev pub Accepts : List ℕ → Type 0
Accepts m = (q : ℕ) × (verdict_of m ≡ Accepted q)

abbrev pub AcceptsTransfers : List ℕ → Type 0
AcceptsTransfers t = (q : ℕ) × (transfers_verdict t ≡ Accepted q)

module _ (step : Step) (close : Seen → ℕ → Answer)
    (inside : (seen : Seen) (h : ℕ) (xs : List ℕ) (n : ℕ) → step seen h xs ≡ Accepted n → n ≤ length xs) where
  listing_sum : (xs : List ℕ) (seen : Seen) (k p q : ℕ) → k ≤ length xs → walk (judging step close) seen k p xs ≡ Accepted q
      → k + sum_of octets_in (walk (listing step) seen k p xs) ≡ length xs
  unfolding walk
  listing_sum [] seen k p q h e = omega arith
  listing_sum (x ∷ xs) seen (suc k) p q h e = omega (arith, listing_sum xs seen k (p + 1) q (omega arith) e)
  listing_sum (x ∷ xs) seen zero p q h e = go (step seen x xs) refl e (listing_sum xs (counted seen x))
    where
      go : (a : Answer) → step seen x xs ≡ a
          → by_step a (λ k r. Refused k (p + r)) (λ n. walk (judging step close) (counted seen x) n (p + 1) xs) ≡ Accepted q
          →
          ((k p q : ℕ) → k ≤ length xs → walk (judging step close) (counted seen x) k p xs ≡ Accepted q
          → k + sum_of octets_in (walk (listing step) (counted seen x) k p xs) ≡ length xs)
          → 0 + sum_of octets_in (by_step a (λ k r. []) (λ n. par_at p x (take n xs) ∷ walk (listing step) (counted seen x) n (p + 1) xs))
          ≡ suc (length xs)
      go (Accepted n) f e ih =
          let l = inside seen x xs n f in
          rw (length-take-le n xs l) (omega (arith, ih n (p + 1) q l e))
      go (Err w) f e ih = absurd (let z : ◌≡◌ {A = ℕ} 0 1 = cc in omega arith)

-- the parameters of a message add up to it
commons_sum : (m : List ℕ) (q : ℕ) → verdict_of m ≡ Accepted q → sum_of octets_in (commons_of m) ≡ length m
unfolding verdict_by message_verdict_by commons_by
commons_sum m q e =
    omega (
      arith,
      listing_sum common_step common_close (λ seen h xs n. common_within fault_of _ _ h xs n) m unseen 0 0 q (omega arith)
          (passed (eqb (length m) 0 || ltb most_octets (length m)) over_the_limits 0 q (message_verdict m) e).1,
    )

-- those of transfer data add up to it
pub transfers_sum_lem : (t : List ℕ) (q : ℕ) → transfers_verdict t ≡ Accepted q → sum_of octets_in (transfers_of t) ≡ length t
unfolding transfers_verdict_by transfers_by
transfers_sum_lem t q e =
    omega (
      arith,
      listing_sum transfer_step (λ seen p. Accepted p) (λ seen h xs n f. (transfer_taken fault_of _ h xs n f).within) t unseen 0 0 q
          (omega arith) e,
    )

-- ---- a walk by the length rule

-- the parameters by the length rule add up to the octets
pub record Filled (size : Size) (p : ℕ) (xs : List ℕ) : Type 0 where
  pub sum : sum_of octets_in (pars size 0 p xs) ≡ length xs

pub commons_filled : (m : List ℕ) (q : ℕ) → verdict_of m ≡ Accepted q → Filled common_size 0 m
commons_filled m q e = record { sum = rw (commons_plain fault_of m q e) at (commons_sum m q e) }

pub transfers_filled : (t : List ℕ) (q : ℕ) → transfers_verdict t ≡ Accepted q → Filled transfer_size 0 t
transfers_filled t q e = record { sum = rw (transfers_plain fault_of t q e) at (transfers_sum_lem t q e) }

-- one turn: the next parameter, with n octets of its own, is whole, and what comes after it is filled again
pub record Turned (size : Size) (i n : ℕ) (t : List ℕ) : Type 0 where
  pub within : n ≤ length (drop (i + 1) t)
  pub next : pars size 0 i (drop i t) ≡ par_at i (get_or t i 0) (take n (drop (i + 1) t)) ∷ pars size 0 (i + 1 + n) (drop (i + 1 + n) t)
  pub rest : Filled size (i + 1 + n) (drop (i + 1 + n) t)

module _ (size : Size) where
  -- a parameter that is cut would leave its header over
  whole : (p x : ℕ) (xs : List ℕ) → Filled size p (x ∷ xs) → size x xs ≤ length xs
  unfolding pars
  whole p x xs f = go (leb (size x xs) (length xs)) refl f.sum
    where
      go : (b : Bool) → leb (size x xs) (length xs) ≡ b
          → sum_of octets_in (cond b (par_at p x (take (size x xs) xs) ∷ pars size (size x xs) (p + 1) xs) []) ≡ suc (length xs)
          → size x xs ≤ length xs
      go true e g = leb-true _ _ e
      go false e g = absurd (omega arith)

  pub filled_turn : (i n : ℕ) (t : List ℕ) → i < length t → n ≡ size (get_or t i 0) (drop (i + 1) t) → Filled size i (drop i t)
      → Turned size i n t
  filled_turn i n t h told f =
      let c : drop i t ≡ get_or t i 0 ∷ drop (i + 1) t = rw (add-one, drop-cons t i 0 h) in
      let w : n ≤ length (drop (i + 1) t) = omega (arith, whole i (get_or t i 0) (drop (i + 1) t) (rw c at f)) in
      let e = pars_turn size i (i + 1 + n) i n t h told w refl in
      record {
        within = w;
        next = e;
        rest = record {
          sum =
              omega (
                arith,
                rw (e, length-take-le n (drop (i + 1) t) w) at f.sum,
                length-drop i t,
                length-drop (i + 1) t,
                length-drop (i + 1 + n) t,
              );
        };
      }

-- the row of a parameter at an offset, with n octets of its own
abbrev pub row_for : Extent → ℕ → ℕ → ℕ → Row
row_for e p h n = record { offset = p; header = h; len = n - lead_of e }

-- the rows from a parameter on: its own row, for C5 those inside, and the rows from behind it on
pub transfer_turn : (s i n : ℕ) (t : List ℕ) → Turned transfer_size i n t
    → transfer_rows s (pars transfer_size 0 i (drop i t))
    ≡ row_for (extent_of (get_or t i 0)) (s + i) (get_or t i 0) n ∷ transfer_rows s (pars transfer_size 0 (i + 1 + n) (drop (i + 1 + n) t))
unfolding transfer_rows
transfer_turn s i n t u = rw (u.next, length-take-le n (drop (i + 1) t) u.within)

pub common_turn : (i n : ℕ) (m : List ℕ) → Turned common_size i n m
    → common_rows (pars common_size 0 i (drop i m))
    ≡ row_for (common_extent_of (get_or m i 0)) i (get_or m i 0) n
    ∷ (inner_rows (par_at i (get_or m i 0) (take n (drop (i + 1) m))) ++ common_rows (pars common_size 0 (i + 1 + n) (drop (i + 1 + n) m)))
unfolding common_rows_by
common_turn i n m u = rw (u.next, length-take-le n (drop (i + 1) m) u.within, zero-add i)

pub transfer_rows_lem : (s : ℕ) (qs : List Par) → transfer_rows s qs ≡ map (λ q. par_row (extent_of q.head) s q) qs
unfolding transfer_rows
transfer_rows_lem s [] = refl
transfer_rows_lem s (q ∷ qs) = rw (transfer_rows_lem s qs)
