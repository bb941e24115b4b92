-- Laws of how many there are: a name that may stand only so often bounds what is listed. Hence so many parameters in transfer data,
-- and so many rows of a message.
use Rattle.std.specs.Prelude.{◌≡◌, Bool, true, false, cond, eqb, leb, get_or, set, take, Err}
use Rattle.std.proofs.Math.Path.{refl}
use Rattle.std.proofs.Common.{◌∙◌, eqb-true, leb-true, length-set, length-append}
use mathlib.Core.List.{List, [], ◌∷◌}
use Prim.Native.Nat.{ℕ, zero, suc, ◌+◌, ◌-◌, ◌%◌, ◌≤◌, ◌<◌}
use Rattle.std.proofs.Math.Nat.{sub-zero}
use native.Mathlib.Omega.{arith}
use Rattle.std.proofs.Math.ListN.{length}
use Rattle.std.proofs.lemmas.List.{length-map}
use Rattle.annex.specs.Units.{name_of}
use Rattle.annex.specs.Heads.{among, listed_headers, transfer_data, name_count, name_used, often_of, most_transfers, most_rows}
use Rattle.annex.specs.Walk.{Seen, unseen, times_seen, counted, Par, Step, by_step, walk, listing, Size, par_of, pars}
use Rattle.annex.specs.Reading.{transfer_step, transfers_of, common_step, commons_of, data_in, commons_by, transfers_by}
use Rattle.annex.specs.Spans.{transfer_rows, inner_rows, common_rows, rows_of, common_rows_by, rows_by}
use Rattle.annex.specs.Answers.{Answer, Accepted}
use Rattle.annex.specs.Contents.{fault_of}
use Rattle.annex.specs.Orders.{order_size}
use Rattle.annex.specs.Opened.{parameter_row, order_listing}
use Rattle.laws.specs.Members.{among_every, sum_of, count}
use Rattle.laws.specs.Often.{often_sum}
use Rattle.laws.specs.Steps.{transfer_taken, common_taken}
use Rattle.laws.specs.Rows.{par_at, transfer_rows_lem}

-- ---- a listing spends what its names allow

-- what name n still allows, seen so many times; added up over the names from i on
unfoldable pub allowance : (ℕ → ℕ → ℕ) → ℕ → Seen → ℕ
allowance allows i [] = 0
allowance allows i (x ∷ xs) = allows i x + allowance allows (i + 1) xs

module _ (allows : ℕ → ℕ → ℕ) where
  allowance-set : (i n x : ℕ) (seen : Seen) → n < length seen
      → allowance allows i (set seen n x) + allows (i + n) (get_or seen n 0) ≡ allowance allows i seen + allows (i + n) x
  unfolding allowance
  allowance-set i n x [] h = absurd (omega arith)
  allowance-set i zero x (y ∷ seen) h = let e : i + 0 ≡ i = omega arith in rw e (omega arith)
  allowance-set i (suc n) x (y ∷ seen) h =
      let e : i + suc n ≡ i + 1 + n = omega arith in
      rw e (omega (arith, allowance-set (i + 1) n x seen (omega arith)))

  module _ (step : Step) (weight : Par → ℕ)
      (spends : (seen : Seen) (p h : ℕ) (xs : List ℕ) (n : ℕ) → step seen h xs ≡ Accepted n
      → weight (par_at p h (take n xs)) + allows (name_of h) (times_seen seen h + 1) ≤ allows (name_of h) (times_seen seen h)) where
    -- if each parameter takes its weight from what its name allows, all weights together are within what all names allow
    pub spent : (xs : List ℕ) (seen : Seen) (k p : ℕ) → length seen ≡ name_count
        → sum_of weight (walk (listing step) seen k p xs) ≤ allowance allows 0 seen
    unfolding walk
    spent [] seen k p l = omega arith
    spent (x ∷ xs) seen (suc k) p l = spent xs seen k (p + 1) l
    spent (x ∷ xs) seen zero p l = go (step seen x xs) refl (spent xs (counted seen x))
      where
        go : (a : Answer) → step seen x xs ≡ a
            →
            ((k p : ℕ) → length (counted seen x) ≡ name_count
            → sum_of weight (walk (listing step) (counted seen x) k p xs) ≤ allowance allows 0 (counted seen x))
            → sum_of weight
            (by_step a (λ k r. [])
            (λ n. par_at p x (take n xs) ∷ walk (listing step) (counted seen x) n (p + 1) xs)) ≤ allowance allows 0 seen
        go (Accepted n) f ih =
            let e : 0 + name_of x ≡ name_of x = omega arith in
            omega (
              arith,
              spends seen p x xs n f,
              ih n (p + 1) (length-set seen (name_of x) (times_seen seen x + 1) ∙ l),
              rw e at (allowance-set 0 (name_of x) (times_seen seen x + 1) seen (omega arith)),
            )
        go (Err w) f ih = omega arith

-- ---- transfer data

-- each name in use as often as it may stand
transfer_allows : ℕ → ℕ → ℕ
transfer_allows n x = cond (name_used n) (often_of n - x) 0

name_used_lem : (h : ℕ) → name_used (name_of h) ≡ name_used h
unfolding name_used
name_used_lem h = let e : h % 64 % 64 ≡ h % 64 = omega arith in rw e

transfer_spends : (seen : Seen) (p h : ℕ) (xs : List ℕ) (n : ℕ) → transfer_step seen h xs ≡ Accepted n
    → 1 + transfer_allows (name_of h) (times_seen seen h + 1) ≤ transfer_allows (name_of h) (times_seen seen h)
unfolding transfer_allows
transfer_spends seen p h xs n e =
    let t = transfer_taken fault_of _ h xs n e in
    rw (name_used_lem h, t.used) (omega (arith, t.often))

-- at the start all names in use allow as often as they may stand together
all_allowed : allowance transfer_allows 0 unseen ≤ most_transfers
unfolding transfer_allows allowance name_used
all_allowed = simp sub-zero (omega (arith, often_sum))

transfers_few : (t : List ℕ) → length (transfers_of t) ≤ most_transfers
unfolding transfers_by
transfers_few t =
    omega (arith, count (transfers_of t), spent transfer_allows transfer_step (λ q. 1) transfer_spends t unseen 0 0 refl, all_allowed)

-- ---- the rows of a message

-- each name once: C5 with the rows inside it, and the other six headers
common_allows : ℕ → ℕ → ℕ
common_allows n x = cond (eqb x 0) (cond (eqb n (name_of transfer_data)) (1 + most_transfers) (cond (leb n 6) 1 0)) 0

listed_allowed : (h : ℕ) → among h listed_headers ≡ true → 1 ≤ common_allows (name_of h) 0
unfolding common_allows
listed_allowed h e = leb-true 1 _ (among_every (λ x. leb 1 (common_allows (name_of x) 0)) listed_headers refl h e)

inner_few : (p h : ℕ) (own : List ℕ) → among h listed_headers ≡ true → 1 + length (inner_rows (par_at p h own)) ≤ common_allows (name_of h) 0
unfolding common_allows
inner_few p h own l = go (eqb h transfer_data) refl
  where
    go : (b : Bool) → eqb h transfer_data ≡ b
        → 1 + length (cond b (transfer_rows (p + 2) (transfers_of (data_in (par_at p h own)))) []) ≤ common_allows (name_of h) 0
    go true e =
        let t = transfers_of (data_in (par_at p h own)) in
        rw (eqb-true h transfer_data e, transfer_rows_lem (p + 2) t, length-map t) (omega (arith, transfers_few (data_in (par_at p h own))))
    go false e = listed_allowed h l

abbrev rows_in : Par → ℕ
rows_in q = 1 + length (inner_rows q)

common_spends : (seen : Seen) (p h : ℕ) (xs : List ℕ) (n : ℕ) → common_step seen h xs ≡ Accepted n
    → rows_in (par_at p h (take n xs)) + common_allows (name_of h) (times_seen seen h + 1) ≤ common_allows (name_of h) (times_seen seen h)
unfolding common_allows
common_spends seen p h xs n e =
    let t = (common_taken fault_of _ _ h xs n e).1 in
    rw t.once (omega (arith, inner_few p h (take n xs) t.listed))

length-rows : (qs : List Par) → length (common_rows qs) ≡ sum_of rows_in qs
unfolding common_rows_by
length-rows [] = refl
length-rows (q ∷ qs) = rw (length-append (inner_rows q) (common_rows qs)) (omega (arith, length-rows qs))

-- no more of them
pub rows_few : (m : List ℕ) → length (rows_of m) ≤ most_rows
unfolding rows_by commons_by common_allows allowance
rows_few m = omega (arith, length-rows (commons_of m), spent common_allows common_step rows_in common_spends m unseen 0 0 refl)

-- ---- a connection order

-- a parameter has its header at least, so that there are no more of them than octets
pars_few : (size : Size) (k p : ℕ) (xs : List ℕ) → length (pars size k p xs) ≤ length xs
unfolding pars
pars_few size k p [] = omega arith
pars_few size (suc k) p (x ∷ xs) = omega (arith, pars_few size k (p + 1) xs)
pars_few size zero p (x ∷ xs) = go (leb (size x xs) (length xs)) (pars_few size (size x xs) (p + 1) xs)
  where
    go : (b : Bool) → length (pars size (size x xs) (p + 1) xs) ≤ length xs
        → length (cond b (par_of p x (size x xs) xs ∷ pars size (size x xs) (p + 1) xs) []) ≤ suc (length xs)
    go true h = omega arith
    go false h = omega arith

-- nor are there more rows
pub order_few : (p : ℕ) (s : List ℕ) → length (order_listing p s) ≤ length s
unfolding order_listing
order_few p [] = omega arith
order_few p (form ∷ xs) = omega (arith, length-map (pars order_size 0 1 xs) (parameter_row p), pars_few order_size 0 1 xs)
