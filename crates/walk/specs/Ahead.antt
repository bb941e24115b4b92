-- A cursor that stands in an accepted message: what is left from there, a turn further, and at the end.
use Prim.Native.Nat.{ℕ, zero, suc, ◌+◌, ◌-◌, ◌≤◌, ◌<◌}
use Rattle.std.proofs.Math.Nat.{zero-add}
use native.Mathlib.Omega.{arith}
use Rattle.std.specs.Prelude.{◌≡◌, Bool, cond, eqb, ltb, leb, Err}
use Rattle.std.proofs.Math.Path.{refl, ap}
use Rattle.std.proofs.Common.{sym, subst, ◌∙◌, drop_of_length-le, get_or-take, drop-cons}
use Rattle.std.proofs.Math.Bool.{true, false}
use mathlib.Core.List.{List, [], ◌∷◌, ◌++◌}
use borrow.Author.Tests.{lt-ltb, le-ltb, ltb-true, ltb-false, eqb-true}
use Rattle.std.proofs.Math.ListN.{length, get_or, take, drop, length-drop}
use Rattle.std.proofs.Math.Seq.{drop-drop, length-take-le}
use Rattle.annex.specs.Units.{after_of, lead_of, extent_of, common_extent_of}
use Rattle.annex.specs.Heads.{transfer_data}
use Rattle.annex.specs.Allowed.{Each}
use Rattle.annex.specs.Walk.{Par, Size, common_size, transfer_size, pars}
use Rattle.annex.specs.Reading.{verdict_of, data_in}
use Rattle.annex.specs.Spans.{par_row, transfer_rows, inner_rows, common_rows, rows_of, rows_by, common_rows_by}
use Rattle.annex.specs.Answers.{Answer, Accepted, At}
use Rattle.annex.specs.declared.Extent.{Extent}
use Rattle.annex.specs.declared.Extent.TheVariants.{Fixed, Counted}
use Rattle.annex.specs.Contents.{fault_of}
use Rattle.annex.specs.Walking.{no_row, cursor_to, first_cursor, extent_here, stretch_here, row_here, next_of}
use Rattle.laws.specs.Extents.{lead_within}
use Rattle.laws.specs.Listed.{rows_after, listed}
use Rattle.laws.specs.Members.{sum_of}
use Rattle.laws.specs.Parts.{from_to}
use Rattle.laws.specs.Plain.{pars_end, pars_moved, octet_behind, commons_plain, transfers_plain, InnerSound, commons_inner}
use Rattle.laws.specs.Rows.{
  par_at,
  octets_in,
  Accepts,
  AcceptsTransfers,
  Filled,
  Turned,
  filled_turn,
  commons_filled,
  transfers_filled,
  row_for,
  transfer_turn,
  common_turn,
  transfer_rows_lem,
}
use Rattle.walk.specs.Stretches.{stretch_whole}
use Rattle.walk.specs.Cursors.{cursor_at, rows_from}
use Rattle.annex.specs.declared.Cursor.{Cursor}

-- the parameters up to the end of C5 fill it, those behind it fill the message, and their transfer data is accepted
pub record Ahead (m : List ℕ) (c : Cursor) : Type 0 where
  pub ordered : c.at ≤ c.end
  pub within : c.end ≤ length m
  pub inside : Filled transfer_size c.at (drop c.at (take c.end m))
  pub outside : Filled common_size c.end (drop c.end m)
  pub sound : Each InnerSound (pars common_size 0 c.end (drop c.end m))

-- one turn: the rows left are that of the next parameter and those behind it
pub record Turn (m : List ℕ) (c : Cursor) : Type 0 where
  pub rows : rows_from m c ≡ row_here m c ∷ rows_from m (next_of m c)
  pub again : Ahead m (next_of m c)
  pub farther : c.at < (next_of m c).at

-- ---- places

-- parameters at other places: as many octets, and the rows of those that start at s
module _ (size : Size) where
  sums_same : (p r k : ℕ) (xs : List ℕ) → sum_of octets_in (pars size k p xs) ≡ sum_of octets_in (pars size k r xs)
  unfolding pars
  sums_same p r k [] = refl
  sums_same p r (suc k) (x ∷ xs) = sums_same (p + 1) (r + 1) k xs
  sums_same p r zero (x ∷ xs) = go (leb (size x xs) (length xs)) (sums_same (p + 1) (r + 1) (size x xs) xs)
    where
      go : (b : Bool) → sum_of octets_in (pars size (size x xs) (p + 1) xs) ≡ sum_of octets_in (pars size (size x xs) (r + 1) xs)
          → sum_of octets_in (cond b (par_at p x (take (size x xs) xs) ∷ pars size (size x xs) (p + 1) xs) [])
          ≡ sum_of octets_in (cond b (par_at r x (take (size x xs) xs) ∷ pars size (size x xs) (r + 1) xs) [])
      go true ih = omega arith
      go false ih = refl

  filled_at : (p r : ℕ) (xs : List ℕ) → Filled size p xs → Filled size r xs
  filled_at p r xs f = record { sum = sums_same r p 0 xs ∙ f.sum }

rows_same : (s p k : ℕ) (xs : List ℕ) → transfer_rows s (pars transfer_size k p xs) ≡ transfer_rows 0 (pars transfer_size k (s + p) xs)
rows_same s p k xs =
    transfer_rows_lem s (pars transfer_size k p xs)
    ∙ pars_moved transfer_size (λ q. par_row (extent_of q.head) s q) (λ q. par_row (extent_of q.head) 0 q) s
    (λ p h n xs. rw (zero-add (s + p))) k p xs
    ∙ sym (transfer_rows_lem 0 (pars transfer_size k (s + p) xs))

-- outside C5 nothing is left up to its end
none_inside : (m : List ℕ) (p : ℕ) → p ≤ length m → drop p (take p m) ≡ []
none_inside m p h = let l : length (take p m) ≤ p = omega (arith, length-take-le p m h) in drop_of_length-le (take p m) {i = p} l

-- ---- the start and the end

pub ahead_first : (m : List ℕ) → Accepts m → Ahead m first_cursor
unfolding pars
ahead_first m a =
    record {
      ordered = omega arith;
      within = omega arith;
      inside = record { sum = refl };
      outside = commons_filled m a.0 a.1;
      sound = rw (commons_plain fault_of m a.0 a.1) at (commons_inner m);
    }

pub rows_first : (m : List ℕ) → Accepts m → rows_from m first_cursor ≡ rows_of m
unfolding rows_from rows_by transfer_rows pars
rows_first m a = rw (commons_plain fault_of m a.0 a.1)

pub rows_none : (m : List ℕ) (c : Cursor) → Ahead m c → length m ≤ c.at → rows_from m c ≡ []
unfolding rows_from transfer_rows common_rows_by
rows_none m c a h =
    let l : length (take c.end m) ≤ c.at = omega (arith, a.ordered, a.within, length-take-le c.end m a.within) in
    rw (pars_end transfer_size c.at c.at (take c.end m) l, pars_end common_size c.end c.end m (omega (arith, a.ordered)))

-- ---- a turn

-- the row of a whole parameter with n octets of its own
row_whole : (m : List ℕ) (c : Cursor) (e : Extent) (n : ℕ) → extent_here m c ≡ e
    → stretch_here m c ≡ At (c.at + 1 + lead_of e) (c.at + 1 + n) → row_here m c ≡ row_for e c.at (get_or m c.at 0) n
unfolding row_here
row_whole m c e n f s =
    let k : c.at + 1 + n - (c.at + 1 + lead_of e) ≡ n - lead_of e = omega arith in
    rw (s, k)

-- a header with no octets after it needs none to say so
after_none : (e : Extent) (x y : ℕ) → after_of e x ≤ 0 → after_of e y ≡ after_of e x
unfolding after_of
after_none (Fixed n) x y h = refl
after_none (Counted u) x y h = absurd (omega arith)

-- within C5 what the octets behind C5 are does not matter
module _ (m : List ℕ) (at end n : ℕ) (low : at < end) (high : end ≤ length m) where
  head_inside : get_or (take end m) at 0 ≡ get_or m at 0
  head_inside = get_or-take end m at 0 low

  size_inside : (e : Extent) → n ≡ after_of e (get_or (drop (at + 1) (take end m)) 0 0) → n ≤ length (drop (at + 1) (take end m))
      → n ≡ after_of e (get_or m (at + 1) 0)
  size_inside e s l = go (ltb (at + 1) end) refl
    where
      go : (b : Bool) → ltb (at + 1) end ≡ b → n ≡ after_of e (get_or m (at + 1) 0)
      go true f = s ∙ rw (octet_behind (take end m) at, get_or-take end m (at + 1) 0 (ltb-true (at + 1) end f))
      go false f =
          let h : end ≤ at + 1 = ltb-false (at + 1) end f in
          let k : n ≤ 0 = omega (arith, length-drop (at + 1) (take end m), length-take-le end m high) in
          s ∙ sym (after_none e (get_or (drop (at + 1) (take end m)) 0 0) (get_or m (at + 1) 0) (rw (← s) k))

-- in C5
module _ (m : List ℕ) (at end : ℕ) (low : at < end) where
  next_inside : {s x : ℕ} → stretch_here m (cursor_to at end) ≡ At s x → next_of m (cursor_to at end) ≡ cursor_to x end
  unfolding next_of
  next_inside st = rw (st, lt-ltb at end low)

  turn_inside : Ahead m (cursor_to at end) → Turn m (cursor_to at end)
  unfolding stretch_here rows_from
  turn_inside a =
      let t : List ℕ = take end m in
      let n : ℕ = transfer_size (get_or t at 0) (drop (at + 1) t) in
      let e : Extent = extent_of (get_or m at 0) in
      let lt : length t ≡ end = length-take-le end m a.within in
      let u : Turned transfer_size at n t = filled_turn transfer_size at n t (omega arith) refl a.inside in
      let h : get_or t at 0 ≡ get_or m at 0 = head_inside m at end n low a.within in
      let f : extent_of (get_or t at 0) ≡ e = ap extent_of h in
      let s : n ≡ after_of e (get_or m (at + 1) 0) =
      size_inside m at end n low a.within e (ap (λ (x : Extent). after_of x (get_or (drop (at + 1) t) 0 0)) f) u.within in
      let w : n ≤ end - (at + 1) = omega (arith, u.within, length-drop (at + 1) t) in
      let here : extent_here m (cursor_to at end) ≡ e = rw (lt-ltb at end low) in
      let st : stretch_here m (cursor_to at end) ≡ At (at + 1 + lead_of e) (at + 1 + n) =
      rw here (stretch_whole m at n e (omega (arith, a.within)) s (omega (arith, a.within))) in
      let nx : next_of m (cursor_to at end) ≡ cursor_to (at + 1 + n) end = next_inside st in
      record {
        rows = rw (nx, row_whole m (cursor_to at end) e n here st, transfer_turn 0 at n t u, h, zero-add at);
        again = rw nx (record { ordered = omega arith; within = a.within; inside = u.rest; outside = a.outside; sound = a.sound });
        farther = rw nx (omega arith);
      }

-- outside C5
module _ (m : List ℕ) (at : ℕ) where
  abbrev outer : ℕ
  outer = common_size (get_or m at 0) (drop (at + 1) m)

  abbrev outer_par : Par
  outer_par = par_at at (get_or m at 0) (take outer (drop (at + 1) m))

  -- what is known of the next parameter
  record Outer : Type 0 where
    turned : Turned common_size at outer m
    within : at + 1 + outer ≤ length m
    stretch : stretch_here m (cursor_to at at) ≡ At (at + 1 + lead_of (common_extent_of (get_or m at 0))) (at + 1 + outer)
    row : row_here m (cursor_to at at) ≡ row_for (common_extent_of (get_or m at 0)) at (get_or m at 0) outer
    sound : InnerSound outer_par × Each InnerSound (pars common_size 0 (at + 1 + outer) (drop (at + 1 + outer) m))
    rows : rows_from m (cursor_to at at) ≡ row_for (common_extent_of (get_or m at 0)) at (get_or m at 0) outer
        ∷ (inner_rows outer_par ++ common_rows (pars common_size 0 (at + 1 + outer) (drop (at + 1 + outer) m)))

  outer_known : Ahead m (cursor_to at at) → at < length m → Outer
  unfolding stretch_here rows_from transfer_rows pars
  outer_known a h =
      let e : Extent = common_extent_of (get_or m at 0) in
      let u : Turned common_size at outer m = filled_turn common_size at outer m h refl a.outside in
      let s : outer ≡ after_of e (get_or m (at + 1) 0) = rw (octet_behind m at) in
      let w : outer ≤ length m - (at + 1) = omega (arith, u.within, length-drop (at + 1) m) in
      let here : extent_here m (cursor_to at at) ≡ e = rw (le-ltb at at (omega arith)) in
      let st : stretch_here m (cursor_to at at) ≡ At (at + 1 + lead_of e) (at + 1 + outer) = rw here (stretch_whole m at outer e h s w) in
      record {
        turned = u;
        within = omega arith;
        stretch = st;
        row = row_whole m (cursor_to at at) e outer here st;
        sound = rw u.next at a.sound;
        rows = rw (none_inside m at (omega arith), common_turn at outer m u);
      }

  -- a parameter with no rows inside
  next_plain : {s x : ℕ} → stretch_here m (cursor_to at at) ≡ At s x → eqb (get_or m at 0) transfer_data ≡ false
      → next_of m (cursor_to at at) ≡ cursor_to x x
  unfolding next_of
  next_plain st f = rw (st, le-ltb at at (omega arith), f)

  turn_plain : Outer → eqb (get_or m at 0) transfer_data ≡ false → Turn m (cursor_to at at)
  unfolding rows_from transfer_rows pars
  turn_plain o f =
      let nx = next_plain o.stretch f in
      let none = none_inside m (at + 1 + outer) o.within in
      record {
        rows = o.rows ∙ rw (nx, o.row, f, none);
        again = rw nx (record {
          ordered = omega arith;
          within = o.within;
          inside = rw none (record { sum = refl });
          outside = o.turned.rest;
          sound = o.sound.1;
        });
        farther = rw nx (omega arith);
      }

  -- C5
  next_data : {s x : ℕ} → stretch_here m (cursor_to at at) ≡ At s x → eqb (get_or m at 0) transfer_data ≡ true
      → next_of m (cursor_to at at) ≡ cursor_to s x
  unfolding next_of
  next_data st f = rw (st, le-ltb at at (omega arith), f)

  lead_one : get_or m at 0 ≡ transfer_data → lead_of (common_extent_of (get_or m at 0)) ≡ 1
  unfolding lead_of common_extent_of
  lead_one e = rw e

  -- its transfer data, as the rest of what ends with it
  data_inside : data_in outer_par ≡ drop (at + 1 + 1) (take (at + 1 + outer) m)
  unfolding lead_of common_extent_of
  data_inside =
      let z : outer ≡ at + 1 + outer - (at + 1) = omega arith in
      ap (λ (k : ℕ). drop 1 (take k (drop (at + 1) m))) z
      ∙ rw (from_to (at + 1) (at + 1 + outer) m, drop-drop 1 (at + 1) (take (at + 1 + outer) m))

  turn_data : Outer → eqb (get_or m at 0) transfer_data ≡ true → Turn m (cursor_to at at)
  unfolding rows_from InnerSound
  turn_data o f =
      let five : get_or m at 0 ≡ transfer_data = eqb-true (get_or m at 0) transfer_data f in
      let d : List ℕ = drop (at + 1 + 1) (take (at + 1 + outer) m) in
      let ok : AcceptsTransfers d = rw data_inside at (o.sound.0 five) in
      let one : lead_of (common_extent_of (get_or m at 0)) ≡ 1 = lead_one five in
      let nx : next_of m (cursor_to at at) ≡ cursor_to (at + 1 + 1) (at + 1 + outer) = rw one at (next_data o.stretch f) in
      let long : 1 ≤ outer = rw one at (lead_within (common_extent_of (get_or m at 0)) (get_or (drop (at + 1) m) 0 0)) in
      let place : at + 2 + 0 ≡ at + 1 + 1 = omega arith in
      let inner : inner_rows outer_par ≡ transfer_rows 0 (pars transfer_size 0 (at + 1 + 1) d) =
      rw (f, data_inside, transfers_plain fault_of d ok.0 ok.1, rows_same (at + 2) 0 0 d, place) in
      record {
        rows = o.rows ∙ rw (nx, o.row, inner);
        again = rw nx (record {
          ordered = omega arith;
          within = o.within;
          inside = filled_at transfer_size 0 (at + 1 + 1) d (transfers_filled d ok.0 ok.1);
          outside = o.turned.rest;
          sound = o.sound.1;
        });
        farther = rw nx (omega arith);
      }

  turn_outside : Ahead m (cursor_to at at) → at < length m → Turn m (cursor_to at at)
  turn_outside a h = go (eqb (get_or m at 0) transfer_data) refl
    where
      go : (b : Bool) → eqb (get_or m at 0) transfer_data ≡ b → Turn m (cursor_to at at)
      go true f = turn_data (outer_known a h) f
      go false f = turn_plain (outer_known a h) f

pub ahead_turn : (m : List ℕ) (c : Cursor) → Ahead m c → c.at < length m → Turn m c
ahead_turn m c a h = go (ltb c.at c.end) refl
  where
    go : (b : Bool) → ltb c.at c.end ≡ b → Turn m c
    go true f = turn_inside m c.at c.end (ltb-true c.at c.end f) a
    go false f =
        let l : c.end ≤ c.at = ltb-false c.at c.end f in
        let e : c.end ≡ c.at = omega (arith, a.ordered) in
        subst (λ (k : ℕ). Ahead m (cursor_to c.at k) → Turn m (cursor_to c.at k)) (sym e) (λ b. turn_outside m c.at b h) a

-- ---- row by row

-- where row k is left, there is a turn
turn_at : (m : List ℕ) (c : Cursor) (k : ℕ) → Ahead m c → rows_from m c ≡ drop k (rows_of m) → k < length (rows_of m) → Turn m c
turn_at m c k a e h = go (ltb c.at (length m)) refl
  where
    go : (b : Bool) → ltb c.at (length m) ≡ b → Turn m c
    go true f = ahead_turn m c a (ltb-true c.at (length m) f)
    go false f =
        let z : [] ≡ drop k (rows_of m) = sym (rows_none m c a (ltb-false c.at (length m) f)) ∙ e in
        absurd (omega (arith, ap length z, length-drop k (rows_of m)))

-- behind k rows, the others are left
behind : (m : List ℕ) → Accepts m → (k : ℕ) → k ≤ length (rows_of m)
    → Ahead m (cursor_at (next_of m) k) × (rows_from m (cursor_at (next_of m) k) ≡ drop k (rows_of m))
unfolding cursor_at
behind m a zero h = (ahead_first m a, rows_first m a)
behind m a (suc k) h =
    let c : Cursor = cursor_at (next_of m) k in
    let b = behind m a k (omega arith) in
    let t = turn_at m c k b.0 b.1 h in
    let e : row_here m c ∷ rows_from m (next_of m c) ≡ get_or (rows_of m) k no_row ∷ drop (suc k) (rows_of m) =
    sym t.rows ∙ b.1 ∙ drop-cons (rows_of m) k no_row h in
    (t.again, cc)

-- the row there is row k
pub row_behind : (m : List ℕ) (k : ℕ) → k < length (listed m) → row_here m (cursor_at (next_of m) k) ≡ get_or (listed m) k no_row
row_behind m k h = go (verdict_of m) refl h
  where
    go : (a : Answer) → verdict_of m ≡ a → k < length (rows_after a (rows_of m))
        → row_here m (cursor_at (next_of m) k) ≡ get_or (rows_after a (rows_of m)) k no_row
    go (Accepted q) e l =
        let c : Cursor = cursor_at (next_of m) k in
        let b = behind m (q, e) k (omega arith) in
        let t = turn_at m c k b.0 b.1 l in
        let f : row_here m c ∷ rows_from m (next_of m c) ≡ get_or (rows_of m) k no_row ∷ drop (suc k) (rows_of m) =
        sym t.rows ∙ b.1 ∙ drop-cons (rows_of m) k no_row l in
        cc
    go (Err r) e l = absurd (omega arith)
