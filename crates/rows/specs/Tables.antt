-- The caller's table of octets while the rows of a listing are stored: what is left to store decides what it will hold.
use Rattle.std.specs.Prelude.{ℕ, ◌+◌, ◌*◌, ◌/◌, ◌≤◌, ◌≡◌, refl, Bool, true, false, List, [], ◌∷◌, ◌++◌, leb, ltb, length, take, drop, Err}
use Rattle.std.proofs.Common.{arith, sym, ◌∙◌, le-ltb, ltb-false, length-take-le}
use Rattle.std.proofs.lemmas.List.Edits.{sets}
use Rattle.annex.specs.Memory.{put}
use Rattle.annex.specs.Promises.{Stores}
use Rattle.octets.specs.Copied.{copied_into}
use Rattle.annex.specs.Answers.{no_room, refuse, and_then, room_after, Answer, Accepted, Refused}
use Rattle.annex.specs.Heads.{most_rows}
use Rattle.annex.specs.Reading.{verdict_of}
use Rattle.annex.specs.Spans.{rows_of, spans_of, spans_by}
use Rattle.annex.specs.Packed.{octets_to_a_row, row_octets, rows_octets, octet_spans, octets_by}
use Rattle.annex.specs.declared.Row.{Row}
use Rattle.annex.specs.Walking.{first_cursor}
use Rattle.rows.specs.Walks.{Lists, Stands}
use Rattle.walk.specs.Ahead.{Ahead, ahead_first, rows_first}
use Rattle.walk.specs.Cursors.{rows_from}
use Rattle.laws.specs.Few.{rows_few}
use Rattle.laws.specs.Fronts.{front_all}
use Rattle.laws.specs.Runs.{Puts, Left, left_none, all_long, one_stored, one_fits}

-- ---- the octets of rows

pub length-rows : (rs : List Row) → length (rows_octets rs) ≡ octets_to_a_row * length rs
unfolding rows_octets
length-rows rs = all_long row_octets octets_to_a_row (λ r. refl) rs

-- ---- stored

-- where they end tells how many they are
pub put_ended : (rows : List Row) (before : List ℕ) (r : ℕ) (after : List ℕ) → Puts (rows_octets rows) 0 before r after
    → r / octets_to_a_row ≡ length rows
put_ended rows before r after p = omega (arith, p.ends, length-rows rows)

-- of the octets to be stored, those of the row x and of the rows ys are left
module _ {all : List ℕ} {first : ℕ} {before : List ℕ} (x : Row) (ys : List Row) (at : ℕ) (now : List ℕ)
    (l : Left all first before (rows_octets (x ∷ ys)) at now) where
  pub left_stored : (after : List ℕ) → after ≡ sets now at (row_octets x) → Left all first before (rows_octets ys) (at + octets_to_a_row) after
  unfolding rows_octets
  left_stored after e = one_stored row_octets octets_to_a_row (λ r. refl) x ys at now l after e

  pub left_fits_one : first + length all ≤ length before → at + octets_to_a_row ≤ length now
  unfolding rows_octets
  left_fits_one h = one_fits row_octets octets_to_a_row (λ r. refl) x ys at now l h

-- and the copy of the former is asked for
pub left_one : {all : List ℕ} {first : ℕ} {before : List ℕ} (x : Row) (ys : List Row) (at : ℕ) (now after : List ℕ) (b : Bool)
    → Left all first before (rows_octets (x ∷ ys)) at now → first + length all ≤ length before
    → Stores (leb (at + length (row_octets x)) (length now)) (put now at (row_octets x)) now b after
    → Left all first before (rows_octets ys) (at + octets_to_a_row) after
left_one x ys at now after b l h s =
    left_stored x ys at now l after (copied_into now at (row_octets x) after b (left_fits_one x ys at now l h) s)

-- none is left
pub left_over : {all : List ℕ} {first : ℕ} {before : List ℕ} (at : ℕ) (now : List ℕ) → Left all first before (rows_octets []) at now
    → Puts all first before at now
unfolding rows_octets
left_over at now l = left_none l refl

-- ---- what a listing answers

-- the answer, by whether the room is too small for its rows
abbrev pub answer_after : Answer → Bool → List Row → Answer
answer_after a short rows = and_then a (λ _. refuse short no_room 0 (Accepted (length rows)))

-- an accepted one, by the answer before the room is asked for: that is accepted, and there is room for the rows
pub record Roomy (before : Answer) (rows : List Row) (room n : ℕ) : Type 0 where
  pub accepts : (q : ℕ) × (before ≡ Accepted q)
  pub count : n ≡ length rows
  pub roomy : length rows ≤ room

pub listing : (before : Answer) (rows : List Row) (room n : ℕ) → answer_after before (ltb room (length rows)) rows ≡ Accepted n
    → Roomy before rows room n
listing before rows room n e = go before (ltb room (length rows)) (ltb-false room (length rows)) e
  where
    go : (a : Answer) (b : Bool) → (b ≡ false → length rows ≤ room) → answer_after a b rows ≡ Accepted n → Roomy a rows room n
    go (Accepted q) true h g = absurd (let z : ◌≡◌ {A = ℕ} 0 1 = cc in omega arith)
    go (Accepted q) false h g = let c : n ≡ length rows = cc in record { accepts = (q, refl); count = c; roomy = h refl }
    go (Err r) b h g = absurd (let z : ◌≡◌ {A = ℕ} 0 1 = cc in omega arith)

-- the table of octets after it
module _ {before : Answer} {rows : List Row} {n : ℕ} (table : List ℕ) (l : Roomy before rows (length table / octets_to_a_row) n) where
  pub listing_fits : length (rows_octets rows) ≤ length table
  listing_fits = omega (arith, length-rows rows, l.roomy)

  pub listing_put : (now : List ℕ) (r : ℕ) → Puts (rows_octets rows) 0 table r now
      → now ≡ octets_by octets_to_a_row (Accepted n) (rows_octets rows) table
  listing_put now r p =
      let k : length (rows_octets rows) ≡ octets_to_a_row * n = omega (arith, length-rows rows, l.count) in
      rw (p.put, front_all table (rows_octets rows) listing_fits, k)

-- an accepted one of the rows of a walk: the walk tells these rows from the first cursor on, as many as are answered
pub record Given (left : Lists) (ahead : Stands) (m : List ℕ) (rows : List Row) (room n : ℕ) : Type 0 where
  pub stands : ahead m first_cursor
  pub same : left m first_cursor ≡ rows
  pub count : n ≡ length rows
  pub roomy : n ≤ room

-- the table of structs after it
module _ {left : Lists} {ahead : Stands} {m : List ℕ} {rows : List Row} {n : ℕ} (table : List Row)
    (g : Given left ahead m rows (length table) n) where
  pub fill_fits : length (left m first_cursor) ≡ length (take n table)
  fill_fits = rw g.same (sym g.count ∙ sym (length-take-le n table g.roomy))

  pub table_filled : (now : List Row) → now ≡ left m first_cursor ++ drop n table → now ≡ room_after (Accepted n) rows table
  table_filled now e = rw g.same at e

-- the table of octets after it
module _ {left : Lists} {ahead : Stands} {m : List ℕ} {rows : List Row} {n : ℕ} (table : List ℕ)
    (g : Given left ahead m rows (length table / octets_to_a_row) n) where
  room_known : Roomy (Accepted n) rows (length table / octets_to_a_row) n
  room_known = record { accepts = (n, refl); count = g.count; roomy = omega (arith, g.count, g.roomy) }

  pub put_fits : length (rows_octets (left m first_cursor)) ≤ length table
  put_fits = rw g.same (listing_fits table room_known)

  -- stored up to r: that tells how many they are
  module _ (now : List ℕ) (r : ℕ) (p : Puts (rows_octets (left m first_cursor)) 0 table r now) where
    pub ended_count : r / octets_to_a_row ≡ n
    ended_count = put_ended rows table r now (rw g.same at p) ∙ sym g.count

    pub ended_put : now ≡ octets_by octets_to_a_row (Accepted n) (rows_octets rows) table
    ended_put = listing_put table room_known now r (rw g.same at p)

  module _ (now : List ℕ) (k : ℕ) (p : Puts (rows_octets (left m first_cursor)) 0 table (k * octets_to_a_row) now) where
    pub put_count : k ≡ n
    put_count = let e = put_ended rows table (k * octets_to_a_row) now (rw g.same at p) in omega (arith, e, g.count)

    pub table_put : now ≡ octets_by octets_to_a_row (Accepted n) (rows_octets rows) table
    table_put = ended_put now (k * octets_to_a_row) p

-- either after a refused one
pub room_kept : (a : Answer) (rows table : List Row) (k p : ℕ) → a ≡ Refused k p → table ≡ room_after a rows table
room_kept a rows table k p e = rw e

pub table_kept : (a : Answer) (octets table : List ℕ) (k p : ℕ) → a ≡ Refused k p → table ≡ octets_by octets_to_a_row a octets table
table_kept a octets table k p e = rw e

-- ---- what the listing of a message answers

-- the count of rows after an answer that is no refusal
abbrev pub count_after : Answer → List ℕ → Answer
count_after a m = and_then a (λ _. Accepted (length (rows_of m)))

-- by the room asked for
pub count_checked : (m : List ℕ) (room : ℕ) → spans_of m room ≡ count_after (spans_of m room) m
unfolding spans_by
count_checked m room = go (verdict_of m) (ltb room (length (rows_of m)))
  where
    go : (a : Answer) (b : Bool) → answer_after a b (rows_of m) ≡ count_after (answer_after a b (rows_of m)) m
    go (Accepted q) true = refl
    go (Accepted q) false = refl
    go (Err r) b = refl

-- by the verdict alone, where there is room for the most rows
pub count_roomy : (m : List ℕ) (octets : ℕ) → most_rows * octets_to_a_row ≤ octets → octet_spans m octets ≡ count_after (verdict_of m) m
unfolding spans_by
count_roomy m octets h = rw (le-ltb (octets / octets_to_a_row) (length (rows_of m)) (omega (arith, rows_few m)))

-- an accepted one
pub spans_given : (m : List ℕ) (room n : ℕ) (a : Answer) → a ≡ spans_of m room → a ≡ Accepted n → Given rows_from Ahead m (rows_of m) room n
unfolding spans_by
spans_given m room n a e f =
    let l = listing (verdict_of m) (rows_of m) room n (sym e ∙ f) in
    record { stands = ahead_first m l.accepts; same = rows_first m l.accepts; count = l.count; roomy = omega (arith, l.count, l.roomy) }
