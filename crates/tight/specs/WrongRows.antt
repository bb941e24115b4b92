-- Listings that the promise shuts out: an invented row count of any message, the others at a message at which they break it.
use Rattle.std.specs.Prelude.{ℕ, ◌+◌, ◌/◌, ◌≤◌, ◌≡◌, refl, Bool, true, false, List, [], ◌∷◌, ◌++◌, ltb, length, get_or, drop}
use Rattle.std.proofs.Common.{arith, ap, ◌∙◌, le-ltb}
use Rattle.annex.specs.Answers.{no_room, number_of, given_of, refuse, Answer, Accepted}
use Rattle.annex.specs.Units.{after_of, lead_of, common_extent_of}
use Rattle.annex.specs.Heads.{value_allowed}
use Rattle.annex.specs.Allowed.{every, is_octet, items_in}
use Rattle.annex.specs.Walk.{walk}
use Rattle.annex.specs.Reading.{verdict_of, record_of, common_form, end_of, data_by, common_by, message_verdict_by, verdict_by, commons_by}
use Rattle.annex.specs.Spans.{rows_of, spans_of, table_of, common_rows_by, rows_by, spans_by}
use Rattle.annex.specs.Packed.{octets_to_a_row}
use Rattle.annex.specs.Promises.{SpansCheckPromise, SpansPromise, OctetSpansPromise}
use Rattle.annex.specs.Walking.{no_row}
use Rattle.annex.specs.declared.Row.{Row}
use Rattle.theorems.specs.Listings.{row_count}
use Rattle.tight.specs.Wrong.{short}

-- a row
abbrev pub row_for : ℕ → ℕ → ℕ → Row
row_for offset header len = record { offset = offset; header = header; len = len }

-- the shortest accepted message, case 2 of the bench table, has three rows: user class, signal kind, end mark
abbrev pub short_rows : List Row
short_rows = row_for 0 0x01 1 ∷ row_for 2 0x06 1 ∷ row_for 4 0x00 0 ∷ []

pub short_listed : (room : ℕ) → (rows_of short ≡ short_rows) × (spans_of short room ≡ refuse (ltb room 3) no_room 0 (Accepted 3))
unfolding after_of lead_of common_extent_of walk value_allowed common_form end_of data_by common_by message_verdict_by verdict_by commons_by common_rows_by
    rows_by spans_by
short_listed room = (refl, refl)

-- an invented row count, whatever the message and the room: any but that of the record's parameters and the end mark
pub invented_count : (m : List ℕ) → every is_octet m ≡ true → (k : ℕ) → verdict_of m ≡ Accepted k → (n : ℕ)
    → (n ≡ 1 + length (record_of m) + length (items_in (record_of m)) → ⊥) → (room : ℕ) → SpansCheckPromise m room (Accepted n) → ⊥
unfolding spans_by
invented_count m o k e n other room p = other (go (ltb room (length (rows_of m))) (rw e at p) ∙ row_count m o k e)
  where
    go : (b : Bool) → Accepted n ≡ refuse b no_room 0 (Accepted (length (rows_of m))) → n ≡ length (rows_of m)
    go true f = absurd (let z : ◌≡◌ {A = ℕ} 0 15 = ap number_of f in omega arith)
    go false f = ap given_of f

-- so too for those that fill a table, of rows or of octets
module _ (m : List ℕ) (o : every is_octet m ≡ true) (k : ℕ) (e : verdict_of m ≡ Accepted k) (n : ℕ)
    (other : n ≡ 1 + length (record_of m) + length (items_in (record_of m)) → ⊥) where
  pub invented_count_breaks : (table now : List Row) → SpansPromise m table (Accepted n) now → ⊥
  invented_count_breaks table now p = invented_count m o k e n other (length table) p.0

  pub invented_octets_break : (table now : List ℕ) → OctetSpansPromise m table (Accepted n) now → ⊥
  invented_octets_break table now p = invented_count m o k e n other (length table / octets_to_a_row) p.0

-- a row left out: the end mark's stands where that of the signal kind has to stand
pub lost_row_breaks : (table now : List Row) (r : Answer) → 3 ≤ length table
    → SpansPromise short table r (row_for 0 0x01 1 ∷ row_for 4 0x00 0 ∷ now) → ⊥
unfolding table_of
lost_row_breaks table now r h p =
    let l = short_listed (length table) in
    let e : table_of short table ≡ short_rows ++ drop 3 table = rw (l.0, l.1, le-ltb (length table) 3 h) in
    let z : ◌≡◌ {A = ℕ} 4 2 = ap (λ (t : List Row). (get_or t 1 no_row).offset) (p.1 ∙ e) in
    omega arith

-- a row with the length of the whole parameter: the header counted
pub header_counted_breaks : (table now : List Row) (r : Answer) → 3 ≤ length table → SpansPromise short table r (row_for 0 0x01 2 ∷ now) → ⊥
unfolding table_of
header_counted_breaks table now r h p =
    let l = short_listed (length table) in
    let e : table_of short table ≡ short_rows ++ drop 3 table = rw (l.0, l.1, le-ltb (length table) 3 h) in
    let z : ◌≡◌ {A = ℕ} 2 1 = ap (λ (t : List Row). (get_or t 0 no_row).len) (p.1 ∙ e) in
    omega arith
