-- The rows of carriers as the code makes them, from a cursor: in contents of the right form they are those of the entries that are left.
use Rattle.std.specs.Prelude.{ℕ, zero, suc, ◌+◌, ◌*◌, ◌/◌, ◌≤◌, ◌<◌, ◌≡◌, refl, Bool, true, false, cond, ◌&&◌, ltb, get_or, take, drop}
use Rattle.std.proofs.Common.{arith, sym, subst, ◌∙◌, get_or-take, drop-drop}
use Rattle.std.proofs.Math.Path.{ap}
use mathlib.Core.List.{List, [], ◌∷◌, map}
use borrow.Author.Tests.{ltb-true, ltb-false, lt-ltb, le-ltb}
use Rattle.std.proofs.Math.ListN.{length}
use Rattle.std.proofs.lemmas.List.{length-map}
use Rattle.std.proofs.lemmas.List.Edits.{sets}
use Rattle.annex.specs.Answers.{start_of, no_room, Accepted, Refused}
use Rattle.annex.specs.Carriers.{holds_code, inside_of, code_count, carriers_formed}
use Rattle.annex.specs.Entering.{first_entry, in_carrier, entry_inside, entry_next, is_code_here, cursors_from}
use Rattle.annex.specs.Finding.{find_answer, find_part}
use Rattle.annex.specs.Packed.{octets_to_a_carrier_row, carrier_row_octets, carrier_rows_octets, octet_carriers, octet_carriers_table}
use Rattle.annex.specs.Reading.{verdict_of}
use Rattle.annex.specs.Transit.{
  Entry,
  entry,
  direction_entry,
  entries_of,
  entry_row,
  carriers_found,
  entries_found,
  carrier_rows_of,
  carriers_answer,
}
use Rattle.annex.specs.declared.CarrierRow.{CarrierRow}
use Rattle.annex.specs.declared.Cursor.{Cursor}
use Rattle.laws.specs.Bools.{and_left, and_right}
use Rattle.laws.specs.Entries.{code_long}
use Rattle.laws.specs.Filling.{sets-append}
use Rattle.laws.specs.Found.{part_where}
use Rattle.laws.specs.Fronts.{front_all}
use Rattle.laws.specs.Runs.{Left, left_none, all_long, one_stored, one_fits}
use Rattle.laws.specs.Steps.{then_passed}
use Rattle.theorems.specs.Places.{found_at}
use Rattle.entries.specs.Entries.{cursors_more, cursors_none, entries_all}
use Rattle.entries.specs.Left.{Lies, entry_formed, formed_left, entries_left, here, entry_here, formed_turn, entries_turn, held_here, lies_next, formed_start, entries_first_left}

-- the row of the entry at a cursor of contents that start at the place p of a message
abbrev pub here_row : List ℕ → Cursor → ℕ → CarrierRow
here_row s c p =
    record {
      level = cond (in_carrier c) 2 1;
      tag = get_or s c.at 0;
      offset = p + c.at;
      len = length (entry_inside s c);
      digits = cond (is_code_here s c) (code_count (entry_inside s c)).0 0;
    }

-- that is the row of the entry
pub here_row_lem : (s : List ℕ) (c : Cursor) → Lies s c → c.at < length s → entry_formed s c ≡ true → (p : ℕ)
    → entry_row p (entry_here s c) ≡ here_row s c p
here_row_lem s c i l f p = go (in_carrier c) refl (held_here s c i l f)
  where
    go : (b : Bool) → in_carrier c ≡ b →
        let e = cond b (entry 2 (here (take c.end s) c.at)) (entry 1 (here s c.at)) in
        inside_of e.par ≡ entry_inside s c
        → entry_row p e
        ≡ record {
          level = cond b 2 1;
          tag = get_or s c.at 0;
          offset = p + c.at;
          len = length (entry_inside s c);
          digits = cond (b && holds_code (get_or s c.at 0)) (code_count (entry_inside s c)).0 0;
        }
    go true e h = rw (get_or-take c.end s c.at 0 (ltb-true c.at c.end e), h, code_long (entry_inside s c))
    go false e h = rw h

-- ---- row by row

-- the rows that are left
abbrev pub rows_left : ℕ → List ℕ → Cursor → List CarrierRow
rows_left p s c = map (entry_row p) (entries_left s c)

-- all of them as octets, the direction's first
abbrev pub rows_octets_of : ℕ → List ℕ → List ℕ
rows_octets_of p s = carrier_rows_octets (map (entry_row p) (entries_of s))

-- the code goes over contents of the right form
pub record Going (s : List ℕ) (c : Cursor) : Type 0 where
  pub lies : Lies s c
  pub formed : formed_left s c ≡ true

pub going_first : (s : List ℕ) → carriers_formed s ≡ true → Going s first_entry
going_first s e = let f = formed_start s e in record { lies = f.0; formed = f.1 }

module _ (s : List ℕ) (c : Cursor) (g : Going s c) (l : c.at < length s) where
  both : entry_formed s c && formed_left s (entry_next s c) ≡ true
  both = sym (formed_turn s c g.lies l) ∙ g.formed

  pub right_here : entry_formed s c ≡ true
  right_here = and_left (entry_formed s c) _ both

  pub going_on : Going s (entry_next s c)
  going_on = record { lies = lies_next s c g.lies l; formed = and_right (entry_formed s c) _ both }

  -- the first that is left, and the others
  pub entries_next : entries_left s c ≡ entry_here s c ∷ entries_left s (entry_next s c)
  entries_next = entries_turn s c g.lies l right_here

  pub rows_next : (p : ℕ) → rows_left p s c ≡ here_row s c p ∷ rows_left p s (entry_next s c)
  rows_next p =
      ap (map (entry_row p)) entries_next
      ∙ ap (λ (r : CarrierRow). r ∷ rows_left p s (entry_next s c)) (here_row_lem s c g.lies l right_here p)

-- ---- the cursors of all

-- an entry, behind so many others
pub record Reached (s : List ℕ) (number : ℕ) (c : Cursor) : Type 0 where
  pub going : Going s c
  pub here : c.at < length s
  pub left : entries_left s c ≡ drop number (entries_left s first_entry)

-- a cursor that the list of those from c on has stands at an entry
module _ (s : List ℕ) (d : Cursor) where
  some_here : (k : ℕ) (c : Cursor) → k < length (cursors_from s c) → c.at < length s
  some_here k c h = go (ltb c.at (length s)) refl
    where
      go : (b : Bool) → ltb c.at (length s) ≡ b → c.at < length s
      go true e = ltb-true _ _ e
      go false e = absurd (omega (arith, h, ap length (cursors_none s c (ltb-false _ _ e))))

  reached_from : (k : ℕ) (c : Cursor) → Going s c → k < length (cursors_from s c) →
      let e = get_or (cursors_from s c) k d in
      Going s e × (e.at < length s) × (entries_left s e ≡ drop k (entries_left s c))
  reached_from zero c g h = let l = some_here zero c h in rw (cursors_more s c l) (g, l, refl)
  reached_from (suc k) c g h =
      let l = some_here (suc k) c h in
      let r = reached_from k (entry_next s c) (going_on s c g l) (omega (arith, h, ap length (cursors_more s c l))) in
      rw (cursors_more s c l, entries_next s c g l) r

pub reached : (s : List ℕ) → carriers_formed s ≡ true → (k : ℕ) (c : Cursor)
    → (k < length (cursors_from s first_entry)) × (c ≡ get_or (cursors_from s first_entry) k c) → Reached s k c
reached s f k c h =
    let r = reached_from s c k first_entry (going_first s f) h.0 in
    subst (Reached s k) (sym h.1) (record { going = r.0; here = r.1; left = r.2 })

-- as many as there are entries
pub cursors_count : (s : List ℕ) → carriers_formed s ≡ true → length (cursors_from s first_entry) ≡ length (entries_left s first_entry)
cursors_count s f =
    let g = going_first s f in
    sym (length-map (cursors_from s first_entry) (entry_here s)) ∙ ap length (entries_all s first_entry g.lies g.formed)

-- the rows of all but so many
abbrev pub rows_behind : ℕ → List ℕ → ℕ → List CarrierRow
rows_behind p s k = map (entry_row p) (drop k (entries_left s first_entry))

-- at an entry its row is the first of them
pub rows_at : (s : List ℕ) (k : ℕ) (c : Cursor) → Reached s k c → (p : ℕ) → rows_behind p s k ≡ here_row s c p ∷ rows_behind p s (k + 1)
rows_at s k c r p =
    let all = entries_left s first_entry in
    let l = r.here in
    let more : drop (k + 1) all ≡ entries_left s (entry_next s c) =
    sym (drop-drop 1 k all) ∙ ap (drop 1) (sym r.left ∙ entries_next s c r.going l) in
    rw (← r.left, more) (rows_next s c r.going l p)

-- behind the direction's row come those from the first cursor on
pub rows_first : (s : List ℕ) (p : ℕ)
    → map (entry_row p) (entries_of s) ≡ entry_row p (direction_entry (get_or s 0 0)) ∷ rows_behind p s 0
unfolding entries_of
rows_first s p = ap (λ (es : List Entry). map (entry_row p) (direction_entry (get_or s 0 0) ∷ es)) (sym (entries_first_left s))

pub entries_counted : (s : List ℕ) → length (entries_of s) ≡ 1 + length (entries_left s first_entry)
unfolding entries_of
entries_counted s = rw (entries_first_left s) (omega arith)

-- contents of the right form are not empty
pub formed_some : (s : List ℕ) → carriers_formed s ≡ true → 0 < length s
formed_some s e = omega (arith, (formed_start s e).0.ends, (formed_start s e).0.within)

-- ---- stored

pub length-rows : (rs : List CarrierRow) → length (carrier_rows_octets rs) ≡ octets_to_a_carrier_row * length rs
unfolding carrier_rows_octets
length-rows rs = all_long carrier_row_octets octets_to_a_carrier_row (λ r. refl) rs

-- of the octets to be stored, those of the row x and of the rows ys are left
module _ {all : List ℕ} {first : ℕ} {before : List ℕ} (x : CarrierRow) (ys : List CarrierRow) (at : ℕ) (now : List ℕ)
    (l : Left all first before (carrier_rows_octets (x ∷ ys)) at now) where
  pub left_one : (after : List ℕ) → after ≡ sets now at (carrier_row_octets x)
      → Left all first before (carrier_rows_octets ys) (at + octets_to_a_carrier_row) after
  unfolding carrier_rows_octets
  left_one after e = one_stored carrier_row_octets octets_to_a_carrier_row (λ r. refl) x ys at now l after e

  pub left_fits_one : first + length all ≤ length before → at + octets_to_a_carrier_row ≤ length now
  unfolding carrier_rows_octets
  left_fits_one h = one_fits carrier_row_octets octets_to_a_carrier_row (λ r. refl) x ys at now l h

-- none is left
pub left_over : {all : List ℕ} {first : ℕ} {before : List ℕ} (at : ℕ) (now : List ℕ) → Left all first before (carrier_rows_octets []) at now
    → now ≡ sets before first all
unfolding carrier_rows_octets
left_over at now l = (left_none l refl).put

-- the direction's row, and behind it the others
pub rows_stored : (s : List ℕ) (p : ℕ) (table first after : List ℕ)
    → first ≡ sets table 0 (carrier_row_octets (entry_row p (direction_entry (get_or s 0 0))))
    → after ≡ sets first octets_to_a_carrier_row (carrier_rows_octets (rows_behind p s 0)) → after ≡ sets table 0 (rows_octets_of p s)
unfolding carrier_rows_octets
rows_stored s p table first after e f =
    let x = carrier_row_octets (entry_row p (direction_entry (get_or s 0 0))) in
    f ∙ ap (λ (t : List ℕ). sets t octets_to_a_carrier_row (carrier_rows_octets (rows_behind p s 0))) e
    ∙ sym (sets-append x (carrier_rows_octets (rows_behind p s 0)) table 0)
    ∙ ap (λ (rs : List CarrierRow). sets table 0 (carrier_rows_octets rs)) (sym (rows_first s p))

-- where there is room for all rows there is for those
pub rows_fit : (s : List ℕ) (p room : ℕ) → octets_to_a_carrier_row * length (entries_of s) ≤ room
    → octets_to_a_carrier_row + length (carrier_rows_octets (rows_behind p s 0)) ≤ room
rows_fit s p room l =
    omega (arith, entries_counted s, length-rows (rows_behind p s 0), length-map (entries_left s first_entry) (entry_row p))

-- ---- of a message

-- the CC is found, and its contents start at p
module _ (m : List ℕ) (which p : ℕ) (e : find_answer m (carriers_found which m) ≡ Accepted p) where
  -- the octets from there on, as many as it has, are its contents
  pub contents_are : (len : ℕ) → len ≡ length (find_part m (carriers_found which m))
      → take len (drop p m) ≡ find_part m (carriers_found which m)
  contents_are len l = sym (part_where (verdict_of m) m (carriers_found which m) ∙ rw (e, ← l))

  starts : start_of (carriers_found which m) ≡ p
  starts = (found_at (carriers_found which m) p (then_passed (verdict_of m) _ p e).2).1

  -- its rows, and how many there are
  rows_are : carrier_rows_of which m ≡ map (entry_row p) (entries_found which m)
  unfolding carrier_rows_of
  rows_are = ap (λ (k : ℕ). map (entry_row k) (entries_found which m)) starts

  rows_count : length (carrier_rows_of which m) ≡ length (entries_found which m)
  rows_count = ap length rows_are ∙ length-map (entries_found which m) (entry_row p)

  -- the answer, by the room
  pub rows_short : (room : ℕ) → room / octets_to_a_carrier_row < length (entries_found which m) → octet_carriers m which room ≡ Refused no_room 0
  unfolding carriers_answer
  rows_short room l = rw (e, rows_count, lt-ltb (room / octets_to_a_carrier_row) (length (entries_found which m)) l)

  pub rows_told : (room : ℕ) → length (entries_found which m) ≤ room / octets_to_a_carrier_row
      → octet_carriers m which room ≡ Accepted (length (entries_found which m))
  unfolding carriers_answer
  rows_told room l = rw (e, rows_count, le-ltb (room / octets_to_a_carrier_row) (length (entries_found which m)) l)

  -- and the table
  pub table_kept : (table : List ℕ) → length table / octets_to_a_carrier_row < length (entries_found which m)
      → table ≡ octet_carriers_table m which table
  unfolding octet_carriers_table
  table_kept table l = rw (rows_short (length table) l)

  pub table_put : (table : List ℕ) → length (entries_found which m) ≤ length table / octets_to_a_carrier_row
      → sets table 0 (rows_octets_of p (find_part m (carriers_found which m))) ≡ octet_carriers_table m which table
  unfolding octet_carriers_table
  table_put table l =
      let octets = rows_octets_of p (find_part m (carriers_found which m)) in
      let n = length-rows (map (entry_row p) (entries_found which m)) in
      let k : length octets ≡ octets_to_a_carrier_row * length (entries_found which m) =
      n ∙ ap (λ (j : ℕ). octets_to_a_carrier_row * j) (length-map (entries_found which m) (entry_row p)) in
      front_all table octets (omega (arith, k)) ∙ rw (rows_told (length table) l, rows_are, k)

-- where it is not found the answer is that of finding, and the table stays
pub not_found : (m : List ℕ) (which : ℕ) (table : List ℕ) (k p : ℕ) → find_answer m (carriers_found which m) ≡ Refused k p
    → (octet_carriers m which (length table) ≡ Refused k p) × (octet_carriers_table m which table ≡ table)
unfolding carriers_answer octet_carriers_table
not_found m which table k p e = (rw e, rw e)
