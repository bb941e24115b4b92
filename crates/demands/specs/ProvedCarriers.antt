-- What demand 2 says of carriers (document 02, request g) holds, by what stands in `theorems`.
use Rattle.std.specs.Prelude.{ℕ, ◌*◌, ◌/◌, ◌≤◌, ◌<◌, ◌≡◌, refl, Bool, false, ◌↔◌, ltb, drop}
use Rattle.std.proofs.Common.{arith, sym, ◌∙◌}
use Rattle.std.proofs.Math.Path.{ap}
use Rattle.std.proofs.Math.Bool.{true}
use mathlib.Core.List.{List, [], ◌∷◌, ◌++◌, map}
use borrow.Author.Tests.{le-ltb, lt-ltb, ltb-true, ltb-false}
use Rattle.std.proofs.Math.ListN.{length, get_or}
use Rattle.annex.specs.Answers.{start_of, absent, no_room, refuse, and_then, Answer, Accepted, Refused, Found, At, Nowhere}
use Rattle.annex.specs.Units.{name_of}
use Rattle.annex.specs.Heads.{carriers}
use Rattle.annex.specs.Items.{Item, Part}
use Rattle.annex.specs.Layout.{layout}
use Rattle.annex.specs.Allowed.{times_in, items_in, names_of, Allowed}
use Rattle.annex.specs.Reading.{verdict_of}
use Rattle.annex.specs.Finding.{found_answer, find_answer, find_part, transfer_found}
use Rattle.annex.specs.Transit.{
  OpenedCarriers,
  carriers_right,
  lay_carriers,
  no_entry,
  entries_of,
  is_code_entry,
  digits_in,
  entry_row,
  most_carrier_rows,
  carriers_found,
  entry_found,
  carrier_rows_of,
  carriers_answer,
  digits_answer,
  digits_given,
}
use Rattle.annex.specs.Packed.{octets_to_a_carrier_row, carrier_rows_octets, octet_carriers, octet_carriers_table}
use Rattle.annex.specs.Promises.{FindTransferAnswerPromise, CarriersPromise, CarrierDigitsPromise}
use Rattle.laws.specs.Steps.{then_passed}
use Rattle.theorems.specs.Lists.{times_append, times_here}
use Rattle.theorems.specs.Records.{item_allowed, names_append}
use Rattle.theorems.specs.Layouts.{laid_then_read}
use Rattle.theorems.specs.Places.{is_found, found_at, name_is}
use Rattle.theorems.specs.Finds.{transfer_contents}
use Rattle.theorems.specs.Carried.{
  told_carrier_rows,
  told_codes,
  no_carrier_row,
  is_code_row,
  carriers_told,
  row_told,
  item_carried,
  carrier_rows_few,
}
use Rattle.demands.specs.Demands.{Octetwise}
use Rattle.demands.specs.ProvedProfile.{room_alone}

-- where contents start that were found
pub starts_so : (m : List ℕ) (f : Found) (k : ℕ) → Accepted k ≡ find_answer m f → start_of f ≡ k
starts_so m f k p = (found_at f k (then_passed (verdict_of m) (λ _. found_answer f) k (sym p)).2).1

-- ---- that CC of a record, and what it says

module _ (s : List Part) (a : Allowed s) (front : List Item) (one : Item) (back : List Item) (w : items_in s ≡ front ++ (one ∷ back))
    (h : one.header ≡ carriers) (which : ℕ) (b : times_in (name_of carriers) (names_of front) ≡ which) (c : OpenedCarriers)
    (right : carriers_right c ≡ true) (e : lay_carriers c ≡ one.values) where
  abbrev m : List ℕ
  m = layout s

  part_said : find_part m (carriers_found which m) ≡ lay_carriers c
  part_said =
      transfer_contents s a (name_of carriers) which front one back w (ap name_of h) b
      ∙ (item_carried one (item_allowed s a front one back w) h).0 ∙ sym e

  -- it is found
  there : which < times_in (name_of carriers) (names_of (items_in s))
  there = rw (w, names_append front (one ∷ back), times_append, h) (omega (arith, b, times_here (name_of carriers) (names_of back)))

  given : (f : Found) → is_found f ≡ true → (k : ℕ) × (found_answer f ≡ Accepted k)
  given (At p q) t = (p, refl)
  given Nowhere t = absurd (let z : ◌≡◌ {A = ℕ} 0 1 = cc in omega arith)

  found_so : (k : ℕ) × (find_answer m (carriers_found which m) ≡ Accepted k)
  found_so =
      let t = given (carriers_found which m) (name_is (name_of carriers) which s a ∙ lt-ltb which _ there) in
      (t.0, rw (laid_then_read s a).0 t.1)

  -- its rows
  module _ (start : ℕ) (at : FindTransferAnswerPromise m (name_of carriers) which (Accepted start)) where
    rows_said : carrier_rows_of which m ≡ told_carrier_rows start c
    unfolding carrier_rows_of
    rows_said =
        let f = carriers_found which m in
        ap (λ (t : List ℕ). map (entry_row (start_of f)) (entries_of t)) part_said ∙ (carriers_told c right (start_of f)).0
        ∙ ap (λ (k : ℕ). told_carrier_rows k c) (starts_so m f start at)

    pub carriers_listed_so :
        let rows = told_carrier_rows start c in
        (table : List ℕ) → octets_to_a_carrier_row * length rows ≤ length table
        → (r : Answer) (now : List ℕ) → CarriersPromise m which table r now
        → (r ≡ Accepted (length rows)) × (now ≡ carrier_rows_octets rows ++ drop (octets_to_a_carrier_row * length rows) table)
    unfolding carriers_answer octet_carriers_table
    carriers_listed_so table l r now p =
        let n = length (told_carrier_rows start c) in
        let given : octet_carriers m which (length table) ≡ Accepted n =
        rw (sym at, rows_said, le-ltb (length table / octets_to_a_carrier_row) n (omega arith)) in
        (p.0 ∙ given, p.1 ∙ rw (given, rows_said))

  -- the entry in a row
  entry_said : (row : ℕ) → entry_found which row m ≡ get_or (entries_of (lay_carriers c)) row no_entry
  entry_said row = ap (λ (t : List ℕ). get_or (entries_of t) row no_entry) part_said

  pub code_told_so : (start row : ℕ) →
      let code = get_or (told_codes c) row [] in
      is_code_row (get_or (told_carrier_rows start c) row no_carrier_row) ≡ true → (room : List ℕ) → length code ≤ length room
      → (r : Answer) (now : List ℕ) → CarrierDigitsPromise m which row room r now
      → (r ≡ Accepted (length code)) × (now ≡ code ++ drop (length code) room)
  unfolding digits_answer digits_given
  code_told_so start row t room l r now p =
      let x = get_or (entries_of (lay_carriers c)) row no_entry in
      let code = get_or (told_codes c) row [] in
      let told = row_told c right start row in
      let is : is_code_entry x ≡ true = told.0 ∙ t in
      let ds : digits_in x ≡ code = rw is at told.1 in
      let given : digits_answer m which row (length room) ≡ Accepted (length code) =
      rw (found_so.1, entry_said row, is, ds, le-ltb (length room) (length code) l) in
      (p.0 ∙ given, p.1 ∙ rw (found_so.1, entry_said row, is, ds, le-ltb (length room) (length code) l))

  pub code_none_so : (start row : ℕ) → is_code_row (get_or (told_carrier_rows start c) row no_carrier_row) ≡ false
      → (room : List ℕ) (r : Answer) (now : List ℕ) → CarrierDigitsPromise m which row room r now → r ≡ Refused absent 0
  unfolding digits_answer
  code_none_so start row t room r now p =
      p.0 ∙ rw (found_so.1, entry_said row, (row_told c right start row).0 ∙ t)

-- ---- whether there is one

-- what is told of that one of a name, by the room alone: 16 exactly if there are not so many of it
pub told_there : (s : List Part) → Allowed s → (x which : ℕ) (full : Bool) (n : ℕ) (r : Answer)
    → r ≡ and_then (find_answer (layout s) (transfer_found x which (layout s))) (λ _. refuse full no_room 0 (Accepted n))
    → (r ≡ Refused absent 0) ↔ (times_in x (names_of (items_in s)) ≤ which)
told_there s a x which full n r p = go (transfer_found x which (layout s)) refl (name_is x which s a)
  where
    times : ℕ
    times = times_in x (names_of (items_in s))

    go : (f : Found) → transfer_found x which (layout s) ≡ f → is_found (transfer_found x which (layout s)) ≡ ltb which times
        → (r ≡ Refused absent 0) ↔ (times ≤ which)
    go (At b c) e t =
        let some = ltb-true which times (sym (rw e at t)) in
        let q : r ≡ refuse full no_room 0 (Accepted n) = p ∙ rw ((laid_then_read s a).0, e) in
        (λ w. absurd (room_alone full n (sym q ∙ w)), λ w. absurd (omega arith))
    go Nowhere e t =
        let none = ltb-false which times (sym (rw e at t)) in
        (λ w. none, λ w. p ∙ rw ((laid_then_read s a).0, e))

pub carriers_there_so : (s : List Part) → Allowed s → (which : ℕ) (table : List ℕ) (r : Answer) (now : List ℕ)
    → CarriersPromise (layout s) which table r now
    → (r ≡ Refused absent 0) ↔ (times_in (name_of carriers) (names_of (items_in s)) ≤ which)
unfolding carriers_answer
carriers_there_so s a which table r now p =
    let n = length (carrier_rows_of which (layout s)) in
    told_there s a (name_of carriers) which (ltb (length table / octets_to_a_carrier_row) n) n r p.0

pub carriers_few_so : (m : List ℕ) → Octetwise m → (which : ℕ) (table : List ℕ) (n : ℕ) (now : List ℕ)
    → CarriersPromise m which table (Accepted n) now → n ≤ most_carrier_rows
carriers_few_so m o which table n now p = carrier_rows_few m o which (length table / octets_to_a_carrier_row) n (sym p.0)
