use Prim.Native.Nat.{ℕ, ◌+◌, ◌*◌, ◌≤◌}
use native.Mathlib.Omega.{arith}
use mathlib.Core.Path.{◌≡◌, ap, ◌∙◌}
use mathlib.Core.List.{List, ◌∷◌, map}
use lib.ListN.{length, get_or}
use lib.Seq.{sets, length-sets}
use Rattle.std.proofs.Common.{Option, Some, true, drop_of_length-le}
use Rattle.std.specs.Iterator.{Yields, YieldsFirst}
use Rattle.annex.specs.Carriers.{carriers_formed}
use Rattle.std.proofs.lemmas.List.{length_push}
use Rattle.std.proofs.lemmas.Iterator.Consumers.{YieldsList-from_first, YieldsList-turn, YieldsList-end}
use Rattle.annex.specs.Entering.{first_entry, cursors_from}
use Rattle.annex.specs.Packed.{octets_to_a_carrier_row, carrier_row_octets, carrier_rows_octets}
use Rattle.annex.specs.Transit.{direction_entry, entries_of, entry_row}
use Rattle.annex.specs.declared.CarrierRow.{CarrierRow}
use Rattle.annex.specs.declared.Cursor.{Cursor}
use Rattle.laws.specs.Runs.{Left}
use Rattle.entries.specs.Left.{entries_left}
use Rattle.entries.specs.declared.cursor.Cursors.{Cursors}
use Rattle.carriers.specs.Rows.{here_row, rows_behind, Reached, reached, rows_at, cursors_count, formed_some, left_one, left_fits_one, left_over, rows_stored, rows_fit}
use Rattle.carriers.proofs.put_rows.Goals as goal

pub direction_row-requires : goal.direction_row-requires
direction_row-requires c = formed_some c.args.s.now c.requires.0

pub put_row-requires : goal.put_row-requires
put_row-requires c =
    omega (arith, rows_fit c.args.s.now c.args.start (length c.args.table.now) c.requires.2)

-- the table with the direction's row in it
first_so : (s table first : List ℕ) (start : ℕ) (r : CarrierRow) → r ≡ entry_row start (direction_entry (get_or s 0 0))
    → first ≡ sets table 0 (carrier_row_octets r) → first ≡ sets table 0 (carrier_row_octets (entry_row start (direction_entry (get_or s 0 0))))
first_so s table first start r e f = f ∙ ap (λ (x : CarrierRow). sets table 0 (carrier_row_octets x)) e

first_long : (s table first : List ℕ) (start : ℕ) (r : CarrierRow) → r ≡ entry_row start (direction_entry (get_or s 0 0))
    → first ≡ sets table 0 (carrier_row_octets r) → length first ≡ length table
first_long s table first start r e f =
    ap length (first_so s table first start r e f)
    ∙ length-sets table 0 (carrier_row_octets (entry_row start (direction_entry (get_or s 0 0))))

-- a turn stands at the entry behind those that the turns before it took
turn : (s : List ℕ) (first it u : Cursors) (before : List Cursor) (r : Option Cursor) (c : Cursor) → carriers_formed s ≡ true
    → cursors_from first.s.now first.c ≡ cursors_from s first_entry → Yields (YieldsFirst (λ (e : Cursors). cursors_from e.s.now e.c)) first before it
    → r ≡ Some c → YieldsFirst (λ (e : Cursors). cursors_from e.s.now e.c) it r u → Reached s (length before) c
turn s first it u before r c f e y i h =
    reached s f (length before) c
    (YieldsList-turn (YieldsList-from_first (λ x. x) (λ (e : Cursors). cursors_from e.s.now e.c) {s = first} _ e) before it y r u c i h)

pub row_here-requires : goal.row_here-requires
row_here-requires c =
    let l = c.loop-c in
    let t = turn c.args.s.now c.into_iter-c-iterator.result l.c-iterator c.next.new.self l.yielded _ c.in-Some.c c.requires.0 (cc) l.yielded_by c.in-Some.is c.next.ensures.steps in
    omega (arith, c.requires.1, t.here)

-- at an entry its row and those behind it are left to store
module _ (s first : List ℕ) (start place : ℕ) (c : Cursor) (k : ℕ) (now : List ℕ) (t : Reached s k c)
    (l : Left (carrier_rows_octets (rows_behind start s 0)) octets_to_a_carrier_row first (carrier_rows_octets (rows_behind start s k)) place now) where
  turned : Left (carrier_rows_octets (rows_behind start s 0)) octets_to_a_carrier_row first
      (carrier_rows_octets (here_row s c start ∷ rows_behind start s (k + 1))) place now
  turned = rw (rows_at s k c t start) at l

  -- and the table has room for it
  fits : (table : List ℕ) → octets_to_a_carrier_row * length (entries_of s) ≤ length table → length first ≡ length table
      → place + octets_to_a_carrier_row ≤ length now
  fits table room long = left_fits_one _ _ _ _ turned (omega (arith, rows_fit s start (length table) room, long))

pub put_row-requires-in-loop-c : goal.put_row-requires-in-loop-c
put_row-requires-in-loop-c c =
    let a = c.args in
    let l = c.loop-c in
    let t = turn a.s.now c.into_iter-c-iterator.result l.c-iterator c.next.new.self l.yielded _ c.in-Some.c c.requires.0 (cc) l.yielded_by c.in-Some.is c.next.ensures.steps in
    fits a.s.now c.put_row.new.table a.start l.place c.in-Some.c (length l.yielded) l.table t l.invariant a.table.now c.requires.2
    (first_long a.s.now a.table.now _ a.start _ c.direction_row.ensures c.put_row.ensures)

pub overflow_add-place : goal.overflow_add-place
overflow_add-place c =
    let a = c.args in
    let l = c.loop-c in
    let t = turn a.s.now c.into_iter-c-iterator.result l.c-iterator c.next.new.self l.yielded _ c.in-Some.c c.requires.0 (cc) l.yielded_by c.in-Some.is c.next.ensures.steps in
    let long = first_long a.s.now a.table.now _ a.start _ c.direction_row.ensures c.put_row.ensures in
    let room = fits a.s.now c.put_row.new.table a.start l.place c.in-Some.c (length l.yielded) l.table t l.invariant a.table.now c.requires.2 long in
    let n : l.place + octets_to_a_carrier_row ≤ length a.table.now = omega (arith, room, l.invariant.long, long) in
    omega (arith, n)

pub loop-c-preserved : goal.loop-c-preserved
loop-c-preserved c =
    let s = c.args.s.now in
    let l = c.loop-c in
    let t = turn s c.into_iter-c-iterator.result l.c-iterator c.next.new.self l.yielded _ c.in-Some.c c.requires.0 (cc) l.yielded_by c.in-Some.is c.next.ensures.steps in
    rw (length_push l.yielded c.in-Some.c)
    (left_one _ _ _ _ (turned s _ c.args.start l.place c.in-Some.c (length l.yielded) l.table t l.invariant) _
    (rw c.row_here.ensures at c.put_row-in-loop-c.ensures))

pub returns : goal.returns
returns c =
    let a = c.args in
    let s = a.s.now in
    let l = c.loop-c in
    let y = YieldsList-from_first (λ x. x) (λ (e : Cursors). cursors_from e.s.now e.c) {s = c.into_iter-c-iterator.result} (cursors_from s first_entry) cc in
    let t = YieldsList-end y l.yielded l.c-iterator l.yielded_by _ c.next.new.self c.in-None.is c.next.ensures.steps in
    let none = ap (map (entry_row a.start)) (drop_of_length-le (entries_left s first_entry) {i = length l.yielded} (omega (arith, t.1, cursors_count s c.requires.0))) in
    rows_stored s a.start a.table.now c.put_row.new.table _
    (first_so s a.table.now _ a.start _ c.direction_row.ensures c.put_row.ensures)
    (left_over _ _ (rw none at l.invariant))
