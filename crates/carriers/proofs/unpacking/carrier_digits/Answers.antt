-- `carrier_digits` meets its contract: the row is that of the direction, or of an entry of the contents.
use Rattle.std.proofs.Common.{◌≡◌, ℕ, zero, suc, ◌-◌, ◌≤◌, true, List, [], ◌∷◌, length, arith, sym, ◌∙◌}
use Rattle.std.specs.Prelude.{Option, None, Some, slice_get}
use Rattle.std.specs.Iterator.{SkipsThenYields, YieldsFirst}
use Rattle.std.proofs.lemmas.Iterator.Consumers.{YieldsList-from_first, nth_from_yields_List}
use Rattle.annex.specs.Entering.{first_entry, cursors_from}
use Rattle.annex.specs.declared.Cursor.{Cursor}
use Rattle.entries.specs.Left.{entries_left}
use Rattle.entries.specs.declared.cursor.Cursors.{Cursors}
use Rattle.std.proofs.lemmas.Option.{slice_get_within, get_or_from_slice_get}
use Rattle.annex.specs.Carriers.{carriers_formed}
use Rattle.carriers.specs.Rows.{Reached, reached, cursors_count}
use Rattle.carriers.specs.Codes.{direction_told, digits_told, digits_past, not_found}
use Rattle.carriers.proofs.Contents.{formed}
use Rattle.laws.specs.Passed.{passed_on}
use Rattle.carriers.proofs.unpacking.carrier_digits.Goals as goal

pub returns-in_err-s : goal.returns-in_err-s
returns-in_err-s c =
    let a = c.args in
    let r = c.in_err-s.field-0.0 in
    let n = not_found a.m.now a.which a.row a.out.now r.0 r.1 (sym c.in_err-s.ensures.answer) in
    (passed_on c.from_residual.result r c.from_residual.ensures.1 ∙ sym n.0, sym n.1)

pub returns-then-row-eq0 : goal.returns-then-row-eq0
returns-then-row-eq0 c =
    let d = direction_told c.args.m.now c.args.which _ (sym c.in_ok-s.ensures.answer) c.args.out.now in
    rw c.if-row-eq0.true (sym d.0, sym d.1)

-- the cursor of the row is that behind so many entries
row_at : (s : List ℕ) (first u : Cursors) (number : ℕ) (r : Option Cursor) → cursors_from first.s.now first.c ≡ cursors_from s first_entry
    → SkipsThenYields (YieldsFirst (λ (e : Cursors). cursors_from e.s.now e.c)) first number r u → r ≡ slice_get (cursors_from s first_entry) number
row_at s first u number None e h =
    nth_from_yields_List None u number h (YieldsList-from_first (λ x. x) (λ (k : Cursors). cursors_from k.s.now k.c) {s = first} _ e)
row_at s first u number (Some c) e h =
    nth_from_yields_List (Some c) u number h (YieldsList-from_first (λ x. x) (λ (k : Cursors). cursors_from k.s.now k.c) {s = first} _ e)

none_past : {A : Type 0} (xs : List A) (k : ℕ) → slice_get xs k ≡ None → length xs ≤ k
none_past [] k e = omega arith
none_past (x ∷ xs) zero e = absurd (let z : ◌≡◌ {A = ℕ} 0 1 = cc in omega arith)
none_past (x ∷ xs) (suc k) e = let l = none_past xs k e in omega arith

pub returns-in_default : goal.returns-in_default
returns-in_default c =
    let m = c.args.m.now in
    let f = c.in_ok-s.ensures in
    let form = formed m c.args.which _ c.in_ok-s.s.now (λ i. omega (arith, c.type_inv.m i)) f.answer f.part in
    let at = sym (row_at c.in_ok-s.s.now c.entries.result c.nth.new.self _ c.nth.result c.entries.ensures c.nth.ensures.ran) ∙ c.in_default.is in
    let past : length (cursors_from c.in_ok-s.s.now first_entry) ≤ c.args.row - 1 = none_past _ _ at in
    let all : length (entries_left c.in_ok-s.s.now first_entry) ≤ c.args.row - 1 = omega (arith, past, cursors_count c.in_ok-s.s.now form) in
    let d = digits_past m c.args.which _ (sym f.answer) c.args.row c.if-row-eq0.false (rw f.part at all) c.args.out.now in
    (sym d.0, sym d.1)

-- the cursor that was found stands at the entry of the row
there : (s : List ℕ) (form : carriers_formed s ≡ true) (number : ℕ) (c : Cursor) → Some c ≡ slice_get (cursors_from s first_entry) number → Reached s number c
there s form number c e =
    let n = slice_get_within (cursors_from s first_entry) number c (sym e) in
    reached s form number c (n, sym (get_or_from_slice_get (cursors_from s first_entry) number c c (sym e)))

pub digits_at-requires : goal.digits_at-requires
digits_at-requires c =
    let m = c.args.m.now in
    let f = c.in_ok-s.ensures in
    let form = formed m c.args.which _ c.in_ok-s.s.now (λ i. omega (arith, c.type_inv.m i)) f.answer f.part in
    (there _ form _ c.in-Some.c (sym c.in-Some.is ∙ row_at c.in_ok-s.s.now c.entries.result c.nth.new.self _ c.nth.result c.entries.ensures c.nth.ensures.ran)).going

pub returns : goal.returns
returns c =
    let m = c.args.m.now in
    let f = c.in_ok-s.ensures in
    let out = c.args.out.now in
    let form = formed m c.args.which _ c.in_ok-s.s.now (λ i. omega (arith, c.type_inv.m i)) f.answer f.part in
    let r = there _ form _ c.in-Some.c (sym c.in-Some.is ∙ row_at c.in_ok-s.s.now c.entries.result c.nth.new.self _ c.nth.result c.entries.ensures c.nth.ensures.ran) in
    digits_told m c.args.which _ (sym f.answer) c.args.row c.if-row-eq0.false c.in-Some.c (rw f.part at r.left) out _ _ (rw f.part at c.digits_at.ensures)
