-- `carriers` meets its contract: the octets from the start on, as many as were found, are the contents, and of the right form.
use Prim.Native.Nat.{ℕ, ◌/◌, ◌≤◌, ◌<◌}
use native.Mathlib.Omega.{arith}
use mathlib.Core.Path.{◌≡◌, sym, ap, ◌∙◌}
use mathlib.Core.List.{List}
use lib.ListN.{length}
use lib.Seq.{sets}
use Rattle.annex.specs.Finding.{find_part}
use Rattle.annex.specs.Transit.{entries_of, carriers_found, entries_found}
use Rattle.annex.specs.Answers.{Accepted}
use Rattle.carriers.specs.Rows.{rows_octets_of, rows_short, rows_told, table_kept, table_put, not_found}
use Rattle.carriers.proofs.Contents.{formed, within}
use Rattle.laws.specs.Passed.{passed_on}
use Rattle.carriers.proofs.carriers.Goals as goal

pub returns-in_err-start : goal.returns-in_err-start
returns-in_err-start c =
    let a = c.args in
    let r = c.in_err-start.field-0.0 in
    let n = not_found a.m.now a.which a.table.now r.0 r.1 (sym c.in_err-start.ensures.answer) in
    (passed_on c.from_residual.result r c.from_residual.ensures.1 ∙ sym n.0, sym n.1)

-- as many rows were counted as the CC has
counted : (m : List ℕ) (which n : ℕ) (s : List ℕ) → n ≡ length (entries_of s) → s ≡ find_part m (carriers_found which m)
    → n ≡ length (entries_found which m)
counted m which n s e f = e ∙ ap (λ (t : List ℕ). length (entries_of t)) f

pub count-n-requires : goal.count-n-requires
count-n-requires c =
    let f = c.in_ok-start.ensures in
    formed c.args.m.now c.args.which c.in_ok-start.start _ (λ i. omega (arith, c.type_inv.m i)) f.answer f.part

pub returns-then-table-n : goal.returns-then-table-n
returns-then-table-n c =
    let m = c.args.m.now in
    let which = c.args.which in
    let start = c.in_ok-start.start in
    let table = c.args.table.now in
    let f = c.in_ok-start.ensures in
    let at = sym f.answer in
    let short : length table / 8 < length (entries_found which m) =
    omega (arith, counted m which _ _ c.count-n.ensures f.part, c.if-table-n.true) in
    (sym (rows_short m which start at _ short), table_kept m which start at _ short)

pub put_rows-requires : goal.put_rows-requires
put_rows-requires c =
    let m = c.args.m.now in
    let which = c.args.which in
    let f = c.in_ok-start.ensures in
    let start = c.in_ok-start.start in
    let t = formed m which start _ (λ i. omega (arith, c.type_inv.m i)) f.answer f.part in
    (t, omega (arith, within m which start _ t f.answer f.part), omega (arith, c.count-n.ensures, c.if-table-n.false))

pub returns : goal.returns
returns c =
    let m = c.args.m.now in
    let which = c.args.which in
    let start = c.in_ok-start.start in
    let table = c.args.table.now in
    let f = c.in_ok-start.ensures in
    let at = sym f.answer in
    let n = counted m which _ _ c.count-n.ensures f.part in
    let roomy : length (entries_found which m) ≤ length table / 8 = omega (arith, n, c.if-table-n.false) in (
      ap Accepted n ∙ sym (rows_told m which start at _ roomy),
      c.put_rows.ensures ∙ ap (λ (xs : List ℕ). sets table 0 (rows_octets_of start xs)) f.part ∙ table_put m which start at table roomy,
    )
