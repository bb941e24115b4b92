-- `carriers_formed` meets its contract: the form of the whole is that of all entries.
use Rattle.std.proofs.Common.{◌≡◌, sym, ◌∙◌, rules, tests, arith, length, ne_eqb, le-leb}
use Rattle.std.proofs.lemmas.Iterator.Consumers.{YieldsList-from_first}
use Rattle.std.proofs.lemmas.Iterator.Search.{all_from_yields_List}
use Rattle.annex.specs.Carriers.{carriers_formed}
use Rattle.annex.specs.Entering.{first_entry, cursors_from}
use Rattle.entries.specs.Left.{entry_formed, lies_first, formed_first_left}
use Rattle.entries.specs.Entries.{formed_all}
use Rattle.entries.specs.declared.cursor.Cursors.{Cursors}
use Rattle.entries.proofs.judging.carriers_formed.Goals as goal

pub returns-then-direction-le-MOST_DIRECTION : goal.returns-then-direction-le-MOST_DIRECTION
unfolding carriers_formed
returns-then-direction-le-MOST_DIRECTION c =
    let s = c.args.s.now in
    let first = c.in-Some.ensures.item.3 in
    let some : length s ≡ 0 → ⊥ = λ e. omega (arith, first.0) in
    let all =
    all_from_yields_List (entry_formed s) c.all.new.self _ c.all.result c.all.ensures.ran
    (YieldsList-from_first (λ x. x) (λ (e : Cursors). cursors_from e.s.now e.c) {s = c.entries.result} (cursors_from s first_entry) c.entries.ensures)
    (λ x b q k. search (rules, tests)) in
    all ∙ sym (formed_all s first_entry (lies_first s some))
    ∙ rw (ne_eqb _ _ some, ← first.1 0, le-leb _ _ c.if-direction-le-MOST_DIRECTION.true) (formed_first_left s)
