use Rattle.std.proofs.Common.{◌≡◌, sym, ◌∙◌, ℕ, true, arith, length, drop_of_length-le, List}
use Rattle.std.proofs.lemmas.List.{length_push}
use Rattle.std.proofs.lemmas.Iterator.Consumers.{YieldsList-from_first, YieldsList-turn, YieldsList-end}
use Rattle.annex.specs.Carriers.{carriers_formed, entries_fault, carrier_fault, carriers_in}
use Rattle.annex.specs.Entering.{first_entry, cursors_from}
use Rattle.entries.specs.Left.{formed_start, fault_first_left}
use Rattle.entries.specs.Entries.{faults, faults_all, faults_more}
use Rattle.entries.specs.declared.cursor.Cursors.{Cursors}
use Rattle.laws.specs.Passed.{passed_on}
use Rattle.entries.proofs.judging.codes_fault.Goals as goal

-- the whole is what is wrong with all
whole : (s : List ℕ) → carriers_formed s ≡ true → entries_fault carrier_fault (carriers_in s) ≡ faults s (cursors_from s first_entry)
whole s f = let h = formed_start s f in sym (fault_first_left s) ∙ faults_all s first_entry h.0 h.1

pub loop-c-preserved : goal.loop-c-preserved
loop-c-preserved c =
    let s = c.args.s.now in
    let all = cursors_from s first_entry in
    let y = YieldsList-from_first (λ x. x) (λ (e : Cursors). cursors_from e.s.now e.c) {s = c.into_iter-c-iterator.result} all cc in
    let t = YieldsList-turn y c.loop-c.yielded c.loop-c.c-iterator c.loop-c.yielded_by _ c.next.new.self c.in-Some.c c.in-Some.is c.next.ensures.steps in
    rw (length_push c.loop-c.yielded c.in-Some.c)
    (c.loop-c.invariant ∙ faults_more s all _ _ t ∙ rw (← c.entry_fault.ensures, c.in_ok-entry_fault.was))

pub returns-in_err-entry_fault : goal.returns-in_err-entry_fault
returns-in_err-entry_fault c =
    let s = c.args.s.now in
    let all = cursors_from s first_entry in
    let y = YieldsList-from_first (λ x. x) (λ (e : Cursors). cursors_from e.s.now e.c) {s = c.into_iter-c-iterator.result} all cc in
    let t = YieldsList-turn y c.loop-c.yielded c.loop-c.c-iterator c.loop-c.yielded_by _ c.next.new.self c.in-Some.c c.in-Some.is c.next.ensures.steps in
    passed_on c.from_residual.result c.in_err-entry_fault.field-0.0 c.from_residual.ensures.1
    ∙ sym (whole s c.requires ∙ c.loop-c.invariant ∙ faults_more s all _ _ t ∙ rw (← c.entry_fault.ensures, c.in_err-entry_fault.was))

pub returns : goal.returns
returns c =
    let s = c.args.s.now in
    let all = cursors_from s first_entry in
    let y = YieldsList-from_first (λ x. x) (λ (e : Cursors). cursors_from e.s.now e.c) {s = c.into_iter-c-iterator.result} all cc in
    let t = YieldsList-end y c.loop-c.yielded c.loop-c.c-iterator c.loop-c.yielded_by _ c.next.new.self c.in-None.is c.next.ensures.steps in
    sym (whole s c.requires ∙ c.loop-c.invariant ∙ rw (drop_of_length-le all {i = length c.loop-c.yielded} (omega (arith, t.1))))
