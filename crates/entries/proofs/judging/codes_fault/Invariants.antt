-- `codes_fault` meets its contract: what is wrong with the digits of all is what is wrong with those of the entries that are left.
use Rattle.std.proofs.Common.{◌≡◌, length, drop}
use Rattle.annex.specs.Entering.{first_entry, cursors_from}
use Rattle.entries.specs.Entries.{faults}
use Rattle.entries.proofs.judging.codes_fault.Given as goal

abbrev pub invariant-loop-c : goal.invariant-loop-c
invariant-loop-c l =
    let all = cursors_from l.s first_entry in
    faults l.s all ≡ faults l.s (drop (length l.yielded) all)
