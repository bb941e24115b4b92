-- `octets_of` meets its contract. The invariant: of the fields those from k on are left to store, behind the kind and those before them.
use Prim.Native.Nat.{◌+◌, ◌*◌}
use lib.ListN.{drop}
use Rattle.annex.specs.Charging.{all_in_two, field_numbers}
use Rattle.laws.specs.Runs.{Left}
use Rattle.charging.proofs.packing.octets_of.Given as goal

abbrev pub invariant-loop-k : goal.invariant-loop-k
invariant-loop-k l =
    let fields = field_numbers l.fn.c in
    Left (all_in_two fields) 1 l.initial.octets (all_in_two (drop l.k fields)) (1 + 2 * l.k) l.octets
