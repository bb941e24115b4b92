-- `transfer_data` meets its contract: the part that it hands on is what the definition reads.
use mathlib.Core.Path.{sym, ◌∙◌}
use native.Mathlib.Omega.{arith}
use lib.ListN.{length, take, drop, length-take, length-drop}
use Prim.Native.Nat.{◌-◌}
use Rattle.laws.specs.Offsets.{fault_within}
use Rattle.laws.specs.Passed.{passed_on, shifted_ok, shifted_err}
use Rattle.laws.specs.Steps.{transfers_place, data_told, place_told}
use Rattle.annex.specs.Contents.{fault_of}
use Rattle.reader.proofs.verdict.transfer_data.Goals as goal

pub shift-requires : goal.shift-requires
shift-requires c =
    let t = take (c.args.n - 1) (drop 1 c.args.xs.now) in
    let w = place_told (length t) _ (transfers_place fault_of fault_within t) in
    omega (arith, simp (length-take, length-drop) at (rw (← c.transfers.ensures) at w))

pub returns-in_err-shift : goal.returns-in_err-shift
returns-in_err-shift c =
    passed_on c.from_residual.result c.in_err-shift.field-0.0 c.from_residual.ensures.1
    ∙ sym (rw (data_told fault_of, ← c.transfers.ensures, ← c.shift.ensures, c.in_err-shift.was))

pub returns : goal.returns
returns c =
    rw (data_told fault_of, ← c.transfers.ensures, shifted_ok _ _ _ (sym c.shift.ensures ∙ c.in_ok-shift.was))
