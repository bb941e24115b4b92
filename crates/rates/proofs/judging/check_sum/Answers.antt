-- `check_sum` meets its contract: the first octet behind the kind by itself, and then characters.
use Rattle.std.proofs.Common.{arith, ◌≡◌, ◌-◌, length, drop, take, length-drop}
use Rattle.std.proofs.lemmas.List.{take_all}
use Rattle.rates.specs.Asked.{behind_none, behind_sum}
use Rattle.rates.proofs.judging.check_sum.Goals as goal

pub returns-in_default : goal.returns-in_default
returns-in_default c = omega (arith, (behind_none c.args.first c.args.s.now c.in_default.ensures.lookup.3).1)

pub returns : goal.returns
returns c =
    let a = c.args in
    let s = a.s.now in
    let rest : take (length s - 3) (drop 3 s) ≡ drop 3 s = take_all _ _ (omega (arith, length-drop 3 s)) in
    let sum = rw rest at c.characters_sum.ensures in
    omega (arith, behind_sum a.first s _ (c.in-Some.ensures.lookup.3.1 0) c.in-Some.ensures.lookup.3.0, c.sum_in.ensures, sum)
