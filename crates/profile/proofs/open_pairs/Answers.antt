use native.Mathlib.Omega.{arith}
use Rattle.laws.specs.Parts.{to_end}
use Rattle.profile.specs.Pairs.{pair_left, opening_next, opening_done}
use Rattle.profile.proofs.open_pairs.Goals as goal

pub bounds-class-count : goal.bounds-class-count
bounds-class-count c = pair_left _ _ _ _ c.loop-rest.invariant c.requires (omega (arith, c.in-len2-up.len_at_least))

pub overflow_add-count : goal.overflow_add-count
overflow_add-count c =
    let w = pair_left _ _ _ _ c.loop-rest.invariant c.requires (omega (arith, c.in-len2-up.len_at_least)) in
    omega (arith, w)

pub loop-rest-preserved : goal.loop-rest-preserved
loop-rest-preserved c =
    rw to_end (opening_next _ _ _ _ c.loop-rest.invariant c.requires (omega (arith, c.in-len2-up.len_at_least)))

pub returns : goal.returns
returns c =
    let done = opening_done _ _ _ _ c.loop-rest.invariant c.requires (omega (arith, c.in_default.len_below)) in
    rw (done.0, done.1)
