use Rattle.std.proofs.Common.{◌≡◌, ◌+◌, ◌≤◌, ◌∷◌, arith, length}
use Rattle.annex.specs.Packed.{octets_to_a_row}
use Rattle.walk.specs.Ahead.{rows_none, ahead_turn}
use Rattle.rows.specs.Tables.{left_stored, left_over, left_fits_one}
use Rattle.rows.proofs.in_octets.put_rows.Goals as goal

pub put_row-requires : goal.put_row-requires
put_row-requires c =
    let turn = ahead_turn _ _ c.loop-c.invariant.0 c.loop-c-test.true in
    left_fits_one _ _ _ _ (rw turn.rows at c.loop-c.invariant.1) (omega (arith, c.requires.1))

pub overflow_add-place : goal.overflow_add-place
overflow_add-place c =
    let turn = ahead_turn _ _ c.loop-c.invariant.0 c.loop-c-test.true in
    let left = rw turn.rows at c.loop-c.invariant.1 in
    omega (arith, left_fits_one _ _ _ _ left (omega (arith, c.requires.1)), left.long)

pub loop-c-smaller : goal.loop-c-smaller
loop-c-smaller c =
    let turn = ahead_turn _ _ c.loop-c.invariant.0 c.loop-c-test.true in
    rw c.next-c.ensures (omega (arith, turn.farther, c.loop-c-test.true))

pub loop-c-preserved : goal.loop-c-preserved
loop-c-preserved c =
    let turn = ahead_turn _ _ c.loop-c.invariant.0 c.loop-c-test.true in
    let left = rw turn.rows at c.loop-c.invariant.1 in
    rw c.next-c.ensures (turn.again, left_stored _ _ _ _ left _ (rw c.row_here.ensures at c.put_row.ensures))

pub returns : goal.returns
returns c = left_over _ _ (rw (rows_none _ _ c.loop-c.invariant.0 c.loop-c-test.false) at c.loop-c.invariant.1)
