use Prim.Native.Nat.{suc, ◌+◌, ◌*◌}
use native.Mathlib.Omega.{arith}
use mathlib.Core.Path.{◌≡◌, ap}
use lib.ListN.{get_or, drop}
use Rattle.std.proofs.lemmas.List.{drop_more}
use Rattle.annex.specs.Charging.{all_in_two, field_numbers}
use Rattle.annex.specs.Image.{two_octets}
use Rattle.laws.specs.Runs.{left_some}
use Rattle.charging.proofs.packing.octets_of.Goals as goal

pub loop-k-preserved : goal.loop-k-preserved
loop-k-preserved c =
    let k = c.loop-k.k in
    let fields = field_numbers c.args.c in
    let next : 2 + 2 * k ≡ suc (1 + 2 * k) = omega arith in
    left_some c.loop-k.invariant (two_octets (get_or fields k 0)) (all_in_two (drop (k + 1) fields))
    (ap all_in_two (drop_more fields k 0 c.loop-k-test.true)) _ _ (record { ends = omega arith; put = rw (c.to_le_bytes.ensures, next) })
