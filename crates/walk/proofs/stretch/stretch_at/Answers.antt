-- `stretch_at` meets its contract.
use native.Mathlib.Omega.{arith}
use Rattle.laws.specs.Extents.{lead_within}
use Rattle.walk.proofs.stretch.stretch_at.Goals as goal

pub overflow_add-result : goal.overflow_add-result
overflow_add-result c =
    let e = c.args.e in
    omega (arith, c.lead.ensures, c.octets_after-n.ensures, lead_within e c.octet_at.result)
