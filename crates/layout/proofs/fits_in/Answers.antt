-- `fits_in` meets its contract: the header and a length octet stand before the contents.
use Prim.Native.Nat.{ℕ, ◌+◌}
use native.Mathlib.Omega.{arith}
use mathlib.Core.Path.{◌≡◌, ap, ◌∙◌}
use mathlib.Core.List.{List}
use lib.Dec.{leb}
use lib.ListN.{length}
use Rattle.annex.specs.Units.{lead_of}
use Rattle.annex.specs.Layout.{layout_item}
use Rattle.annex.specs.Records.{raw_item}
use Rattle.laws.specs.Laid.{length-layout, lead_small}
use Rattle.layout.proofs.Holdings.{contents_as}
use Rattle.layout.proofs.fits_in.Goals as goal

pub overflow_add-lead : goal.overflow_add-lead
overflow_add-lead c = omega (arith, c.lead.ensures, lead_small c.extent_of.result)

pub returns : goal.returns
returns c =
    let a = c.args in
    let i = raw_item a.t a.values.now in
    let s = ap (λ (y : List ℕ). length y) (contents_as a.held i c.requires) in
    let e : 1 + c.lead.result + c.len_as.result ≡ length (layout_item i) =
    omega (arith, length-layout i, c.len_as.ensures, c.lead.ensures, ap lead_of c.extent_of.ensures) in
    c.lies_within.ensures ∙ ap (λ (m : ℕ). leb m a.room) e
