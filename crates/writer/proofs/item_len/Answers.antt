-- `item_len` meets its contract: the header, a length octet where the PLI has one, and the contents.
use native.Mathlib.Omega.{arith}
use mathlib.Core.Path.{◌≡◌, ap, ◌∙◌}
use lib.ListN.{length}
use Rattle.annex.specs.Units.{lead_of, extent_of}
use Rattle.annex.specs.Records.{raw_item, item_from}
use Rattle.laws.specs.Laid.{own_values, own_contents_lem, own_layout, length-layout, lead_small}
use Rattle.limits.specs.Limits.{contents_most}
use Rattle.writer.proofs.item_len.Goals as goal

pub overflow_add-result : goal.overflow_add-result
overflow_add-result c =
    let lead_is : c.lead.result ≡ lead_of (extent_of c.args.t.header) =
    c.lead.ensures ∙ ap lead_of c.extent_of.ensures in
    omega (arith, lead_is, lead_small (extent_of c.args.t.header))

pub overflow_add-result-2 : goal.overflow_add-result-2
overflow_add-result-2 c =
    let lead_is : c.lead.result ≡ lead_of (extent_of c.args.t.header) =
    c.lead.ensures ∙ ap lead_of c.extent_of.ensures in
    let i = raw_item c.args.t c.args.values.now in
    omega (
      arith,
      lead_is,
      lead_small (extent_of c.args.t.header),
      c.contents_len.ensures,
      contents_most (item_from c.args.t c.args.values.now),
      ap length (own_values i),
      c.requires,
    )

pub returns : goal.returns
returns c =
    let lead_is : c.lead.result ≡ lead_of (extent_of c.args.t.header) =
    c.lead.ensures ∙ ap lead_of c.extent_of.ensures in
    let a = c.args in
    let i = raw_item a.t a.values.now in
    omega (arith, lead_is, c.contents_len.ensures, ap length (own_contents_lem i), ap length (own_layout i), length-layout i)
