-- `over_limits` meets its contract: of a struct that stays within its arrays only the contents can be over.
use mathlib.Core.Path.{◌≡◌, sym, ◌∙◌}
use Rattle.limits.specs.Limits.{told_whole, over_contents}
use mathlib.Core.Bool.{Bool, true}
use Rattle.annex.specs.declared.Record.{Record}
use Rattle.annex.specs.Records.{is_whole}
use Rattle.limits.specs.Along.{Whole}
use Rattle.limits.proofs.over_limits.Goals as goal

-- the test tells that the record is whole
whole : (q : Record) (b : Bool) → b ≡ is_whole q → b ≡ true → Whole q
whole q b e t = told_whole q (sym e ∙ t)

pub transfers_sum-requires : goal.transfers_sum-requires
transfers_sum-requires c = (whole c.args.q _ c.is_whole.ensures c.if-not-is_whole.false).commons

pub contents_sum-requires : goal.contents_sum-requires
contents_sum-requires c =
    rw c.transfers_sum.ensures ((whole c.args.q _ c.is_whole.ensures c.if-not-is_whole.false).within)

pub returns-else-not-is_whole : goal.returns-else-not-is_whole
returns-else-not-is_whole c =
    let q = c.args.q in
    rw (
      ← c.is_whole.ensures,
      c.if-not-is_whole.false,
      over_contents q (whole q _ c.is_whole.ensures c.if-not-is_whole.false),
      c.contents_sum.ensures,
      c.transfers_sum.ensures,
    )
