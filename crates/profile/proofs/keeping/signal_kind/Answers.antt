-- `signal_kind` meets its contract: what was found lies within the message.
use Prim.Native.Nat.{◌≤◌}
use mathlib.Core.Path.{sym, ◌∙◌}
use lib.ListN.{length}
use Rattle.annex.specs.Heads.{signal_kind}
use Rattle.laws.specs.Finding.{common_inside}
use Rattle.profile.proofs.keeping.signal_kind.Goals as goal

pub returns-in_default : goal.returns-in_default
returns-in_default c = rw (← c.common_by_length.ensures, c.in_default.is)

pub returns : goal.returns
returns c =
    rw (← c.common_by_length.ensures, c.in-Some.is) c.octet_at.ensures

pub slice_bounds-octet_at-count : goal.slice_bounds-octet_at-count
slice_bounds-octet_at-count c =
    let within : (c.in-Some.start ≤ c.in-Some.end)
    × (c.in-Some.end ≤ length c.args.m.now) =
    (common_inside signal_kind _).at _ _ (sym c.common_by_length.ensures ∙ c.in-Some.is) in
    (within).0

pub slice_bounds-octet_at-start : goal.slice_bounds-octet_at-start
slice_bounds-octet_at-start c =
    let within : (c.in-Some.start ≤ c.in-Some.end)
    × (c.in-Some.end ≤ length c.args.m.now) =
    (common_inside signal_kind _).at _ _ (sym c.common_by_length.ensures ∙ c.in-Some.is) in
    (within).0

pub slice_bounds-octet_at-end : goal.slice_bounds-octet_at-end
slice_bounds-octet_at-end c =
    let within : (c.in-Some.start ≤ c.in-Some.end)
    × (c.in-Some.end ≤ length c.args.m.now) =
    (common_inside signal_kind _).at _ _ (sym c.common_by_length.ensures ∙ c.in-Some.is) in
    (within).1
