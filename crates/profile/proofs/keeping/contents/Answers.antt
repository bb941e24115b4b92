-- `contents` meets its contract: what was found lies within the message.
use Prim.Native.Nat.{◌≤◌}
use mathlib.Core.Path.{sym, ◌∙◌}
use lib.ListN.{length}
use Rattle.annex.specs.declared.Key.TheVariants.{Name}
use Rattle.laws.specs.Finding.{plain_inside}
use Rattle.profile.proofs.keeping.contents.Goals as goal

pub returns-in_default : goal.returns-in_default
returns-in_default c = rw (← c.sought.ensures, c.in_default.is)

pub returns : goal.returns
returns c =
    rw (← c.sought.ensures, c.in-Some.is)

pub slice_bounds-result-count : goal.slice_bounds-result-count
slice_bounds-result-count c =
    let within : (c.in-Some.start ≤ c.in-Some.end)
    × (c.in-Some.end ≤ length c.args.m.now) =
    (plain_inside (Name _ _) _).at _ _ (sym c.sought.ensures ∙ c.in-Some.is) in
    (within).0

pub slice_bounds-result-start : goal.slice_bounds-result-start
slice_bounds-result-start c =
    let within : (c.in-Some.start ≤ c.in-Some.end)
    × (c.in-Some.end ≤ length c.args.m.now) =
    (plain_inside (Name _ _) _).at _ _ (sym c.sought.ensures ∙ c.in-Some.is) in
    (within).0

pub slice_bounds-result-end-2 : goal.slice_bounds-result-end-2
slice_bounds-result-end-2 c =
    let within : (c.in-Some.start ≤ c.in-Some.end)
    × (c.in-Some.end ≤ length c.args.m.now) =
    (plain_inside (Name _ _) _).at _ _ (sym c.sought.ensures ∙ c.in-Some.is) in
    (within).1
