-- `transfer_by_length` meets its contract: it searches the part that C5's contents are, and tells the place of the whole.
use Prim.Native.Nat.{◌≤◌, ◌+◌}
use mathlib.Core.Path.{◌≡◌, sym, ◌∙◌}
use native.Mathlib.Omega.{arith}
use lib.ListN.{length}
use Rattle.annex.specs.Heads.{transfer_data}
use Rattle.annex.specs.declared.Key.TheVariants.{Header, Name}
use Rattle.annex.specs.Answers.{At, Nowhere}
use Rattle.annex.specs.Walking.{transfer_plain}
use Rattle.laws.specs.Finding.{search_inside, plain_inside}
use Rattle.reader.proofs.finding.transfer_by_length.Goals as goal

pub returns-in_err-s : goal.returns-in_err-s
returns-in_err-s c =
    let gone : c.from_residual.result ≡ Nowhere = grind arith in
    gone ∙ rw (← c.contents.ensures, c.in_err-s.was)

pub returns-in_err-a : goal.returns-in_err-a
returns-in_err-a c =
    let gone : c.from_residual-in_err-a.result ≡ Nowhere = grind arith in
    gone ∙ rw (← c.contents.ensures, c.in_ok-s.was, ← c.contents-2.ensures, c.in_err-a.was)

pub overflow_add-result : goal.overflow_add-result
overflow_add-result c =
    let found : transfer_plain c.args.name c.args.which c.args.m.now ≡ At (c.in_ok-s.s + c.in_ok-a.a) (c.in_ok-s.s + c.in_ok-a.b) =
    rw (← c.contents.ensures, c.in_ok-s.was, ← c.contents-2.ensures, c.in_ok-a.was) in
    omega (arith, (plain_inside (Name _ _) _).at _ _ found)

pub overflow_add-result-2 : goal.overflow_add-result-2
overflow_add-result-2 c =
    let found : transfer_plain c.args.name c.args.which c.args.m.now ≡ At (c.in_ok-s.s + c.in_ok-a.a) (c.in_ok-s.s + c.in_ok-a.b) =
    rw (← c.contents.ensures, c.in_ok-s.was, ← c.contents-2.ensures, c.in_ok-a.was) in
    omega (arith, (plain_inside (Name _ _) _).at _ _ found)

pub slice_bounds-contents-count : goal.slice_bounds-contents-count
slice_bounds-contents-count c = ((search_inside (Header transfer_data) _).at _ _ (sym c.contents.ensures ∙ c.in_ok-s.was)).0

pub slice_bounds-contents-start : goal.slice_bounds-contents-start
slice_bounds-contents-start c = ((search_inside (Header transfer_data) _).at _ _ (sym c.contents.ensures ∙ c.in_ok-s.was)).0

pub slice_bounds-contents-end : goal.slice_bounds-contents-end
slice_bounds-contents-end c = ((search_inside (Header transfer_data) _).at _ _ (sym c.contents.ensures ∙ c.in_ok-s.was)).1

pub returns : goal.returns
returns c = rw (← c.contents.ensures, c.in_ok-s.was, ← c.contents-2.ensures, c.in_ok-a.was)
