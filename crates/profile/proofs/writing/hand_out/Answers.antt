-- `hand_out` meets its contract: the profile is asked first, and the message is copied where it fits.
use mathlib.Core.Path.{◌≡◌, sym, ◌∙◌}
use mathlib.Core.Bool.{true}
use lib.ListN.{take}
use Rattle.profile.specs.Keeping.{keeps_plain}
use Rattle.profile.specs.Answering.{copied_short, copied_whole, within, front_long, hands_outside, hands_short, hands_done}
use Rattle.profile.proofs.writing.hand_out.Goals as goal

pub returns-then-not-keeps : goal.returns-then-not-keeps
returns-then-not-keeps c =
    let a = c.args in
    hands_outside a.a c.in_ok-n.n c.in_ok-n.was a.draft.now a.room.now c.requires (sym c.keeps.ensures ∙ c.if-not-keeps.true)

pub returns-then-not-copy_in : goal.returns-then-not-copy_in
returns-then-not-copy_in c =
    let a = c.args in
    let n = c.in_ok-n.n in
    let kept : keeps_plain (take n a.draft.now) ≡ true = sym c.keeps.ensures ∙ c.if-not-keeps.false in
    let f = copied_short (take n a.draft.now) a.room.now _ _ c.copy_in.ensures c.if-not-copy_in.true in
    let d = hands_short a.a n c.in_ok-n.was a.draft.now a.room.now c.requires kept f.0 in
    (d.0, f.1 ∙ d.1)

pub returns : goal.returns
returns c =
    let a = c.args in
    let n = c.in_ok-n.n in
    let kept : keeps_plain (take n a.draft.now) ≡ true = sym c.keeps.ensures ∙ c.if-not-keeps.false in
    let f = copied_whole (take n a.draft.now) a.room.now _ _ c.copy_in.ensures c.if-not-copy_in.false in
    let d = hands_done a.a n c.in_ok-n.was a.draft.now a.room.now c.requires kept f.0 in
    (d.0, f.1 ∙ d.1)

pub slice_bounds-m-end : goal.slice_bounds-m-end
slice_bounds-m-end c = sym (front_long c.args.a c.in_ok-n.n c.in_ok-n.was c.args.draft.now c.args.room.now c.requires)

pub overflow_sub-result : goal.overflow_sub-result
overflow_sub-result c = (within c.args.a c.in_ok-n.n c.in_ok-n.was c.args.draft.now c.args.room.now c.requires).0
