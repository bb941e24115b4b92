-- `splice_fitting` meets its contract: tail, new octets and zeros are the parts of the definition.
use mathlib.Core.Path.{◌≡◌, refl, sym, ◌∙◌}
use Prim.Native.Nat.{◌+◌, ◌-◌}
use native.Mathlib.Omega.{arith}
use lib.ListN.{length, replicate, length-take, length-drop}
use borrow.Author.Rules.{rules}
use Rattle.annex.specs.Memory.{put}
use Rattle.octets.specs.Put.{part, length_part, put_part}
use Rattle.octets.proofs.Puts.{mid_put, paste_put, length_put}
use Rattle.octets.proofs.Steps.{three_steps}
use Rattle.octets.proofs.splice_fitting.Goals as goal
use Rattle.octets.proofs.splice_fitting.Goals.{then-to-tail, else-to-tail}

pub returns : goal.returns
returns c =
    let a = c.args in
    let d = a.d.now in
    let tail = a.from + a.old in
    let to = a.from + length a.new.now in
    let end = to + (a.n - tail) in
    let one = put d to (part d tail (a.n - tail)) in
    let moved : c.if-to-tail.d ≡ one =
    elim c.if-to-tail.branch [
      | then-to-tail w ↦ w.d-is ∙ w.copy_within.ensures.after ∙ paste_put d to tail (a.n - tail) (omega arith)
      | else-to-tail w ↦ w.d-is ∙ rw w.if-to-tail.false (sym (put_part d tail (a.n - tail) (omega arith)))
    ] in
    let two = put one a.from a.new.now in
    let written : c.copy_fitting.new.d ≡ two = rw moved at c.copy_fitting.ensures in
    let tail_long = length_part d tail (a.n - tail) (omega arith) in
    let one_long : length one ≡ length d = length_put d to (part d tail (a.n - tail)) (omega (arith, tail_long)) in
    let long : length two ≡ length d = length_put one a.from a.new.now (omega arith) ∙ one_long in
    let few : length c.fill.new.self ≡ a.n - end = c.fill.ensures.len ∙ rw written (simp (length-take, length-drop) (omega (arith, long))) in
    let zeros : c.fill.new.self ≡ replicate (a.n - end) 0 = c.fill.ensures.after (λ y e. e) ∙ rw (← c.fill.ensures.len, few) in
    rw (written, mid_put end (c.max.result - end) two c.fill.new.self (omega (arith, few)), zeros)
    (three_steps d a.n a.from a.old a.new.now tail to (a.n - tail) end (search rules) refl refl refl refl)
