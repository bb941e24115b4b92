-- `splice_in` meets its contract: its test is 14, the splice refuses for want of room alone, and the octet stored is C5's length octet.
use Prim.Native.Nat.{◌+◌, ◌-◌}
use native.Mathlib.Omega.{arith}
use mathlib.Core.Path.{refl, sym, ◌∙◌}
use borrow.Author.Tests.{lt-ltb, le-ltb}
use Rattle.octets.specs.Splice.{told_fitting}
use Rattle.editor.specs.Splicing.{splice_answer, no_room_left, length_stored}
use Rattle.editor.proofs.splice_in.Goals as goal

pub returns-then-length-gt-MOST_OCTETS : goal.returns-then-length-gt-MOST_OCTETS
unfolding splice_answer
returns-then-length-gt-MOST_OCTETS c = (rw (lt-ltb _ _ c.if-length-gt-MOST_OCTETS.true), refl)

pub returns-then-not-splice : goal.returns-then-not-splice
unfolding splice_answer
returns-then-not-splice c =
    let f = c.if-not-splice.true in
    let l = no_room_left _ _ _ _ _ _ c.args.new.now c.requires (sym c.splice.ensures.0 ∙ f) in
    (rw (le-ltb _ _ c.if-length-gt-MOST_OCTETS.false, lt-ltb _ _ l), c.splice.ensures.1 ∙ rw f)

pub returns : goal.returns
unfolding splice_answer
returns c =
    let t = c.if-not-splice.false in
    let fit =
    told_fitting c.args.buffer.now c.args.n (c.args.start + c.args.from) (c.args.to - c.args.from) c.args.new.now
    (sym c.splice.ensures.0 ∙ t) in (
      rw (le-ltb _ _ c.if-length-gt-MOST_OCTETS.false, le-ltb _ _ fit.room),
      rw (c.splice.ensures.1, t)
          (length_stored c.args.buffer.now c.args.n c.args.start c.args.end c.args.from c.args.to
          c.args.new.now c.requires _ (omega (arith, c.if-length-gt-MOST_OCTETS.false)) fit),
    )
