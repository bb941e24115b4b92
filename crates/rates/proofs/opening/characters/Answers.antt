use Rattle.std.proofs.Common.{◌≡◌, ◌%◌, ◌<◌, ◌∙◌, sym, arith, length}
use Rattle.std.proofs.lemmas.List.{length_push, length-take}
use Rattle.std.proofs.lemmas.Iterator.{YieldsList-from_slice, YieldsList-from_take}
use Rattle.std.proofs.lemmas.Iterator.Consumers.{YieldsList-turn, YieldsList-end}
use Rattle.annex.specs.Rates.{decimal}
use Rattle.rates.specs.Characters.{digit_more, digits_taken, most_next, most_small}
use Rattle.rates.proofs.opening.characters.Goals as goal

pub overflow_add-number : goal.overflow_add-number
unfolding decimal
overflow_add-number c =
    let t = YieldsList-turn (YieldsList-from_take c.args.width (YieldsList-from_slice c.args.s.now cc) cc) c.loop-x.yielded _ c.loop-x.yielded_by _ _ c.in-Some.x c.in-Some.is c.next.ensures.steps in
    let few : length c.loop-x.yielded < 4 = omega (arith, t.0, length-take c.args.width c.args.s.now, c.requires) in
    omega (arith, c.loop-x.invariant.small, most_small _ few, c.number_in.ensures)

pub loop-x-preserved : goal.loop-x-preserved
unfolding decimal
loop-x-preserved c =
    let t = YieldsList-turn (YieldsList-from_take c.args.width (YieldsList-from_slice c.args.s.now cc) cc) c.loop-x.yielded _ c.loop-x.yielded_by _ _ c.in-Some.x c.in-Some.is c.next.ensures.steps in
    let more = length_push c.loop-x.yielded c.in-Some.x in
    let digit : c.number_in.result ≡ c.in-Some.x.now % 16 = omega (arith, c.number_in.ensures) in
    record {
      whole =
          rw (more, digit) (sym (digit_more c.loop-x.number c.args.width _ c.args.s.now _ t.0 t.1) ∙ c.loop-x.invariant.whole);
      small = rw more (omega (arith, c.loop-x.invariant.small, most_next (length c.loop-x.yielded), digit));
    }

pub returns : goal.returns
returns c =
    let t = YieldsList-end (YieldsList-from_take c.args.width (YieldsList-from_slice c.args.s.now cc) cc) c.loop-x.yielded _ c.loop-x.yielded_by _ _ c.in-None.is c.next.ensures.steps in
    sym (digits_taken c.loop-x.number c.args.width _ c.args.s.now t.1) ∙ c.loop-x.invariant.whole
