-- `drawn_fault` meets its contract: the first octet behind the kind by itself, and then characters.
use Rattle.std.proofs.Common.{◌∙◌, sym}
use Rattle.rates.specs.Asked.{characters_known, behind_none, behind_fault}
use Rattle.rates.proofs.judging.drawn_fault.Goals as goal

pub returns-in_default : goal.returns-in_default
returns-in_default c = sym (behind_none c.args.first c.args.s.now c.in_default.ensures.lookup.3).0

pub returns-then-not-is_right : goal.returns-then-not-is_right
returns-then-not-is_right c =
    let a = c.args in
    let so = behind_fault a.first a.s.now _ (c.in-Some.ensures.lookup.3.1 0) c.in-Some.ensures.lookup.3.0 in
    sym (so ∙ rw (← c.is_right.ensures, c.if-not-is_right.true))

pub returns : goal.returns
returns c =
    let a = c.args in
    let so = behind_fault a.first a.s.now _ (c.in-Some.ensures.lookup.3.1 0) c.in-Some.ensures.lookup.3.0 in
    c.characters_fault.ensures ∙ sym (so ∙ rw (← c.is_right.ensures, c.if-not-is_right.false) (characters_known 3 _))
