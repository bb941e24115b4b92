use Rattle.std.specs.Prelude.{Err}
use Prim.Native.Nat.{◌+◌}
use mathlib.Core.Path.{◌≡◌, refl, sym, ◌∙◌}
use mathlib.Core.Bool.{cond}
use lib.ListN.{drop}
use Rattle.annex.specs.Answers.{bad_digit, Bad}
use Rattle.digits.specs.Characters.{known_fault, known_more, known_none}
use Rattle.digits.proofs.characters.characters_fault.Goals as goal

pub loop-i-init : goal.loop-i-init
loop-i-init c = refl

pub returns-then-not-is_known : goal.returns-then-not-is_known
returns-then-not-is_known c =
    let here : (let a = c.args in
    let i = c.loop-i.i in
    known_fault a.are a.from (drop a.from a.s.now)
    ≡ cond c.is_known.result (known_fault a.are (i + 1) (drop (i + 1) a.s.now)) (Bad bad_digit i)) =
    let a = c.args in
    c.loop-i.invariant ∙ rw c.is_known.ensures (known_more a.are a.s.now c.loop-i.i c.loop-i-test.true) in
    sym (here ∙ rw c.if-not-is_known.true)

pub loop-i-preserved : goal.loop-i-preserved
loop-i-preserved c =
    let here : (let a = c.args in
    let i = c.loop-i.i in
    known_fault a.are a.from (drop a.from a.s.now)
    ≡ cond c.is_known.result (known_fault a.are (i + 1) (drop (i + 1) a.s.now)) (Bad bad_digit i)) =
    let a = c.args in
    c.loop-i.invariant ∙ rw c.is_known.ensures (known_more a.are a.s.now c.loop-i.i c.loop-i-test.true) in
    here ∙ rw c.if-not-is_known.false

pub returns : goal.returns
returns c =
    let a = c.args in
    sym (c.loop-i.invariant ∙ known_none a.are a.s.now c.loop-i.i c.loop-i-test.false)
