-- `lay` meets its contract: the parameter is judged by what the look-up says, and an accepted one is as long as it is laid out.
use native.Mathlib.Omega.{arith}
use mathlib.Core.Path.{◌≡◌, sym, ◌∙◌}
use Rattle.annex.specs.Records.{raw_item}
use Rattle.annex.specs.Writing.{item_writing}
use Rattle.annex.specs.Answers.{Accepted}
use Rattle.laws.specs.Laid.{own_writing, own_layout}
use Rattle.laws.specs.Passed.{passed_on}
use Rattle.theorems.specs.Writings.{item_written}
use Rattle.layout.proofs.Holdings.{held_of}
use Rattle.layout.proofs.lay.Goals as goal

pub judged-requires : goal.judged-requires
judged-requires c =
    let a = c.args in
    (c.head_of-asked.ensures, held_of a.t.header c.head_of-asked.result c.head_of-asked.ensures _ _ c.held_by-held.ensures)

pub returns-in_err-len : goal.returns-in_err-len
returns-in_err-len c =
    let a = c.args in
    let i = raw_item a.t a.values.now in
    let e = sym c.judged.ensures ∙ c.in_err-len.was in
    let gone = passed_on c.from_residual.result c.in_err-len.field-0.0 c.from_residual.ensures.1 in
    record {
      told = rw (own_writing i a.times 0) (gone ∙ sym e);
      put = rw (own_writing i a.times 0, e);
    }

pub put_at-requires : goal.put_at-requires
put_at-requires c =
    let taken : (let a = c.args in
    item_writing a.times 0 (raw_item a.t a.values.now) ≡ Accepted c.in_ok-len.len) =
    sym c.judged.ensures ∙ c.in_ok-len.was in
    let a = c.args in (
      held_of a.t.header c.head_of-asked.result c.head_of-asked.ensures _ _ c.held_by-held.ensures,
      omega (arith, (item_written a.times 0 (raw_item a.t a.values.now) _ (taken)).behind),
    )

pub returns : goal.returns
returns c =
    let taken : (let a = c.args in
    item_writing a.times 0 (raw_item a.t a.values.now) ≡ Accepted c.in_ok-len.len) =
    sym c.judged.ensures ∙ c.in_ok-len.was in
    let a = c.args in
    let i = raw_item a.t a.values.now in
    record {
      told = rw (own_writing i a.times 0, taken);
      put = rw (own_writing i a.times 0, taken, own_layout i) c.put_at.ensures;
    }
