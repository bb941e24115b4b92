-- `write` meets its contract: what is accepted is laid out, and for that its numbers are octets; else the room stays.
use native.Mathlib.Omega.{arith}
use mathlib.Core.Path.{◌≡◌, sym, ◌∙◌}
use mathlib.Core.List.{◌++◌}
use borrow.Author.Tests.{lt-ltb}
use lib.ListN.{length, drop}
use Rattle.annex.specs.Layout.{layout}
use Rattle.annex.specs.Records.{view}
use Rattle.annex.specs.Writing.{struct_writing, writing_of, written_of}
use Rattle.annex.specs.Memory.{at_front}
use Rattle.annex.specs.Answers.{Accepted}
use Rattle.laws.specs.Written.{low_octets_lem}
use Rattle.theorems.specs.Writings.{StructWritten, struct_written, with_room, room_after_lem}
use Rattle.laws.specs.Passed.{passed_on}
use Rattle.limits.specs.Limits.{told_whole}
use Rattle.limits.specs.Typed.{fits_struct}
use Rattle.writer.proofs.write.Goals as goal

pub returns-in_err-n : goal.returns-in_err-n
unfolding writing_of written_of
returns-in_err-n c =
    let e = sym c.record_refusal.ensures ∙ c.in_err-n.was in
    let gone = passed_on c.from_residual.result c.in_err-n.field-0.0 c.from_residual.ensures.1 in
    (gone ∙ sym (rw e), rw e)

pub returns-then-room-n : goal.returns-then-room-n
unfolding writing_of written_of
returns-then-room-n c =
    let accepted : struct_writing c.args.held ≡ Accepted c.in_ok-n.n =
    sym c.record_refusal.ensures ∙ c.in_ok-n.was in
    let e = accepted in
    let l = lt-ltb _ _ c.if-room-n.true in
    (rw (e, l), rw (e, l))

pub returns : goal.returns
returns c =
    let accepted : struct_writing c.args.held ≡ Accepted c.in_ok-n.n =
    sym c.record_refusal.ensures ∙ c.in_ok-n.was in
    let written : StructWritten c.args.held c.in_ok-n.n =
    struct_written _ (fits_struct c.args.held _ c.well_formed.0) _ (accepted) in
    let a = c.args in
    let w = written in
    let room = a.room.now in
    let laid = layout (view a.held) in
    let e = accepted in
    let f : at_front laid room ≡ laid ++ drop c.in_ok-n.n room = rw (low_octets_lem laid w.octets, w.length-given) in (
      sym (with_room a.held _ e (length room) c.if-room-n.false),
      c.put_parts.ensures ∙ f
          ∙ sym (room_after_lem a.held _ e room c.if-room-n.false),
    )

pub put_parts-requires : goal.put_parts-requires
put_parts-requires c =
    let accepted : struct_writing c.args.held ≡ Accepted c.in_ok-n.n =
    sym c.record_refusal.ensures ∙ c.in_ok-n.was in
    let written : StructWritten c.args.held c.in_ok-n.n =
    struct_written _ (fits_struct c.args.held _ c.well_formed.0) _ (accepted) in
    let w = written in
    (told_whole _ w.whole, omega (arith, w.length-given, c.if-room-n.false))
