-- `put_at` meets its contract: where the room suffices the part of it from the index on is lent and written at its front, and else nothing.
use Prim.Native.Nat.{◌+◌, ◌≤◌}
use native.Mathlib.Omega.{arith}
use mathlib.Core.Path.{◌≡◌, sym, ◌∙◌}
use mathlib.Core.Bool.{true}
use borrow.Author.Tests.{leb-true}
use lib.Dec.{leb}
use lib.ListN.{length}
use Rattle.annex.specs.Layout.{layout_item}
use Rattle.annex.specs.Records.{raw_item}
use Rattle.laws.specs.Written.{put_part}
use Rattle.layout.proofs.put_at.Goals as goal

pub returns-then-lies_within : goal.returns-then-lies_within
returns-then-lies_within c =
    let fits : leb (c.args.at + c.args.len) (length c.args.room.now) ≡ true =
    sym c.lies_within.ensures ∙ c.if-lies_within.true in
    let within : (let a = c.args in
    a.at + a.len ≤ length a.room.now) =
    let a = c.args in
    leb-true (a.at + a.len) (length a.room.now) (fits) in
    let a = c.args in
    let xs = layout_item (raw_item a.t a.values.now) in
    rw (← c.requires.1, fits)
    (put_part a.room.now xs c.put_whole.new.room a.at (omega (arith, within)) c.put_whole.ensures)
