-- `open_contents` meets its contract: the values are the octets themselves.
use Rattle.std.specs.Prelude.{not, length}
use Rattle.std.proofs.Common.{refl, ap, ◌∙◌}
use Rattle.annex.specs.Items.{plain_item}
use Rattle.octets.specs.Copied.{copied_into}
use Rattle.parameter.specs.Opening.{with_room, room_left}
use Rattle.parameter.proofs.opening.open_contents.Goals as goal

pub returns-clause-put : goal.returns-clause-put
returns-clause-put c =
    let a = c.args in
    let f = c.has_room in
    let i = plain_item a.header a.s.now in
    let fitting = room_left (length a.values.now) a.used (length a.s.now) f.result f.ensures (ap not c.if-not-has_room.false) in
    let w = with_room i a.used (length a.s.now) a.values.now f.result refl f.ensures (ap not c.if-not-has_room.false) in
    let v =
    copied_into a.values.now a.used a.s.now c.copy_in.new.d c.copy_in.result fitting.within
    c.copy_in.ensures in
    v ∙ w.1
