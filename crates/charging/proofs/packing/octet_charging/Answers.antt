-- `octet_charging` meets its contract: the answer decides, and its octets are copied to the front where they fit.
use mathlib.Core.Path.{◌≡◌, sym, ◌∙◌}
use lib.ListN.{length}
use Rattle.std.proofs.Common.{leb-true, leb-false}
use Rattle.annex.specs.Charging.{charging_of, charge_octets}
use Rattle.annex.specs.Answers.{Is}
use Rattle.laws.specs.Fronts.{front_all}
use Rattle.laws.specs.Passed.{passed_on}
use Rattle.octets.specs.Copied.{copied_into}
use Rattle.charging.specs.Answering.{octets_refused, octets_short, octets_done}
use Rattle.charging.proofs.packing.octet_charging.Goals as goal

pub returns-in_err-charging : goal.returns-in_err-charging
returns-in_err-charging c =
    let r = c.in_err-charging.field-0.0 in
    let o = octets_refused c.args.m.now c.args.room.now r.0 r.1 (sym c.charging.ensures ∙ c.in_err-charging.was) in
    (passed_on c.from_residual.result r c.from_residual.ensures.1 ∙ o.0, o.1)

pub returns-then-not-copy_in : goal.returns-then-not-copy_in
returns-then-not-copy_in c =
    let room = c.args.room.now in
    let told : charging_of c.args.m.now ≡ Is c.in_ok-charging.field-0 = sym c.charging.ensures ∙ c.in_ok-charging.was in
    let g = rw c.octets_of-octets.ensures at c.copy_in.ensures in
    let b = sym g.0 ∙ c.if-not-copy_in.true in
    let d = octets_short c.args.m.now room _ told (leb-false 23 (length room) b) in
    (d.0, rw c.if-not-copy_in.true at g.1 ∙ d.1)

pub returns : goal.returns
returns c =
    let room = c.args.room.now in
    let told : charging_of c.args.m.now ≡ Is c.in_ok-charging.field-0 = sym c.charging.ensures ∙ c.in_ok-charging.was in
    let xs = charge_octets c.in_ok-charging.field-0 in
    let g = rw c.octets_of-octets.ensures at c.copy_in.ensures in
    let fits = leb-true 23 (length room) (sym g.0 ∙ c.if-not-copy_in.false) in
    let d = octets_done c.args.m.now room _ told fits in
    let s = copied_into room 0 xs c.copy_in.new.d c.copy_in.result fits g in
    (d.0, s ∙ (front_all room xs fits ∙ d.1))
