-- `put` meets its contract: where the room suffices all of the parameter is written, and else nothing.
use Rattle.annex.specs.Records.{raw_item}
use Rattle.laws.specs.Laid.{own_layout}
use Rattle.layout.proofs.put.Goals as goal

pub returns-else-fits : goal.returns-else-fits
returns-else-fits c =
    let a = c.args in
    let e = c.if-fits.false in
    (rw (own_layout (raw_item a.t a.values.now)) c.fits_in-fits.ensures, rw e)

pub returns-then-fits : goal.returns-then-fits
returns-then-fits c =
    let a = c.args in
    let o = own_layout (raw_item a.t a.values.now) in
    let t = c.if-fits.true in
    (rw o c.fits_in-fits.ensures, rw (t, o) c.put_whole.ensures)
