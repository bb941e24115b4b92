-- `contents_len` meets its contract: the values are held as the header says.
use Rattle.annex.specs.Records.{raw_item}
use Rattle.laws.specs.Laid.{own_contents_lem}
use Rattle.layout.proofs.Holdings.{contents_as}
use Rattle.layout.proofs.contents_len.Goals as goal

pub returns : goal.returns
returns c =
    let a = c.args in
    let i = raw_item a.t a.values.now in
    rw (own_contents_lem i, ← contents_as c.held_as.result i c.held_as.ensures) c.len_as.ensures
