-- `refusal` meets its contract: the parameter is judged by what the look-up says.
use Rattle.annex.specs.Records.{raw_item}
use Rattle.laws.specs.Laid.{own_writing}
use Rattle.layout.proofs.Holdings.{held_of}
use Rattle.layout.proofs.refusal.Goals as goal

pub judged-requires : goal.judged-requires
judged-requires c =
    (c.head_of-asked.ensures, held_of c.args.t.header c.head_of-asked.result c.head_of-asked.ensures _ _ c.held_by-held.ensures)

pub returns : goal.returns
returns c =
    let a = c.args in
    rw (own_writing (raw_item a.t a.values.now) a.times 0) c.judged.ensures
