-- `write` meets its contract: the draft has room for any message, and what writing gave in it is handed out.
use mathlib.Core.Path.{◌≡◌, refl}
use borrow.Author.Rules.{rules}
use lib.ListN.{length}
use Rattle.annex.specs.Heads.{most_octets}
use Rattle.limits.specs.Typed.{fits_struct}
use Rattle.theorems.specs.Views.{view_held}
use Rattle.profile.specs.Answering.{write_within, write_handed}
use Rattle.profile.proofs.writing.write.Goals as goal

pub hand_out-requires : goal.hand_out-requires
hand_out-requires c =
    let l : length c.write-a.new.room ≡ most_octets = search rules in
    rw l (write_within _ refl _ _ _ (view_held c.args.held (fits_struct c.args.held _ c.well_formed.0)) c.write-a.ensures)

pub returns : goal.returns
returns c =
    write_handed _ refl _ _ _ (view_held c.args.held (fits_struct c.args.held _ c.well_formed.0)) c.write-a.ensures _ _ _ c.hand_out.ensures
