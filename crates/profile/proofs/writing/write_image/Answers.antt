-- `write_image` meets its contract: the draft has room for any message, and what writing gave in it is handed out.
use native.Mathlib.Omega.{arith}
use mathlib.Core.Path.{◌≡◌, refl}
use mathlib.Core.Bool.{true}
use borrow.Author.Rules.{rules}
use lib.ListN.{length}
use Rattle.annex.specs.Heads.{most_octets}
use Rattle.annex.specs.Allowed.{every, is_octet}
use Rattle.laws.specs.Written.{octets_every}
use Rattle.profile.specs.Answering.{image_within, image_handed}
use Rattle.profile.proofs.writing.write_image.Goals as goal

pub hand_out-requires : goal.hand_out-requires
hand_out-requires c =
    let octets : every is_octet c.args.image.now ≡ true =
    octets_every c.args.image.now (λ i. omega (arith, c.type_inv.image i)) in
    let l : length c.write_image-a.new.room ≡ most_octets = search rules in
    rw l (image_within _ refl _ _ _ octets c.write_image-a.ensures)

pub returns : goal.returns
returns c =
    let octets : every is_octet c.args.image.now ≡ true =
    octets_every c.args.image.now (λ i. omega (arith, c.type_inv.image i)) in
    image_handed _ refl _ _ _ octets c.write_image-a.ensures _ _ _ c.hand_out.ensures
