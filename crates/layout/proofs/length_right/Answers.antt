-- `length_right` meets its contract: contents are tested by the PLI, digits of PLI 10 by their count, and numbers have a length octet.
use native.Mathlib.Omega.{arith}
use mathlib.Core.Path.{◌≡◌, sym, ◌∙◌}
use mathlib.Core.Logic.{inl, inr}
use Prim.Native.Nat.{◌<◌}
use lib.Dec.{T, leb}
use lib.ListN.{length}
use Rattle.annex.specs.Allowed.{length_right}
use Rattle.annex.specs.Heads.{most_transfer_octets}
use Rattle.annex.specs.Items.{Item, held_as, contents_of}
use Rattle.annex.specs.declared.Holding.{Holding}
use Rattle.annex.specs.declared.Holding.TheVariants.{AsContents, AsDigits, AsNumber, AsGeneric}
use Rattle.annex.specs.Records.{raw_item}
use Rattle.layout.proofs.Holdings.{contents_as, length_as, held_number, number_led}
use Rattle.layout.proofs.length_right.Goals as goal

pub returns-in-AsContents : goal.returns-in-AsContents
returns-in-AsContents c =
    let i = raw_item c.args.t c.args.values.now in
    let k : AsContents ≡ held_as i = sym c.in-AsContents.is ∙ c.requires in
    rw (← length_as AsContents i k, ← contents_as AsContents i k) c.length_fits.ensures

pub returns-in-AsDigits : goal.returns-in-AsDigits
returns-in-AsDigits c =
    let i = raw_item c.args.t c.args.values.now in
    rw (← length_as _ i (sym c.in-AsDigits.is ∙ c.requires))

-- numbers have a length octet
numbers_right : (k : Holding) (i : Item) → k ≡ held_as i → i.header < 256 → T (held_number k)
    → leb (length (contents_of i)) most_transfer_octets ≡ length_right i
numbers_right AsContents i e l t = absurd t
numbers_right (AsDigits m) i e l t = absurd t
numbers_right (AsNumber w) i e l t = rw (← length_as _ i e, number_led i l (rw (← e) tt))
numbers_right AsGeneric i e l t = rw (← length_as _ i e, number_led i l (rw (← e) tt))

pub returns-in-AsNumber : goal.returns-in-AsNumber
returns-in-AsNumber c =
    let k : T (held_number c.args.held) = elim c.in-AsNumber.is [ inl w ↦ rw w.1 tt | inr e ↦ rw e tt ] in
    let i = raw_item c.args.t c.args.values.now in
    let e = contents_as c.args.held i c.requires in
    rw (c.len_as.ensures, e) (numbers_right c.args.held i c.requires (omega arith) k)
