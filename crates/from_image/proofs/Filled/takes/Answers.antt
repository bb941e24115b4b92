-- `takes` meets its contract: where the octets and the values have room, the place decides.
use Prim.Native.Nat.{◌+◌, ◌-◌}
use native.Mathlib.Omega.{arith}
use mathlib.Core.Path.{◌≡◌, refl, sym, ap, ◌∙◌}
use mathlib.Core.Bool.{Bool, true, false, ◌&&◌}
use borrow.Author.Tests.{leb-true, le-leb}
use Rattle.std.proofs.lemmas.Bool.{false≢true}
use lib.Dec.{leb, ltb}
use Rattle.std.proofs.lemmas.Bool.Decides.{leb_tells}
use lib.ListN.{length}
use Rattle.annex.specs.Heads.{most_transfers, most_values}
use Rattle.annex.specs.Image.{head_front, item_size}
use Rattle.annex.specs.declared.Transfer.{Transfer}
use Rattle.from_image.specs.Filling.{fits_at}
use Rattle.from_image.proofs.Filled.takes.Goals.{then-is_whole, else-is_whole}
use Rattle.from_image.proofs.Filled.takes.Goals as goal

and_true : (b : Bool) → b && true ≡ b
and_true true = refl
and_true false = refl

pub returns-then-transfer_head-self : goal.returns-then-transfer_head-self
returns-then-transfer_head-self c =
    let s = c.args.s.now in
    let f = c.args.self.now in
    elim c.if-is_whole.branch [
      | then-is_whole w ↦
          let whole : leb (item_size s) (length s) ≡ true = sym c.is_whole.ensures ∙ w.if-is_whole.true in
          let len_is = ap (λ (t : Transfer). t.len) w.transfer_head.ensures in
          let fits : leb w.transfer_head.result.len (most_values - f.used) ≡ true = sym w.value-is ∙ c.if-transfer_head-self.true in
          let room = leb-true w.transfer_head.result.len (most_values - f.used) fits in
          let all : fits_at s f.transfers f.used ≡ ltb f.transfers most_transfers =
          rw (whole, le-leb (f.used + (head_front s).len) most_values (omega (arith, len_is))) (and_true (ltb f.transfers most_transfers)) in
          grind (arith, leb_tells) ∙ sym all
      | else-is_whole w ↦ absurd (false≢true (sym w.if-is_whole.false ∙ sym w.value-is ∙ c.if-transfer_head-self.true))
    ]
