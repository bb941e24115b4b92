-- `put_common` meets its contract: the transfer parameters of a C5 are put in, and then its head.
use Prim.Native.Nat.{◌-◌}
use native.Mathlib.Omega.{arith}
use mathlib.Core.Path.{◌≡◌, sym, ap, ◌∙◌}
use lib.ListN.{length}
use borrow.Author.Tests.{eq-eqb, ne_eqb}
use Rattle.annex.specs.Opening.{part_head}
use Rattle.reader.specs.Filling.{items_under, filled_with, filled_end, with_head}
use Rattle.reader.specs.declared.reading.Filled.{Filled}
use Rattle.reader.proofs.reading.Filled.put_common.Goals.{then-header-eq-TRANSFER_DATA, else-header-eq-TRANSFER_DATA}
use Rattle.reader.proofs.reading.Filled.put_common.Goals as goal

pub returns : goal.returns
returns c =
    let f = c.args.self.now in
    let h = c.args.header in
    let own = c.args.own.now in
    let is = items_under h c.args.contents.now in
    let j = c.if-header-eq-TRANSFER_DATA in
    let same : j.self ≡ filled_with f.held is f.transfers f.used =
    elim j.branch [
      | then-header-eq-TRANSFER_DATA w ↦ w.self-is ∙ w.put_transfers.ensures ∙ rw (eq-eqb _ _ w.if-header-eq-TRANSFER_DATA.true)
      | else-header-eq-TRANSFER_DATA w ↦
          w.self-is ∙ sym (filled_end f.held is f.transfers f.used (rw (ne_eqb _ _ w.if-header-eq-TRANSFER_DATA.false)))
    ] in
    let transfers = ap (λ (g : Filled). g.transfers) same in
    let count : j.self.transfers - f.transfers ≡ length is = omega arith in
    let head : c.part_head.result ≡ part_head h own (length is) = c.part_head.ensures ∙ ap (part_head h own) count in
    rw head (ap (λ (g : Filled). with_head g (part_head h own (length is))) same)
