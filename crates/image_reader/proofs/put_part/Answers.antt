-- `put_part` meets its contract: the transfer parameters of a C5 are stored behind the place of the head, and the head before them.
use native.Mathlib.Omega.{arith}
use mathlib.Core.Path.{◌≡◌, ap, ◌∙◌}
use mathlib.Core.List.{[]}
use borrow.Author.Tests.{eq-eqb, ne_eqb}
use Prim.Native.Nat.{◌+◌}
use lib.ListN.{length}
use Rattle.annex.specs.Image.{image_items, octets_to_a_common_head}
use Rattle.annex.specs.Opening.{part_head}
use Rattle.laws.specs.Runs.{puts_none}
use Rattle.reader.specs.Filling.{items_from}
use Rattle.image_reader.specs.declared.Laid.{Laid}
use Rattle.image_reader.specs.Laying.{items_under, part_put}
use Rattle.image_reader.proofs.put_part.Goals.{then-header-eq-TRANSFER_DATA, else-header-eq-TRANSFER_DATA}
use Rattle.image_reader.proofs.put_part.Goals as goal

pub put_items-laid-requires : goal.put_items-laid-requires
put_items-laid-requires c =
    let held : items_under c.args.header c.args.contents.now ≡ items_from c.args.contents.now =
    rw (eq-eqb _ _ c.if-header-eq-TRANSFER_DATA.true) in
    (omega (arith, rw held at c.requires.0), rw held at c.requires.1, rw held at c.requires.2)

pub returns : goal.returns
unfolding image_items
returns c =
    let a = c.args in
    let x = c.if-header-eq-TRANSFER_DATA in
    elim x.branch [
      | then-header-eq-TRANSFER_DATA w ↦
          let is = items_from a.contents.now in
          let held : items_under a.header a.contents.now ≡ is = rw (eq-eqb _ _ w.if-header-eq-TRANSFER_DATA.true) in
          let count : x.laid.count ≡ length is = ap (λ (l : Laid). l.count) w.laid-is ∙ w.put_items-laid.ensures.0 in
          let head : c.part_head.result ≡ part_head a.header a.own.now (length is) = c.part_head.ensures ∙ ap (part_head a.header a.own.now) count in
          part_put a.header a.own.now a.contents.now a.at a.out.now x.out _ _ is c.part_head.result held (rw (w.laid-is, w.out-is) w.put_items-laid.ensures.1) head c.put_common.ensures
      | else-header-eq-TRANSFER_DATA w ↦
          part_put a.header a.own.now a.contents.now a.at a.out.now x.out _ _ [] c.part_head.result
          (rw (ne_eqb _ _ w.if-header-eq-TRANSFER_DATA.false)) (rw (w.laid-is, w.out-is) (puts_none (a.at + octets_to_a_common_head) a.out.now))
          (c.part_head.ensures ∙ rw w.laid-is) c.put_common.ensures
    ]
