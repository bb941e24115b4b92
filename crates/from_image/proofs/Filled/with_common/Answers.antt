-- `with_common` meets its contract: the head of the next common parameter, and the transfer parameters behind it.
use mathlib.Core.Path.{sym, ap, ◌∙◌}
use Rattle.annex.specs.Image.{common_front}
use Rattle.laws.specs.Parts.{to_end}
use Rattle.from_image.specs.Filling.{parts_short, parts_over, parts_stop, parts_next}
use Rattle.from_image.proofs.Filled.with_common.Goals.{then-k-ge-MOST-via-then-k-ge-MOST, then-k-ge-MOST-via-else-k-ge-MOST+then-s-self-lt-COMMON_HEAD}
use Rattle.from_image.proofs.Filled.with_common.Goals as goal

pub returns-then-k-ge-MOST : goal.returns-then-k-ge-MOST
returns-then-k-ge-MOST c =
    let s = c.args.s.now in
    let f = c.args.self in
    elim c.then-k-ge-MOST.branch [
      | then-k-ge-MOST-via-then-k-ge-MOST w ↦ parts_over f s w.if-k-ge-MOST.true
      | then-k-ge-MOST-via-else-k-ge-MOST+then-s-self-lt-COMMON_HEAD w ↦ parts_short f s w.if-s-self-lt-COMMON_HEAD.true
    ]

pub returns-in_err-filled : goal.returns-in_err-filled
returns-in_err-filled c =
    let s = c.args.s.now in
    let f = c.args.self in
    rw c.from_residual.ensures
    (parts_stop f s c.common_head-c.result c.if-s-self-lt-COMMON_HEAD.false
    (c.common_head-c.ensures ∙ ap common_front (to_end f.octets s)) (sym c.in_err-filled.was ∙ c.with_transfers.ensures))

pub returns : goal.returns
returns c =
    let s = c.args.s.now in
    let f = c.args.self in
    parts_next f s c.common_head-c.result c.if-s-self-lt-COMMON_HEAD.false
    (c.common_head-c.ensures ∙ ap common_front (to_end f.octets s)) c.if-k-ge-MOST.false c.in_ok-filled.filled
    (sym c.in_ok-filled.was ∙ c.with_transfers.ensures)
