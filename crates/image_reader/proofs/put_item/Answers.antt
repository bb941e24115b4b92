-- `put_item` meets its contract: the values have room behind the place of the head, and the head is stored before them.
use Prim.Native.Nat.{◌+◌}
use native.Mathlib.Omega.{arith}
use mathlib.Core.Path.{◌≡◌, ap, ◌∙◌}
use lib.ListN.{length}
use lib.Seq.{sets, length-sets}
use Rattle.annex.specs.Items.{item_of}
use Rattle.annex.specs.Records.{head_of}
use Rattle.annex.specs.Image.{image_head, image_item, octets_to_a_transfer_head}
use Rattle.annex.specs.declared.Transfer.{Transfer}
use Rattle.laws.specs.Runs.{sets_before}
use Rattle.theorems.specs.Images.{length-item}
use Rattle.parameter.specs.Opening.{opened_fitting}
use Rattle.image_reader.proofs.put_item.Goals as goal

pub put_transfer-requires : goal.put_transfer-requires
put_transfer-requires c =
    let i = item_of c.args.header c.args.contents.now in
    let out = c.args.out.now in
    let from = c.args.at + octets_to_a_transfer_head in
    let l = length-item i in
    let f = opened_fitting i from out (record { few = c.requires.1; within = omega (arith, c.requires.0) }) in
    let e : c.open-t.new.values ≡ sets out from i.values = c.open-t.ensures.put ∙ f.1 in
    rw (e, length-sets out from i.values) (omega (arith, c.requires.0))

pub returns : goal.returns
unfolding image_item
returns c =
    let i = item_of c.args.header c.args.contents.now in
    let out = c.args.out.now in
    let from = c.args.at + octets_to_a_transfer_head in
    let l = length-item i in
    let f = opened_fitting i from out (record { few = c.requires.1; within = omega (arith, c.requires.0) }) in
    let t : c.open-t.result ≡ head_of i = c.open-t.ensures.head ∙ f.0 in
    let e : c.open-t.new.values ≡ sets out from i.values = c.open-t.ensures.put ∙ f.1 in
    let n : c.open-t.result.len ≡ length i.values = ap (λ (h : Transfer). h.len) t in
    record {
      ends = omega (arith, n);
      put = c.put_transfer.ensures ∙ rw (t, e) (sets_before (image_head (head_of i)) i.values out c.args.at);
    }
