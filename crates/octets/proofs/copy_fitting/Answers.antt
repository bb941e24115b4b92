use native.Mathlib.Numerals.{add-one}
use native.Mathlib.Omega.{arith}
use mathlib.Core.Path.{◌≡◌}
use mathlib.Core.List.{append_assoc}
use lib.ListN.{length}
use lib.Seq.{paste-suc, take_all}
use Rattle.std.proofs.lemmas.List.Edits.{paste_none}
use Rattle.annex.specs.Memory.{put}
use Rattle.octets.proofs.copy_fitting.Goals as goal

pub loop-i-init : goal.loop-i-init
loop-i-init c = paste_none c.args.d.now c.args.at c.args.s.now

pub loop-i-preserved : goal.loop-i-preserved
loop-i-preserved c =
    let a = c.args in
    let i = c.loop-i.i in
    rw (add-one i, c.loop-i.invariant) (paste-suc a.d.now a.at a.s.now i 0 (omega arith) (omega arith))

pub returns : goal.returns
unfolding put
returns c =
    let s = c.args.s.now in
    let i : c.loop-i.i ≡ length s = omega arith in
    rw (c.loop-i.invariant, i, take_all (length s) s (omega arith), append_assoc)
