-- `parts_refusal` meets its contract. The invariant: the answer of the whole is the answer of the common parameters that are left, from the
-- place `at`, with what has been seen; their transfer parameters start at the place `first`.
use Prim.Native.Nat.{◌+◌, ◌*◌, ◌≤◌}
use mathlib.Core.Path.{◌≡◌}
use Rattle.annex.specs.Records.{transfers_sum, commons_in, view}
use Rattle.annex.specs.Walk.{unseen}
use Rattle.annex.specs.Writing.{parts_writing}
use Rattle.limits.specs.Along.{parts_at, transfers_at}
use Rattle.refusing.proofs.parts_refusal.Given as goal

abbrev pub invariant-loop-c : goal.invariant-loop-c
invariant-loop-c l =
    let q = l.fn.q in
    (l.at ≤ 257 * l.c-index) ×
    (l.first + transfers_at q l.c-index ≡ transfers_sum (commons_in q)) ×
    (parts_writing unseen 0 (view q) ≡ parts_writing l.seen.0 l.at (parts_at q l.c-index l.first))
