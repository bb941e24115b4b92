-- `items_refusal` meets its contract. The invariant: the answer of the whole is the answer of the parameters that are left, from the place
-- `at`, with what has been seen.
use Prim.Native.Nat.{◌+◌, ◌*◌, ◌≤◌}
use mathlib.Core.Path.{◌≡◌}
use lib.ListN.{length, drop}
use Rattle.annex.specs.Walk.{unseen}
use Rattle.annex.specs.Writing.{items_writing}
use Rattle.annex.specs.Records.{held_at}
use Rattle.limits.specs.Held.{items_held}
use Rattle.refusing.proofs.items_refusal.Given as goal

abbrev pub invariant-loop-t : goal.invariant-loop-t
invariant-loop-t l =
    let a = l.fn in
    let all = held_at a.q a.first a.n in
    (l.at ≤ a.start + 257 * length l.yielded) ×
    (items_writing unseen a.start (items_held all) ≡ items_writing l.seen.0 l.at (items_held (drop (length l.yielded) all)))
