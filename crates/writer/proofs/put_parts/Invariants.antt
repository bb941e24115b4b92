-- `put_parts` meets its contract. The invariant is `Laid`: the common parameters before the k-th stand at the front of the room; the transfer
-- parameters of those behind start at the place `first`.
use Prim.Native.Nat.{◌+◌}
use mathlib.Core.Path.{◌≡◌}
use Rattle.annex.specs.Layout.{layout}
use Rattle.annex.specs.Records.{transfers_sum, commons_in, view}
use Rattle.limits.specs.Along.{parts_at, transfers_at}
use Rattle.laws.specs.Rooms.{Laid}
use Rattle.writer.proofs.put_parts.Given as goal

abbrev pub invariant-loop-c : goal.invariant-loop-c
invariant-loop-c l =
    let q = l.fn.q in
    (l.first + transfers_at q l.c-index ≡ transfers_sum (commons_in q)) ×
    Laid l.initial.room l.room (layout (view q)) (layout (parts_at q l.c-index l.first)) l.at
