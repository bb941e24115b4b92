-- `put_items` meets its contract. The invariant is `Laid`: the parameters that the loop has been handed stand at the front of the room.
use lib.ListN.{length, drop}
use Rattle.annex.specs.Layout.{layout_items}
use Rattle.annex.specs.Records.{held_at}
use Rattle.limits.specs.Held.{items_held}
use Rattle.laws.specs.Rooms.{Laid}
use Rattle.writer.proofs.put_items.Given as goal

abbrev pub invariant-loop-t : goal.invariant-loop-t
invariant-loop-t l =
    let all = held_at l.fn.q l.fn.first l.fn.n in
    Laid l.initial.room l.room (layout_items (items_held all)) (layout_items (items_held (drop (length l.yielded) all))) l.at
