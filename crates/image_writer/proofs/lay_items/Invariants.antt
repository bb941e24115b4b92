-- `lay_items` meets its contract. The invariant: what serves for the transfer parameters left from i on, behind what stands in the draft,
-- serves for all.
use Prim.Native.Nat.{ℕ, ◌≤◌, ◌+◌, ◌-◌, ◌*◌}
use mathlib.Core.Path.{◌≡◌}
use mathlib.Core.List.{List}
use lib.ListN.{length, take, drop}
use Rattle.annex.specs.Walk.{unseen}
use Rattle.annex.specs.Image.{items_front}
use Rattle.annex.specs.Answers.{Answer}
use Rattle.image_writer.specs.Walked.{ItemsServed}
use Rattle.image_writer.proofs.lay_items.Given as goal

abbrev pub invariant-loop : goal.invariant-loop
invariant-loop l =
    (l.i ≤ length l.s) ×
    (l.at ≤ l.start + 257 * l.counter) ×
    (length l.draft ≡ length l.initial.draft) ×
    ((a : Answer) (end : ℕ) (d : List ℕ) → length d ≡ length l.initial.draft
    → ItemsServed l.seen.0 l.at l.i (take l.at l.draft) (items_front (l.count - l.counter) (drop l.i l.s)) a end d
    → ItemsServed unseen l.start 0 (take l.start l.initial.draft) (items_front l.count l.s) a end d)
