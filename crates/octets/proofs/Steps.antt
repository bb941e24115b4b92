-- The three steps of a splice: the tail is moved, the new octets are written, and what the message left is cleared.
use mathlib.Core.Path.{◌≡◌, sym, ap, ◌∙◌}
use mathlib.Core.List.{List, ◌++◌, append_assoc}
use Prim.Native.Nat.{ℕ, ◌+◌, ◌-◌, ◌≤◌}
use native.Mathlib.Omega.{arith}
use lib.ListN.{length, take, drop, replicate, length-take, length-drop, length-replicate}
use lib.Seq.{take_at, drop_at, take-add, drop-append-add, length-take-le}
use Rattle.annex.specs.Editing.{cleared}
use Rattle.annex.specs.Memory.{put, spliced_message, spliced}
use Rattle.laws.specs.Parts.{from_to}
use Rattle.octets.specs.Put.{part, length_part}
use Rattle.octets.specs.Splice.{Fitting, length_message}

-- octets written where p ends
put_seam : (p q s : List ℕ) (at : ℕ) → length p ≡ at → put (p ++ q) at s ≡ p ++ (s ++ drop (length s) q)
unfolding put
put_seam p q s at e =
    let r : drop (at + length s) (p ++ q) ≡ drop (length s) q = rw (← e) (drop-append-add p q (length s)) in
    rw (take_at p q at e, r)

-- octets written from index to on, with what stands before them cut at from
put_cut : (d : List ℕ) (from to : ℕ) (t : List ℕ) (end : ℕ) → from ≤ to → to + length t ≡ end
    → put d to t ≡ take from d ++ (take (to - from) (drop from d) ++ (t ++ drop end d))
unfolding put
put_cut d from to t end h g =
    let e : from + (to - from) ≡ to = omega arith in
    let f : take to d ≡ take from d ++ take (to - from) (drop from d) = ap (λ (k : ℕ). take k d) (sym e) ∙ take-add from (to - from) d in
    rw (g, f, append_assoc)

pub three_steps : (d : List ℕ) (n from old : ℕ) (new : List ℕ) (tail to k end : ℕ) → Fitting d n from old new → tail ≡ from + old
    → to ≡ from + length new → k ≡ n - tail → end ≡ to + k
    → put (put (put d to (part d tail k)) from new) end (replicate (n - end) 0) ≡ spliced d n from old new
unfolding spliced part
three_steps d n from old new tail to k end fit e-tail e-to e-k e-end =
    let a : List ℕ = take from d in
    let b : List ℕ = take (to - from) (drop from d) in
    let t : List ℕ = part d tail k in
    let r : List ℕ = drop end d in
    let m : List ℕ = spliced_message d n from old new in
    let lt : length t ≡ k = length_part d tail k (omega arith) in
    let la : length a ≡ from = length-take-le from d (omega arith) in
    let lb : length b ≡ length new = simp (length-take, length-drop) (omega arith) in
    let lm : length m ≡ end = omega (arith, length_message d n from old new fit) in
    let message : m ≡ a ++ (new ++ t) = rw (← from_to (from + old) n d, e-k, e-tail) in
    let one : put d to t ≡ a ++ (b ++ (t ++ r)) = put_cut d from to t end (omega arith) (omega arith) in
    let two : put (a ++ (b ++ (t ++ r))) from new ≡ m ++ r =
    put_seam a (b ++ (t ++ r)) new from la ∙ rw (message, drop_at b (t ++ r) (length new) lb, append_assoc a, append_assoc new) in
    let three : put (m ++ r) end (replicate (n - end) 0) ≡ m ++ cleared (n - end) r =
    put_seam m r (replicate (n - end) 0) end lm ∙ rw (length-replicate {A = ℕ} (n - end) 0) in
    rw (one, two, three, lm)
