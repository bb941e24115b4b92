-- What the library's copies write is what `put` says.
use mathlib.Core.Path.{◌≡◌, sym, ap, ◌∙◌}
use mathlib.Core.List.{List, ◌++◌, append_assoc}
use Prim.Native.Nat.{ℕ, ◌+◌, ◌-◌, ◌≤◌, ◌<◌}
use native.Mathlib.Omega.{arith}
use lib.ListN.{length, take, drop, length-take, length-drop, length-append}
use lib.Seq.{paste, take-add}
use Rattle.std.proofs.Common.{inl, inr}
use Rattle.std.proofs.lemmas.Bool.{cases_lt}
use Rattle.std.proofs.lemmas.List.{drop-drop}
use Rattle.std.proofs.lemmas.List.Edits.{take-paste, drop-paste, paste_none}
use borrow.Rule.Slice.PartMut.{put_mid}
use Rattle.annex.specs.Memory.{put}
use Rattle.octets.specs.Put.{part, length_part}

-- a part of a slice written anew
pub mid_put : (a k : ℕ) (d s : List ℕ) → k ≡ length s → put_mid a k d s ≡ put d a s
unfolding put
mid_put a k d s e = rw (e, drop-drop)

-- a part of a slice moved within it
pub paste_put : (d : List ℕ) (to from k : ℕ) → from + k ≤ length d → paste d to (drop from d) k ≡ put d to (part d from k)
unfolding put part
paste_put d to from k h =
    append_assoc (take to d) (take k (drop from d)) (drop (to + k) d)
    ∙ ap (λ (n : ℕ). take to d ++ (take k (drop from d) ++ drop (to + n) d)) (sym (length_part d from k h))

-- the length stays
pub length_put : (d : List ℕ) (at : ℕ) (s : List ℕ) → at + length s ≤ length d → length (put d at s) ≡ length d
unfolding put
length_put d at s h = simp (length-append, length-take, length-drop) (omega arith)

-- a part moved in two, cut at mid, the first one first: the whole is moved, where it goes down, so that what is moved first lies over
-- nothing that is left to move
moved_down : (d : List ℕ) (to from mid end : ℕ) (x y : List ℕ) → x ≡ paste d to (drop from d) (mid - from)
    → y ≡ paste x (to + (mid - from)) (drop mid x) (end - mid) → from ≤ mid → mid ≤ end → end ≤ length d → to ≤ from
    → y ≡ put d to (part d from (end - from))
moved_down d to from mid end x y first second f m fits l =
    let s = drop from d in
    let h = mid - from in
    let long : h ≤ length s = simp length-drop (omega arith) in
    let front : take (to + h) x ≡ take to d ++ take h s = ap (take (to + h)) first ∙ take-paste d to s h (omega arith) long in
    let past : drop (to + h) x ≡ drop (to + h) d = ap (drop (to + h)) first ∙ drop-paste d to s h (omega arith) long in
    let a : mid ≡ to + h + (from - to) = omega arith in
    let b : h + (end - mid) ≡ end - from = omega arith in
    let e : to + h + (end - mid) ≡ to + (end - from) = omega arith in
    let g : from + h ≡ mid = omega arith in
    let last : drop mid x ≡ drop h s =
    ap (λ (n : ℕ). drop n x) a ∙ sym (drop-drop (from - to) (to + h) x) ∙ ap (drop (from - to)) past ∙ drop-drop (from - to) (to + h) d
    ∙ ap (λ (n : ℕ). drop n d) (sym a ∙ sym g) ∙ sym (drop-drop h from d) in
    let moved : take (to + h) x ++ take (end - mid) (drop h s) ≡ take to d ++ take (end - from) s =
    ap (λ (y : List ℕ). y ++ take (end - mid) (drop h s)) front ∙ append_assoc (take to d) (take h s) (take (end - mid) (drop h s))
    ∙ ap (λ (y : List ℕ). take to d ++ y) (sym (take-add h (end - mid) s) ∙ ap (λ (n : ℕ). take n s) b) in
    let rest : drop (to + h + (end - mid)) x ≡ drop (to + (end - from)) d =
    sym (drop-drop (end - mid) (to + h) x) ∙ ap (drop (end - mid)) past ∙ drop-drop (end - mid) (to + h) d ∙ ap (λ (n : ℕ). drop n d) e in
    second ∙ ap (λ (z : List ℕ). paste x (to + h) z (end - mid)) last ∙ ap (λ (y : List ℕ). y ++ drop (to + h + (end - mid)) x) moved
    ∙ ap (λ (y : List ℕ). (take to d ++ take (end - from) s) ++ y) rest ∙ paste_put d to from (end - from) (omega arith)

-- and where the first one is none, that is all that is moved
nothing_first : (d : List ℕ) (to from mid end : ℕ) (x y : List ℕ) → mid ≡ from → x ≡ paste d to (drop from d) (mid - from)
    → y ≡ paste x (to + (mid - from)) (drop mid x) (end - mid) → from ≤ end → end ≤ length d → y ≡ put d to (part d from (end - from))
nothing_first d to from mid end x y e first second f fits =
    let z : mid - from ≡ 0 = omega arith in
    let t : to + (mid - from) ≡ to = omega arith in
    let same : x ≡ d = first ∙ ap (paste d to (drop from d)) z ∙ sym (paste_none d to (drop from d)) in
    second ∙ rw (same, t, e) (paste_put d to from (end - from) (omega arith))

-- either. The edit that moves a tail the wrong way goes by it
pub first_then_last : (d : List ℕ) (to from mid end : ℕ) (x y : List ℕ) → x ≡ paste d to (drop from d) (mid - from)
    → y ≡ paste x (to + (mid - from)) (drop mid x) (end - mid) → from ≤ mid → mid ≤ end → end ≤ length d → (from < mid → to ≤ from)
    → y ≡ put d to (part d from (end - from))
first_then_last d to from mid end x y first second f m fits g =
    elim (cases_lt from mid) [
      | inl l ↦ moved_down d to from mid end x y first second f m fits (g l)
      | inr l ↦ nothing_first d to from mid end x y (omega (arith, l, f)) first second (omega arith) fits
    ]
