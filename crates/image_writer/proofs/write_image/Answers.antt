-- `write_image` meets its contract: what the walk gave is writing's answer where the image is a whole record within the limits, and where
-- it accepts, the image is one.
use Prim.Native.Nat.{ℕ, ◌≤◌, ◌<◌, ◌-◌}
use native.Mathlib.Omega.{arith}
use mathlib.Core.Path.{◌≡◌, refl, sym, ap, subst, ◌∙◌}
use mathlib.Core.List.{List, []}
use mathlib.Core.Bool.{Bool, true}
use borrow.Author.Rules.{rules}
use lib.ListN.{length, get_or, take, drop}
use lib.Seq.{length-take-le}
use Rattle.annex.specs.Heads.{most_octets}
use Rattle.annex.specs.Allowed.{every, is_octet}
use Rattle.annex.specs.Image.{parts_front}
use Rattle.annex.specs.Walk.{unseen}
use Rattle.annex.specs.Answers.{Answer, Accepted}
use Rattle.laws.specs.Fronts.{front_all}
use Rattle.laws.specs.Parts.{to_end}
use Rattle.laws.specs.Written.{octets_every}
use Rattle.octets.specs.Copied.{copied_into}
use Rattle.image_writer.specs.Over.{over_by}
use Rattle.image_writer.specs.Walked.{PartsServed}
use Rattle.image_writer.specs.Answered.{Gave, none_written, over_written, refused_written, left_written, fit, short_written, done_written}
use Rattle.image_writer.proofs.write_image.Goals.{In-Ok}
use Rattle.image_writer.proofs.write_image.Goals as goal

-- the parameters' octets, as the walk was handed them
abbrev behind : List ℕ → List ℕ
behind m = take (length m - 1) (drop 1 m)

-- what the walk gave, told by the answer
gave : (m : List ℕ) (a b : Answer) (end : ℕ) (d : List ℕ) → PartsServed unseen 0 0 [] (parts_front (get_or m 0 0) (behind m)) a end d → a ≡ b
    → Gave m b end d
gave m a b end d h e =
    subst (λ (z : Answer). Gave m z end d) e
    (subst (λ (s : List ℕ). PartsServed unseen 0 0 [] (parts_front (get_or m 0 0) s) a end d) (to_end 1 m) h)

-- where it is refused: whether the image is over the limits
over-told : (m : List ℕ) (o b : Bool) → o ≡ over_by (length (behind m)) (parts_front (get_or m 0 0) (behind m)) → o ≡ b
    → over_by (length (drop 1 m)) (parts_front (get_or m 0 0) (drop 1 m)) ≡ b
over-told m o b h e = sym (h ∙ ap (λ (s : List ℕ). over_by (length s) (parts_front (get_or m 0 0) s)) (to_end 1 m)) ∙ e

-- where it is accepted: the message fits the draft
long : (m room : List ℕ) → 0 < length m → (n end : ℕ) (d : List ℕ) → Gave m (Accepted n) end d → end ≡ length (drop 1 m)
    → every is_octet m ≡ true → length d ≡ most_octets → n ≤ length d
long m room some n end d g all o l = omega (arith, l, (fit m room some n end d g all o).few)

-- all octets behind the count, as the walk was handed them
all_behind : (m : List ℕ) (n : ℕ) → n ≡ length (behind m) → n ≡ length (drop 1 m)
all_behind m n e = e ∙ ap (λ (s : List ℕ). length s) (to_end 1 m)

pub returns-in_default : goal.returns-in_default
returns-in_default c = none_written c.args.image.now c.args.room.now (omega (arith, c.in_default.len_below))

pub returns-in-Err : goal.returns-in-Err
returns-in-Err c =
    let m = c.args.image.now in
    over_written m c.args.room.now (omega (arith, c.in-len1-up.len_at_least)) (over-told m _ _ c.is_over.ensures c.if-is_over.true)

pub returns-in-Err-2 : goal.returns-in-Err-2
returns-in-Err-2 c =
    let m = c.args.image.now in
    let r = c.in-Err.field-0 in
    refused_written m c.args.room.now (omega (arith, c.in-len1-up.len_at_least)) (over-told m _ _ c.is_over.ensures c.if-is_over.false) r.0 r.1
    0 c.lay_parts.new.draft (gave m _ _ _ _ c.in-Err.ensures refl)

pub returns-then-step-s : goal.returns-then-step-s
returns-then-step-s c =
    let m = c.args.image.now in
    let x = c.in-Ok.step in
    left_written m c.args.room.now (omega (arith, c.in-len1-up.len_at_least)) x.behind x.octets c.lay_parts.new.draft
    (gave m _ _ _ _ c.in-Ok.ensures refl) (λ e. c.if-step-s.true (e ∙ sym (ap (λ (s : List ℕ). length s) (to_end 1 m))))

pub returns-then-room-n : goal.returns-then-room-n
returns-then-room-n c =
    let m = c.args.image.now in
    let x = c.in-Ok.step in
    short_written m c.args.room.now (omega (arith, c.in-len1-up.len_at_least)) x.behind x.octets c.lay_parts.new.draft
    (gave m _ _ _ _ c.in-Ok.ensures refl) (all_behind m _ c.if-step-s.false)
    (octets_every m (λ i. omega (arith, c.type_inv.image i))) c.if-room-n.true

-- the message fits the draft, where it was accepted
message_fits : (c : In-Ok) → c.in-Ok.step.octets ≡ length (behind c.args.image.now) → length c.lay_parts.new.draft ≡ most_octets
    → c.in-Ok.step.behind ≤ length c.lay_parts.new.draft
message_fits c all l =
    let m = c.args.image.now in
    let x = c.in-Ok.step in
    long m c.args.room.now (omega (arith, c.in-len1-up.len_at_least)) x.behind x.octets c.lay_parts.new.draft
    (gave m _ _ _ _ c.in-Ok.ensures refl) (all_behind m _ all) (octets_every m (λ i. omega (arith, c.type_inv.image i))) l

pub slice_bounds-draft-end : goal.slice_bounds-draft-end
slice_bounds-draft-end c = message_fits (goal.at.slice_bounds-draft-end c).In-Ok c.if-step-s.false (search rules)

pub slice_bounds-copy_in-end : goal.slice_bounds-copy_in-end
slice_bounds-copy_in-end c =
    let f = message_fits (goal.at.slice_bounds-copy_in-end c).In-Ok c.if-step-s.false (search rules) in
    sym (length-take-le c.in-Ok.step.behind c.lay_parts.new.draft f)

pub returns : goal.returns
returns c =
    let m = c.args.image.now in
    let room = c.args.room.now in
    let x = c.in-Ok.step in
    let d = c.lay_parts.new.draft in
    let some : 0 < length m = omega (arith, c.in-len1-up.len_at_least) in
    let g = gave m _ _ _ _ c.in-Ok.ensures refl in
    let all = all_behind m _ c.if-step-s.false in
    let o = octets_every m (λ i. omega (arith, c.type_inv.image i)) in
    let l : length d ≡ most_octets = search rules in
    let w =
    done_written m room some x.behind x.octets d g all o c.if-room-n.false
    (long m room some x.behind x.octets d g all o l) in
    let n = x.behind in
    let t : length (take n d) ≡ n = length-take-le n d (long m room some n x.octets d g all o l) in
    let h : length (take n d) ≤ length room = omega (arith, t, c.if-room-n.false) in
    let s = copied_into room 0 (take n d) c.copy_in.new.d c.copy_in.result (omega (arith, h)) c.copy_in.ensures ∙ front_all room (take n d) h in
    (w.0, rw (s, t) w.1)
