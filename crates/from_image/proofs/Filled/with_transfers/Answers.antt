use Prim.Native.Nat.{ℕ, suc, ◌<◌, ◌+◌, ◌-◌}
use native.Mathlib.Omega.{arith}
use mathlib.Core.Path.{◌≡◌, sym, ap, ◌∙◌}
use mathlib.Core.Bool.{Bool}
use mathlib.Core.List.{List}
use borrow.Author.Rules.{rules}
use lib.ListN.{length, take, drop, length-drop}
use lib.Seq.{sets}
use Rattle.annex.specs.Heads.{most_values}
use Rattle.annex.specs.Image.{head_front, items_front, octets_to_a_transfer_head}
use Rattle.annex.specs.declared.Transfer.{Transfer}
use Rattle.laws.specs.Parts.{to_end}
use Rattle.octets.specs.Copied.{copied_into}
use Rattle.from_image.specs.Filling.{fits_at, filled_by, has_room_lem, filled_stop, filled_turn, filled_end, values_there}
use Rattle.from_image.proofs.Filled.with_transfers.Goals as goal

-- one more is left, since the loop goes on
one_more : (n i : ℕ) → i < n → n - i ≡ suc (n - (i + 1))
one_more n i h = omega arith

-- what `takes` told of the octets that follow
told : (s : List ℕ) (i k used : ℕ) (r b : Bool) → r ≡ fits_at (take (length s - i) (drop i s)) k used → r ≡ b → fits_at (drop i s) k used ≡ b
told s i k used r b e h = sym (e ∙ ap (λ (d : List ℕ). fits_at d k used) (to_end i s)) ∙ h

pub returns-then-not-takes : goal.returns-then-not-takes
returns-then-not-takes c =
    let s = c.args.s.now in
    let f = c.loop.self in
    let n = one_more c.args.count c.loop.counter c.loop-test.true in
    let becomes = c.loop.invariant.1 ∙ ap (λ (n : ℕ). filled_by f (items_front n (drop f.octets s))) n in
    sym
    (becomes
    ∙ filled_stop f (drop f.octets s) (c.args.count - (c.loop.counter + 1))
    (told s f.octets f.transfers f.used _ _ c.takes.ensures c.if-not-takes.true))

pub loop-preserved : goal.loop-preserved
loop-preserved c =
    let s = c.args.s.now in
    let f = c.loop.self in
    let b = c.loop.invariant.0 in
    let d = drop f.octets s in
    let i = f.octets + octets_to_a_transfer_head in
    let t = c.transfer_head-t.result in
    let n = one_more c.args.count c.loop.counter c.loop-test.true in
    let becomes = c.loop.invariant.1 ∙ ap (λ (n : ℕ). filled_by f (items_front n d)) n in
    let e = told s f.octets f.transfers f.used _ _ c.takes.ensures c.if-not-takes.false in
    let r = has_room_lem d f.transfers f.used e in
    let head_is : t ≡ head_front d = c.transfer_head-t.ensures ∙ ap head_front (to_end f.octets s) in
    let len_is : t.len ≡ (head_front d).len = ap (λ (t : Transfer). t.len) head_is in
    let m : i + t.len - i ≡ t.len = omega arith in
    let long : length f.held.values ≡ most_values = search rules in
    let there : length (take t.len (drop i s)) ≡ t.len = values_there s f.octets t.len (omega (arith, r.whole, len_is)) in
    let stored : c.copy_in.new.d ≡ sets f.held.values f.used (take t.len (drop i s)) =
    copied_into f.held.values f.used (take t.len (drop i s)) c.copy_in.new.d c.copy_in.result (omega (arith, there, long, r.values, len_is))
    (rw m at c.copy_in.ensures) in (
      record {
        octets = omega (arith, r.whole, length-drop f.octets s, len_is);
        commons = b.commons;
        places = omega (arith, r.place);
        values = omega (arith, r.values, len_is);
      },
      becomes ∙ filled_turn f s (c.args.count - (c.loop.counter + 1)) e ∙ rw (← head_is, ← len_is, stored),
    )

pub returns : goal.returns
returns c =
    let f = c.loop.self in
    let n : c.args.count - c.loop.counter ≡ 0 = omega arith in
    sym (c.loop.invariant.1 ∙ rw n (filled_end f (drop f.octets c.args.s.now) c.loop.invariant.0.places c.loop.invariant.0.values))
