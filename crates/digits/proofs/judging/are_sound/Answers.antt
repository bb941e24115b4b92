-- `are_sound` meets its contract: whole octets hold two digits each, and an odd last digit stands alone in its octet.
use Prim.Native.Nat.{◌/◌}
use native.Mathlib.Omega.{arith}
use mathlib.Core.Path.{◌≡◌, sym, ap, ◌∙◌}
use mathlib.Core.Bool.{true}
use borrow.Author.Tests.{eqb-true}
use lib.ListN.{length, get_or, take, drop_of_length-le}
use Rattle.annex.specs.Units.{octets_of}
use Rattle.annex.specs.Allowed.{every}
use Rattle.annex.specs.declared.Octets.{Octets}
use Rattle.digits.specs.Pairs.{is_pair}
use Rattle.digits.proofs.Pairs.{even_sound, odd_sound, alone}
use Rattle.digits.proofs.judging.are_sound.Goals as goal
use Rattle.digits.proofs.judging.are_sound.Goals.{then-s-octets, else-s-octets}

pub returns-then-n-eq0 : goal.returns-then-n-eq0
returns-then-n-eq0 c = λ even at.
    let a = c.args in
    elim c.if-s-octets.branch [
      | then-s-octets w ↦
          let long : length a.s.now ≡ (octets_of a.n).0 = omega (arith, ap (λ (n : Octets). n.0) c.octets.ensures) in
          let whole : every (is_pair a.z) (take (a.n.0 / 2) a.s.now) ≡ true = cc in
          even_sound a.z a.n (a.n.0 / 2) at a.s.now (omega arith)
          (drop_of_length-le a.s.now {i = a.n.0 / 2} (omega (arith, long))) whole
      | else-s-octets w ↦ absurd (w.if-s-octets.false (eqb-true _ _ (sym w.value-is ∙ c.if-are_pairs.true)))
    ]

pub returns-else-n-eq0 : goal.returns-else-n-eq0
returns-else-n-eq0 c = λ e at.
    let a = c.args in
    elim c.if-s-octets.branch [
      | then-s-octets w ↦
          let long : length a.s.now ≡ (octets_of a.n).0 = omega (arith, ap (λ (n : Octets). n.0) c.octets.ensures) in
          let whole : every (is_pair a.z) (take (a.n.0 / 2) a.s.now) ≡ true = cc in
          odd_sound a.z a.n (a.n.0 / 2) at (get_or a.s.now (a.n.0 / 2) 0) a.s.now (omega arith)
          (alone a.s.now (a.n.0 / 2) (omega (arith, long))) whole (sym c.is_code.ensures ∙ e)
      | else-s-octets w ↦ absurd (w.if-s-octets.false (eqb-true _ _ (sym w.value-is ∙ c.if-are_pairs.true)))
    ]
