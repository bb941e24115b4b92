use Rattle.std.specs.Prelude.{List}
use Prim.Native.Nat.{ℕ, zero, suc, ◌-◌, ◌<◌}
use native.Mathlib.Omega.{arith}
use mathlib.Core.Path.{◌≡◌, refl, sym, ap, ◌∙◌}
use mathlib.Core.Bool.{Bool, cond}
use lib.ListN.{length, get_or}
use Rattle.annex.specs.Heads.{kth}
use Rattle.annex.specs.declared.Extent.{Extent}
use Rattle.annex.specs.declared.Key.{Key}
use Rattle.annex.specs.Walking.{is_sought, extent_by, search_from, search_in, stretch_at}
use Rattle.annex.specs.Answers.{Found, At, Nowhere}
use Rattle.walk.specs.Stretches.{Whole, stretch_told}
use Rattle.reader.specs.Finding.{search_none, search_turn}
use Rattle.reader.proofs.finding.search_by_length.Goals as goal

-- the stretch at a header, by what was asked of it
here : (k : Key) (t : List ℕ) (i h : ℕ) (x : Extent) (f : Found) → h ≡ get_or t i 0 → x ≡ extent_by k h → f ≡ stretch_at t i x
    → f ≡ stretch_at t i (extent_by k (get_or t i 0))
here k t i h x f p q r = r ∙ rw (q, p)

-- one turn, at a parameter that is whole
turn : (k : Key) (t : List ℕ) (left i h s e : ℕ) (x : Extent) (f : Found) (b : Bool) → h ≡ get_or t i 0 → x ≡ extent_by k h → f ≡ stretch_at t i x
    → f ≡ At s e → b ≡ is_sought k h → search_in k t ≡ search_from k left i t
    → search_in k t ≡ cond b (kth left (At i e) (λ w. search_from k w e t)) (search_from k left e t)
turn k t left i h s e x f b p q r a o inv = inv ∙ rw (o, p) (search_turn k left t i (stretch_told _ _ _ (sym (here k t i h x f p q r) ∙ a)))

pub loop-end-init : goal.loop-end-init
loop-end-init c = rw c.which_of-left.ensures

pub returns-in_err-end : goal.returns-in_err-end
returns-in_err-end c =
    let gone : c.from_residual.result ≡ Nowhere = grind arith in
    let a = c.args in
    let f = here a.k a.t.now c.loop-end.i _ _ _ c.octet_at-h.ensures c.extent_by.ensures c.stretch_at.ensures in
    gone ∙ sym (c.loop-end.invariant ∙ search_none _ _ _ _ (sym f ∙ c.in_err-end.was))

pub returns-then-left-eq0 : goal.returns-then-left-eq0
returns-then-left-eq0 c =
    let a = c.args in
    let l = c.loop-end in
    let t =
    turn a.k a.t.now l.left l.i _ _ _ _ _ c.is_sought.result c.octet_at-h.ensures c.extent_by.ensures c.stretch_at.ensures c.in_ok-end.was
    c.is_sought.ensures l.invariant in
    rw (t, c.if-is_sought.true, c.if-left-eq0.true)

-- one fewer is left
fewer : {A : Type 0} (n : ℕ) (a : A) (f : ℕ → A) → (n ≡ 0 → ⊥) → kth n a f ≡ f (n - 1)
fewer zero a f h = absurd (h refl)
fewer (suc n) a f h = let e : n ≡ suc n - 1 = omega arith in ap f e

pub loop-end-preserved-else-left-eq0 : goal.loop-end-preserved-else-left-eq0
loop-end-preserved-else-left-eq0 c =
    let a = c.args in
    let l = c.loop-end in
    let t =
    turn a.k a.t.now l.left l.i _ _ _ _ _ c.is_sought.result c.octet_at-h.ensures c.extent_by.ensures c.stretch_at.ensures c.in_ok-end.was
    c.is_sought.ensures l.invariant in
    rw (t, c.if-is_sought.true) (fewer _ _ _ c.if-left-eq0.false)

pub loop-end-preserved : goal.loop-end-preserved
loop-end-preserved c =
    let a = c.args in
    let l = c.loop-end in
    let t =
    turn a.k a.t.now l.left l.i _ _ _ _ _ c.is_sought.result c.octet_at-h.ensures c.extent_by.ensures c.stretch_at.ensures c.in_ok-end.was
    c.is_sought.ensures l.invariant in
    rw (t, c.if-is_sought.false)

-- a turn ends behind where it began
on : (k : Key) (t : List ℕ) (i h s e : ℕ) (x : Extent) (f : Found) → h ≡ get_or t i 0 → x ≡ extent_by k h → f ≡ stretch_at t i x → f ≡ At s e
    → length t - e < length t - i
on k t i h s e x f p q r a = let w = stretch_told (extent_by k) t i (sym (here k t i h x f p q r) ∙ a) in omega (arith, w)

pub loop-end-smaller-else-left-eq0 : goal.loop-end-smaller-else-left-eq0
loop-end-smaller-else-left-eq0 c =
    on c.args.k c.args.t.now c.loop-end.i _ _ _ _ _ c.octet_at-h.ensures c.extent_by.ensures c.stretch_at.ensures c.in_ok-end.was

pub loop-end-smaller : goal.loop-end-smaller
loop-end-smaller c =
    on c.args.k c.args.t.now c.loop-end.i _ _ _ _ _ c.octet_at-h.ensures c.extent_by.ensures c.stretch_at.ensures c.in_ok-end.was
