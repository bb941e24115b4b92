use Rattle.std.proofs.Common.{ℕ, ◌+◌, ◌-◌, ◌≤◌, ◌≡◌, List, Option, Some, arith, sym, ap, ◌∙◌, eqb-true, length, take, drop}
use Rattle.std.proofs.lemmas.Bool.{eqb-false}
use Rattle.annex.specs.Ordering.{parameter_rows}
use Rattle.laws.specs.Parts.{to_end}
use Rattle.rows.specs.Orders.{own_size, own_over, listing_none, listing_some, count_turn}
use Rattle.rows.proofs.opened.count.Goals as goal

pub returns-then-is_empty : goal.returns-then-is_empty
returns-then-is_empty c =
    let none = eqb-true (length c.args.contents.now) 0 (sym c.is_empty.ensures ∙ c.if-is_empty.true) in
    sym (ap length (listing_none 0 _ none))

pub loop-own-init : goal.loop-own-init
loop-own-init c =
    let some = eqb-false (length c.args.contents.now) 0 (sym c.is_empty.ensures ∙ c.if-is_empty.false) in
    (omega (arith, some), omega arith, listing_some _ some)

-- a turn, at a parameter that is whole
turn : (s : List ℕ) (i k : ℕ) (r : Option ℕ) → r ≡ own_size (take (length s - i) (drop i s)) → r ≡ Some k →
    let j = i + (k + 1) in
    (j ≤ length s) × (length (parameter_rows i (drop i s)) ≡ 1 + length (parameter_rows j (drop j s)))
turn s i k r e f = count_turn s i k (sym (rw to_end at e) ∙ f)

pub overflow_add-i : goal.overflow_add-i
overflow_add-i c =
    let t = turn c.args.contents.now c.loop-own.i c.in-Some.own c.own_size.result c.own_size.ensures c.in-Some.is in
    omega (arith, t.0)

pub overflow_add-i-in-Some : goal.overflow_add-i-in-Some
overflow_add-i-in-Some c =
    let t = turn c.args.contents.now c.loop-own.i c.in-Some.own c.own_size.result c.own_size.ensures c.in-Some.is in
    omega (arith, t.0)

pub loop-own-smaller : goal.loop-own-smaller
loop-own-smaller c =
    let t = turn c.args.contents.now c.loop-own.i c.in-Some.own c.own_size.result c.own_size.ensures c.in-Some.is in
    omega (arith, t.0)

pub loop-own-preserved : goal.loop-own-preserved
loop-own-preserved c =
    let t = turn c.args.contents.now c.loop-own.i c.in-Some.own c.own_size.result c.own_size.ensures c.in-Some.is in
    let i = c.loop-own.invariant in
    (t.0, omega (arith, i.1), omega (arith, i.2, t.1))

pub returns : goal.returns
returns c =
    let o = own_over c.loop-own.i _ (rw to_end at (sym c.own_size.ensures) ∙ c.in_default.is) in
    omega (arith, c.loop-own.invariant.2, ap length o)
