-- `entry_fault` meets its contract: the digits are looked at where they stand in the contents.
use Rattle.std.proofs.Common.{ℕ, ◌+◌, ◌-◌, ◌≡◌, sym, ap, ◌∙◌, List, take, drop, drop-drop, length-take-le}
use Rattle.annex.specs.Carriers.{code_fault}
use Rattle.laws.specs.Parts.{from_to}
use Rattle.entries.specs.Left.{entry_stands}
use Rattle.entries.proofs.judging.entry_fault.Goals as goal

pub slice_bounds-digits_fault-end : goal.slice_bounds-digits_fault-end
slice_bounds-digits_fault-end c =
    sym (length-take-le _ _ (entry_stands _ _ _ _ (sym c.inside.ensures ∙ c.in-Some.is)).within)

-- behind the first octet of what the entry holds
behind : (xs : List ℕ) (a b : ℕ) → drop (a + 1) (take b xs) ≡ drop 1 (take (b - a) (drop a xs))
behind xs a b = sym (ap (λ (ys : List ℕ). drop 1 ys) (from_to a b xs) ∙ drop-drop 1 a (take b xs))

pub returns-in-Some : goal.returns-in-Some
unfolding code_fault
returns-in-Some c =
    rw (
      sym c.inside.ensures ∙ c.in-Some.is,
      sym c.is_code.ensures ∙ c.if-is_code.true,
      ← c.code_count.ensures,
      ← behind c.args.s.now c.in-Some.from c.in-Some.to,
    )
    c.digits_fault.ensures
