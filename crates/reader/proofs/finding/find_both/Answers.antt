-- `find_both` meets its contract: reading's refusal first, and in an accepted message the length rule alone finds what is asked for.
use Rattle.std.specs.Prelude.{List}
use Prim.Native.Nat.{ℕ, ◌≤◌}
use lib.ListN.{length}
use mathlib.Core.Path.{◌≡◌, sym, ◌∙◌}
use native.Mathlib.Omega.{arith}
use Rattle.annex.specs.declared.Key.{Key}
use Rattle.annex.specs.Answers.{Answer, Accepted, Found, At}
use Rattle.annex.specs.Reading.{verdict_of}
use Rattle.annex.specs.Finding.{found_by}
use Rattle.annex.specs.Walking.{plain_by}
use Rattle.laws.specs.Finding.{plain_found, plain_inside}
use Rattle.reader.proofs.finding.find_both.Goals as goal

-- what the length rule finds in an accepted message is what was asked for
found : (k : Key) (m : List ℕ) (n : ℕ) (a : Answer) (f g : Found) → a ≡ verdict_of m → a ≡ Accepted n → f ≡ plain_by k m → f ≡ g → found_by k m ≡ g
found k m n a f g p q r o = plain_found k m n (sym p ∙ q) ∙ sym r ∙ o

within : (k : Key) (m : List ℕ) (f : Found) (s e : ℕ) → f ≡ plain_by k m → f ≡ At s e → (s ≤ e) × (e ≤ length m)
within k m f s e p q = (plain_inside k m).at _ _ (sym p ∙ q)

pub returns-in_default-clause-answer : goal.returns-in_default-clause-answer
returns-in_default-clause-answer c =
    let f = found c.args.k c.args.m.now _ _ _ _ c.verdict.ensures c.in_ok-verdict.was c.found_by_length.ensures c.in_default.is in
    rw (← c.verdict.ensures, c.in_ok-verdict.was, f)

pub returns-in_default-clause-part : goal.returns-in_default-clause-part
returns-in_default-clause-part c =
    let f = found c.args.k c.args.m.now _ _ _ _ c.verdict.ensures c.in_ok-verdict.was c.found_by_length.ensures c.in_default.is in
    rw (← c.verdict.ensures, c.in_ok-verdict.was, f)

pub slice_bounds-result-count : goal.slice_bounds-result-count
slice_bounds-result-count c = (within c.args.k c.args.m.now _ _ _ c.found_by_length.ensures c.in-Some.is).0

pub slice_bounds-result-start : goal.slice_bounds-result-start
slice_bounds-result-start c = (within c.args.k c.args.m.now _ _ _ c.found_by_length.ensures c.in-Some.is).0

pub slice_bounds-result-end : goal.slice_bounds-result-end
slice_bounds-result-end c = (within c.args.k c.args.m.now _ _ _ c.found_by_length.ensures c.in-Some.is).1

pub returns-clause-answer : goal.returns-clause-answer
returns-clause-answer c =
    let f = found c.args.k c.args.m.now _ _ _ _ c.verdict.ensures c.in_ok-verdict.was c.found_by_length.ensures c.in-Some.is in
    rw (← c.verdict.ensures, c.in_ok-verdict.was, f)

pub returns-clause-part : goal.returns-clause-part
returns-clause-part c =
    let f = found c.args.k c.args.m.now _ _ _ _ c.verdict.ensures c.in_ok-verdict.was c.found_by_length.ensures c.in-Some.is in
    rw (← c.verdict.ensures, c.in_ok-verdict.was, f)
