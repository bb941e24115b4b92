-- `contents` meets its contract: they stand behind the header and what leads, within the parameter that was found.
use Rattle.std.specs.Prelude.{List}
use Prim.Native.Nat.{ℕ, ◌+◌}
use lib.ListN.{get_or}
use Rattle.annex.specs.declared.Extent.{Extent}
use Rattle.annex.specs.declared.Key.{Key}
use Rattle.annex.specs.Units.{lead_of}
use mathlib.Core.Path.{◌≡◌, refl, sym, ap, ◌∙◌}
use native.Mathlib.Omega.{arith}
use Rattle.annex.specs.Walking.{contents_at, contents_found, extent_by, search_in}
use Rattle.annex.specs.Answers.{Found, At, Nowhere}
use Rattle.laws.specs.Finding.{search_inside}
use Rattle.reader.proofs.finding.contents.Goals as goal

pub returns-in_err-i : goal.returns-in_err-i
returns-in_err-i c =
    let gone : c.from_residual.result ≡ Nowhere = grind arith in
    gone ∙ rw (← c.search_by_length.ensures, c.in_err-i.was)

pub bounds-t-i : goal.bounds-t-i
bounds-t-i c =
    let a = c.args in
    let f = sym c.search_by_length.ensures ∙ c.in_ok-i.was in
    omega (arith, (search_inside a.k a.t.now).at _ _ (ap (contents_at a.k a.t.now) f))

-- where they are found
found : (k : Key) (t : List ℕ) (i e n : ℕ) (x : Extent) (f : Found) → f ≡ search_in k t → f ≡ At i e → x ≡ extent_by k (get_or t i 0) → n ≡ lead_of x
    → contents_found k t ≡ At (i + 1 + n) e
found k t i e n x f p q r o = rw (← p, q, o, r)

pub overflow_add-start : goal.overflow_add-start
overflow_add-start c =
    let w = (search_inside _ _).at _ _ (found c.args.k c.args.t.now _ _ _ _ _ c.search_by_length.ensures c.in_ok-i.was refl refl) in
    omega (arith, w)

pub overflow_add-start-2 : goal.overflow_add-start-2
overflow_add-start-2 c =
    let w =
    (search_inside _ _).at _ _
    (found c.args.k c.args.t.now _ _ _ _ _ c.search_by_length.ensures c.in_ok-i.was c.extent_by.ensures c.lead.ensures) in
    omega (arith, w)

pub returns : goal.returns
returns c = sym (found c.args.k c.args.t.now _ _ _ _ _ c.search_by_length.ensures c.in_ok-i.was c.extent_by.ensures c.lead.ensures)
