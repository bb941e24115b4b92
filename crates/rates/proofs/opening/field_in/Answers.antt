-- `field_in` meets its contract: the array says where the field starts, and its row how it is drawn from there on.
use Rattle.std.specs.Prelude.{ℕ, List}
use native.Mathlib.Omega.{arith}
use Rattle.std.proofs.Common.{inl, inr}
use mathlib.Core.Path.{◌≡◌, sym, ap, ◌∙◌}
use lib.ListN.{get_or, drop, replicate}
use Rattle.annex.specs.Rates.{field_row, drawn_as, width_of, numbers_in, numbers_drawn, kind_in, decimal, field_in}
use Rattle.annex.specs.declared.Field.{Field}
use Rattle.annex.specs.declared.Drawn.{Drawn}
use Rattle.annex.specs.declared.Drawn.TheVariants.{Character}
use Rattle.rates.specs.Starts.{
  field_start,
  starts_of,
  start_at,
  place_below,
  width_most,
  width_by,
  width_by_lem,
  one_octet,
  field_none,
  field_there,
}
use Rattle.rates.proofs.opening.field_in.Goals as goal

-- what the array says
start_is : (f : Field) (k n : ℕ) (l : List ℕ) → l ≡ starts_of k → n ≡ (field_row f).place → get_or l n 0 ≡ field_start f k
start_is f k n l e p = ap (λ xs. get_or xs n 0) e ∙ (ap (λ q. get_or (starts_of k) q 0) p ∙ start_at f k)

-- the octets from there on, drawn so
drawn_so : (f : Field) (s xs : List ℕ) (d : Drawn) (start : ℕ) → start ≡ field_start f (kind_in s) → (start ≡ 0 → ⊥)
    → xs ≡ drop start s → d ≡ drawn_as f → field_in f s ≡ decimal 0 (numbers_drawn (replicate (width_of f) d) xs)
drawn_so f s xs d start e h o a =
    field_there f s (λ z. h (e ∙ z))
    ∙ (sym (ap (λ ys. decimal 0 (numbers_drawn (replicate (width_of f) (drawn_as f)) ys)) (o ∙ ap (λ n. drop n s) e))
    ∙ ap (λ x. decimal 0 (numbers_drawn (replicate (width_of f) x) xs)) (sym a))

-- in one octet
alone : (f : Field) (s xs : List ℕ) (d : Drawn) (start : ℕ) → start ≡ field_start f (kind_in s) → (start ≡ 0 → ⊥)
    → xs ≡ drop start s → d ≡ drawn_as f → ((w : ℕ) → width_by d w ≡ 1) → decimal 0 (numbers_in d (get_or xs 0 0)) ≡ field_in f s
alone f s xs d start e h o a n =
    let w : width_of f ≡ 1 = width_by_lem f ∙ (ap (λ x. width_by x (width_of f)) (sym a) ∙ n (width_of f)) in
    sym (drawn_so f s xs d start e h o a ∙ (ap (λ k. decimal 0 (numbers_drawn (replicate k d) xs)) w ∙ one_octet d xs))

pub bounds-starts-asked : goal.bounds-starts-asked
bounds-starts-asked c =
    omega (arith, c.row_of-asked.ensures.0, place_below c.args.f)

pub returns-then-start-eq0 : goal.returns-then-start-eq0
returns-then-start-eq0 c =
    let a = c.args in
    let start =
    start_is a.f (kind_in a.s.now) c.row_of-asked.result.place a.starts.now c.requires c.row_of-asked.ensures.0 in
    sym (field_none a.f a.s.now (sym start ∙ c.if-start-eq0.true))

pub characters-requires : goal.characters-requires
characters-requires c =
    omega (arith, c.row_of-asked.ensures.2, width_most c.args.f)

pub returns-in-Character : goal.returns-in-Character
returns-in-Character c =
    let a = c.args in
    let start =
    start_is a.f (kind_in a.s.now) c.row_of-asked.result.place a.starts.now c.requires c.row_of-asked.ensures.0 in
    let drawn : Character ≡ drawn_as a.f = sym c.in-Character.is ∙ c.row_of-asked.ensures.1 in
    c.characters.ensures
    ∙ (ap (λ w. decimal 0 (numbers_drawn (replicate w Character) c.octets_from-octets.result.now)) c.row_of-asked.ensures.2
    ∙ sym (drawn_so a.f a.s.now c.octets_from-octets.result.now Character _ start c.if-start-eq0.false c.octets_from-octets.ensures drawn))

pub returns-in-Halves : goal.returns-in-Halves
returns-in-Halves c =
    let a = c.args in
    let d = c.row_of-asked.result.drawn in
    let start =
    start_is a.f (kind_in a.s.now) c.row_of-asked.result.place a.starts.now c.requires c.row_of-asked.ensures.0 in
    c.number_in.ensures
    ∙ (ap (λ x. decimal 0 (numbers_in d x)) c.octet_at.ensures
    ∙ alone a.f a.s.now c.octets_from-octets.result.now d _ start c.if-start-eq0.false c.octets_from-octets.ensures c.row_of-asked.ensures.1
    (λ w.
    elim c.in-Halves.is [
      | inl e ↦ ap (λ x. width_by x w) e
      | inr e ↦ ap (λ x. width_by x w) e
    ]))
