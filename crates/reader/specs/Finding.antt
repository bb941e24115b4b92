-- One turn of the search.
use Rattle.std.specs.Prelude.{ℕ, ◌≡◌, cond, List, [], get_or, Result, Ok, Err}
use Rattle.std.proofs.Common.{Bor}
use Rattle.annex.specs.Heads.{kth}
use Rattle.annex.specs.Walking.{is_sought, extent_by, sought_in, search_from, stretch_at}
use Rattle.annex.specs.Answers.{Answer, Accepted, At, Nowhere}
use Rattle.annex.specs.declared.Key.{Key}
use Rattle.walk.specs.Stretches.{Whole, stretch_none}
use Rattle.annex.specs.declared.Refusal.{Refusal}

-- ---- one turn of the search

module _ (k : Key) (which : ℕ) (t : List ℕ) (i : ℕ) where
  pub search_none : stretch_at t i (extent_by k (get_or t i 0)) ≡ Nowhere → search_from k which i t ≡ Nowhere
  unfolding sought_in
  search_none h = rw (stretch_none (extent_by k) t i h)

  pub search_turn : {s x : ℕ} → Whole (extent_by k) t i s x
      → search_from k which i t ≡ cond (is_sought k (get_or t i 0)) (kth which (At i x) (λ w. search_from k w x t)) (search_from k which x t)
  unfolding sought_in
  search_turn w = rw (w.next, w.long)
