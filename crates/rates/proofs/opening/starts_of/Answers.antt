-- `starts_of` meets its contract: at each kind of the match the tables compute, and every other kind has no fields.
use Prim.Native.Nat.{ℕ}
use native.Mathlib.Omega.{arith}
use mathlib.Core.Path.{refl}
use mathlib.Core.List.{List, [], ◌∷◌}
use lib.ListN.{replicate}
use Rattle.annex.specs.Rates.{fields_of}
use Rattle.laws.specs.Below.{at_rest}
use Rattle.rates.specs.Starts.{starts_of}
use Rattle.rates.proofs.opening.starts_of.Goals as goal

-- the kinds of the match, the last arm first
abbrev keys : List (List ℕ)
keys = (10 ∷ []) ∷ (9 ∷ []) ∷ (8 ∷ []) ∷ (5 ∷ []) ∷ (4 ∷ []) ∷ (3 ∷ []) ∷ (1 ∷ []) ∷ []

pub returns-in_default : goal.returns-in_default
unfolding fields_of
returns-in_default c = at_rest (replicate 11 0) starts_of keys 256 refl c.args.kind c.in_default.in_default-own.rest (omega arith)
