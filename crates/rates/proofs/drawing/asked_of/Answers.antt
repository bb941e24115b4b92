-- `asked_of` meets its contract: at each kind of the match the tables compute, and every other kind is in none of them.
use Prim.Native.Nat.{ℕ}
use native.Mathlib.Omega.{arith}
use mathlib.Core.Path.{refl}
use mathlib.Core.List.{List, [], ◌∷◌}
use Rattle.annex.specs.Rates.{is_kind, fields_of}
use Rattle.laws.specs.Below.{at_rest}
use Rattle.rates.specs.Asked.{asked_of}
use Rattle.std.specs.Prelude.{None}
use Rattle.rates.proofs.drawing.asked_of.Goals as goal

-- the kinds of the match, the last arm first
abbrev keys : List (List ℕ)
keys = (10 ∷ []) ∷ (9 ∷ []) ∷ (8 ∷ []) ∷ (5 ∷ []) ∷ (4 ∷ []) ∷ (3 ∷ []) ∷ (2 ∷ []) ∷ (1 ∷ []) ∷ []

pub returns-in_default : goal.returns-in_default
unfolding is_kind fields_of
returns-in_default c = at_rest None asked_of keys 256 refl c.args.kind c.in_default.in_default-own.rest (omega arith)
