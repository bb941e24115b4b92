-- `asked_of` meets its contract: at each header of the match the table computes, and every other header is in no row.
use Prim.Native.Nat.{ℕ}
use native.Mathlib.Omega.{arith}
use mathlib.Core.Path.{refl, ◌∙◌}
use mathlib.Core.List.{List, [], ◌∷◌}
use Rattle.annex.specs.Orders.{forms_of, layout_of}
use Rattle.annex.specs.declared.OrderLayout.TheVariants.{Guidance}
use Rattle.laws.specs.Below.{at_rest}
use Rattle.orders.specs.Asked.{asking, asked_of}
use Rattle.orders.proofs.table.asked_of.Goals as goal

-- the headers of the match, the last arm first
abbrev keys : List (List ℕ)
keys =
    (0xD2 ∷ []) ∷ (0xCF ∷ []) ∷ (0xCE ∷ []) ∷ (0xCD ∷ []) ∷ (0xCC ∷ []) ∷ (0xCB ∷ []) ∷ (0xCA ∷ []) ∷ (0xC9 ∷ []) ∷ (0x92 ∷ []) ∷
    (0x91 ∷ []) ∷ (0x43 ∷ []) ∷ (0x42 ∷ []) ∷ (0x41 ∷ []) ∷ []

pub returns-in_default : goal.returns-in_default
unfolding forms_of layout_of
returns-in_default c =
    c.row-in_default.ensures
    ∙ at_rest (asking 0 Guidance 0) asked_of keys 256 refl c.args.header c.in_default.in_default-own.rest (omega arith)
