-- `number_type` meets its contract: bit 7 is not looked at, and over the numbers of each arm the class is computed.
use Prim.Native.Nat.{ℕ, ◌%◌, ◌<◌}
use native.Mathlib.Omega.{arith}
use mathlib.Core.Path.{◌≡◌, ◌∙◌}
use mathlib.Core.List.{[], ◌∷◌}
use Rattle.classes.specs.Listed.{listed_class}
use Rattle.annex.specs.declared.Class.TheVariants.{Named, HeldBack, Spare}
use Rattle.annex.specs.Answers.{Is}
use Rattle.laws.specs.Octet.{range}
use Rattle.classes.proofs.Arms.{same_answer, same_answer_lem, at_keys, in_range}
use Rattle.classes.proofs.number_type.Goals as goal

-- bit 7 is not looked at
low : (x : ℕ) → x < 256 → listed_class 0xD7 (x % 128) ≡ listed_class 0xD7 x
unfolding listed_class
low x l = same_answer_lem _ _ (range (λ k. same_answer (listed_class 0xD7 (k % 128)) (listed_class 0xD7 k)) 0 256 tt x (omega arith) (omega arith))

pub returns-in_default : goal.returns-in_default
unfolding listed_class
returns-in_default c =
    let x = c.args.octet in
    in_range 0xD7 (Is Spare) [] 0 1 tt (x % 128) tt (omega arith) (omega arith) ∙ low x (omega arith)

pub returns-in_default-2 : goal.returns-in_default-2
unfolding listed_class
returns-in_default-2 c =
    let x = c.args.octet in
    in_range 0xD7 (Is Spare) [] 5 107 tt (x % 128) tt (omega arith) (omega arith) ∙ low x (omega arith)

pub returns-in-2-2 : goal.returns-in-2-2
unfolding listed_class
returns-in-2-2 c =
    let x = c.args.octet in
    in_range 0xD7 (Is HeldBack) [] 112 14 tt (x % 128) tt (omega arith) (omega arith) ∙ low x (omega arith)

pub returns-in_default-3 : goal.returns-in_default-3
unfolding listed_class
returns-in_default-3 c =
    let x = c.args.octet in
    in_range 0xD7 (Is Spare) ((2 ∷ []) ∷ (1 ∷ 126 ∷ []) ∷ []) 126 2 tt _ c.in_default.in_default-own.rest (omega arith) (omega arith)
    ∙ low x (omega arith)

pub returns-in-2 : goal.returns-in-2
unfolding listed_class
returns-in-2 c =
    let x = c.args.octet in
    at_keys 0xD7 (Is HeldBack) (2 ∷ []) tt _ c.in-2.in-2-own.keys2 ∙ low x (omega arith)

pub returns-in-1 : goal.returns-in-1
unfolding listed_class
returns-in-1 c =
    let x = c.args.octet in
    at_keys 0xD7 (Is Named) (1 ∷ 126 ∷ []) tt _ c.in-1.in-1-own.keys1 ∙ low x (omega arith)

pub returns-in-1-2 : goal.returns-in-1-2
unfolding listed_class
returns-in-1-2 c =
    let x = c.args.octet in
    in_range 0xD7 (Is Named) ((2 ∷ []) ∷ (1 ∷ 126 ∷ []) ∷ []) 1 4 tt _ c.in-1.in_default-own.rest (omega arith) (omega arith)
    ∙ low x (omega arith)
