-- `calling_user_class` meets its contract: only bits 3-0 are looked at, and over the numbers of each arm the class is computed.
use Prim.Native.Nat.{ℕ, ◌%◌, ◌<◌}
use native.Mathlib.Omega.{arith}
use mathlib.Core.Path.{◌≡◌, ◌∙◌}
use mathlib.Core.List.{[]}
use Rattle.annex.specs.declared.Class.TheVariants.{Named, Spare}
use Rattle.annex.specs.Answers.{Is}
use Rattle.laws.specs.Octet.{range}
use Rattle.classes.specs.Listed.{listed_class}
use Rattle.classes.proofs.Arms.{same_answer, same_answer_lem, in_range}
use Rattle.classes.proofs.calling_user_class.Goals as goal

-- bits 7-4 are not looked at
low : (x : ℕ) → x < 256 → listed_class 0x52 (x % 16) ≡ listed_class 0x52 x
unfolding listed_class
low x l = same_answer_lem _ _ (range (λ k. same_answer (listed_class 0x52 (k % 16)) (listed_class 0x52 k)) 0 256 tt x (omega arith) (omega arith))

pub returns-in_default : goal.returns-in_default
unfolding listed_class
returns-in_default c =
    let x = c.args.octet in
    in_range 0x52 (Is Spare) [] 5 9 tt (x % 16) tt (omega arith) (omega arith) ∙ low x (omega arith)

pub returns-in_default-2 : goal.returns-in_default-2
returns-in_default-2 c = absurd (omega arith)

pub returns-in-0-to-4 : goal.returns-in-0-to-4
unfolding listed_class
returns-in-0-to-4 c =
    let x = c.args.octet in
    in_range 0x52 (Is Named) [] 0 5 tt (x % 16) tt (omega arith) (omega arith) ∙ low x (omega arith)

pub returns-in-0-to-4-2 : goal.returns-in-0-to-4-2
unfolding listed_class
returns-in-0-to-4-2 c =
    let x = c.args.octet in
    in_range 0x52 (Is Named) [] 14 2 tt (x % 16) tt (omega arith) (omega arith) ∙ low x (omega arith)
