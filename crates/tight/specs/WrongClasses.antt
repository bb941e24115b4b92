-- Class functions that the promise shuts out, each with an input at which it breaks it.
use Rattle.std.specs.Prelude.{ℕ, ◌≡◌, Err}
use Rattle.std.proofs.Common.{arith, ap}
use Rattle.annex.specs.Answers.{class_given_of, ClassAnswer, Is, Refused}
use Rattle.annex.specs.Heads.{zeroes_of}
use Rattle.annex.specs.Classes.{class_of}
use Rattle.annex.specs.Promises.{ClassPromise}
use Rattle.annex.specs.declared.Class.TheVariants.{Named, HeldBack, Spare}

-- every value of every header is named
abbrev pub always_named : ℕ → ℕ → ClassAnswer
always_named h x = Is Named

-- 7 under 42 is spare
pub always_named_breaks : ClassPromise 0x42 7 (always_named 0x42 7) → ⊥
unfolding class_of zeroes_of
always_named_breaks e = let z : ◌≡◌ {A = ℕ} 0 2 = ap class_given_of e in omega arith

-- right but for what is held back, which it answers as spare
abbrev pub released : ClassAnswer → ClassAnswer
released (Is Named) = Is Named
released (Is HeldBack) = Is Spare
released (Is Spare) = Is Spare
released (Err r) = Err r

abbrev pub never_held_back : ℕ → ℕ → ClassAnswer
never_held_back h x = released (class_of h x)

-- number type 2 under D7 is held back
pub never_held_back_breaks : ClassPromise 0xD7 2 (never_held_back 0xD7 2) → ⊥
unfolding class_of zeroes_of
never_held_back_breaks e = let z : ◌≡◌ {A = ℕ} 2 1 = ap class_given_of e in omega arith
