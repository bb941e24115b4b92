-- What `?` hands on: the refusal itself, since none is converted; and what it is of an answer that is told of the whole.
use Rattle.std.specs.Prelude.{ℕ, ◌+◌, ◌≡◌, Result, Ok, Err, IsErrAnd}
use mathlib.Core.Path.{refl, ap}
use native.Mathlib.Omega.{arith}
use Rattle.annex.specs.Answers.{Answer, Accepted, Refused, shifted}
use Rattle.annex.specs.declared.Refusal.{Refusal}

pub passed_on : {A E : Type 0} (r : Result A E) (e : E) → IsErrAnd r (λ x. x ≡ e) → r ≡ Err e
passed_on (Ok a) e w = elim w [ ]
passed_on (Err d) e w = ap Err w

pub shifted_ok : (s : ℕ) (a : Answer) (n : ℕ) → shifted s a ≡ Accepted n → a ≡ Accepted n
shifted_ok s (Accepted m) n e = e
shifted_ok s (Err r) n e = absurd (let z : ◌≡◌ {A = ℕ} 0 1 = cc in omega arith)

pub shifted_err : (s : ℕ) (a : Answer) (r : Refusal) → shifted s a ≡ Err r → (w : Refusal) × (a ≡ Err w) × ◌≡◌ {A = Answer} (Refused w.0 (s + w.1)) (Err r)
shifted_err s (Accepted m) r e = absurd (let z : ◌≡◌ {A = ℕ} 0 1 = cc in omega arith)
shifted_err s (Err w) r e = (w, refl, e)
