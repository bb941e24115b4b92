-- The alphabets by the code of their zero.
use Prim.Native.Nat.{ℕ}
use mathlib.Core.Path.{◌≡◌, refl}
use borrow.Author.Tests.{ne_eqb}
use Rattle.annex.specs.Digits.{zero_from, zero_to}
use Rattle.annex.specs.declared.Alphabet.{Alphabet}
use Rattle.annex.specs.declared.Alphabet.TheVariants.{Dialled, Numbered, Decimal}

pub zero_from_lem : (z : Alphabet) (h : ℕ) → h ≡ zero_to z 0 → zero_from z h ≡ 0
zero_from_lem Dialled h e = rw e
zero_from_lem Numbered h e = e
zero_from_lem Decimal h e = e

pub other_from : (z : Alphabet) (h : ℕ) → (h ≡ zero_to z 0 → ⊥) → zero_from z h ≡ h
other_from Dialled h e = rw (ne_eqb h 10 e)
other_from Numbered h e = refl
other_from Decimal h e = refl

pub other_to : (z : Alphabet) (d : ℕ) → (d ≡ 0 → ⊥) → zero_to z d ≡ d
other_to Dialled d e = rw (ne_eqb d 0 e)
other_to Numbered d e = refl
other_to Decimal d e = refl
