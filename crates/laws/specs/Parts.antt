-- Laws of parts of a list, as the parts of a slice are told: `&s[a..e]` is take (e - a) (drop a s).
use Rattle.std.specs.Prelude.{ℕ, zero, suc, ◌+◌, ◌-◌, ◌<◌, ◌≡◌, List, [], ◌∷◌, length, get_or, take, drop}
use Rattle.std.proofs.Math.Nat.{sub-zero}
use Rattle.std.proofs.Common.{add-one, arith, length-drop, take_all, drop-cons}
use Rattle.std.proofs.Math.Seq.{take-nil}

-- a part that goes to the end
pub to_end : (a : ℕ) (s : List ℕ) → take (length s - a) (drop a s) ≡ drop a s
to_end a s = take_all (length s - a) (drop a s) (simp length-drop (omega arith))

-- from a to before e
pub from_to : (a e : ℕ) (s : List ℕ) → take (e - a) (drop a s) ≡ drop a (take e s)
from_to zero e s = rw sub-zero
from_to (suc a) zero s = let z : zero - suc a ≡ 0 = omega arith in rw z
from_to (suc a) (suc e) [] = rw take-nil
from_to (suc a) (suc e) (x ∷ s) = let z : suc e - suc a ≡ e - a = omega arith in rw z (from_to a e s)

-- an octet, and those behind it
pub octet_next : (s : List ℕ) (i : ℕ) → i < length s → drop i s ≡ get_or s i 0 ∷ drop (i + 1) s
octet_next s i h = rw (add-one i) (drop-cons s i 0 h)
