-- The contents of a CC that was found.
use Prim.Native.Nat.{ℕ, ◌+◌, ◌≤◌, ◌<◌}
use native.Mathlib.Omega.{arith}
use mathlib.Core.Path.{◌≡◌, sym, ap, ◌∙◌}
use mathlib.Core.Bool.{true}
use mathlib.Core.List.{List}
use lib.ListN.{length, get_or, take, drop, length-take, length-drop}
use Rattle.annex.specs.Carriers.{carriers_formed}
use Rattle.annex.specs.Finding.{find_answer, find_part}
use Rattle.annex.specs.Transit.{carriers_found}
use Rattle.annex.specs.Answers.{Answer, Accepted}
use Rattle.laws.specs.Written.{octets_every}
use Rattle.theorems.specs.Carried.{formed_carriers}
use Rattle.carriers.specs.Rows.{formed_some, contents_are}

-- the octets from the start on, as many as were found
pub contents : (m : List ℕ) (which start len : ℕ) (r : Answer) (s : List ℕ) → r ≡ find_answer m (carriers_found which m) → r ≡ Accepted start
    → len ≡ length (find_part m (carriers_found which m)) → s ≡ take len (drop start m) → s ≡ find_part m (carriers_found which m)
contents m which start len r s e a n f = f ∙ contents_are m which start (sym e ∙ a) len n

-- of the right form
pub formed : (m : List ℕ) (which start : ℕ) (s : List ℕ) → ((i : ℕ) → get_or m i 0 < 256)
    → Accepted start ≡ find_answer m (carriers_found which m) → s ≡ find_part m (carriers_found which m) → carriers_formed s ≡ true
formed m which start s o f e = ap carriers_formed e ∙ formed_carriers which m (octets_every m o) start (sym f)

-- within the message
pub within : (m : List ℕ) (which start : ℕ) (s : List ℕ) → carriers_formed s ≡ true
    → Accepted start ≡ find_answer m (carriers_found which m) → s ≡ find_part m (carriers_found which m) → start + length s ≤ length m
within m which start s t f e =
    let w = contents_are m which start (sym f) (length s) (ap length e) in
    omega (arith, formed_some s t, simp (length-take, length-drop) at (ap length (e ∙ sym w)))
