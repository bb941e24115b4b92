-- Characters as the code goes over them: figures alone, or those of an ARE's parameters too.
use Rattle.std.specs.Prelude.{ℕ, ◌+◌, ◌≤◌, ◌<◌, ◌≡◌, refl, Bool, true, false, cond, ◌&&◌, ◌||◌, List, eqb, length, get_or, drop}
use Rattle.std.proofs.Common.{ap, drop_of_length-le}
use Rattle.annex.specs.Answers.{bad_digit, Fault, Sound, Bad}
use Rattle.annex.specs.Orders.{is_figure, is_are_character, outside_fault}
use Rattle.laws.specs.Parts.{octet_next}

-- by whether an ARE's are meant
abbrev pub is_known : Bool → ℕ → Bool
is_known are = cond are is_are_character is_figure

abbrev pub known_fault : Bool → ℕ → List ℕ → Fault
known_fault are at xs = outside_fault (is_known are) at xs

-- a figure is one of them, and any other octet only of an ARE's
pub known_so : (are : Bool) (x : ℕ) → is_known are x ≡ is_figure x || (are && (eqb x 0x3B || eqb x 0x03))
known_so true x = refl
known_so false x = or_never (is_figure x)
  where
    or_never : (b : Bool) → b ≡ b || false
    or_never true = refl
    or_never false = refl

-- one of them, and those behind it
pub known_more : (are : Bool) (s : List ℕ) (i : ℕ) → i < length s
    → known_fault are i (drop i s) ≡ cond (is_known are (get_or s i 0)) (known_fault are (i + 1) (drop (i + 1) s)) (Bad bad_digit i)
unfolding outside_fault
known_more are s i h = ap (known_fault are i) (octet_next s i h)

-- past the last there is none
pub known_none : (are : Bool) (s : List ℕ) (i : ℕ) → length s ≤ i → known_fault are i (drop i s) ≡ Sound
unfolding outside_fault
known_none are s i h = rw (drop_of_length-le s {i = i} h)
