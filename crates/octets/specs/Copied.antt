-- What a copy leaves, where it fits: at the front of lent room, behind what was written there, or in an array.
use Rattle.std.specs.Prelude.{ℕ, ◌+◌, ◌≤◌, ◌≡◌, refl, Bool, true, leb, take, drop}
use Rattle.std.proofs.Common.{arith, ap, ◌∙◌, le-leb}
use Rattle.std.proofs.Math.Path.{sym}
use mathlib.Core.List.{List, [], ◌++◌, append_assoc}
use Rattle.std.proofs.Math.ListN.{length}
use Rattle.std.proofs.Math.Seq.{sets}
use Rattle.std.proofs.lemmas.List.Edits.{sets-eq}
use Rattle.annex.specs.Allowed.{every, is_octet}
use Rattle.annex.specs.Promises.{Stores}
use Rattle.annex.specs.Memory.{at_front, put}
use Rattle.laws.specs.Written.{low_octets_lem, written_length, put_behind}

module _ (d : List ℕ) (at : ℕ) (s ys : List ℕ) (b : Bool) (fits : at + length s ≤ length d)
    (c : Stores (leb (at + length s) (length d)) (put d at s) d b ys) where
  -- it was stored
  copied : ys ≡ put d at s
  copied =
      let t : b ≡ true = c.0 ∙ le-leb (at + length s) (length d) fits in
      c.1 ∙ rw t

  pub copied_into : ys ≡ sets d at s
  unfolding put
  copied_into =
      let e : put d at s ≡ sets d at s = sym (sets-eq s d at fits ∙ append_assoc (take at d) s (drop (at + length s) d)) in
      copied ∙ e

-- behind what was written at the front
pub copied_behind : (room first s w ys : List ℕ) (b : Bool) → length first + length s ≤ length room → every is_octet s ≡ true
    → w ≡ at_front first room → Stores (leb (length first + length s) (length w)) (put w (length first) s) w b ys
    → ys ≡ at_front (first ++ s) room
copied_behind room first s w ys b h o e c =
    let l : length w ≡ length room = ap (λ (t : List ℕ). length t) e ∙ written_length room first (omega arith) in
    copied w (length first) s ys b (omega arith) c
    ∙ rw e (ap (put (at_front first room) (length first)) (sym (low_octets_lem s o)) ∙ put_behind room first s)

-- at the front
pub copied_front : (room s ys : List ℕ) (b : Bool) → length s ≤ length room → every is_octet s ≡ true
    → Stores (leb (0 + length s) (length room)) (put room 0 s) room b ys → ys ≡ at_front s room
copied_front room s ys b h o c = copied_behind room [] s room ys b (omega arith) o refl c
