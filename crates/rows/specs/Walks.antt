-- What a walk over rows keeps: from each cursor a row is told, and behind it the others are left. The rows of a message are such a walk.
use Rattle.std.specs.Prelude.{ℕ, zero, suc, ◌≤◌, ◌<◌, ◌≡◌, refl, Bool, true, false, List, ◌∷◌, ltb, length, get_or, drop}
use Rattle.std.proofs.Common.{arith, sym, ap, ◌∙◌, lt-ltb, ltb-true, ltb-false, length-drop, drop-cons}
use Rattle.annex.specs.Walking.{first_cursor, no_row, row_here, next_of}
use Rattle.annex.specs.declared.Cursor.{Cursor}
use Rattle.annex.specs.declared.Row.{Row}
use Rattle.walk.specs.Ahead.{Ahead, ahead_turn, rows_none}
use Rattle.walk.specs.Cursors.{cursor_at, rows_from}

-- of octets and a cursor: the rows from there on, whether it may stand there, the first of the rows, and the cursor behind that
abbrev pub Lists : Type 0
Lists = List ℕ → Cursor → List Row

abbrev pub Stands : Type 1
Stands = List ℕ → Cursor → Type 0

abbrev pub Tells : Type 0
Tells = List ℕ → Cursor → Row

abbrev pub Goes : Type 0
Goes = List ℕ → Cursor → Cursor

-- a turn, where a row is left
pub record Turns (left : Lists) (ahead : Stands) (row : Tells) (behind : Goes) : Type 0 where
  pub rows : (m : List ℕ) (c : Cursor) → ahead m c → 0 < length (left m c) → left m c ≡ row m c ∷ left m (behind m c)
  pub again : (m : List ℕ) (c : Cursor) → ahead m c → 0 < length (left m c) → ahead m (behind m c)

-- ---- row by row

module _ {left : Lists} {ahead : Stands} {row : Tells} {behind : Goes} (t : Turns left ahead row behind) (m : List ℕ) (a : ahead m first_cursor) where
  abbrev all : List Row
  all = left m first_cursor

  -- at the cursor behind k rows, where row k is left: it is the first that is left there
  module _ (k : ℕ) (h : k < length all) (f : ahead m (cursor_at (behind m) k)) (l : left m (cursor_at (behind m) k) ≡ drop k all) where
    some : 0 < length (left m (cursor_at (behind m) k))
    some = omega (arith, h, ap length l, length-drop k all)

    first_there : row m (cursor_at (behind m) k) ∷ left m (behind m (cursor_at (behind m) k)) ≡ get_or all k no_row ∷ drop (suc k) all
    first_there = sym (t.rows m _ f some) ∙ l ∙ drop-cons all k no_row h

  -- behind k rows the others are left
  pub left_behind : (k : ℕ) → k ≤ length all → ahead m (cursor_at (behind m) k) × (left m (cursor_at (behind m) k) ≡ drop k all)
  unfolding cursor_at
  left_behind zero h = (a, refl)
  left_behind (suc k) h =
      let b = left_behind k (omega (arith, h)) in
      (t.again m _ b.0 (some k h b.0 b.1), let e = first_there k h b.0 b.1 in cc)

  -- the row there is row k
  pub told : (k : ℕ) → k < length all → row m (cursor_at (behind m) k) ≡ get_or all k no_row
  told k h =
      let b = left_behind k (omega (arith, h)) in
      let e = first_there k h b.0 b.1 in cc

-- ---- the rows of a message

-- a row is left as long as octets are
pub message_more : (m : List ℕ) (c : Cursor) → Ahead m c → ltb c.at (length m) ≡ ltb 0 (length (rows_from m c))
message_more m c a = go (ltb c.at (length m)) refl
  where
    go : (b : Bool) → ltb c.at (length m) ≡ b → b ≡ ltb 0 (length (rows_from m c))
    go true e = let t = ahead_turn m c a (ltb-true c.at (length m) e) in sym (lt-ltb 0 (length (rows_from m c)) (omega (arith, ap length t.rows)))
    go false e = rw (rows_none m c a (ltb-false c.at (length m) e))

message_low : (m : List ℕ) (c : Cursor) → Ahead m c → 0 < length (rows_from m c) → c.at < length m
message_low m c a h = go (ltb c.at (length m)) refl
  where
    go : (b : Bool) → ltb c.at (length m) ≡ b → c.at < length m
    go true e = ltb-true c.at (length m) e
    go false e = absurd (let z = rows_none m c a (ltb-false c.at (length m) e) in omega (arith, ap length z))

pub message_turn : Turns rows_from Ahead row_here next_of
message_turn = record {
  rows = λ m c a h. (ahead_turn m c a (message_low m c a h)).rows;
  again = λ m c a h. (ahead_turn m c a (message_low m c a h)).again;
}
