-- The digits of a code, by the entry that a cursor stands at.
use Prim.Native.Nat.{ℕ, zero, suc, ◌+◌, ◌-◌, ◌≤◌, ◌<◌}
use Rattle.std.proofs.Common.{zero-add, arith, sym, ap, ◌∙◌, ltb-true, ltb-false, lt-ltb, le-ltb, le-leb, leb-true, leb-false, length-take, length-drop, get_or-take, get_or-drop, drop_of_length-le}
use Rattle.std.specs.Prelude.{◌≡◌, refl, Bool, true, false, cond, ◌&&◌, leb, ltb, length, get_or, take, drop}
use mathlib.Core.List.{List, []}
use Rattle.std.proofs.lemmas.List.Edits.{sets}
use Rattle.annex.specs.Answers.{no_room, absent, room_after, start_of, stop_of, Answer, Found, Accepted, Refused, At, Nowhere}
use Rattle.annex.specs.Carriers.{holds_code, code_count, code_digits}
use Rattle.annex.specs.Digits.{digits_of}
use Rattle.annex.specs.Entering.{first_entry, in_carrier, entry_stretch, entry_inside, is_code_here}
use Rattle.annex.specs.Finding.{find_answer, find_part}
use Rattle.annex.specs.Memory.{values_fit}
use Rattle.annex.specs.Transit.{Entry, entry, no_entry, entries_of, is_code_entry, digits_in, carriers_found, entry_found, code_answer, digits_answer, digits_given}
use Rattle.annex.specs.declared.Alphabet.TheVariants.{Decimal}
use Rattle.annex.specs.declared.Cursor.{Cursor}
use Rattle.laws.specs.Bools.{and_left}
use Rattle.laws.specs.Entries.{code_long}
use Rattle.laws.specs.Fronts.{front_all}
use Rattle.entries.specs.Left.{entry_sized, entries_left, entries_first_left, entries_past, here, entry_here, held_here}
use Rattle.carriers.specs.Rows.{Going, right_here, entries_next}

-- the entry at a cursor
abbrev pub entry_at : List ℕ → Cursor → Entry
entry_at s c = get_or (entries_left s c) 0 no_entry

-- what is told of its digits, and what the room then holds
abbrev pub DigitsTold : List ℕ → Cursor → List ℕ → Answer → List ℕ → Type 0
DigitsTold s c room r now =
    let a = code_answer (entry_at s c) (length room) in
    (r ≡ a) × (now ≡ room_after a (digits_in (entry_at s c)) room)

-- ---- whether it is a code

module _ (s : List ℕ) (c : Cursor) (g : Going s c) where
  here_code : c.at < length s → is_code_entry (entry_here s c) ≡ is_code_here s c
  here_code l = go (in_carrier c) refl
    where
      go : (b : Bool) → in_carrier c ≡ b
          → is_code_entry (cond b (entry 2 (here (take c.end s) c.at)) (entry 1 (here s c.at))) ≡ b && holds_code (get_or s c.at 0)
      go true e = rw (get_or-take c.end s c.at 0 (ltb-true c.at c.end e))
      go false e = refl

  -- past the last entry there is none
  pub code_at : is_code_entry (entry_at s c) ≡ is_code_here s c
  code_at = go (ltb c.at (length s)) refl
    where
      go : (b : Bool) → ltb c.at (length s) ≡ b → is_code_entry (entry_at s c) ≡ is_code_here s c
      go true e = let l = ltb-true c.at (length s) e in rw (entries_next s c g l) (here_code l)
      go false e =
          let past = ltb-false c.at (length s) e in
          rw (entries_past s c g.lies past, le-ltb c.at c.end (omega (arith, past, g.lies.within)))

  -- a code stands within the contents
  module _ (k : is_code_here s c ≡ true) where
    within : c.at < length s
    within =
        let i = ltb-true c.at c.end (and_left (in_carrier c) (holds_code (get_or s c.at 0)) k) in
        omega (arith, i, g.lies.within)

    -- it is not cut
    pub never_cut : entry_stretch s c ≡ Nowhere → ⊥
    never_cut e = let f = rw e at (right_here s c g within) in absurd (let z : ◌≡◌ {A = ℕ} 0 1 = cc in omega arith)

    digits_at : digits_in (entry_at s c) ≡ code_digits (entry_inside s c)
    digits_at =
        ap (λ (es : List Entry). digits_in (get_or es 0 no_entry)) (entries_next s c g within)
        ∙ ap code_digits (held_here s c g.lies within (right_here s c g within))

    module _ (o : get_or s (c.at + 1) 0 < 256) where
      -- what it holds, and its digits
      abbrev code : List ℕ
      code = entry_inside s c

      abbrev ds : List ℕ
      ds = digits_of Decimal (code_count code) (drop 1 code)

      pub digits_are : digits_in (entry_at s c) ≡ ds
      unfolding code_digits
      digits_are = digits_at

      long : length code ≤ 255
      long = go (entry_stretch s c) refl
        where
          go : (f : Found) → entry_stretch s c ≡ f → length (take (stop_of f - start_of f) (drop (start_of f) s)) ≤ 255
          go (At a b) f = simp length-take (omega (arith, entry_sized s c a b f))
          go Nowhere f = omega arith

      count_is : length ds ≡ (code_count code).0
      unfolding code_digits
      count_is = code_long code

      -- there is room for so many among a record's values
      few : length ds ≤ 512
      few = omega (arith, count_is, long, length-drop 1 code)

      fit : (room : List ℕ) → values_fit (length room) 0 (length ds) ≡ leb (length ds) (length room)
      fit room = rw (le-leb (length ds) 512 few, zero-add (length ds))

      -- by the room
      pub code_short : (room : List ℕ) → values_fit (length room) 0 (length ds) ≡ false → DigitsTold s c room (Refused no_room 0) room
      code_short room v =
          let less : length room < length ds = leb-false (length ds) (length room) (sym (fit room) ∙ v) in
          let told : code_answer (entry_at s c) (length room) ≡ Refused no_room 0 =
          rw (code_at, k, digits_are, lt-ltb (length room) (length ds) less) in
          (sym told, rw told)

      pub code_given : (room now : List ℕ) → values_fit (length room) 0 (length ds) ≡ true → now ≡ sets room 0 ds
          → DigitsTold s c room (Accepted (code_count code).0) now
      code_given room now v e =
          let roomy : length ds ≤ length room = leb-true (length ds) (length room) (sym (fit room) ∙ v) in
          let told : code_answer (entry_at s c) (length room) ≡ Accepted (length ds) =
          rw (code_at, k, digits_are, le-ltb (length room) (length ds) roomy) in
          (rw (told, count_is), e ∙ front_all room ds roomy ∙ rw (told, digits_are))

  -- one that holds no code
  pub no_code : (room : List ℕ) → is_code_here s c ≡ false → DigitsTold s c room (Refused absent 0) room
  no_code room e = let f = code_at ∙ e in (rw f, rw f)

-- ---- of a message

-- the CC is found, and its contents start at p
module _ (m : List ℕ) (which p : ℕ) (e : find_answer m (carriers_found which m) ≡ Accepted p) where
  -- the first row is the direction's
  pub direction_told : (room : List ℕ) → (digits_answer m which 0 (length room) ≡ Refused absent 0) × (digits_given m which 0 room ≡ room)
  unfolding digits_answer digits_given entries_of
  direction_told room = (rw e, rw e)

  -- the others are those of the entries
  module _ (row : ℕ) (n : row ≡ 0 → ⊥) where
    abbrev s : List ℕ
    s = find_part m (carriers_found which m)

    behind : (k : ℕ) → (k ≡ 0 → ⊥) → get_or (entries_of s) k no_entry ≡ get_or (entries_left s first_entry) (k - 1) no_entry
    unfolding entries_of
    behind zero z = absurd (z refl)
    behind (suc k) z = let less : suc k - 1 ≡ k = omega arith in rw (less, entries_first_left s)

    found : (es : List Entry) → es ≡ drop (row - 1) (entries_left s first_entry) → entry_found which row m ≡ get_or es 0 no_entry
    found es h =
        let z : row - 1 + 0 ≡ row - 1 = omega arith in
        behind row n ∙ sym (ap (λ (xs : List Entry). get_or xs 0 no_entry) h ∙ get_or-drop (row - 1) (entries_left s first_entry) 0 no_entry ∙ rw z)

    pub digits_told : (c : Cursor) → entries_left s c ≡ drop (row - 1) (entries_left s first_entry)
        → (room : List ℕ) (r : Answer) (now : List ℕ) → DigitsTold s c room r now
        → (r ≡ digits_answer m which row (length room)) × (now ≡ digits_given m which row room)
    unfolding digits_answer digits_given
    digits_told c h room r now t = let same = found (entries_left s c) h in (t.0 ∙ rw (e, same), t.1 ∙ rw (e, same))

    -- behind the last there is none
    pub digits_past : length (entries_left s first_entry) ≤ row - 1 → (room : List ℕ)
        → (digits_answer m which row (length room) ≡ Refused absent 0) × (digits_given m which row room ≡ room)
    unfolding digits_answer digits_given
    digits_past l room =
        let none = found [] (sym (drop_of_length-le (entries_left s first_entry) {i = row - 1} l)) in
        (rw (e, none), rw (e, none))

-- where it is not found the answer is that of finding, and the room stays
pub not_found : (m : List ℕ) (which row : ℕ) (room : List ℕ) (k p : ℕ) → find_answer m (carriers_found which m) ≡ Refused k p
    → (digits_answer m which row (length room) ≡ Refused k p) × (digits_given m which row room ≡ room)
unfolding digits_answer digits_given
not_found m which row room k p e = (rw e, rw e)
