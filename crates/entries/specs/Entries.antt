-- The entries of CC from a cursor on, in octets of any kind, one cursor to each: as `next` goes over them.
use Rattle.std.specs.Prelude.{ℕ, ◌+◌, ◌-◌, ◌≤◌, ◌<◌, ◌≡◌, refl, Bool, true, false, cond, ◌&&◌, List, [], ◌∷◌, map, length, get_or, drop}
use Rattle.std.proofs.Common.{arith, sym, ap, ◌∙◌}
use Rattle.annex.specs.Answers.{fault_then, Fault, Sound, Found, At, Nowhere}
use Rattle.annex.specs.Entering.{cursors_from, in_carrier, entry_stretch, entry_behind, entry_next}
use Rattle.annex.specs.Walking.{steps_from, cursor_to}
use Rattle.annex.specs.declared.Cursor.{Cursor}
use Rattle.std.specs.List.{list_all}
use Rattle.std.proofs.lemmas.List.{at_drop_more}
use Rattle.laws.specs.Bools.{and_left, and_right}
use Rattle.walk.specs.Steps.{steps_more, steps_none, steps_few, by_step}
use Rattle.entries.specs.Left.{Lies, Stands, entry_stands, entry_formed, entry_fault, formed_left, fault_left, formed_turn, fault_turn, formed_past, fault_past, lies_next, entry_here, entries_left, entries_turn, entries_past}

-- each is behind the one before
onward : (s : List ℕ) (c : Cursor) → c.at < length s → c.at < (entry_next s c).at
unfolding entry_next
onward s c l = go (entry_stretch s c) refl
  where
    behind : (x y : ℕ) → Stands (length s) c.at x y → (b : Bool) → c.at < (cond b (cursor_to y c.end) (cursor_to x y)).at
    behind x y k true = omega (arith, k.start, k.order)
    behind x y k false = omega (arith, k.start)

    go : (f : Found) → entry_stretch s c ≡ f → c.at < (entry_behind s c f).at
    go (At x y) e = behind x y (entry_stands s c x y e) (in_carrier c)
    go Nowhere e = l

pub cursors_more : (s : List ℕ) (c : Cursor) → c.at < length s → cursors_from s c ≡ c ∷ cursors_from s (entry_next s c)
unfolding cursors_from
cursors_more s c l = steps_more (entry_next s) (length s) (onward s) c l

pub cursors_none : (s : List ℕ) (c : Cursor) → length s ≤ c.at → cursors_from s c ≡ []
unfolding cursors_from
cursors_none s c l = steps_none (entry_next s) (length s) c l

pub cursors_few : (s : List ℕ) (c : Cursor) → length (cursors_from s c) ≤ length s - c.at
unfolding cursors_from
cursors_few s c = steps_few (entry_next s) (length s) c

-- ---- what holds of them all

module _ (s : List ℕ) where
  pub formed_all : (c : Cursor) → Lies s c → formed_left s c ≡ list_all (entry_formed s) (cursors_from s c)
  formed_all =
      by_step (entry_next s) (length s) (onward s) (Lies s) (λ k. formed_left s k ≡ list_all (entry_formed s) (cursors_from s k))
      (λ k j h. (lies_next s k j h, λ r. formed_turn s k j h ∙ rw (cursors_more s k h, r)))
      (λ k j h. formed_past s k j h ∙ rw (cursors_none s k h))

  -- each with its level
  pub entries_all : (c : Cursor) → Lies s c → formed_left s c ≡ true → map (entry_here s) (cursors_from s c) ≡ entries_left s c
  entries_all =
      by_step (entry_next s) (length s) (onward s) (Lies s)
      (λ k. formed_left s k ≡ true → map (entry_here s) (cursors_from s k) ≡ entries_left s k)
      (λ k j h. (
        lies_next s k j h,
        λ r f.
            let both : entry_formed s k && formed_left s (entry_next s k) ≡ true = sym (formed_turn s k j h) ∙ f in
            rw (cursors_more s k h, entries_turn s k j h (and_left _ _ both), r (and_right (entry_formed s k) _ both)),
      ))
      (λ k j h f. rw (cursors_none s k h, entries_past s k j h))

  -- the first fault of some entries
  abbrev pub faults : List Cursor → Fault
  faults [] = Sound
  faults (c ∷ cs) = fault_then (entry_fault s c) (faults cs)

  pub faults_all : (c : Cursor) → Lies s c → formed_left s c ≡ true → fault_left s c ≡ faults (cursors_from s c)
  faults_all =
      by_step (entry_next s) (length s) (onward s) (Lies s) (λ k. formed_left s k ≡ true → fault_left s k ≡ faults (cursors_from s k))
      (λ k j h. (
        lies_next s k j h,
        λ r f.
            let both : entry_formed s k && formed_left s (entry_next s k) ≡ true = sym (formed_turn s k j h) ∙ f in
            fault_turn s k j h (and_left _ _ both) ∙ rw (cursors_more s k h, r (and_right (entry_formed s k) _ both)),
      ))
      (λ k j h f. fault_past s k j h ∙ rw (cursors_none s k h))

  -- at an entry
  pub faults_more : (cs : List Cursor) (k : ℕ) (c : Cursor) → (k < length cs) × (c ≡ get_or cs k c)
      → faults (drop k cs) ≡ fault_then (entry_fault s c) (faults (drop (k + 1) cs))
  faults_more cs k c h =
      at_drop_more faults cs k c h.0 ∙ ap (λ (d : Cursor). fault_then (entry_fault s d) (faults (drop (k + 1) cs))) (sym h.1)
