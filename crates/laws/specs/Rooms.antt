-- Octets laid out one list after the other in lent room: what has been written so far stands at its front, and the rest is as it was.
use Rattle.std.specs.Prelude.{ℕ, ◌+◌, ◌-◌, ◌%◌, ◌≤◌, ◌≡◌, refl, List, [], ◌∷◌, ◌++◌, length, take, drop, set}
use Rattle.std.proofs.Common.{arith, sym, ap, ◌∙◌, append-nil, append_assoc, length-append, length-drop}
use Rattle.std.proofs.lemmas.List.{map-append}
use borrow.Rule.Slice.PartMut.{put_mid}
use Rattle.std.proofs.lemmas.List.Edits.{sets}
use Rattle.annex.specs.Memory.{put, low_octets, at_front}
use Rattle.laws.specs.Written.{length_low, written_length, put_behind, put_part}
use Rattle.laws.specs.Fronts.{front_all}
use Rattle.laws.specs.Parts.{to_end}
use Rattle.laws.specs.Stores.{sets_snoc}

-- what is written, as a run of stores
pub stored : (w xs : List ℕ) → length xs ≤ length w → at_front xs w ≡ sets w 0 (low_octets xs)
stored w xs h =
    sym (front_all w (low_octets xs) (omega (arith, length_low xs)) ∙ ap (λ (n : ℕ). low_octets xs ++ drop n w) (length_low xs))

-- ---- turn by turn

-- of the octets `whole`, those `left` are still to be written, from the place `at` of the room on; w is what it held at first
pub record Laid (w room whole left : List ℕ) (at : ℕ) : Type 0 where
  pub done : List ℕ
  pub out : at ≡ length done
  pub parts : whole ≡ done ++ left
  pub so_far : room ≡ at_front done w

pub laid_start : (w whole : List ℕ) → Laid w w whole whole 0
laid_start w whole = record { done = []; out = refl; parts = refl; so_far = refl }

module _ {w room whole left : List ℕ} {at : ℕ} (y : Laid w room whole left at) (fits : length whole ≤ length w) where
  length-all : length whole ≡ at + length left
  length-all = ap (λ (l : List ℕ). length l) y.parts ∙ rw y.out (length-append y.done left)

  pub laid_length : length room ≡ length w
  laid_length = ap (λ (l : List ℕ). length l) y.so_far ∙ written_length w y.done (omega (arith, length-all, y.out))

  pub laid_at_lem : at ≤ length room
  laid_at_lem = omega (arith, laid_length, length-all)

  pub laid_count : left ≡ [] → at ≡ length whole
  laid_count e = omega (arith, length-all, ap (λ (l : List ℕ). length l) e)

  pub laid_end : left ≡ [] → room ≡ at_front whole w
  laid_end e =
      let all : whole ≡ y.done = y.parts ∙ ap (λ (l : List ℕ). y.done ++ l) e ∙ append-nil y.done in
      y.so_far ∙ ap (λ (l : List ℕ). at_front l w) (sym all)

  module _ (xs rest : List ℕ) (e : left ≡ xs ++ rest) where
    pub laid_fits : at + length xs ≤ length room
    laid_fits = omega (arith, laid_length, length-all, ap (λ (l : List ℕ). length l) e ∙ length-append xs rest)

    pub laid_room : length xs ≤ length (take (length room - at) (drop at room))
    laid_room = rw (to_end at room, length-drop at room) (omega (arith, laid_fits))

    -- xs written from `at` on
    pub laid_put : (n : ℕ) → n ≡ length xs → Laid w (put room at (low_octets xs)) whole rest (at + n)
    laid_put n g =
        record {
          done = y.done ++ xs;
          out = rw (length-append y.done xs) (omega (arith, y.out));
          parts = y.parts ∙ rw e (sym (append_assoc y.done xs rest));
          so_far = rw (y.out, y.so_far) (put_behind w y.done xs);
        }

    -- the room from `at` on is lent, and xs written at its front
    pub laid_turn : (ys : List ℕ) (n : ℕ) → ys ≡ at_front xs (take (length room - at) (drop at room)) → n ≡ length xs
        → Laid w (put_mid at (length room - at) room ys) whole rest (at + n)
    laid_turn ys n f g = rw (put_part room xs ys at laid_at_lem f) (laid_put n g)

  -- the last octet is stored
  pub laid_last : (x : ℕ) → left ≡ x ∷ [] → set room at (x % 256) ≡ at_front whole w
  laid_last x e =
      let d = y.done in
      let low = low_octets d in
      let all : whole ≡ d ++ x ∷ [] = y.parts ∙ ap (λ (l : List ℕ). d ++ l) e in
      let few : length (d ++ x ∷ []) ≤ length w = omega (arith, ap (λ (l : List ℕ). length l) all) in
      let r : room ≡ sets w 0 low = y.so_far ∙ stored w d (omega (arith, length-append d (x ∷ []))) in
      let k : at ≡ 0 + length low = omega (arith, y.out, length_low d) in
      let snoc = sym (sets_snoc w 0 low (x % 256)) in
      let m : low ++ x % 256 ∷ [] ≡ low_octets (d ++ x ∷ []) = sym (map-append (λ n. n % 256) d (x ∷ [])) in
      rw (r, k, snoc, m, all) (sym (stored w (d ++ x ∷ []) few))
