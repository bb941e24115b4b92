-- What the walk over an image's parameters gave, told as writing's answer and as what the room then holds.
use Rattle.std.specs.Prelude.{ℕ, ◌≤◌, ◌<◌, ◌≡◌, refl, true, false, List, [], ◌∷◌, ◌++◌, length, get_or, take, drop}
use Rattle.std.proofs.Common.{arith, sym, ap, ◌∙◌, eq-eqb, ne_eqb, lt-ltb, le-ltb, drop-cons}
use Rattle.annex.specs.Answers.{over_the_limits, no_room, Answer, Accepted, Refused}
use Rattle.annex.specs.Items.{Part}
use Rattle.annex.specs.Layout.{layout}
use Rattle.annex.specs.Allowed.{every, is_octet}
use Rattle.annex.specs.Walk.{unseen}
use Rattle.annex.specs.Writing.{parts_writing}
use Rattle.annex.specs.Image.{Front, parts_front}
use Rattle.annex.specs.Image.Front.{Taken, Short}
use Rattle.annex.specs.Memory.{at_front, low_octets}
use Rattle.annex.specs.Packed.{image_writing}
use Rattle.annex.specs.Promises.{ImageWritePromise}
use Rattle.laws.specs.Written.{low_octets_lem}
use Rattle.theorems.specs.ImageWritings.{
  front_parts,
  cut_by,
  image_record,
  image_cut,
  image_over,
  room_then,
  image_writing_lem,
  image_written_lem,
  Fit,
  image_fit,
}
use Rattle.theorems.specs.Views.{own_parts}
use Rattle.image_writer.specs.Over.{over_by}
use Rattle.image_writer.specs.Walked.{PartsServed}

-- the parameters of an image that has octets
abbrev pub parts_of : List ℕ → Front Part
parts_of m = parts_front (get_or m 0 0) (drop 1 m)

-- what the walk gave of them
abbrev pub Gave : List ℕ → Answer → ℕ → List ℕ → Type 0
Gave m a end d = PartsServed unseen 0 0 [] (parts_of m) a end d

over_refused : (m room : List ℕ) → image_over m ≡ true → ImageWritePromise m room (Refused over_the_limits 0) room
over_refused m room e =
    let w : image_writing m (length room) ≡ Refused over_the_limits 0 = rw (image_writing_lem m (length room), e) in
    (sym w, rw (image_written_lem m room, w))

under_writing : (m : List ℕ) (room : ℕ) (a : Answer) → image_over m ≡ false → parts_writing unseen 0 (image_record m) ≡ a
    → image_writing m room ≡ room_then room a
under_writing m room a e w = rw (image_writing_lem m room, e, w)

-- no octets
pub none_written : (m room : List ℕ) → length m ≡ 0 → ImageWritePromise m room (Refused over_the_limits 0) room
none_written [] room h = over_refused [] room refl
none_written (n ∷ s) room h = absurd (omega arith)

module _ (m room : List ℕ) (some : 0 < length m) where
  octets_are : m ≡ get_or m 0 0 ∷ drop 1 m
  octets_are = drop-cons m 0 0 some

  over_is : image_over m ≡ over_by (length (drop 1 m)) (parts_of m)
  over_is = ap (λ (l : List ℕ). image_over l) octets_are

  record_is : image_record m ≡ own_parts (front_parts (parts_of m))
  record_is = ap (λ (l : List ℕ). image_record l) octets_are

  cut_is : image_cut m ≡ cut_by (length (drop 1 m)) (parts_of m)
  cut_is = ap (λ (l : List ℕ). image_cut l) octets_are

  -- 1 before all else
  pub over_written : over_by (length (drop 1 m)) (parts_of m) ≡ true → ImageWritePromise m room (Refused over_the_limits 0) room
  over_written e = over_refused m room (over_is ∙ e)

  -- else the walk's refusal
  pub refused_written : over_by (length (drop 1 m)) (parts_of m) ≡ false → (k p end : ℕ) (d : List ℕ) → Gave m (Refused k p) end d
      → ImageWritePromise m room (Refused k p) room
  refused_written e k p end d g =
      let w = under_writing m (length room) (Refused k p) (over_is ∙ e) (ap (parts_writing unseen 0) record_is ∙ go (parts_of m) e g) in
      (sym w, rw (image_written_lem m room, w))
    where
      go : (f : Front Part) → over_by (length (drop 1 m)) f ≡ false → PartsServed unseen 0 0 [] f (Refused k p) end d
          → parts_writing unseen 0 (own_parts (front_parts f)) ≡ Refused k p
      go Short e g = absurd (let z : ◌≡◌ {A = ℕ} 0 1 = cc in omega arith)
      go (Taken r j) e g = sym g.told

  -- ---- accepted

  module _ (n end : ℕ) (d : List ℕ) (gave : Gave m (Accepted n) end d) where
    -- octets are left over
    pub left_written : (end ≡ length (drop 1 m) → ⊥) → ImageWritePromise m room (Refused over_the_limits 0) room
    left_written u = over_refused m room (rw (cut_is ∙ go (parts_of m) gave))
      where
        go : (f : Front Part) → PartsServed unseen 0 0 [] f (Accepted n) end d → cut_by (length (drop 1 m)) f ≡ true
        go Short g = refl
        go (Taken r k) g = rw (ne_eqb k (length (drop 1 m)) (λ e. u (omega (arith, g.ends n refl))))

    module _ (all : end ≡ length (drop 1 m)) where
      cut_not : image_cut m ≡ false
      cut_not = cut_is ∙ go (parts_of m) gave
        where
          go : (f : Front Part) → PartsServed unseen 0 0 [] f (Accepted n) end d → cut_by (length (drop 1 m)) f ≡ false
          go Short g = absurd g
          go (Taken r k) g = rw (eq-eqb k (length (drop 1 m)) (omega (arith, g.ends n refl)))

      told_all : parts_writing unseen 0 (image_record m) ≡ Accepted n
      told_all = ap (parts_writing unseen 0) record_is ∙ go (parts_of m) gave
        where
          go : (f : Front Part) → PartsServed unseen 0 0 [] f (Accepted n) end d
              → parts_writing unseen 0 (own_parts (front_parts f)) ≡ Accepted n
          go Short g = absurd g
          go (Taken r k) g = sym g.told

      module _ (octets : every is_octet m ≡ true) where
        pub fit : Fit m n
        fit = image_fit m octets cut_not n told_all

        pub short_written : length room < n → ImageWritePromise m room (Refused no_room 0) room
        short_written h =
            let w : image_writing m (length room) ≡ Refused no_room 0 =
            under_writing m (length room) (Accepted n) fit.under told_all ∙ rw (lt-ltb (length room) n h) in
            (sym w, rw (image_written_lem m room, w))

        laid_all : n ≤ length d → take n d ≡ layout (image_record m)
        laid_all h = go (parts_of m) gave ∙ ap low_octets (ap layout (sym record_is)) ∙ low_octets_lem (layout (image_record m)) fit.octets
          where
            go : (f : Front Part) → PartsServed unseen 0 0 [] f (Accepted n) end d → take n d ≡ low_octets (layout (own_parts (front_parts f)))
            go Short g = absurd g
            go (Taken r k) g = g.laid n refl h

        -- the draft's octets copied to the front of the room
        pub done_written : n ≤ length room → n ≤ length d → ImageWritePromise m room (Accepted n) (take n d ++ drop n room)
        done_written h l =
            let xs = layout (image_record m) in
            let w : image_writing m (length room) ≡ Accepted n =
            under_writing m (length room) (Accepted n) fit.under told_all ∙ rw (le-ltb (length room) n h) in
            let c : take n d ++ drop n room ≡ at_front xs room =
            rw (laid_all l, low_octets_lem xs fit.octets, ← fit.length-given) in
            (sym w, c ∙ rw (image_written_lem m room, w, low_octets_lem xs fit.octets, ← fit.length-given))
