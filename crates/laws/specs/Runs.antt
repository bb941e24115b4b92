-- Octets stored in lent room, run after run: what is left to store decides what the room will hold.
use Rattle.std.specs.Prelude.{ℕ, suc, ◌+◌, ◌*◌, ◌≤◌, ◌<◌, ◌≡◌, refl, List, [], ◌∷◌, ◌++◌, length, take, drop, set}
use Rattle.std.proofs.Common.{add-zero, add_comm, mul-zero, mul-suc, arith, sym, ap, ◌∙◌, length-append}
use Rattle.std.proofs.lemmas.List.Edits.{sets}
use Rattle.std.proofs.lemmas.List.{set_comm}
use Rattle.std.proofs.Math.Seq.{length-sets, take-append_seam}
use Rattle.annex.specs.Layout.{lay_all}
use Rattle.laws.specs.Fronts.{front_all}
use Rattle.laws.specs.Filling.{sets-append}

-- ---- two runs, the second stored first

set-sets : {A : Type 0} (ys l : List A) (j i : ℕ) (a : A) → i < j → set (sets l j ys) i a ≡ sets (set l i a) j ys
set-sets [] l j i a h = refl
set-sets (y ∷ ys) l j i a h =
    set-sets ys (set l j y) (suc j) i a (omega arith) ∙ ap (λ t. sets t (suc j) ys) (set_comm l j i y a (λ e. omega arith))

pub sets_before : {A : Type 0} (xs ys l : List A) (i : ℕ) → sets (sets l (i + length xs) ys) i xs ≡ sets l i (xs ++ ys)
sets_before [] ys l i = rw add-zero
sets_before (x ∷ xs) ys l i =
    let e : i + suc (length xs) ≡ suc i + length xs = omega arith in
    rw (e, set-sets ys l (suc i + length xs) i x (omega arith)) (sets_before xs ys (set l i x) (suc i))

-- ---- one run after the other

-- octets stored from `at` on, up to r
pub record Puts (octets : List ℕ) (at : ℕ) (before : List ℕ) (r : ℕ) (after : List ℕ) : Type 0 where
  pub ends : r ≡ at + length octets
  pub put : after ≡ sets before at octets

pub puts_none : (at : ℕ) (before : List ℕ) → Puts [] at before at before
puts_none at before = record { ends = omega arith; put = refl }

-- the room keeps its length
pub puts_long : {octets : List ℕ} {at : ℕ} {before : List ℕ} {r : ℕ} {after : List ℕ} → Puts octets at before r after
    → length after ≡ length before
puts_long {octets} {at} {before} p = rw p.put (length-sets before at octets)

-- stored from the front on
module _ {octets before : List ℕ} {r : ℕ} {after : List ℕ} (p : Puts octets 0 before r after) (fits : length octets ≤ length before) where
  pub puts_front : after ≡ octets ++ drop (length octets) before
  puts_front = p.put ∙ front_all before octets fits

  pub puts_taken : take r after ≡ octets
  puts_taken =
      let n : r ≡ length octets = omega (arith, p.ends) in
      rw (n, puts_front) (take-append_seam octets (drop (length octets) before))

-- of the octets `all`, to be stored in `before` from `first` on, `left` are left, to be stored in `now` from `at` on
pub record Left (all : List ℕ) (first : ℕ) (before left : List ℕ) (at : ℕ) (now : List ℕ) : Type 0 where
  pub ends : first + length all ≡ at + length left
  pub put : sets before first all ≡ sets now at left
  pub long : length now ≡ length before

pub left_all : (all : List ℕ) (first : ℕ) (before : List ℕ) → Left all first before all first before
left_all all first before = record { ends = refl; put = refl; long = refl }

module _ {all : List ℕ} {first : ℕ} {before left : List ℕ} {at : ℕ} {now : List ℕ} (l : Left all first before left at now) where
  -- none left
  pub left_none : left ≡ [] → Puts all first before at now
  left_none e =
      let f = rw e at l in
      record { ends = omega (arith, f.ends); put = sym f.put }

  module _ (xs ys : List ℕ) (e : left ≡ xs ++ ys) where
    -- some of them stored
    pub left_some : (r : ℕ) (after : List ℕ) → Puts xs at now r after → Left all first before ys r after
    left_some r after p =
        let f = rw e at l in
        record {
          ends = omega (arith, f.ends, p.ends, length-append xs ys);
          put = f.put ∙ rw (p.put, p.ends) (sets-append xs ys now at);
          long = puts_long p ∙ l.long;
        }

    -- there is room for them
    pub left_fits : first + length all ≤ length before → at + length xs ≤ length now
    left_fits h = omega (arith, l.ends, l.long, ap (λ (s : List ℕ). length s) e, length-append xs ys)

-- ---- things of so many octets each, one behind the other

module _ {A : Type 0} (octets : A → List ℕ) (width : ℕ) (wide : (a : A) → length (octets a) ≡ width) where
  pub all_long : (xs : List A) → length (lay_all octets xs) ≡ width * length xs
  all_long [] = sym (mul-zero width)
  all_long (x ∷ xs) =
      length-append (octets x) (lay_all octets xs)
      ∙ rw (wide x, all_long xs) (add_comm width (width * length xs) ∙ sym (mul-suc width (length xs)))

  -- of those to be stored, x and ys are left
  module _ {all : List ℕ} {first : ℕ} {before : List ℕ} (x : A) (ys : List A) (at : ℕ) (now : List ℕ)
      (l : Left all first before (lay_all octets (x ∷ ys)) at now) where
    pub one_stored : (after : List ℕ) → after ≡ sets now at (octets x) → Left all first before (lay_all octets ys) (at + width) after
    one_stored after e =
        left_some l (octets x) (lay_all octets ys) refl (at + width) after (record { ends = ap (λ (k : ℕ). at + k) (sym (wide x)); put = e })

    pub one_fits : first + length all ≤ length before → at + width ≤ length now
    one_fits h = rw (wide x) at (left_fits l (octets x) (lay_all octets ys) refl h)
