-- Parameters of an image that are judged and laid out in one walk: what serves as the answer, as the count of octets read and as the draft
-- that holds the octets laid out. The draft counts only where all of it is accepted and fits.
use Rattle.std.specs.Prelude.{ℕ, ◌+◌, ◌%◌, ◌≤◌, ◌≡◌, refl, Result, Ok, Err, List, [], ◌∷◌, ◌++◌, length, take}
use Rattle.std.proofs.Common.{arith, sym, ◌∙◌, append_assoc}
use Rattle.std.proofs.lemmas.List.{map-append}
use Rattle.annex.specs.Image.{Front, more}
use Rattle.annex.specs.Image.Front.{Taken, Short}
use Rattle.annex.specs.Memory.{low_octets}
use Rattle.annex.specs.Answers.{Answer, Accepted, Refused, placed_at}
use Rattle.annex.specs.declared.Refusal.{Refusal}
use Rattle.image_writer.specs.declared.Step.{Step}

-- what accepted parameters gave, as an answer, and how many octets of the image they took
abbrev pub answer_of : Result Step Refusal → Answer
answer_of (Ok x) = Accepted x.behind
answer_of (Err r) = Err r

abbrev pub octets_of : Result Step Refusal → ℕ
octets_of (Ok x) = x.octets
octets_of (Err r) = 0

-- what a refusal told at another place was before
pub placed_ok : (p : ℕ) (a b : Answer) (n : ℕ) → b ≡ placed_at p a → b ≡ Accepted n → a ≡ Accepted n
placed_ok p (Accepted m) b n e f = sym e ∙ f
placed_ok p (Err w) b n e f = absurd (let z : ◌≡◌ {A = Answer} (Refused w.0 p) (Accepted n) = sym e ∙ f in let y : ◌≡◌ {A = ℕ} 0 1 = cc in omega arith)

pub placed_err : (p : ℕ) (a b : Answer) (r : Refusal) → b ≡ placed_at p a → b ≡ Err r
    → (w : Refusal) × (a ≡ Refused w.0 w.1) × ◌≡◌ {A = Refusal} r (w.0, p)
placed_err p (Accepted m) b r e f = absurd (let z : ◌≡◌ {A = Answer} (Accepted m) (Err r) = sym e ∙ f in let y : ◌≡◌ {A = ℕ} 0 1 = cc in omega arith)
placed_err p (Err w) b r e f =
    let z : ◌≡◌ {A = Answer} (Refused w.0 p) (Err r) = sym e ∙ f in
    (w, refl, cc)

-- refused, whatever the number and the place
abbrev pub IsRefused : Answer → Type 0
IsRefused (Accepted n) = ⊥
IsRefused (Err r) = Unit {0}

-- for the parameters xs, which take k octets of the image behind i others: what writing answers; and where that is accepted, the place
-- behind them in the image, and in the draft what stood before them, then their octets
pub record Serves {A : Type 0} (writes : List A → Answer) (lays : List A → List ℕ) (i : ℕ) (before : List ℕ) (xs : List A) (k : ℕ)
    (a : Answer) (end : ℕ) (d : List ℕ) : Type 0 where
  pub told : a ≡ writes xs
  pub ends : (n : ℕ) → a ≡ Accepted n → end ≡ i + k
  pub laid : (n : ℕ) → a ≡ Accepted n → n ≤ length d → take n d ≡ before ++ low_octets (lays xs)

-- and where the octets are too short, any refusal
abbrev pub Served : {A : Type 0} → (List A → Answer) → (List A → List ℕ) → ℕ → List ℕ → Front A → Answer → ℕ → List ℕ → Type 0
Served writes lays i before (Taken xs k) a end d = Serves writes lays i before xs k a end d
Served writes lays i before Short a end d = IsRefused a

module _ {A : Type 0} (writes : List A → Answer) (lays : List A → List ℕ) (i : ℕ) (before : List ℕ) where
  pub serves_refused : (xs : List A) (j k p end : ℕ) (d : List ℕ) → writes xs ≡ Refused k p
      → Serves writes lays i before xs j (Refused k p) end d
  serves_refused xs j k p end d h =
      record {
        told = sym h;
        ends = λ n e. absurd (let z : ◌≡◌ {A = ℕ} 0 1 = cc in omega arith);
        laid = λ n e. absurd (let z : ◌≡◌ {A = ℕ} 0 1 = cc in omega arith);
      }

  -- a parameter that is refused, whatever is behind it
  pub served_refused : (x : A) (m : ℕ) (f : Front A) (k p end : ℕ) (d : List ℕ) → ((xs : List A) → writes (x ∷ xs) ≡ Refused k p)
      → Served writes lays i before (more x m f) (Refused k p) end d
  served_refused x m Short k p end d h = tt
  served_refused x m (Taken xs j) k p end d h = serves_refused (x ∷ xs) (m + j) k p end d (h xs)

  -- one that is accepted and laid out: what serves for those behind it, which start at the place `at`, serves for it and them
  pub served_more : (later : List A → Answer) (lays-later : List A → List ℕ) (x : A) (m at : ℕ) (x-laid before-later : List ℕ)
      (f : Front A) (a : Answer) (end : ℕ) (d : List ℕ) → ((xs : List A) → writes (x ∷ xs) ≡ later xs)
      → ((xs : List A) → lays (x ∷ xs) ≡ x-laid ++ lays-later xs) → ((xs : List A) (n : ℕ) → later xs ≡ Accepted n → at ≤ n)
      → (at ≤ length d → before-later ≡ before ++ low_octets x-laid) → Served later lays-later (i + m) before-later f a end d
      → Served writes lays i before (more x m f) a end d
  served_more later lays-later x m at x-laid before-later Short a end d w l b h s = s
  served_more later lays-later x m at x-laid before-later (Taken xs k) a end d w l b h s =
      record {
        told = s.told ∙ sym (w xs);
        ends = λ n e. omega (arith, s.ends n e);
        laid = λ n e g.
            let j = h (omega (arith, b xs n (sym s.told ∙ e))) in
            s.laid n e g
            ∙ rw (j, l xs, map-append (λ x. x % 256) x-laid (lays-later xs))
            (append_assoc before (low_octets x-laid) (low_octets (lays-later xs)));
      }

  -- none is left
  pub served_end : (a : Answer) (end : ℕ) (d : List ℕ) → a ≡ writes [] → end ≡ i
      → ((n : ℕ) → a ≡ Accepted n → n ≤ length d → take n d ≡ before ++ low_octets (lays []))
      → Served writes lays i before (Taken [] 0) a end d
  served_end a end d t e l = record { told = t; ends = λ n f. omega arith; laid = l }
