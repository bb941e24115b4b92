-- All that the lists ask of a header, as the code holds it, and that the code's look-up asks it: one table computed over the 256 headers.
use Rattle.std.specs.Prelude.{ℕ, zero, suc, ◌+◌, ◌<◌, ◌≡◌, refl, Bool, true, false, cond, not, ◌&&◌, ◌||◌, List, [], ◌∷◌, map, eqb, drop}
use Rattle.std.proofs.Common.{◌∙◌, ne_eqb}
use Rattle.annex.specs.Units.{pli_of, name_of}
use Rattle.annex.specs.Answers.{refuse, unused_name, other_pli, Answer, Refused}
use Rattle.annex.specs.Heads.{Head, among, heads, is_free, name_used, pli_right, zeroes_of, form_of}
use Rattle.annex.specs.Writing.{head_writing}
use Rattle.annex.specs.declared.Check.TheVariants.{Nothing}
use Rattle.annex.specs.declared.Marks.TheVariants.{Unmarked}
use Rattle.annex.specs.declared.Form.{Form}
use Rattle.annex.specs.declared.Form.TheVariants.{Checked, Digits}
use Rattle.laws.specs.Below.{same_below}
use Rattle.laws.specs.Members.{among_every}
use Rattle.laws.specs.Octet.{None}
use Rattle.laws.specs.Steps.{head_right}
use Rattle.heads.specs.declared.Asked.{Asked}

abbrev asked : Bool → ℕ → Form → Asked
asked r z f = record { right = r; zeroes = z; form = f }

-- what the definitions ask of a header
abbrev asked_of : ℕ → Asked
asked_of h = asked (pli_right h) (zeroes_of h) (form_of h)

-- the same thing by thing
abbrev pub Asks : ℕ → Asked → Type 0
Asks h r = (r.right ≡ pli_right h) × (r.zeroes ≡ zeroes_of h) × (r.form ≡ form_of h)

-- ---- as the code looks it up

-- by a row of the lists
abbrev pub listed_asked : ℕ → Form → Asked
listed_asked z f = asked true z f

-- with no row
abbrev pub unlisted_asked : ℕ → Asked
unlisted_asked h = asked (is_free h) 0 (cond (eqb (pli_of h) 2 && not (is_free h)) (Digits Unmarked) (Checked Nothing))

-- the rows behind the list under PLI 01, and those behind the list under PLI 10
abbrev pub counted_heads : List Head
counted_heads = drop 20 heads

abbrev pub octet_heads : List Head
octet_heads = drop 25 heads

-- by the rows of some lists
abbrev pub asked_in : List Head → ℕ → Asked
asked_in [] h = unlisted_asked h
asked_in (r ∷ rs) h = cond (eqb h r.header) (listed_asked r.zeroes r.form) (asked_in rs h)

-- ---- the look-up asks what the definitions ask

asked_same : (h : ℕ) → h < 256 → asked_in heads h ≡ asked_of h
unfolding pli_right zeroes_of form_of
asked_same h l = same_below (asked_in heads) asked_of 256 refl h l

pub asks : (h : ℕ) → h < 256 → (r : Asked) → r ≡ asked_in heads h → Asks h r
asks h l r e = let f = e ∙ asked_same h l in (rw f, rw f, rw f)

-- a name is used where some header of it is right
abbrev right_under : ℕ → Bool
right_under h = (pli_right (64 + name_of h) || pli_right (128 + name_of h)) || pli_right (192 + name_of h)

pub used_under : (h : ℕ) → h < 256 → right_under h ≡ name_used h
unfolding pli_right name_used
used_under h l = same_below right_under name_used 256 refl h l

-- ---- rows passed over

-- the headers of the first k rows as the arms of a match, the last arm first, before others
abbrev arms_of : ℕ → List Head → List (List ℕ) → List (List ℕ)
arms_of zero rs kss = kss
arms_of (suc k) [] kss = kss
arms_of (suc k) (r ∷ rs) kss = arms_of k rs ((r.header ∷ []) ∷ kss)

none_before : (k : ℕ) (rs : List Head) (kss : List (List ℕ)) (h : ℕ) → None (arms_of k rs kss) h → None kss h
none_before zero rs kss h n = n
none_before (suc k) [] kss h n = n
none_before (suc k) (r ∷ rs) kss h n = (none_before k rs ((r.header ∷ []) ∷ kss) h n).0

-- a header in none of these arms is asked by the rows behind
pub passed_over : (k : ℕ) (rs : List Head) (kss : List (List ℕ)) (h : ℕ) → None (arms_of k rs kss) h → asked_in (drop k rs) h ≡ asked_in rs h
passed_over zero rs kss h n = refl
passed_over (suc k) [] kss h n = refl
passed_over (suc k) (r ∷ rs) kss h n =
    let l = (r.header ∷ []) ∷ kss in
    rw (ne_eqb h r.header (none_before k rs l h n).1) (passed_over k rs l h n)

-- ---- what refuses a header

right_used : (h : ℕ) → pli_right h ≡ true → name_used h ≡ true
unfolding pli_right name_used
right_used h = go (is_free h) refl
  where
    go : (b : Bool) → is_free h ≡ b → b || among h (map (λ (r : Head). r.header) heads) ≡ true → name_used h ≡ true
    go true e r = rw e
    go false e r = among_every name_used (map (λ (r : Head). r.header) heads) refl h r

-- one that is right is not refused
pub right_head : (p h : ℕ) (a : Answer) → pli_right h ≡ true → head_writing p h a ≡ a
right_head p h a e = head_right p h a (right_used h e) e

-- and any other is, by its name
pub wrong_head : (p h : ℕ) (a : Answer) → pli_right h ≡ false → head_writing p h a ≡ Refused (cond (name_used h) other_pli unused_name) p
wrong_head p h a e = rw e (go (name_used h))
  where
    go : (b : Bool) → refuse (not b) unused_name p (Refused other_pli p) ≡ Refused (cond b other_pli unused_name) p
    go true = refl
    go false = refl
