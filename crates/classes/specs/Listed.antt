-- The class of an octet by its header's list alone; the bits that must be 0 are asked after.
use Rattle.std.specs.Prelude.{ℕ, ◌≡◌, refl, Bool, true, false, cond, List, [], ◌∷◌, eqb, Err}
use Rattle.annex.specs.Answers.{bad_form, no_class_list, ClassAnswer, Is, Refused}
use Rattle.annex.specs.Heads.{clear, zeroes_of}
use Rattle.annex.specs.Classes.{ClassList, class_lists, class_by, class_in, class_of}

abbrev pub listed_in : List ClassList → ℕ → ℕ → ClassAnswer
listed_in [] h x = Refused no_class_list 0
listed_in (l ∷ ls) h x = cond (eqb h l.header) (Is (class_by l x)) (listed_in ls h x)

unfoldable pub listed_class : ℕ → ℕ → ClassAnswer
listed_class h x = listed_in class_lists h x

-- a class where the bits are clear, and else 12; a refusal is passed on
abbrev pub where_clear : Bool → ClassAnswer → ClassAnswer
where_clear b (Is k) = cond b (Is k) (Refused bad_form 0)
where_clear b (Err r) = Err r

cleared : (ls : List ClassList) (h x : ℕ) → where_clear (clear (zeroes_of h) x) (listed_in ls h x) ≡ class_in ls h x
cleared [] h x = refl
cleared (l ∷ ls) h x = by (eqb h l.header) (cleared ls h x)
  where
    by : (b : Bool) → where_clear (clear (zeroes_of h) x) (listed_in ls h x) ≡ class_in ls h x
        → where_clear (clear (zeroes_of h) x) (cond b (Is (class_by l x)) (listed_in ls h x))
        ≡ cond b (cond (clear (zeroes_of h) x) (Is (class_by l x)) (Refused bad_form 0)) (class_in ls h x)
    by true r = refl
    by false r = r

pub class_cleared : (h x : ℕ) → where_clear (clear (zeroes_of h) x) (listed_class h x) ≡ class_of h x
unfolding listed_class class_of
class_cleared h x = cleared class_lists h x
