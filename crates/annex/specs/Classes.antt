-- Classes of code values: document 01, "Classes of code values", and refusals 17 and 12, in that order.
use Rattle.std.specs.Prelude.{ℕ, ◌/◌, ◌%◌, Bool, false, cond, ◌&&◌, ◌||◌, List, [], ◌∷◌, eqb, leb}
use Rattle.annex.specs.Answers.{bad_form, no_class_list, ClassAnswer, Is, Refused}
use Rattle.annex.specs.Heads.{clear, zeroes_of}
use Rattle.annex.specs.declared.Class.{Class}
use Rattle.annex.specs.declared.Class.TheVariants.{Named, HeldBack, Spare}

-- from one number to another, both included
pub record Range : Type 0 where
  pub from : ℕ
  pub to : ℕ

abbrev only : ℕ → Range
only x = record { from = x; to = x }

abbrev up_to : ℕ → ℕ → Range
up_to a b = record { from = a; to = b }

abbrev pub in_ranges : ℕ → List Range → Bool
in_ranges x [] = false
in_ranges x (r ∷ rs) = (leb r.from x && leb x r.to) || in_ranges x rs

-- what of the octet is looked at: all, bits 3-0, bits 6-0, or each half
pub data Look : Type 0 where
  Whole Low4 Low7 Halves : Look

abbrev pub seen_in : Look → ℕ → List Range → Bool
seen_in Whole x rs = in_ranges x rs
seen_in Low4 x rs = in_ranges (x % 16) rs
seen_in Low7 x rs = in_ranges (x % 128) rs
seen_in Halves x rs = in_ranges (x % 16) rs && in_ranges (x / 16) rs

pub record ClassList : Type 0 where
  pub header : ℕ
  pub look : Look
  pub named : List Range
  pub held : List Range

abbrev lists : ℕ → Look → List Range → List Range → ClassList
lists h l n b = record { header = h; look = l; named = n; held = b }

-- Classes of code values: header, what of the octet is looked at, the values named and those held back; the others are spare
abbrev pub class_lists : List ClassList
class_lists =
    lists 0x42 Whole (up_to 0 6 ∷ up_to 8 15 ∷ []) [] ∷
    lists 0x46 Whole (up_to 1 2 ∷ []) [] ∷
    lists 0x52 Low4 (up_to 0 4 ∷ up_to 14 15 ∷ []) [] ∷
    lists 0x67 Whole (up_to 0 3 ∷ []) [] ∷
    lists 0x68 Whole (up_to 1 3 ∷ []) [] ∷
    lists 0x6E Whole (only 0 ∷ up_to 2 3 ∷ up_to 8 10 ∷ []) [] ∷
    lists 0x6F Whole (up_to 0 2 ∷ []) [] ∷
    lists 0x75 Halves (up_to 1 12 ∷ []) [] ∷
    lists 0x79 Whole (up_to 1 2 ∷ []) [] ∷
    lists 0x7A Whole (up_to 1 2 ∷ []) [] ∷
    lists 0x7C Whole (up_to 0 1 ∷ []) [] ∷
    lists 0x7E Whole (up_to 2 7 ∷ []) [] ∷
    lists 0xD7 Low7 (only 1 ∷ up_to 3 4 ∷ only 126 ∷ []) (only 2 ∷ up_to 112 125 ∷ []) ∷
    lists 0xDC Low7 (only 1 ∷ up_to 3 4 ∷ only 126 ∷ []) (only 2 ∷ up_to 112 125 ∷ []) ∷ []

-- what no range has is spare
abbrev pub class_by : ClassList → ℕ → Class
class_by l x = cond (seen_in l.look x l.named) Named (cond (seen_in l.look x l.held) HeldBack Spare)

abbrev pub class_in : List ClassList → ℕ → ℕ → ClassAnswer
class_in [] h x = Refused no_class_list 0
class_in (l ∷ ls) h x = cond (eqb h l.header) (cond (clear (zeroes_of h) x) (Is (class_by l x)) (Refused bad_form 0)) (class_in ls h x)

-- asked with a header and an octet
unfoldable pub class_of : ℕ → ℕ → ClassAnswer
class_of h x = class_in class_lists h x
