-- Carriers (CC): document 02, request g, with the annex's item (45). The direction octet, then carrier entries, each with dependent entries
-- in it. Both levels are built alike, a tag, a length octet and as many octets, and are told apart by their lowest tag and by what their
-- entries may hold: one rule says for both what the form is (12), one where the first bad digit stands (13). The form of all of CC is
-- looked at before any digit.
use Rattle.std.specs.Prelude.{ℕ, ◌+◌, Bool, true, cond, not, ◌&&◌, List, [], ◌∷◌, eqb, leb, length, get_or, drop}
use Rattle.annex.specs.Answers.{formed_then, fault_then, Fault, Sound}
use Rattle.annex.specs.Heads.{among}
use Rattle.annex.specs.Digits.{digits_fault, digits_of, count_behind}
use Rattle.annex.specs.Walk.{Par, Size, size_by, pars}
use Rattle.annex.specs.declared.Alphabet.TheVariants.{Decimal}
use Rattle.annex.specs.declared.CountingUnit.TheVariants.{Octet}
use Rattle.annex.specs.declared.Extent.TheVariants.{Counted}
use Rattle.annex.specs.declared.HalfOctets.{HalfOctets}

-- ---- the tags

-- the direction has two bits, and the six above them are 0 (house)
abbrev pub most_direction : ℕ
most_direction = 3

-- F8 to FE: carrier entries; FC to FE: dependent entries
abbrev pub lowest_carrier : ℕ
lowest_carrier = 0xF8

abbrev pub lowest_dependent : ℕ
lowest_dependent = 0xFC

abbrev pub highest_tag : ℕ
highest_tag = 0xFE

abbrev pub is_tag : ℕ → ℕ → Bool
is_tag lowest t = leb lowest t && leb t highest_tag

-- the dependent entry that holds a carrier code
abbrev pub carrier_code : ℕ
carrier_code = 0xFE

abbrev pub holds_code : ℕ → Bool
holds_code t = eqb t carrier_code

-- ---- entries, at either level

-- a length octet counts the octets behind it
abbrev pub entry_size : Size
entry_size = size_by (λ t. Counted Octet)

-- the entries of octets, one behind the other, the first at the offset `at`, up to one that is cut
abbrev pub entries_in : ℕ → List ℕ → List Par
entries_in at xs = pars entry_size 0 at xs

-- what an entry holds behind its length octet, and the offset at which that starts
abbrev pub inside_of : Par → List ℕ
inside_of q = drop 1 q.own

abbrev pub inside_at : Par → ℕ
inside_at q = q.place + 2

-- how many octets entries take up
abbrev pub octets_in : List Par → ℕ
octets_in [] = 0
octets_in (q ∷ qs) = 1 + length q.own + octets_in qs

-- each has a tag of its level, and what it holds is right
abbrev pub entries_right : ℕ → (Par → Bool) → List Par → Bool
entries_right lowest right [] = true
entries_right lowest right (q ∷ qs) = is_tag lowest q.head && right q && entries_right lowest right qs

-- 12: octets that are entries of a level: the last ends where the octets end, and each is right
unfoldable pub entries_formed : ℕ → (Par → Bool) → ℕ → List ℕ → Bool
entries_formed lowest right at xs =
    let qs = entries_in at xs in
    eqb (octets_in qs) (length xs) && entries_right lowest right qs

-- 13: the first of some entries with which something is wrong
unfoldable pub entries_fault : (Par → Fault) → List Par → Fault
entries_fault fault [] = Sound
entries_fault fault (q ∷ qs) = fault_then (fault q) (entries_fault fault qs)

-- ---- a carrier code

-- its first octet: the odd mark (bit 7), and seven bits that are 0
abbrev pub even_count : ℕ
even_count = 0x00

abbrev pub odd_count : ℕ
odd_count = 0x80

-- that octet is there, and where the odd mark is set a digit octet too
unfoldable pub code_formed : List ℕ → Bool
code_formed s =
    not (eqb (length s) 0)
    && (among (get_or s 0 0) (even_count ∷ odd_count ∷ []) && not (eqb (get_or s 0 0) odd_count && eqb (length s) 1))

-- its digits are behind that octet
abbrev pub code_count : List ℕ → HalfOctets
code_count s = count_behind 1 s

-- 0 to 9, zero as code 0, the first digit in the low half, with filler after an odd count; `at` is the offset of the first octet
unfoldable pub code_fault : ℕ → List ℕ → Fault
code_fault at s = digits_fault Decimal (code_count s) (at + 1) (drop 1 s)

unfoldable pub code_digits : List ℕ → List ℕ
code_digits s = digits_of Decimal (code_count s) (drop 1 s)

-- ---- the two levels

-- a dependent entry: a code, or octets that are carried
abbrev pub dependent_formed : Par → Bool
dependent_formed q = cond (holds_code q.head) (code_formed (inside_of q)) true

abbrev pub dependent_fault : Par → Fault
dependent_fault q = cond (holds_code q.head) (code_fault (inside_at q) (inside_of q)) Sound

-- a carrier entry: dependent entries
abbrev pub dependents_in : Par → List Par
dependents_in q = entries_in (inside_at q) (inside_of q)

abbrev pub carrier_formed : Par → Bool
carrier_formed q = entries_formed lowest_dependent dependent_formed (inside_at q) (inside_of q)

abbrev pub carrier_fault : Par → Fault
carrier_fault q = entries_fault dependent_fault (dependents_in q)

-- ---- the contents of CC

-- the carrier entries behind the direction octet
abbrev pub carriers_in : List ℕ → List Par
carriers_in s = entries_in 1 (drop 1 s)

-- 12: a direction octet with its six bits 0, and carrier entries
unfoldable pub carriers_formed : List ℕ → Bool
carriers_formed s =
    not (eqb (length s) 0)
    && (leb (get_or s 0 0) most_direction && entries_formed lowest_carrier carrier_formed 1 (drop 1 s))

-- 12 wherever it is, then 13
unfoldable pub carriers_fault : List ℕ → Fault
carriers_fault s = formed_then (carriers_formed s) (entries_fault carrier_fault (carriers_in s))
