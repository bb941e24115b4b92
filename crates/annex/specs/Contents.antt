-- What is wrong with the contents of one transfer parameter: document 01, "Transfer data" and refusals 12 and 13; document 02, requests a,
-- b and g, with refusals 18 and 19. 12 comes before 13 and 13 before 18; in a connection order 19 comes first of each part. The offset is
-- that of the octet in the contents.
use Rattle.std.specs.Prelude.{ℕ, ◌+◌, ◌-◌, ◌/◌, ◌%◌, cond, not, ◌&&◌, List, eqb, ltb, length, get_or, drop}
use Rattle.annex.specs.Answers.{formed_then, formed, fault_then, check_digit, Fault, Sound, Bad}
use Rattle.annex.specs.Units.{counted_by}
use Rattle.annex.specs.Heads.{added_calling_number, withheld, clear, zeroes_of, form_of}
use Rattle.annex.specs.declared.Check.{Check}
use Rattle.annex.specs.declared.Form.{Form}
use Rattle.annex.specs.declared.Check.TheVariants.{Nothing, Long, Two, Charging, Order, Carriers}
use Rattle.annex.specs.declared.Form.TheVariants.{Checked, Digits, Number, Calling, Generic}
use Rattle.annex.specs.Digits.{digits_fault, number_fault}
use Rattle.annex.specs.Orders.{order_fault}
use Rattle.annex.specs.Carriers.{carriers_fault}
use Rattle.annex.specs.Rates.{is_kind, drawn_for, kind_in, field_octets, drawn_fault, check_right}
use Rattle.annex.specs.declared.Alphabet.TheVariants.{Dialled}

-- a number's second octet: presentation (3-2)
abbrev pub presentation_of : List ℕ → ℕ
presentation_of s = get_or s 1 0 / 4 % 4

-- Transfer data, DC: a number; where it is withheld (presentation 2) two octets, with nothing told but presentation and screening
unfoldable pub calling_fault : List ℕ → Fault
calling_fault s =
    cond (eqb (presentation_of s) withheld)
    (formed (eqb (length s) 2 && (eqb (get_or s 0 0) 0 && ltb (get_or s 1 0) 16)))
    (number_fault 0 s)

-- Transfer data, DA: a first octet, which says whether a number follows (06) or anything at all
unfoldable pub generic_fault : List ℕ → Fault
generic_fault s = formed_then (not (eqb (length s) 0)) (cond (eqb (get_or s 0 0) added_calling_number) (number_fault 1 (drop 1 s)) Sound)

-- Transfer data, PLI 10: the count octet, then its digits
unfoldable pub dialled_fault : List ℕ → Fault
dialled_fault s = digits_fault Dialled (counted_by (get_or s 0 0)) 1 (drop 1 s)

-- Transfer data, DB and CF: two octets, with bits of the second that must be 0
unfoldable pub two_fault : ℕ → List ℕ → Fault
two_fault mask s = formed (eqb (length s) 2 && clear mask (get_or s 1 0))

-- Request a, F7: the kind is one of the list and the octets are as many as it has; each is as it is drawn; and the check digit, the last of
-- them, fits
unfoldable pub charging_fault : List ℕ → Fault
charging_fault s =
    formed_then (is_kind (kind_in s) && eqb (length s) (2 + length (drawn_for (kind_in s))))
    (fault_then (drawn_fault 2 (drawn_for (kind_in s)) (field_octets s))
    (cond (check_right (kind_in s) (field_octets s)) Sound (Bad check_digit (length s - 1))))

-- contents that a record holds as they are, by their check
abbrev pub check_fault : Check → List ℕ → Fault
check_fault Nothing s = Sound
check_fault (Long n) s = formed (eqb (length s) n)
check_fault (Two mask) s = two_fault mask s
check_fault Charging s = charging_fault s
check_fault Order s = order_fault s
check_fault Carriers s = carriers_fault s

abbrev pub fault_by : Form → List ℕ → Fault
fault_by (Checked c) s = check_fault c s
fault_by (Digits m) s = dialled_fault s
fault_by Number s = number_fault 0 s
fault_by Calling s = calling_fault s
fault_by Generic s = generic_fault s

-- the contents s: first these bits of their first octet that must be 0, then the form
abbrev pub fault_under : ℕ → Form → List ℕ → Fault
fault_under zeroes form s = formed_then (clear zeroes (get_or s 0 0)) (fault_by form s)

-- as the header h asks it
unfoldable pub fault_of : ℕ → List ℕ → Fault
fault_of h s = fault_under (zeroes_of h) (form_of h) s

-- what is wrong with the contents under a header, by some rule; fault_of is the one in force
abbrev pub Rule : Type 0
Rule = ℕ → List ℕ → Fault
