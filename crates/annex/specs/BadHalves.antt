-- Which octet 13 shows: document 02, request e. Of each octet of contents it is said whether it is good, by its halves or as a character;
-- the one that is shown is the first that is not. No order of refusals is told here: theorems join this to what reading answers.
use Rattle.std.specs.Prelude.{ℕ, ◌+◌, ◌-◌, ◌*◌, ◌/◌, ◌%◌, ◌≤◌, ◌<◌, ◌≡◌, Bool, true, false, cond, not, ◌&&◌, ◌||◌, List, [], ◌∷◌, ◌++◌, eqb, leb, ltb, length, get_or, take, drop}
use Rattle.annex.specs.Units.{counted_by, whole_count, lead_of, extent_of, contents_in}
use Rattle.annex.specs.Heads.{added_calling_number, withheld, transfer_data, form_of}
use Rattle.annex.specs.Digits.{is_code, count_of}
use Rattle.annex.specs.Rates.{is_right, drawn_for, kind_in}
use Rattle.annex.specs.Orders.{layout_of, is_figure, is_are_character}
use Rattle.annex.specs.Carriers.{holds_code, inside_of, inside_at, code_count, dependents_in, carriers_in}
use Rattle.annex.specs.Contents.{presentation_of}
use Rattle.annex.specs.Allowed.{Each}
use Rattle.annex.specs.Walk.{Par, common_size, transfer_size, pars}
use Rattle.annex.specs.Reading.{data_in}
use Rattle.annex.specs.Opened.{order_pars}
use Rattle.annex.specs.declared.HalfOctets.{HalfOctets}
use Rattle.annex.specs.declared.Alphabet.{Alphabet}
use Rattle.annex.specs.declared.Alphabet.TheVariants.{Dialled, Numbered, Decimal}
use Rattle.annex.specs.declared.Check.{Check}
use Rattle.annex.specs.declared.Check.TheVariants.{Nothing, Long, Two, Charging, Order, Carriers}
use Rattle.annex.specs.declared.Drawn.TheVariants.{Whole}
use Rattle.annex.specs.declared.Form.{Form}
use Rattle.annex.specs.declared.Form.TheVariants.{Checked, Digits, Number, Calling, Generic}
use Rattle.annex.specs.declared.OrderLayout.{OrderLayout}
use Rattle.annex.specs.declared.OrderLayout.TheVariants.{
  TrunkKind,
  ReleaseKind,
  RedirectReason,
  SentDigits,
  ForwardNumber,
  AreControl,
  AreLogic,
  Guidance,
  WaitingTime,
}

-- ---- good octets

-- of octets, counted from 0: whether number j, the octet x, is good
abbrev pub Good : Type 0
Good = ℕ → ℕ → Bool

-- octets that hold no digit and no character
abbrev pub unread : Good
unread j x = true

-- those behind the first k, which are unread
abbrev pub behind : ℕ → Good → Good
behind k good j x = ltb j k || good (j - k) x

-- half number i of octets that hold n digits: a digit has a code, and what is left over behind the digits is filler, 0
abbrev pub half_good : Alphabet → HalfOctets → ℕ → ℕ → Bool
half_good z n i h = cond (ltb i n.0) (is_code z h) (eqb h 0)

-- octet number j of them: its low half is the earlier one
abbrev pub digits_good : Alphabet → HalfOctets → Good
digits_good z n j x = half_good z n (2 * j) (x % 16) && half_good z n (2 * j + 1) (x / 16)

-- ---- of the contents s

-- PLI 10: digits behind the count octet
abbrev pub dialled_good : List ℕ → Good
dialled_good s = behind 1 (digits_good Dialled (counted_by (get_or s 0 0)))

-- D7: digits behind the two octets of fields
abbrev pub number_good : Alphabet → List ℕ → Good
number_good z s = behind 2 (digits_good z (count_of s))

-- DC: a number, where it is not withheld
abbrev pub calling_good : List ℕ → Good
calling_good s = cond (eqb (presentation_of s) withheld) unread (number_good Numbered s)

-- DA: a number behind 06
abbrev pub generic_good : List ℕ → Good
generic_good s = cond (eqb (get_or s 0 0) added_calling_number) (behind 1 (number_good Numbered (drop 1 s))) unread

-- F7: behind the kind each octet as it is drawn
abbrev pub charging_good : List ℕ → Good
charging_good s = behind 2 (λ j x. is_right (get_or (drawn_for (kind_in s)) j Whole) x)

-- E0: the octets behind a header of the order
abbrev pub layout_good : OrderLayout → List ℕ → Good
layout_good TrunkKind own = unread
layout_good ReleaseKind own = unread
layout_good RedirectReason own = unread
layout_good SentDigits own = behind 1 (digits_good Dialled (whole_count (get_or own 0 0)))
layout_good ForwardNumber own = behind 1 (number_good Decimal (drop 1 own))
layout_good AreControl own = behind 3 (λ j x. is_are_character x)
layout_good AreLogic own = unread
layout_good Guidance own = unread
layout_good WaitingTime own = λ j x. is_figure x

-- parameters or entries by their offsets, and which octets of each are good: octet number j belongs to the first that does not end before
-- it
unfoldable pub pars_good : (Par → Good) → List Par → Good
pars_good good [] j x = true
pars_good good (q ∷ qs) j x = cond (leb j (q.place + length q.own)) (good q j x) (pars_good good qs j x)

-- E0: its parameters behind the form, by the length rule
abbrev pub parameter_good : Par → Good
parameter_good q = behind (q.place + 1) (layout_good (layout_of q.head) q.own)

abbrev pub order_good : List ℕ → Good
order_good s = pars_good parameter_good (order_pars s)

-- CC: in dependent entries that hold a code, its digits behind the first octet
abbrev pub code_good : List ℕ → Good
code_good s = behind 1 (digits_good Decimal (code_count s))

abbrev pub dependent_good : Par → Good
dependent_good q = cond (holds_code q.head) (behind (inside_at q) (code_good (inside_of q))) unread

abbrev pub carrier_good : Par → Good
carrier_good q = pars_good dependent_good (dependents_in q)

abbrev pub carriers_good : List ℕ → Good
carriers_good s = pars_good carrier_good (carriers_in s)

-- contents that a record holds as they are, by their check; and all contents, by their form
abbrev pub check_good : Check → List ℕ → Good
check_good Nothing s = unread
check_good (Long n) s = unread
check_good (Two mask) s = unread
check_good Charging s = charging_good s
check_good Order s = order_good s
check_good Carriers s = carriers_good s

abbrev pub good_by : Form → List ℕ → Good
good_by (Checked c) s = check_good c s
good_by (Digits m) s = dialled_good s
good_by Number s = number_good Numbered s
good_by Calling s = calling_good s
good_by Generic s = generic_good s

-- the octet at the offset j of the contents s under the header h is bad
unfoldable pub bad_at : ℕ → List ℕ → ℕ → Bool
bad_at h s j = not (good_by (form_of h) s j (get_or s j 0))

-- ---- the one that is shown

-- the octet at the offset i is the first bad one
pub record FirstBad (h : ℕ) (s : List ℕ) (i : ℕ) : Type 0 where
  pub within : i < length s
  pub bad : bad_at h s i ≡ true
  pub before : (j : ℕ) → j < i → bad_at h s j ≡ false

-- no octet is bad
abbrev pub NoneBad : ℕ → List ℕ → Type 0
NoneBad h s = (j : ℕ) → j < length s → bad_at h s j ≡ false

-- the transfer parameters of C5, by the length rule, and the contents of one
abbrev pub transfer_pars : Par → List Par
transfer_pars c = pars transfer_size 0 0 (data_in c)

abbrev pub own_contents : Par → List ℕ
own_contents q = contents_in (extent_of q.head) q.own

-- no octet of one is bad; none of those in a common parameter, if that is C5
abbrev pub NoneBadOf : Par → Type 0
NoneBadOf q = NoneBad q.head (own_contents q)

abbrev pub NoneBadIn : Par → Type 0
NoneBadIn c = c.head ≡ transfer_data → Each NoneBadOf (transfer_pars c)

-- where the header of one stands in the message, in transfer data behind the header and the length octet of C5; and where its contents
-- start
abbrev pub header_in : Par → Par → ℕ
header_in c q = c.place + 2 + q.place

abbrev pub contents_start : Par → Par → ℕ
contents_start c q = header_in c q + 1 + lead_of (extent_of q.head)

-- the place p of the message m is that of the first bad octet of `one`, a parameter of the transfer data c, and no parameter before it has
-- a bad octet
pub record ShownAt (m : List ℕ) (p : ℕ) : Type 0 where
  pub ahead : List Par
  pub c : Par
  pub rest : List Par
  pub commons : pars common_size 0 0 m ≡ ahead ++ (c ∷ rest)
  pub transfers : c.head ≡ transfer_data
  pub front : List Par
  pub one : Par
  pub back : List Par
  pub parameters : transfer_pars c ≡ front ++ (one ∷ back)
  -- `one` stands in the message, its header and its contents from end to end
  pub header : get_or m (header_in c one) 0 ≡ one.head
  pub contents : own_contents one ≡ take (length (own_contents one)) (drop (contents_start c one) m)
  pub inside : contents_start c one + length (own_contents one) ≤ length m
  -- the octet at p is its first bad one
  pub offset : ℕ
  pub place : p ≡ contents_start c one + offset
  pub first : FirstBad one.head (own_contents one) offset
  -- and nothing before is bad
  pub none_ahead : Each NoneBadIn ahead
  pub none_before : Each NoneBadOf front
