-- The two counting units, the one conversion, and the length rules: document 01, "Common part" and "Transfer data", Common PLI and
-- Transfer PLI.
use Rattle.std.specs.Prelude.{ℕ, zero, suc, ◌+◌, ◌*◌, ◌/◌, ◌%◌, cond, List, eqb, length, drop}
use Rattle.annex.specs.declared.HalfOctets.{HalfOctets}
use Rattle.annex.specs.declared.Octets.{Octets}
use Rattle.annex.specs.declared.CountingUnit.{CountingUnit}
use Rattle.annex.specs.declared.Extent.{Extent}
use Rattle.annex.specs.declared.Extent.TheVariants.{Fixed, Counted}
use Rattle.annex.specs.declared.CountingUnit.TheVariants.{HalfOctet, Octet}

-- a header octet: PLI in bits 7-6, the name (F0 and F1, or P0 and P1) in bits 5-0
abbrev pub pli_of : ℕ → ℕ
pli_of h = h / 64

abbrev pub name_of : ℕ → ℕ
name_of h = h % 64

-- what the count octet x counts, in bits 5-0
abbrev pub counted_by : ℕ → HalfOctets
counted_by x = record { 0 = x % 64 }

-- and a whole octet of count (request b, 91)
abbrev pub whole_count : ℕ → HalfOctets
whole_count x = record { 0 = x }

-- the one conversion: two half-octets to an octet, an odd one taking an octet of its own
abbrev pub octets_of : HalfOctets → Octets
octets_of n = record { 0 = (n.0 + 1) / 2 }

-- and what octets hold: two half-octets each
abbrev pub halves_of : Octets → HalfOctets
halves_of n = record { 0 = 2 * n.0 }

abbrev pub halves_in : List ℕ → HalfOctets
halves_in s = halves_of (record { 0 = length s })

-- how many octets a first octet x counts, by the unit
abbrev pub octets_counted : CountingUnit → ℕ → Octets
octets_counted HalfOctet x = octets_of (counted_by x)
octets_counted Octet x = record { 0 = x }

-- how many octets follow a header; x is the octet right after it, or 0. Both counts are octets where they meet the sum
unfoldable pub after_of : Extent → ℕ → ℕ
after_of (Fixed n) x = n
after_of (Counted u) x = 1 + (octets_counted u x).0

-- Transfer data: what stands between a header and its contents is a length octet alone; a count octet belongs to the contents
unfoldable pub lead_of : Extent → ℕ
lead_of (Fixed n) = 0
lead_of (Counted HalfOctet) = 0
lead_of (Counted Octet) = 1

-- Common part: PLI 00, 01 and 10 say one, two and three octets of contents, 11 that a length octet counts them
abbrev pub common_by_pli : ℕ → Extent
common_by_pli zero = Fixed 1
common_by_pli (suc zero) = Fixed 2
common_by_pli (suc (suc zero)) = Fixed 3
common_by_pli (suc (suc (suc n))) = Counted Octet

-- the end mark, though its PLI is 00, has no contents (house)
unfoldable pub common_extent_of : ℕ → Extent
common_extent_of h = cond (eqb h 0x00) (Fixed 0) (common_by_pli (pli_of h))

-- Transfer data: PLI 00 says no contents, 01 one octet, 10 that a count octet counts half-octets, 11 that a length octet counts octets
abbrev pub transfer_by_pli : ℕ → Extent
transfer_by_pli zero = Fixed 0
transfer_by_pli (suc zero) = Fixed 1
transfer_by_pli (suc (suc zero)) = Counted HalfOctet
transfer_by_pli (suc (suc (suc n))) = Counted Octet

unfoldable pub extent_of : ℕ → Extent
extent_of h = transfer_by_pli (pli_of h)

-- the contents among the octets after a header that are its own
abbrev pub contents_in : Extent → List ℕ → List ℕ
contents_in e own = drop (lead_of e) own
