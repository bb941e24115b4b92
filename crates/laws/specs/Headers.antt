-- Laws of the lists of headers: what the row of an allowed header asks, by one computed test over the 256 headers.
use Rattle.std.specs.Prelude.{ℕ, ◌<◌, ◌≡◌, refl, Bool, true, false, not, ◌&&◌, ◌||◌, eqb}
use Rattle.std.proofs.Common.{arith, eqb-true, eq-eqb}
use Rattle.std.specs.Int.Bits.{and_zero_r}
use Rattle.annex.specs.Units.{extent_of}
use Rattle.annex.specs.Heads.{clear, pli_right, zeroes_of, form_of}
use Rattle.annex.specs.declared.Form.{Form}
use Rattle.annex.specs.declared.Marks.{Marks}
use Rattle.annex.specs.declared.Marks.TheVariants.{Unmarked, Notified, Verified, Typed}
use Rattle.annex.specs.declared.Form.TheVariants.{Checked, Digits, Number, Calling, Generic}
use Rattle.annex.specs.declared.Extent.{Extent}
use Rattle.annex.specs.declared.Extent.TheVariants.{Fixed, Counted}
use Rattle.annex.specs.declared.CountingUnit.TheVariants.{HalfOctet, Octet}
use Rattle.laws.specs.Bools.{T_true, and_left, and_right}
use Rattle.laws.specs.Octet.{range}

-- the bits of a count octet that its marks leave 0
abbrev pub zeroes_for : Marks → ℕ
zeroes_for Unmarked = 0xC0
zeroes_for Notified = 0x40
zeroes_for Verified = 0x00
zeroes_for Typed = 0x00

abbrev pub counts_halves : Extent → Bool
counts_halves (Fixed n) = false
counts_halves (Counted HalfOctet) = true
counts_halves (Counted Octet) = false

-- digits have a count octet, and its zero bits are those that the marks leave; a number has none; contents held as they are have any
abbrev pub row_fits : Form → ℕ → Extent → Bool
row_fits (Checked c) bits e = true
row_fits (Digits m) bits e = counts_halves e && eqb bits (zeroes_for m)
row_fits Number bits e = eqb bits 0
row_fits Calling bits e = eqb bits 0
row_fits Generic bits e = eqb bits 0

row_test : ℕ → Bool
row_test h = not (pli_right h) || row_fits (form_of h) (zeroes_of h) (extent_of h)

row_tested : (h : ℕ) → h < 256 → row_test h ≡ true
unfolding row_test pli_right form_of zeroes_of extent_of
row_tested h l = T_true _ (range row_test 0 256 tt h (omega arith) (omega arith))

pub row_fits_lem : (h : ℕ) → h < 256 → pli_right h ≡ true → row_fits (form_of h) (zeroes_of h) (extent_of h) ≡ true
unfolding row_test
row_fits_lem h l p = rw p at (row_tested h l)

counted : (e : Extent) → counts_halves e ≡ true → e ≡ Counted HalfOctet
counted (Fixed n) t = absurd (let z : ◌≡◌ {A = ℕ} 0 1 = cc in omega arith)
counted (Counted HalfOctet) t = refl
counted (Counted Octet) t = absurd (let z : ◌≡◌ {A = ℕ} 0 1 = cc in omega arith)

-- a row of digits: a count octet, and the bits that the marks leave 0
pub digits_row : (m : Marks) (zeroes : ℕ) (e : Extent) → row_fits (Digits m) zeroes e ≡ true
    → (e ≡ Counted HalfOctet) × (zeroes ≡ zeroes_for m)
digits_row m zeroes e t =
    let a = counts_halves e in
    let b = eqb zeroes (zeroes_for m) in
    (counted e (and_left a b t), eqb-true zeroes (zeroes_for m) (and_right a b t))

-- no bits asked, none set
pub none_asked : (zeroes x : ℕ) → eqb zeroes 0 ≡ true → clear zeroes x ≡ true
none_asked zeroes x t = rw (eqb-true zeroes 0 t) (eq-eqb _ _ (and_zero_r x))
