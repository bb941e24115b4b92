-- `open_number` meets its contract: the octets behind the first two hold the digits that are counted.
use Rattle.std.specs.Prelude.{not}
use native.Mathlib.Omega.{arith}
use mathlib.Core.Path.{◌≡◌, refl, sym, ap, ◌∙◌}
use Prim.Native.Nat.{ℕ}
use mathlib.Core.Bool.{false}
use mathlib.Core.List.{List}
use lib.ListN.{length, drop}
use lib.Seq.{sets}
use Rattle.annex.specs.Digits.{digits_of, count_of}
use Rattle.annex.specs.Items.{open_by}
use Rattle.annex.specs.Memory.{values_fit}
use Rattle.annex.specs.Promises.{Stores}
use Rattle.annex.specs.Records.{head_of}
use Rattle.annex.specs.declared.HalfOctets.{HalfOctets}
use Rattle.annex.specs.declared.Holding.TheVariants.{AsNumber}
use Rattle.annex.specs.declared.Alphabet.TheVariants.{Numbered}
use Rattle.parameter.specs.Opening.{number_digits}
use Rattle.parameter.specs.Stored.{all_stored, few_stored}
use Rattle.parameter.proofs.opening.open_number.Goals as goal

abbrev digits : List ℕ → List ℕ
digits s = digits_of Numbered (count_of s) (drop 2 s)

pub overflow_cast-count : goal.overflow_cast-count
overflow_cast-count c =
    let a = c.args in
    let s = a.s.now in
    let ds = digits s in
    let unpacked : Stores (values_fit (length a.values.now) a.used (length ds)) (sets a.values.now a.used ds) a.values.now
    c.unpack_digits.result c.unpack_digits.new.values =
    rw (c.octets_from.ensures, c.count_of-count.ensures) at c.unpack_digits.ensures in
    omega (
      arith,
      (few_stored (open_by (AsNumber false) a.header s) a.used ds a.values.now _ _ refl unpacked (ap not c.if-not-unpack_digits.false)
          ).few,
      number_digits s,
      ap (λ (k : HalfOctets). k.0) c.count_of-count.ensures,
    )

pub returns-clause-head : goal.returns-clause-head
returns-clause-head c =
    let a = c.args in
    let s = a.s.now in
    let ds = digits s in
    let i = open_by (AsNumber false) a.header s in
    let unpacked : Stores (values_fit (length a.values.now) a.used (length ds)) (sets a.values.now a.used ds) a.values.now
    c.unpack_digits.result c.unpack_digits.new.values =
    rw (c.octets_from.ensures, c.count_of-count.ensures) at c.unpack_digits.ensures in
    let w = all_stored i a.used ds a.values.now _ _ refl unpacked (ap not c.if-not-unpack_digits.false) in
    let l : length ds ≡ c.count_of-count.result.0 = number_digits s ∙ ap (λ (k : HalfOctets). k.0) (sym c.count_of-count.ensures) in
    let h : c.number.result ≡ head_of i =
    rw (c.number.ensures, c.octet_at.ensures, c.octet_at-2.ensures, l) in
    h ∙ w.0
