-- `open_digits` meets its contract: the octets behind the count octet hold the digits that it tells, or fewer where they end.
use Rattle.std.specs.Prelude.{not}
use mathlib.Core.Path.{◌≡◌, refl, sym, ap, ◌∙◌}
use Prim.Native.Nat.{ℕ, ◌/◌}
use mathlib.Core.List.{List}
use lib.ListN.{length, get_or, drop}
use lib.Seq.{sets}
use Rattle.annex.specs.Units.{counted_by}
use Rattle.annex.specs.Digits.{digits_of}
use Rattle.annex.specs.Items.{open_marks, open_by}
use Rattle.annex.specs.Memory.{values_fit}
use Rattle.annex.specs.Promises.{Stores}
use Rattle.annex.specs.Records.{head_of}
use Rattle.annex.specs.declared.Marks.{Marks}
use Rattle.annex.specs.declared.Marks.TheVariants.{Unmarked, Notified, Verified, Typed}
use Rattle.annex.specs.declared.Holding.TheVariants.{AsDigits}
use Rattle.annex.specs.declared.Alphabet.TheVariants.{Dialled}
use Rattle.digits.specs.Unpacked.{length_there}
use Rattle.parameter.specs.Stored.{all_stored}
use Rattle.parameter.proofs.opening.open_digits.Goals as goal

-- marks leave the values as they are
kept : (m : Marks) (h u : ℕ) (vs : List ℕ) → (open_marks m h u vs).values ≡ vs
kept Unmarked h u vs = refl
kept Notified h u vs = refl
kept Verified h u vs = refl
kept Typed h u vs = refl

abbrev digits : List ℕ → List ℕ
digits s = digits_of Dialled (counted_by (get_or s 0 0)) (drop 1 s)

pub returns-clause-head : goal.returns-clause-head
returns-clause-head c =
    let a = c.args in
    let s = a.s.now in
    let ds = digits s in
    let i = open_by (AsDigits a.marks) a.header s in
    let unpacked : Stores (values_fit (length a.values.now) a.used (length ds)) (sets a.values.now a.used ds) a.values.now
    c.unpack_digits.result c.unpack_digits.new.values =
    rw (c.counted_by-told.ensures, c.octets_from-octets.ensures, c.octet_at-first.ensures) at c.unpack_digits.ensures in
    let w =
    all_stored i a.used ds a.values.now _ _ (kept a.marks a.header (get_or s 0 0 / 64) ds) unpacked
    (ap not c.if-not-unpack_digits.false) in
    let l : length ds ≡ c.digits_in-count.result.0 =
    length_there Dialled (counted_by (get_or s 0 0)) (drop 1 s)
    ∙ sym (rw (c.counted_by-told.ensures, c.octets_from-octets.ensures, c.octet_at-first.ensures) at c.digits_in-count.ensures) in
    let h : c.marked.result ≡ head_of i = rw c.octet_at-first.ensures at (c.marked.ensures ds l) in
    h ∙ w.0
