-- Laws of opening a transfer parameter: the two cases of whether its values have room, and how many digits a number has.
use Rattle.std.specs.Prelude.{ℕ, ◌≤◌, ◌≡◌, Bool, true, false, not, List, length, drop}
use Rattle.std.proofs.Common.{arith, sym, ◌∙◌}
use Rattle.std.proofs.lemmas.Bool.{not-true, not-false}
use Rattle.std.proofs.lemmas.List.Edits.{sets}
use Rattle.annex.specs.Units.{halves_in}
use Rattle.annex.specs.Digits.{digits_of, count_of}
use Rattle.annex.specs.Items.{Item}
use Rattle.annex.specs.Memory.{values_fit}
use Rattle.annex.specs.Records.{head_of, no_transfer}
use Rattle.annex.specs.Opening.{head_for, values_with}
use Rattle.annex.specs.declared.Alphabet.TheVariants.{Numbered}
use Rattle.laws.specs.Halves.{length-digits_of}
use Rattle.laws.specs.Stores.{Fits, told_fits, fits_told}

-- the two cases of a parameter of n values, by a flag that says whether they fit
module _ (i : Item) (used n : ℕ) (vs : List ℕ) (b : Bool) (e : length i.values ≡ n) (f : b ≡ values_fit (length vs) used n) where
  pub without_room : not b ≡ true → (no_transfer ≡ head_for i used vs) × (vs ≡ values_with i used vs)
  without_room t =
      let g = sym f ∙ not-true b t in
      (rw (e, g), rw (e, g))

  pub with_room : not b ≡ false → (head_of i ≡ head_for i used vs) × (sets vs used i.values ≡ values_with i used vs)
  with_room t =
      let g = sym f ∙ not-false b t in
      (rw (e, g), rw (e, g))

pub room_left : (room used n : ℕ) (b : Bool) → b ≡ values_fit room used n → not b ≡ false → Fits room used n
room_left room used n b f t = told_fits room used n (sym f ∙ not-false b t)

-- opened where the values fit
pub opened_fitting : (i : Item) (used : ℕ) (vs : List ℕ) → Fits (length vs) used (length i.values)
    → (head_for i used vs ≡ head_of i) × (values_with i used vs ≡ sets vs used i.values)
opened_fitting i used vs f =
    let g = fits_told (length vs) used (length i.values) f in
    (rw g, rw g)

-- a number's octets hold as many digits as it counts
pub count_within : (s : List ℕ) → (count_of s).0 ≤ (halves_in (drop 2 s)).0
count_within s = omega arith

pub number_digits : (s : List ℕ) → length (digits_of Numbered (count_of s) (drop 2 s)) ≡ (count_of s).0
number_digits s = length-digits_of Numbered (count_of s) (drop 2 s) (count_within s)
