-- What a record of the code has by its types: arrays of their lengths, and numbers that fit their fields.
use Rattle.std.specs.Prelude.{ℕ, ◌<◌, List, [], ◌∷◌, get_or}
use Rattle.std.proofs.Common.{arith}
use Rattle.std.specs.Int.{w8}
use mir.Val.{Val}
use denote.Array.{each}
use denote.RattleType.{RattleType}
use denote.Shadow.{shadow}
use borrow.Author.Rules.{rules, elem_Fits}
use Rattle.annex.specs.declared.Record.{Record}
use Rattle.annex.specs.Allowed.{Each}
use Rattle.annex.specs.contracts.Common.{the_row as common-row}
use Rattle.annex.specs.contracts.Transfer.{the_row as transfer-row}
use Rattle.annex.specs.contracts.Record.{the_field as record-field}
use Rattle.laws.specs.Written.{octets_every}
use Rattle.theorems.specs.Views.{FitsStruct, OctetCommon, OctetTransfer}
use Rattle.limits.specs.Along.{length_mapped}

-- what holds of each element of an array of structs, from what holds of the array by its type
each_owned : (R : RattleType) (P : R.Denot → Type 0) → ((x : R.Denot) (u : Val) → shadow (R.own_val x (u ∷ [])) → P x)
    → (xs : List R.Denot) (us : List Val) → shadow (each R.Denot R.own_val xs us) → Each P xs
each_owned R P h [] us s = tt
each_owned R P h (x ∷ xs) [] s = absurd s
each_owned R P h (x ∷ xs) (u ∷ us) s = (h x u s.0, each_owned R P h xs us s.1)

pub fits_struct : (q : Record) (u : Val) → shadow (record-field.row.own_val (record-field.into q) (u ∷ [])) → FitsStruct q
fits_struct q u good =
    let g = good.1.1 in
    let small : (i : ℕ) → get_or q.values i 0 < 256 = λ i. omega (arith, elem_Fits w8 w8 q.values _ i g.1.1.1.0.1.1 tt) in
    record {
      commons_long = search (rules, length_mapped);
      transfers_long = search (rules, length_mapped);
      values_long = search rules;
      common_octets = each_owned common-row OctetCommon (λ c u p. omega (arith, p)) q.common _ g.1.0.1.1;
      transfer_octets = each_owned transfer-row OctetTransfer (λ t u p. omega (arith, p)) q.transfer _ g.1.1.0.1.1;
      value_octets = octets_every q.values small;
    }
