-- What opening a parameter gives, for the functions that serve the codec. The contents of a transfer parameter become a head, and values
-- that are stored after those of the parameters before it; where the values have no room, the head is empty and nothing is stored. A common
-- parameter becomes a head. No rule of document 01.
use Rattle.std.specs.Prelude.{ℕ, Bool, cond, List, eqb, length, get_or}
use Rattle.std.proofs.lemmas.List.Edits.{sets}
use Rattle.annex.specs.Heads.{transfer_data, is_call}
use Rattle.annex.specs.Items.{Item, item_of}
use Rattle.annex.specs.Reading.{call_number}
use Rattle.annex.specs.Records.{head_of, no_transfer, value_head, octet_head, data_head}
use Rattle.annex.specs.Memory.{values_fit}
use Rattle.annex.specs.declared.Common.{Common}
use Rattle.annex.specs.declared.Transfer.{Transfer}

-- the values of a parameter fit in vs after the `used` ones
abbrev pub has_room : Item → ℕ → List ℕ → Bool
has_room i used vs = values_fit (length vs) used (length i.values)

-- a parameter opened after `used` values of vs: the head, and what vs then holds
abbrev pub head_for : Item → ℕ → List ℕ → Transfer
head_for i used vs = cond (has_room i used vs) (head_of i) no_transfer

abbrev pub values_with : Item → ℕ → List ℕ → List ℕ
values_with i used vs = cond (has_room i used vs) (sets vs used i.values) vs

-- the same of the parameter with the header h and the contents s
abbrev pub opened_head : ℕ → List ℕ → ℕ → List ℕ → Transfer
opened_head h s used vs = head_for (item_of h s) used vs

abbrev pub opened_values : ℕ → List ℕ → ℕ → List ℕ → List ℕ
opened_values h s used vs = values_with (item_of h s) used vs

-- the head of the common parameter with the header h and these octets behind it; a C5's has n transfer parameters
abbrev pub part_head : ℕ → List ℕ → ℕ → Common
part_head h own n =
    cond (eqb h transfer_data) (data_head n) (cond (is_call h) (value_head h (call_number own)) (octet_head h (get_or own 0 0)))
