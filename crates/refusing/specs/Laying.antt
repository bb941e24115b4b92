-- The octets of a common parameter, as the code lays it out: by its head alone, or a C5 with its transfer parameters.
use Rattle.std.specs.Prelude.{ℕ, suc, ◌+◌, ◌*◌, ◌≤◌, ◌≡◌, refl, Bool, true, false, eqb, length}
use Rattle.std.proofs.Common.{arith, ap}
use Rattle.std.proofs.Math.Bool.{cond}
use mathlib.Core.List.{List, [], ◌∷◌}
use borrow.Author.Tests.{eqb-true, ne_eqb}
use Rattle.annex.specs.Heads.{sequence, transfer_data, is_call}
use Rattle.annex.specs.Items.{Item, part, own_more_data}
use Rattle.annex.specs.Layout.{layout_items, call_octets, octet_of, data_octets, layout_part}
use Rattle.annex.specs.Records.{raw_part}
use Rattle.annex.specs.declared.Common.{Common}
use Rattle.laws.specs.Bools.{cond_again}
use Rattle.limits.specs.Along.{part_from}

-- how many octets it takes, its transfer parameters aside
abbrev pub head_length : ℕ → ℕ
head_length h = cond (is_call h) 4 2

pub head_long : (h : ℕ) → (2 ≤ head_length h) × (head_length h ≤ 4)
head_long h = go (is_call h)
  where
    go : (b : Bool) → (2 ≤ cond b 4 2) × (cond b 4 2 ≤ 4)
    go true = omega arith
    go false = omega arith

-- C5
abbrev pub data_laid : List Item → List ℕ
data_laid is = transfer_data ∷ data_octets (layout_items is)

-- as many as it is laid out to
pub head_laid : (c : Common) → length (layout_part (raw_part c [])) ≡ head_length c.header
unfolding layout_part layout_items
head_laid c = go (eqb c.header transfer_data) refl (is_call c.header) refl
  where
    go : (a : Bool) → eqb c.header transfer_data ≡ a → (b : Bool) → is_call c.header ≡ b
        → suc (length (cond a (data_octets (layout_items [])) (cond b (call_octets c.value) (octet_of (raw_part c []) ∷ []))))
        ≡ head_length c.header
    go true e b f = rw (eqb-true c.header transfer_data e)
    go false e true f = rw f
    go false e false f = rw f

module _ (c : Common) (is : List Item) where
  -- one that is no C5: a more-data mark that is not its own is not laid out
  pub plain_laid : (c.header ≡ transfer_data → ⊥) → layout_part (part_from c is) ≡ layout_part (raw_part c [])
  unfolding layout_part
  plain_laid u =
      let h = c.header in
      let e = ne_eqb h transfer_data u in
      let own : part_from c is ≡ part h c.value (own_more_data h c.more_data) [] = rw e in
      let same = cond_again (eqb h sequence) (λ (m : ℕ). 128 * m + c.value) c.more_data 0 c.value in
      rw own (rw e (ap (λ (x : ℕ). h ∷ cond (is_call h) (call_octets c.value) (x ∷ [])) same))

  pub data_laid_lem : c.header ≡ transfer_data → layout_part (part_from c is) ≡ data_laid is
  unfolding layout_part
  data_laid_lem e = rw e
