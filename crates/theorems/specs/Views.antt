-- The struct and the record that it stands for: a packed record is viewed as what was packed, since each head takes from the arrays what
-- was laid there for it; and what any struct of the code is viewed as is held as a record holds its values.
use Rattle.std.specs.Prelude.{ℕ, ◌-◌, ◌<◌, ◌≡◌, refl, Bool, true, false, cond, List, [], ◌∷◌, ◌++◌, map, eqb, length, take, drop, replicate}
use Rattle.std.proofs.Common.{sym, ap, ◌∙◌, append_assoc, le-leb, length-append, take_at, drop_at}
use Rattle.std.proofs.lemmas.List.{map-append, length-map}
use Rattle.std.proofs.Math.Seq.{take-append_seam, drop-append_seam}
use Rattle.annex.specs.Heads.{sequence, transfer_data, most_commons, most_transfers, most_values}
use Rattle.annex.specs.Items.{Item, Part, part, part_with, own_of, own_more_data}
use Rattle.annex.specs.Allowed.{every, Each, is_octet, HeldItem, HeldPart, Held, own_part, items_in}
use Rattle.annex.specs.Records.{
  no_common,
  no_transfer,
  pad,
  head_of,
  common_head_of,
  values_of,
  pack,
  raw_item,
  view_items,
  lengths_of,
  transfer_count,
  transfers_sum,
  view_parts,
  commons_in,
  is_whole,
  view,
  raw_part,
}
use Rattle.annex.specs.Image.{is_within}
use Rattle.annex.specs.declared.Common.{Common}
use Rattle.annex.specs.declared.Transfer.{Transfer}
use Rattle.annex.specs.declared.Record.{Record}
use Rattle.laws.specs.Bools.{cond_again}
use Rattle.laws.specs.Laid.{own_held_item}
use Rattle.laws.specs.Filling.{values_append}
use Rattle.theorems.specs.Lists.{every_take, every_drop, each_take, each_drop, each_so}
use Rattle.theorems.specs.Records.{OnlyData, plain_items, Within}

-- ---- what is a record's own: what a parameter does not have is no part of it

abbrev pub own_items : List Item → List Item
own_items is = map own_of is

abbrev pub own_common : Part → Part
own_common p = own_part (part_with (own_items p.items) p)

abbrev pub own_parts : List Part → List Part
own_parts r = map own_common r

-- as a record holds its values, all of it is
own_items_lem : (is : List Item) → Each HeldItem is → own_items is ≡ is
own_items_lem [] h = refl
own_items_lem (i ∷ is) h = rw (h.0.own, own_items_lem is h.1)

own_parts_lem : (r : List Part) → Held r → own_parts r ≡ r
own_parts_lem [] h = refl
own_parts_lem (p ∷ r) h = rw (own_items_lem p.items h.0.each, h.0.own, own_parts_lem r h.1)

-- ---- pack, then view

-- the heads of parameters, with their values
view_items_lem : (is : List Item) (vs : List ℕ) → view_items (map head_of is) (values_of is ++ vs) ≡ own_items is
unfolding view_items values_of
view_items_lem [] vs = refl
view_items_lem (i ∷ is) vs =
    rw (
      append_assoc i.values (values_of is) vs,
      take-append_seam i.values (values_of is ++ vs),
      drop-append_seam i.values (values_of is ++ vs),
      view_items_lem is vs,
    )

lengths_heads : (is : List Item) → lengths_of (map head_of is) ≡ length (values_of is)
unfolding lengths_of values_of
lengths_heads [] = refl
lengths_heads (i ∷ is) = rw (lengths_heads is) (sym (length-append i.values (values_of is)))

-- a head tells how many transfer parameters its part holds
transfers_in : (p : Part) → OnlyData p → transfer_count (common_head_of p) ≡ length p.items
transfers_in p h = go (eqb p.header transfer_data) refl
  where
    go : (b : Bool) → eqb p.header transfer_data ≡ b → cond b (length p.items) 0 ≡ length p.items
    go true e = refl
    go false e = sym (ap length (h e))

transfers_sum_lem : (r : List Part) → Each OnlyData r → transfers_sum (map common_head_of r) ≡ length (items_in r)
unfolding transfers_sum
transfers_sum_lem [] h = refl
transfers_sum_lem (p ∷ r) h = rw (transfers_in p h.0, transfers_sum_lem r h.1) (sym (length-append p.items (items_in r)))

-- the heads of parts, with those of their parameters and the values
view_parts_lem : (r : List Part) (ts : List Transfer) (vs : List ℕ) → Each OnlyData r
    → view_parts (map common_head_of r) (map head_of (items_in r) ++ ts) (values_of (items_in r) ++ vs) ≡ own_parts r
unfolding view_parts
view_parts_lem [] ts vs h = refl
view_parts_lem (p ∷ r) ts vs h =
    let is = p.items in
    let js = items_in r in
    let heads : map head_of (is ++ js) ++ ts ≡ map head_of is ++ (map head_of js ++ ts) = rw (map-append head_of is js, append_assoc) in
    let vals : values_of (is ++ js) ++ vs ≡ values_of is ++ (values_of js ++ vs) = rw (values_append is js, append_assoc) in
    rw (
      transfers_in p h.0,
      heads,
      vals,
      take_at (map head_of is) (map head_of js ++ ts) (length is) (length-map is head_of),
      drop_at (map head_of is) (map head_of js ++ ts) (length is) (length-map is head_of),
      lengths_heads is,
      drop-append_seam (values_of is) (values_of js ++ vs),
      view_parts_lem r ts vs h.1,
      view_items_lem is (values_of js ++ vs),
    )

commons_pack : (r : List Part) → commons_in (pack r) ≡ map common_head_of r
unfolding pack pad
commons_pack r = take_at (map common_head_of r) (replicate (6 - length (map common_head_of r)) no_common) (length r) (length-map r common_head_of)

-- whatever the limits: what goes beyond the arrays is in the lists all the same
pub view_own : (r : List Part) → Each OnlyData r → view (pack r) ≡ own_parts r
unfolding view pack pad
view_own r h =
    rw (commons_pack r)
    (view_parts_lem r (replicate (most_transfers - length (map head_of (items_in r))) no_transfer)
    (replicate (most_values - length (values_of (items_in r))) 0) h)

-- of parameters held as a record holds them
only_data : (r : List Part) → Held r → Each OnlyData r
only_data r h = each_so HeldPart OnlyData plain_items r h

pub view_pack : (r : List Part) → Held r → view (pack r) ≡ r
view_pack r h = view_own r (only_data r h) ∙ own_parts_lem r h

transfers_pack : (r : List Part) → take (length (items_in r)) (pack r).transfer ≡ map head_of (items_in r)
unfolding pack pad
transfers_pack r =
    take_at (map head_of (items_in r)) (replicate (most_transfers - length (map head_of (items_in r))) no_transfer) (length (items_in r))
    (length-map (items_in r) head_of)

-- the counts and lengths stay within the arrays where the record is within the limits
pub whole_within : (r : List Part) → Each OnlyData r → is_whole (pack r) ≡ is_within r
unfolding is_whole pack is_within
whole_within r h = rw (commons_pack r, transfers_sum_lem r h, transfers_pack r, lengths_heads (items_in r))

pub within_told : (r : List Part) → Within r → is_within r ≡ true
unfolding is_within
within_told r w =
    rw (
      le-leb (length r) most_commons w.commons,
      le-leb (length (items_in r)) most_transfers w.transfers,
      le-leb (length (values_of (items_in r))) most_values w.values,
    )

pub whole_pack : (r : List Part) → Held r → Within r → is_whole (pack r) ≡ true
whole_pack r h w = whole_within r (only_data r h) ∙ within_told r w

-- ---- what any struct is viewed as

-- a header is an octet
abbrev pub OctetCommon : Common → Type 0
OctetCommon c = c.header < 256

abbrev pub OctetTransfer : Transfer → Type 0
OctetTransfer t = t.header < 256

-- what a struct of the code has by its types, as far as a record needs it
pub record FitsStruct (s : Record) : Type 0 where
  pub commons_long : length s.common ≡ most_commons
  pub transfers_long : length s.transfer ≡ most_transfers
  pub values_long : length s.values ≡ most_values
  pub common_octets : Each OctetCommon s.common
  pub transfer_octets : Each OctetTransfer s.transfer
  pub value_octets : every is_octet s.values ≡ true

held_items : (ts : List Transfer) (vs : List ℕ) → Each OctetTransfer ts → every is_octet vs ≡ true → Each HeldItem (view_items ts vs)
unfolding view_items
held_items [] vs s o = tt
held_items (t ∷ ts) vs s o = (
  own_held_item (raw_item t (take t.len vs)) s.0 (every_take is_octet t.len vs o),
  held_items ts (drop t.len vs) s.1 (every_drop is_octet t.len vs o),
)

pub own_part_lem : (p : Part) → p.header < 256 → Each HeldItem p.items → HeldPart (own_part p)
own_part_lem p s h = go (eqb p.header transfer_data) refl
  where
    go : (b : Bool) → eqb p.header transfer_data ≡ b
        → HeldPart
        (cond b (part p.header 0 0 p.items) (part p.header p.value (own_more_data p.header p.more_data) []))
    go true e = record { octet = s; own = rw e; each = h }
    go false e = record { octet = s; own = rw (e, cond_again (eqb p.header sequence) (λ (m : ℕ). m) p.more_data 0 0); each = tt }

held_parts : (cs : List Common) (ts : List Transfer) (vs : List ℕ) → Each OctetCommon cs → Each OctetTransfer ts → every is_octet vs ≡ true
    → Held (view_parts cs ts vs)
unfolding view_parts
held_parts [] ts vs s t o = tt
held_parts (c ∷ cs) ts vs s t o =
    let n = transfer_count c in
    let l = lengths_of (take n ts) in (
      own_part_lem (raw_part c (view_items (take n ts) vs)) s.0 (held_items (take n ts) vs (each_take OctetTransfer n ts t) o),
      held_parts cs (drop n ts) (drop l vs) s.1 (each_drop OctetTransfer n ts t) (every_drop is_octet l vs o),
    )

-- headers and values are octets, and what a parameter does not have is 0 or none
pub view_held : (s : Record) → FitsStruct s → Held (view s)
unfolding view
view_held s f =
    held_parts (commons_in s) s.transfer s.values (each_take OctetCommon s.commons s.common f.common_octets)
    f.transfer_octets f.value_octets
