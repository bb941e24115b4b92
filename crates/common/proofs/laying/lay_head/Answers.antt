-- `lay_head` meets its contract: of each kind the octets that are copied are those of its layout, each modulo 256.
use Prim.Native.Nat.{ℕ, ◌/◌, ◌%◌, ◌<◌}
use native.Mathlib.Omega.{arith}
use mathlib.Core.Path.{◌≡◌, sym, ◌∙◌}
use mathlib.Core.Bool.{Bool, true, false}
use mathlib.Core.List.{List, [], ◌∷◌}
use borrow.Author.Tests.{ne_eqb}
use Rattle.annex.specs.Heads.{transfer_data, is_call}
use Rattle.annex.specs.Layout.{layout_items, call_octets, octet_of, layout_part}
use Rattle.annex.specs.Memory.{low_octets, copying, laying_head}
use Rattle.annex.specs.Promises.{Keeps}
use Rattle.annex.specs.Records.{raw_part}
use Rattle.annex.specs.declared.Common.{Common}
use Rattle.laws.specs.Written.{length_low}
use Rattle.common.proofs.laying.lay_head.Goals as goal

-- the octets of a head, each modulo 256
module _ (c : Common) (octet : c.header < 256) where
  same : c.header % 256 ≡ c.header
  same = omega arith

  low-data : c.header ≡ transfer_data → c.header ∷ 0 ∷ [] ≡ low_octets (layout_part (raw_part c []))
  unfolding layout_part layout_items
  low-data e = rw e

  module _ (other : c.header ≡ transfer_data → ⊥) where
    low-call : is_call c.header ≡ true → c.header ∷ call_octets c.value ≡ low_octets (layout_part (raw_part c []))
    unfolding layout_part
    low-call e =
        let v = c.value in
        let a : v % 256 % 256 ≡ v % 256 = omega arith in
        let b : v / 256 % 256 % 256 ≡ v / 256 % 256 = omega arith in
        let d : v / 65536 % 256 % 256 ≡ v / 65536 % 256 = omega arith in
        rw (ne_eqb c.header transfer_data other, e, same, a, b, d)

    low-plain : is_call c.header ≡ false → c.header ∷ octet_of (raw_part c []) % 256 ∷ [] ≡ low_octets (layout_part (raw_part c []))
    unfolding layout_part
    low-plain e = rw (ne_eqb c.header transfer_data other, e, same)

-- so they are laid out where they are copied
laid : (c : Common) (room now s : List ℕ) (at : ℕ) (r : Bool) → s ≡ low_octets (layout_part (raw_part c [])) → Keeps (copying room at s) r now
    → Keeps (laying_head c room at) r now
laid c room now s at r e k = rw (← length_low (layout_part (raw_part c [])), ← e) k

pub returns-then-c-eq-TRANSFER_DATA : goal.returns-then-c-eq-TRANSFER_DATA
returns-then-c-eq-TRANSFER_DATA c =
    let a = c.args in
    laid a.c a.room.now _ _ a.at _ (low-data a.c (omega arith) c.if-c-eq-TRANSFER_DATA.true) c.copy_in.ensures

pub returns-then-is_call : goal.returns-then-is_call
returns-then-is_call c =
    let a = c.args in
    laid a.c a.room.now _ _ a.at _
    (rw c.call_octets.ensures (low-call a.c (omega arith) c.if-c-eq-TRANSFER_DATA.false (sym c.is_call.ensures ∙ c.if-is_call.true)))
    c.copy_in-then-is_call.ensures

pub returns-else-is_call : goal.returns-else-is_call
returns-else-is_call c =
    let a = c.args in
    laid a.c a.room.now _ _ a.at _
    (rw c.octet_of.ensures (low-plain a.c (omega arith) c.if-c-eq-TRANSFER_DATA.false (sym c.is_call.ensures ∙ c.if-is_call.false)))
    c.copy_in-else-is_call.ensures
