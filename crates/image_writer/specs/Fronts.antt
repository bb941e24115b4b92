-- The parameter at index i of an image's octets, and those behind it.
use Rattle.std.specs.Prelude.{ℕ, suc, ◌+◌, ◌≤◌, ◌<◌, ◌≡◌, true, false, List, leb, length, take, drop}
use native.Mathlib.Omega.{arith}
use Rattle.std.proofs.Math.Path.{ap}
use Rattle.std.proofs.Common.{le-leb}
use Rattle.std.proofs.lemmas.Bool.{lt-leb}
use Rattle.std.proofs.Math.Seq.{drop-drop}
use Rattle.annex.specs.Items.{own_of}
use Rattle.annex.specs.Records.{item_from}
use Rattle.annex.specs.Image.{
  more,
  head_front,
  item_front,
  item_size,
  items_front,
  common_front,
  part_then,
  parts_front,
  octets_to_a_common_head,
  octets_to_a_transfer_head,
}
use Rattle.annex.specs.Image.Front.{Short}
use Rattle.annex.specs.declared.Common.{Common}
use Rattle.annex.specs.declared.Transfer.{Transfer}

module _ (i left : ℕ) (s : List ℕ) where
  -- ---- a transfer parameter

  -- is cut
  pub item_cut : leb (item_size (drop i s)) (length (drop i s)) ≡ false → items_front (suc left) (drop i s) ≡ Short
  unfolding items_front
  item_cut e = rw e

  -- or whole, with the head t and the values vs
  module _ (t : Transfer) (head : t ≡ head_front (drop i s)) where
    pub item_own : (vs : List ℕ) → vs ≡ take t.len (drop (i + octets_to_a_transfer_head) s) → own_of (item_front (drop i s)) ≡ item_from t vs
    item_own vs values = rw (values, head, drop-drop octets_to_a_transfer_head i s)

    pub item_next : leb (item_size (drop i s)) (length (drop i s)) ≡ true
        → items_front (suc left) (drop i s)
        ≡ more (item_front (drop i s)) (octets_to_a_transfer_head + t.len) (items_front left (drop (i + octets_to_a_transfer_head + t.len) s))
    unfolding items_front
    item_next whole =
        let e : i + (octets_to_a_transfer_head + t.len) ≡ i + octets_to_a_transfer_head + t.len = omega arith in
        let len : t.len ≡ (head_front (drop i s)).len = ap (λ (x : Transfer). x.len) head in
        rw (whole, ← e, len, drop-drop (item_size (drop i s)) i s)

  -- ---- a common parameter

  pub part_cut : length (drop i s) < octets_to_a_common_head → parts_front (suc left) (drop i s) ≡ Short
  unfolding parts_front
  part_cut h = rw (lt-leb octets_to_a_common_head (length (drop i s)) h)

  pub part_next : (c : Common) → c ≡ common_front (drop i s) → octets_to_a_common_head ≤ length (drop i s)
      → parts_front (suc left) (drop i s)
      ≡ part_then (drop i s) (items_front c.transfers (drop (i + octets_to_a_common_head) s)) (λ k. parts_front left (drop k (drop i s)))
  unfolding parts_front
  part_next c head h =
      let t : c.transfers ≡ (common_front (drop i s)).transfers = ap (λ (x : Common). x.transfers) head in
      rw (le-leb octets_to_a_common_head (length (drop i s)) h, drop-drop octets_to_a_common_head i s, t)
