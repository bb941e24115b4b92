-- The walk over an image's parameters, turn by turn: one is refused, or it is accepted and laid out in the draft, and those behind it go
-- on.
use Rattle.std.specs.Prelude.{ℕ, suc, ◌+◌, ◌-◌, ◌%◌, ◌≤◌, ◌<◌, ◌≡◌, Bool, true, false, cond, not, eqb, leb, ltb, take, set}
use native.Mathlib.Omega.{arith}
use Rattle.std.proofs.Math.Path.{refl, sym, ap}
use Rattle.std.proofs.Common.{◌∙◌}
use mathlib.Core.List.{List, [], ◌∷◌, append-nil}
use borrow.Author.Tests.{lt-ltb, le-ltb, ne_eqb}
use Rattle.std.proofs.Math.ListN.{length, get_or, drop, length-set}
use Rattle.std.proofs.Math.Seq.{drop-drop}
use Rattle.annex.specs.Answers.{transfer_over, missing, refuse, Answer, Accepted, Refused}
use Rattle.annex.specs.Heads.{end_mark, among, common_headers, most_transfer_octets, transfer_data}
use Rattle.annex.specs.Items.{Item, Part, own_of}
use Rattle.annex.specs.Layout.{layout_item, layout_items, layout_part, layout}
use Rattle.annex.specs.Allowed.{value_right, value_fits}
use Rattle.annex.specs.Reading.{whole_in}
use Rattle.annex.specs.Records.{raw_item, raw_part, item_from}
use Rattle.annex.specs.Walk.{Seen, unseen, times_seen, counted}
use Rattle.annex.specs.Writing.{item_writing, items_writing, data_writing, part_writing, end_writing, parts_writing}
use Rattle.annex.specs.Image.{
  Front,
  more,
  head_front,
  item_front,
  item_size,
  items_front,
  common_front,
  part_front,
  part_then,
  parts_front,
  octets_to_a_common_head,
  octets_to_a_transfer_head,
}
use Rattle.annex.specs.Image.Front.{Taken, Short}
use Rattle.annex.specs.Memory.{low_octets, laid_at}
use Rattle.annex.specs.declared.Common.{Common}
use Rattle.annex.specs.declared.Transfer.{Transfer}
use Rattle.laws.specs.Laid.{own_header}
use Rattle.laws.specs.Steps.{passed, then_passed}
use Rattle.theorems.specs.Views.{own_items, own_common, own_parts}
use Rattle.theorems.specs.Writings.{item_written}
use Rattle.limits.specs.Along.{part_from}
use Rattle.refusing.specs.Laying.{data_laid, head_laid, plain_laid, data_laid_lem}
use Rattle.refusing.specs.Refusing.{
  items_refused,
  items_accepted,
  items_over,
  items_behind,
  part_head_passed,
  data_passed,
  head_refused,
  plain_accepted,
  data_refused,
  data_accepted,
  parts_over,
}
use Rattle.image_writer.specs.Fronts.{item_cut, item_own, item_next, part_cut, part_next}
use Rattle.image_writer.specs.Served.{Served, serves_refused, served_refused, served_more, served_end}
use Rattle.image_writer.specs.Drafts.{laid_front, set_front, set-two}

-- ---- transfer parameters

abbrev pub ItemsServed : Seen → ℕ → ℕ → List ℕ → Front Item → Answer → ℕ → List ℕ → Type 0
ItemsServed seen p i before f a end d =
    Served (λ is. items_writing seen p (own_items is)) (λ is. layout_items (own_items is)) i before f a end d

-- the one at index i of the octets
module _ (seen : Seen) (at i left : ℕ) (s : List ℕ) (end : ℕ) (d : List ℕ) where
  -- is cut
  pub items_cut : leb (item_size (drop i s)) (length (drop i s)) ≡ false → (before : List ℕ) (k p : ℕ)
      → ItemsServed seen at i before (items_front (suc left) (drop i s)) (Refused k p) end d
  items_cut e before k p = rw (item_cut i left s e) tt

  -- is whole, with the head t and the values vs
  module _ (whole : leb (item_size (drop i s)) (length (drop i s)) ≡ true) (t : Transfer) (head : t ≡ head_front (drop i s)) (vs : List ℕ)
      (values : vs ≡ take t.len (drop (i + octets_to_a_transfer_head) s)) (a : Answer)
      (told : item_writing (times_seen seen t.header) 0 (item_from t vs) ≡ a) where
    own_is : own_of (item_front (drop i s)) ≡ item_from t vs
    own_is = item_own i left s t head vs values

    opened : items_front (suc left) (drop i s)
        ≡ more (item_front (drop i s)) (octets_to_a_transfer_head + t.len) (items_front left (drop (i + octets_to_a_transfer_head + t.len) s))
    opened = item_next i left s t head whole

    header_is : (item_from t vs).header ≡ t.header
    header_is = own_header (raw_item t vs)

    pub item_refused : (before : List ℕ) (k z : ℕ) → a ≡ Refused k z
        → ItemsServed seen at i before (items_front (suc left) (drop i s)) (Refused k at) end d
    item_refused before k z e =
        rw opened
        (served_refused (λ is. items_writing seen at (own_items is)) (λ is. layout_items (own_items is)) i before (item_front (drop i s))
        (octets_to_a_transfer_head + t.len) (items_front left (drop (i + octets_to_a_transfer_head + t.len) s)) k at end d
        (λ is. rw own_is (items_refused seen at t.header (item_from t vs) (own_items is) a header_is told k z e)))

    pub item_accepted : (n : ℕ) → a ≡ Accepted n → (draft : List ℕ) → length d ≡ length draft → (b : Answer)
        → ItemsServed (counted seen t.header) (at + n) (i + octets_to_a_transfer_head + t.len)
        (take (at + n) (laid_at (Accepted n) (layout_item (item_from t vs)) at draft))
        (items_front left (drop (i + octets_to_a_transfer_head + t.len) s)) b end d
        → ItemsServed seen at i (take at draft) (items_front (suc left) (drop i s)) b end d
    unfolding layout_items
    item_accepted n e draft l b h =
        let x = item_from t vs in
        let j : i + octets_to_a_transfer_head + t.len ≡ i + (octets_to_a_transfer_head + t.len) = omega arith in
        let f = items_front left (drop (i + octets_to_a_transfer_head + t.len) s) in
        let m : n ≡ length (layout_item x) = omega (arith, (item_written (times_seen seen t.header) 0 x n (told ∙ e)).behind) in
        rw opened
        (served_more (λ is. items_writing seen at (own_items is)) (λ is. layout_items (own_items is)) i (take at draft)
        (λ is. items_writing (counted seen t.header) (at + n) (own_items is)) (λ is. layout_items (own_items is)) (item_front (drop i s))
        (octets_to_a_transfer_head + t.len) (at + n) (layout_item x) (take (at + n) (laid_at (Accepted n) (layout_item x) at draft)) f b end d
        (λ is. rw own_is (items_accepted seen at t.header x (own_items is) a header_is told n e))
        (λ is. rw own_is)
        (λ is k g. omega (arith, items_behind (own_items is) (counted seen t.header) (at + n) k g))
        (λ g. rw m (laid_front draft at (layout_item x) n (omega arith)))
        (rw (← j) h))

-- none is left
pub items_done : (seen : Seen) (at i : ℕ) (s draft : List ℕ)
    → ItemsServed seen at i (take at draft) (items_front 0 s) (Accepted at) i draft
unfolding items_front layout_items
items_done seen at i s draft =
    served_end (λ is. items_writing seen at (own_items is)) (λ is. layout_items (own_items is)) i (take at draft) (Accepted at) i draft
    (sym (items_over seen at)) refl
    (λ n e g.
    let same : at ≡ n = cc in
    rw (← same) (sym (append-nil (take at draft))))

-- ---- C5 with its header at the place p: its transfer parameters stand behind its length octet, then 14

abbrev pub DataServed : ℕ → List ℕ → Front Item → Answer → ℕ → List ℕ → Type 0
DataServed p before f a end d =
    Served (λ is. data_writing p (own_items is)) (λ is. data_laid (own_items is)) 0 before f a end d

-- what its parameters gave, laid out behind two octets of the draft `first`
abbrev pub ItemsGave : ℕ → List ℕ → Front Item → Answer → ℕ → List ℕ → Type 0
ItemsGave p first f a end d = ItemsServed unseen (p + 2) 0 (take (p + 2) first) f a end d

module _ (p : ℕ) (first : List ℕ) (end : ℕ) (d : List ℕ) where
  abbrev writes : List Item → Answer
  writes is = data_writing p (own_items is)

  abbrev lays : List Item → List ℕ
  lays is = data_laid (own_items is)

  pub data_stops : (f : Front Item) (k z : ℕ) → ItemsGave p first f (Refused k z) end d → (last : ℕ) (after : List ℕ)
      → DataServed p (take p first) f (Refused k z) last after
  unfolding data_writing
  data_stops Short k z g last after = tt
  data_stops (Taken is j) k z g last after = serves_refused writes lays 0 (take p first) is j k z last after (rw (← g.told))

  pub data_over : (f : Front Item) (n : ℕ) → ItemsGave p first f (Accepted n) end d → most_transfer_octets < n - (p + 2)
      → (last : ℕ) (after : List ℕ) → DataServed p (take p first) f (Refused transfer_over p) last after
  unfolding data_writing
  data_over Short n g h last after = tt
  data_over (Taken is j) n g h last after =
      serves_refused writes lays 0 (take p first) is j transfer_over p last after
      (rw (← g.told, lt-ltb most_transfer_octets (n - (p + 2)) h))

  -- the place behind them
  pub data_behind : (f : Front Item) (n : ℕ) → ItemsGave p first f (Accepted n) end d → p + 2 ≤ n
  data_behind Short n g = absurd g
  data_behind (Taken is j) n g = omega (arith, items_behind (own_items is) unseen (p + 2) n (sym g.told))

  -- its header and its length octet are stored last
  pub data_done : (f : Front Item) (n x : ℕ) → ItemsGave p first f (Accepted n) end d → x ≡ n - (p + 2) → x ≤ most_transfer_octets
      → length d ≡ length first → DataServed p (take p first) f (Accepted n) end (set (set d p transfer_data) (p + 1) x)
  unfolding data_writing
  data_done Short n x g e h l = absurd g
  data_done (Taken is j) n x g e h l =
      let behind = items_behind (own_items is) unseen (p + 2) n (sym g.told) in
      let octets = layout_items (own_items is) in
      let long : x ≡ length octets = omega arith in
      let small : length octets % 256 ≡ x = omega arith in
      record {
        told = rw (← g.told, le-ltb most_transfer_octets (n - (p + 2)) (omega arith));
        ends = λ m r. g.ends n refl;
        laid = λ m r u.
            let same : n ≡ m = cc in
            let k : m ≡ p + 2 + x = omega arith in
            let v : m ≤ length d = omega (arith, u, length-set (set d p transfer_data) (p + 1) x, length-set d p transfer_data) in
            rw (small, k)
            (set-two first d p x transfer_data x (low_octets octets) (omega arith) l
            (rw (← k, ← same) (g.laid n refl (omega arith))));
      }

-- what accepted transfer data says
pub data_most : (p : ℕ) (before : List ℕ) (f : Front Item) (n end : ℕ) (d : List ℕ) → DataServed p before f (Accepted n) end d → n ≤ p + 257
data_most p before Short n end d g = absurd g
data_most p before (Taken is j) n end d g = data_passed p (own_items is) n (sym g.told)

-- ---- common parameters

abbrev pub PartsServed : Seen → ℕ → ℕ → List ℕ → Front Part → Answer → ℕ → List ℕ → Type 0
PartsServed seen p i before f a end d =
    Served (λ r. parts_writing seen p (own_parts r)) (λ r. layout (own_parts r)) i before f a end d

-- the place behind an accepted one, and behind accepted ones
part_behind : (times p : ℕ) (q : Part) (n : ℕ) → part_writing times p q ≡ Accepted n → p ≤ n
unfolding part_writing data_writing
part_behind times p q n e =
    let e₁ = passed (not (among q.header common_headers)) _ p n _ e in
    let e₂ = passed (ltb 0 times) _ p n _ e₁.1 in
    let e₃ = passed (not (value_right q)) _ p n _ e₂.1 in
    let e₄ = passed (not (value_fits q)) _ p n _ e₃.1 in
    go (eqb q.header transfer_data) e₄.1
  where
    go : (b : Bool) → cond b (data_writing p q.items) (Accepted (p + length (layout_part q))) ≡ Accepted n → p ≤ n
    go true f =
        let t =
        then_passed (items_writing unseen (p + 2) q.items)
        (λ m. refuse (ltb most_transfer_octets (m - (p + 2))) transfer_over p (Accepted m)) n f in
        let o : Accepted t.0 ≡ Accepted n =
        (passed (ltb most_transfer_octets (t.0 - (p + 2))) transfer_over p n (Accepted t.0) t.2).1 in
        let same : t.0 ≡ n = cc in
        omega (arith, items_behind q.items unseen (p + 2) t.0 t.1)
    go false f = let same : p + length (layout_part q) ≡ n = cc in omega arith

parts_behind : (r : List Part) (seen : Seen) (p n : ℕ) → parts_writing seen p r ≡ Accepted n → p ≤ n
unfolding parts_writing
parts_behind [] seen p n e =
    let t : Accepted (p + 1) ≡ Accepted n = (passed (not (whole_in seen)) missing p n (Accepted (p + 1)) e).1 in
    let same : p + 1 ≡ n = cc in
    omega arith
parts_behind (q ∷ r) seen p n e =
    let k = q.header in
    let t = then_passed (part_writing (times_seen seen k) p q) (λ m. parts_writing (counted seen k) m r) n e in
    omega (arith, part_behind (times_seen seen k) p q t.0 t.1, parts_behind r (counted seen k) t.0 n t.2)

-- the one at index i of the octets
module _ (seen : Seen) (at i left : ℕ) (s : List ℕ) (end : ℕ) (d : List ℕ) where
  -- is cut
  pub parts_cut : length (drop i s) < octets_to_a_common_head → (before : List ℕ) (k p : ℕ)
      → PartsServed seen at i before (parts_front (suc left) (drop i s)) (Refused k p) end d
  parts_cut h before k p = rw (part_cut i left s h) tt

  -- has the head c, judged at place 0, and behind it these transfer parameters
  module _ (c : Common) (head : c ≡ common_front (drop i s)) (there : octets_to_a_common_head ≤ length (drop i s)) (a : Answer)
      (told : part_writing (times_seen seen c.header) 0 (raw_part c []) ≡ a) where
    abbrev items : Front Item
    items = items_front c.transfers (drop (i + octets_to_a_common_head) s)

    abbrev rest : ℕ → Front Part
    rest k = parts_front left (drop k (drop i s))

    abbrev writes_here : List Part → Answer
    writes_here r = parts_writing seen at (own_parts r)

    abbrev lays_here : List Part → List ℕ
    lays_here r = layout (own_parts r)

    opened_part : parts_front (suc left) (drop i s) ≡ part_then (drop i s) items rest
    opened_part = part_next i left s c head there

    own_part_lem : (is : List Item) → own_common (part_front (drop i s) is) ≡ part_from c (own_items is)
    own_part_lem is = rw head

    pub part_refused : (before : List ℕ) (k z : ℕ) → a ≡ Refused k z
        → PartsServed seen at i before (parts_front (suc left) (drop i s)) (Refused k at) end d
    part_refused before k z e = rw opened_part (go items)
      where
        go : (f : Front Item) → PartsServed seen at i before (part_then (drop i s) f rest) (Refused k at) end d
        go Short = tt
        go (Taken is m) =
            served_refused writes_here lays_here i before (part_front (drop i s) is) (octets_to_a_common_head + m) (rest (octets_to_a_common_head + m)) k at end d
            (λ r. rw (own_part_lem is) (head_refused seen at c (own_items is) (own_parts r) a told k z e))

    -- where it is no C5, none
    no_items : (c.header ≡ transfer_data → ⊥) → items ≡ Taken [] 0
    unfolding items_front
    no_items u =
        let same : c.header ≡ get_or (drop i s) 0 0 = ap (λ (x : Common). x.header) head in
        let none : c.transfers ≡ 0 =
        ap (λ (x : Common). x.transfers) head ∙ rw (ne_eqb (get_or (drop i s) 0 0) transfer_data (λ e. u (same ∙ e))) in
        rw none

    module _ (n : ℕ) (taken : a ≡ Accepted n) where
      -- no C5
      pub plain_turn : (c.header ≡ transfer_data → ⊥) → (draft : List ℕ) → length d ≡ length draft → (b : Answer)
          → PartsServed (counted seen c.header) (at + n) (i + octets_to_a_common_head)
          (take (at + n) (laid_at (Accepted n) (layout_part (raw_part c [])) at draft)) (parts_front left (drop (i + octets_to_a_common_head) s)) b end d
          → PartsServed seen at i (take at draft) (parts_front (suc left) (drop i s)) b end d
      unfolding layout
      plain_turn u draft l b h =
          let xs = layout_part (raw_part c []) in
          let p = part_front (drop i s) [] in
          let m : n ≡ length xs = omega (arith, (part_head_passed (times_seen seen c.header) c n (told ∙ taken)).1, head_laid c) in
          let later : List Part → Answer = λ r. parts_writing (counted seen c.header) (at + n) (own_parts r) in
          let o : own_common p ≡ part_from c [] = own_part_lem [] in
          rw (opened_part, no_items u, drop-drop octets_to_a_common_head i s)
          (served_more writes_here lays_here i (take at draft) later lays_here p octets_to_a_common_head (at + n) xs
          (take (at + n) (laid_at (Accepted n) xs at draft)) (parts_front left (drop (i + octets_to_a_common_head) s)) b end d
          (λ r. rw o (plain_accepted seen at c [] (own_parts r) a told n taken u))
          (λ r. rw (o, plain_laid c [] u))
          (λ r k g. parts_behind (own_parts r) (counted seen c.header) (at + n) k g)
          (λ g. rw m (laid_front draft at xs n (omega arith)))
          h)

      -- C5, with what its transfer parameters gave in the draft `first`
      module _ (is_data : c.header ≡ transfer_data) (first : List ℕ) (x : ℕ) (draft : List ℕ) where
        pub data_stop : (k z : ℕ) → DataServed at (take at first) items (Refused k z) x draft
            → PartsServed seen at i (take at first) (parts_front (suc left) (drop i s)) (Refused k z) end d
        data_stop k z g = rw opened_part (go items g)
          where
            go : (f : Front Item) → DataServed at (take at first) f (Refused k z) x draft
                → PartsServed seen at i (take at first) (part_then (drop i s) f rest) (Refused k z) end d
            go Short g = tt
            go (Taken is m) g =
                served_refused writes_here lays_here i (take at first) (part_front (drop i s) is) (octets_to_a_common_head + m) (rest (octets_to_a_common_head + m))
                k z end d
                (λ r. rw (own_part_lem is) (data_refused seen at c (own_items is) (own_parts r) a told n taken k z is_data (sym g.told)))

        pub data_turn : (q : ℕ) → DataServed at (take at first) items (Accepted q) x draft → length d ≡ length draft → (b : Answer)
            → PartsServed (counted seen c.header) q (i + octets_to_a_common_head + x) (take q draft)
            (parts_front left (drop (i + octets_to_a_common_head + x) s)) b end d
            → PartsServed seen at i (take at first) (parts_front (suc left) (drop i s)) b end d
        unfolding layout
        data_turn q g l b h = rw opened_part (go items g)
          where
            go : (f : Front Item) → DataServed at (take at first) f (Accepted q) x draft
                → PartsServed seen at i (take at first) (part_then (drop i s) f rest) b end d
            go Short g = absurd g
            go (Taken is m) g =
                let same : x ≡ m = omega (arith, g.ends q refl) in
                let j : i + octets_to_a_common_head + x ≡ i + (octets_to_a_common_head + m) = omega arith in
                let later : List Part → Answer = λ r. parts_writing (counted seen c.header) q (own_parts r) in
                let o : own_common (part_front (drop i s) is) ≡ part_from c (own_items is) = own_part_lem is in
                let rest-is : parts_front left (drop (i + octets_to_a_common_head + x) s) ≡ rest (octets_to_a_common_head + m) =
                ap (parts_front left) (ap (λ (y : ℕ). drop y s) j ∙ sym (drop-drop (octets_to_a_common_head + m) i s)) in
                served_more writes_here lays_here i (take at first) later lays_here (part_front (drop i s) is) (octets_to_a_common_head + m) q
                (data_laid (own_items is)) (take q draft) (rest (octets_to_a_common_head + m)) b end d
                (λ r. rw o (data_accepted seen at c (own_items is) (own_parts r) a told n taken q is_data (sym g.told)))
                (λ r. rw (o, data_laid_lem c (own_items is) is_data))
                (λ r k e. parts_behind (own_parts r) (counted seen c.header) q k e)
                (λ e. g.laid q refl (omega arith))
                (rw (← rest-is, ← j) h)

-- none is left: the end mark
pub parts_done : (seen : Seen) (at i : ℕ) (s draft : List ℕ)
    → PartsServed seen at i (take at draft) (parts_front 0 s) (end_writing (whole_in seen) at) i (set draft at end_mark)
unfolding parts_front layout
parts_done seen at i s draft =
    served_end (λ r. parts_writing seen at (own_parts r)) (λ r. layout (own_parts r)) i (take at draft) (end_writing (whole_in seen) at) i
    (set draft at end_mark) (sym (parts_over seen at)) refl
    (λ n e g.
    let t : Accepted (at + 1) ≡ Accepted n = (passed (not (whole_in seen)) missing at n (Accepted (at + 1)) e).1 in
    let same : at + 1 ≡ n = cc in
    rw (← same) (set_front draft at end_mark (omega (arith, length-set draft at end_mark))))

pub parts_unfinished : (seen : Seen) (at i : ℕ) (s before : List ℕ) (k p end : ℕ) (d : List ℕ) → end_writing (whole_in seen) at ≡ Refused k p
    → PartsServed seen at i before (parts_front 0 s) (Refused k p) end d
unfolding parts_front
parts_unfinished seen at i s before k p end d e =
    serves_refused (λ r. parts_writing seen at (own_parts r)) (λ r. layout (own_parts r)) i before [] 0 k p end d (parts_over seen at ∙ e)
