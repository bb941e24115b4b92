-- The rows that a listing hands out, said of the record: for an allowed record laid out, a row to each parameter, with its header and the
-- length of its contents, from offset to offset; as many as the record has parameters, and one for the end mark. Hence what the rows of an
-- accepted message add up to, outside C5 and inside.
use Rattle.std.specs.Prelude.{ℕ, suc, ◌+◌, ◌-◌, ◌≤◌, ◌≡◌, Bool, cond, List, [], ◌∷◌, ◌++◌, ltb, drop}
use Rattle.std.proofs.Common.{zero-add, arith, sym, ap, ◌∙◌, eqb-true, lt-ltb, le-ltb, length-append, length-drop}
use Rattle.std.proofs.Math.Path.{refl}
use Rattle.std.proofs.Math.Bool.{true, false}
use Rattle.std.proofs.Math.Dec.{eqb}
use Rattle.std.proofs.Math.ListN.{length}
use Rattle.annex.specs.Units.{lead_of, extent_of, common_extent_of}
use Rattle.annex.specs.Heads.{among, end_mark, transfer_data, common_headers, is_call}
use Rattle.annex.specs.Items.{Item, Part, contents_of}
use Rattle.annex.specs.Layout.{call_octets, octet_of, data_octets, layout_item, layout_items, layout_part, layout}
use Rattle.annex.specs.Allowed.{every, Each, is_octet, items_in, Allowed}
use Rattle.annex.specs.Reading.{verdict_of, record_of}
use Rattle.annex.specs.Spans.{transfer_rows, inner_rows, common_rows, rows_of, common_rows_by, rows_by}
use Rattle.annex.specs.Answers.{Accepted}
use Rattle.annex.specs.declared.Extent.{Extent}
use Rattle.annex.specs.declared.Row.{Row}
use Rattle.laws.specs.Laid.{length-layout}
use Rattle.laws.specs.Members.{among_every, sum_of}
use Rattle.theorems.specs.Transfers.{item_par, item_pars, transfers_built}
use Rattle.theorems.specs.Commons.{AllowedPart, part_par}
use Rattle.theorems.specs.Records.{plain_items, allowed_parts}
use Rattle.theorems.specs.Messages.{read_then_laid}
use Rattle.theorems.specs.Layouts.{part_pars, laid_then_listed}

-- ---- the rows of a record

abbrev row_at : ℕ → ℕ → List ℕ → Row
row_at p h contents = record { offset = p; header = h; len = length contents }

-- of transfer parameters, the first header at the place p: the next one stands behind the octets of this one
unfoldable pub item_rows : ℕ → List Item → List Row
item_rows p [] = []
item_rows p (i ∷ is) = row_at p i.header (contents_of i) ∷ item_rows (p + length (layout_item i)) is

-- the contents of a common parameter: those of C5 are its transfer parameters, laid out
abbrev pub part_contents : Part → List ℕ
part_contents q =
    cond (eqb q.header transfer_data) (layout_items q.items) (cond (is_call q.header) (call_octets q.value) (octet_of q ∷ []))

-- of common parameters: behind the row of a C5 those of its transfer parameters, and behind all the end mark's
unfoldable pub part_rows : ℕ → List Part → List Row
part_rows p [] = row_at p end_mark [] ∷ []
part_rows p (q ∷ r) = row_at p q.header (part_contents q) ∷ (item_rows (p + 2) q.items ++ part_rows (p + length (layout_part q)) r)

-- ---- a listing hands out these

items_listed : (is : List Item) (s p : ℕ) → transfer_rows s (item_pars p is) ≡ item_rows (s + p) is
unfolding transfer_rows item_pars item_rows layout_item
items_listed [] s p = refl
items_listed (i ∷ is) s p =
    let own = (item_par p i).own in
    let l : length own ≡ lead_of (extent_of i.header) + length (contents_of i) = omega (arith, length-layout i) in
    let len : length own - lead_of (extent_of i.header) ≡ length (contents_of i) = omega arith in
    let next : s + (p + 1 + length own) ≡ s + p + suc (length own) = omega arith in
    rw (len, items_listed is s (p + 1 + length own), next)

-- of the common parameters that a record may hold, only a C5 has a length octet
leads : (h : ℕ) → among h common_headers ≡ true → lead_of (common_extent_of h) ≡ cond (eqb h transfer_data) 1 0
unfolding lead_of common_extent_of
leads h a = eqb-true _ _ (among_every (λ k. eqb (lead_of (common_extent_of k)) (cond (eqb k transfer_data) 1 0)) common_headers refl h a)

-- the header, a length octet, the contents
length_part : (q : Part) → AllowedPart q → length (layout_part q) ≡ 1 + lead_of (common_extent_of q.header) + length (part_contents q)
unfolding layout_part
length_part q a = rw (leads q.header a.listed) (go (eqb q.header transfer_data) (is_call q.header))
  where
    go : (b c : Bool)
        → length (q.header ∷ cond b (data_octets (layout_items q.items)) (cond c (call_octets q.value) (octet_of q ∷ [])))
        ≡ 1 + cond b 1 0 + length (cond b (layout_items q.items) (cond c (call_octets q.value) (octet_of q ∷ [])))
    go true c = omega arith
    go false true = omega arith
    go false false = omega arith

-- behind them stand the contents
pub part_contents_lem : (q : Part) → AllowedPart q → drop (1 + lead_of (common_extent_of q.header)) (layout_part q) ≡ part_contents q
unfolding layout_part
part_contents_lem q a = rw (leads q.header a.listed) (go (eqb q.header transfer_data) (is_call q.header))
  where
    go : (b c : Bool)
        → drop (1 + cond b 1 0)
        (q.header ∷ cond b (data_octets (layout_items q.items)) (cond c (call_octets q.value) (octet_of q ∷ [])))
        ≡ cond b (layout_items q.items) (cond c (call_octets q.value) (octet_of q ∷ []))
    go true c = refl
    go false true = refl
    go false false = refl

inner_listed : (q : Part) (p : ℕ) → AllowedPart q → inner_rows (part_par p q) ≡ item_rows (p + 2) q.items
unfolding layout_part item_rows lead_of common_extent_of
inner_listed q p a = go (eqb q.header transfer_data) refl
  where
    go : (b : Bool) → eqb q.header transfer_data ≡ b → inner_rows (part_par p q) ≡ item_rows (p + 2) q.items
    go true e =
        let at : p + 2 + 0 ≡ p + 2 = omega arith in
        rw (e, (transfers_built q.items a.items).listed, items_listed q.items (p + 2) 0, at)
    go false e = rw (e, plain_items q a.held e)

parts_listed : (r : List Part) (p : ℕ) → Each AllowedPart r → common_rows (part_pars p r) ≡ part_rows p r
unfolding common_rows_by part_pars part_rows lead_of common_extent_of
parts_listed [] p a = rw (zero-add p)
parts_listed (q ∷ r) p a =
    let own = (part_par p q).own in
    let some : length (layout_part q) ≡ 1 + length own = rw length-drop (omega (arith, length_part q a.0)) in
    let len : length own - lead_of (common_extent_of q.header) ≡ length (part_contents q) = omega (arith, length_part q a.0) in
    let next : p + 1 + length own ≡ p + length (layout_part q) = omega arith in
    rw (len, zero-add p, inner_listed q p a.0, next, parts_listed r (p + length (layout_part q)) a.1)

pub rows_of_record : (r : List Part) → Allowed r → rows_of (layout r) ≡ part_rows 0 r
unfolding rows_by
rows_of_record r a = rw (laid_then_listed r a) (parts_listed r 0 (allowed_parts r a))

rows_of_message : (m : List ℕ) → every is_octet m ≡ true → (n : ℕ) → verdict_of m ≡ Accepted n → rows_of m ≡ part_rows 0 (record_of m)
rows_of_message m o n e =
    let w = read_then_laid m o n e in
    ap rows_of (sym w.2) ∙ rows_of_record (record_of m) w.1

-- ---- how many there are, and in which order

length-items : (is : List Item) (p : ℕ) → length (item_rows p is) ≡ length is
unfolding item_rows
length-items [] p = refl
length-items (i ∷ is) p = rw (length-items is (p + length (layout_item i)))

-- one for each common and each transfer parameter, and one for the end mark
pub rows_counted : (r : List Part) (p : ℕ) → length (part_rows p r) ≡ 1 + length r + length (items_in r)
unfolding part_rows
rows_counted [] p = refl
rows_counted (q ∷ r) p =
    simp length-append (omega (arith, length-items q.items (p + 2), rows_counted r (p + length (layout_part q))))

-- each offset is over the one before it, and none below p
abbrev pub Rising : ℕ → List Row → Type 0
Rising p [] = Unit {0}
Rising p (x ∷ xs) = (p ≤ x.offset) × Rising (suc x.offset) xs

rising_below : (p q : ℕ) (xs : List Row) → p ≤ q → Rising q xs → Rising p xs
rising_below p q [] l w = tt
rising_below p q (x ∷ xs) l w = (omega (arith, w.0), w.1)

rising_items : (is : List Item) (p s : ℕ) (xs : List Row) → p ≤ s → Rising (s + length (layout_items is)) xs → Rising p (item_rows s is ++ xs)
unfolding item_rows layout_items
rising_items [] p s xs l w = rising_below p (s + 0) xs (omega arith) w
rising_items (i ∷ is) p s xs l w =
    let next : s + length (layout_item i) + length (layout_items is) ≡ s + length (layout_item i ++ layout_items is) =
    simp length-append (omega arith) in
    (l, rising_items is (suc s) (s + length (layout_item i)) xs (omega (arith, length-layout i)) (rw next w))

-- a C5 is longer by its header and length octet than its parameters; another common parameter has none
inner_short : (q : Part) → AllowedPart q → 2 + length (layout_items q.items) ≤ length (layout_part q)
unfolding layout_part layout_items
inner_short q a = go (eqb q.header transfer_data) refl (is_call q.header)
  where
    go : (b : Bool) → eqb q.header transfer_data ≡ b → (c : Bool)
        → 2 + length (layout_items q.items)
        ≤ length (q.header ∷ cond b (data_octets (layout_items q.items)) (cond c (call_octets q.value) (octet_of q ∷ [])))
    go true e c = omega arith
    go false e true = rw (plain_items q a.held e) (omega arith)
    go false e false = rw (plain_items q a.held e) (omega arith)

rows_rising : (r : List Part) (p q : ℕ) → Each AllowedPart r → p ≤ q → Rising p (part_rows q r)
unfolding part_rows
rows_rising [] p q a l = (l, tt)
rows_rising (c ∷ r) p q a l = (
  l,
  rising_items c.items (suc q) (q + 2) (part_rows (q + length (layout_part c)) r) (omega arith)
      (rows_rising r _ (q + length (layout_part c)) a.1 (omega (arith, inner_short c a.0))),
)

-- ---- what they add up to

-- a row's octets, under a length rule: header, length octet if any, contents
abbrev pub span_by : (ℕ → Extent) → Row → ℕ
span_by extent x = 1 + lead_of (extent x.header) + x.len

-- where the C5 of a row ends, and how many octets its length octet counts; 0 of another row
abbrev pub data_end : Row → ℕ
data_end x = cond (eqb x.header transfer_data) (x.offset + 2 + x.len) 0

abbrev pub data_length : Row → ℕ
data_length x = cond (eqb x.header transfer_data) x.len 0

-- of rows in their order, those outside C5, and those inside; the C5 before them ends at `end`
unfoldable pub outside_of : ℕ → List Row → List Row
outside_of end [] = []
outside_of end (x ∷ xs) = cond (ltb x.offset end) (outside_of end xs) (x ∷ outside_of (data_end x) xs)

unfoldable pub inside_of : ℕ → List Row → List Row
inside_of end [] = []
inside_of end (x ∷ xs) = cond (ltb x.offset end) (x ∷ inside_of end xs) (inside_of (data_end x) xs)

-- the rows of transfer parameters stand inside a C5 that reaches behind them
items_outside : (is : List Item) (s end : ℕ) (xs : List Row) → s + length (layout_items is) ≤ end
    → outside_of end (item_rows s is ++ xs) ≡ outside_of end xs
unfolding item_rows outside_of layout_items
items_outside [] s end xs l = refl
items_outside (i ∷ is) s end xs l =
    let all = length-append (layout_item i) (layout_items is) in
    rw (lt-ltb s end (omega (arith, length-layout i)), items_outside is (s + length (layout_item i)) end xs (omega arith))

items_inside : (is : List Item) (s end : ℕ) (xs : List Row) → s + length (layout_items is) ≤ end
    → sum_of (span_by extent_of) (inside_of end (item_rows s is ++ xs)) ≡ length (layout_items is) + sum_of (span_by extent_of) (inside_of end xs)
unfolding item_rows inside_of layout_items
items_inside [] s end xs l = omega arith
items_inside (i ∷ is) s end xs l =
    let all = length-append (layout_item i) (layout_items is) in
    rw (lt-ltb s end (omega (arith, length-layout i)))
    (omega (arith, length-layout i, items_inside is (s + length (layout_item i)) end xs (omega arith)))

-- the row of a common parameter; where it is a C5, that ends where the parameter does, and the rows of its parameters stand inside
abbrev row_of : ℕ → Part → Row
row_of p q = row_at p q.header (part_contents q)

module _ (q : Part) (p : ℕ) (a : AllowedPart q) where
  data_ends : data_end (row_of p q) ≤ p + length (layout_part q)
  data_ends = go (eqb q.header transfer_data) refl
    where
      go : (b : Bool) → eqb q.header transfer_data ≡ b → data_end (row_of p q) ≤ p + length (layout_part q)
      go true e = rw e (omega (arith, inner_short q a))
      go false e = rw e (omega arith)

  data_outside : (xs : List Row) → outside_of (data_end (row_of p q)) (item_rows (p + 2) q.items ++ xs) ≡ outside_of (data_end (row_of p q)) xs
  unfolding item_rows
  data_outside xs = go (eqb q.header transfer_data) refl
    where
      go : (b : Bool) → eqb q.header transfer_data ≡ b
          → outside_of (data_end (row_of p q)) (item_rows (p + 2) q.items ++ xs) ≡ outside_of (data_end (row_of p q)) xs
      go true e = items_outside q.items (p + 2) (data_end (row_of p q)) xs (rw e (omega arith))
      go false e = rw (plain_items q a.held e)

  data_inside : (xs : List Row)
      → sum_of (span_by extent_of) (inside_of (data_end (row_of p q)) (item_rows (p + 2) q.items ++ xs))
      ≡ data_length (row_of p q) + sum_of (span_by extent_of) (inside_of (data_end (row_of p q)) xs)
  unfolding item_rows
  data_inside xs = go (eqb q.header transfer_data) refl
    where
      go : (b : Bool) → eqb q.header transfer_data ≡ b
          → sum_of (span_by extent_of) (inside_of (data_end (row_of p q)) (item_rows (p + 2) q.items ++ xs))
          ≡ data_length (row_of p q) + sum_of (span_by extent_of) (inside_of (data_end (row_of p q)) xs)
      go true e =
          let long : data_length (row_of p q) ≡ length (layout_items q.items) = rw e in
          omega (arith, long, items_inside q.items (p + 2) (data_end (row_of p q)) xs (rw e (omega arith)))
      go false e = rw (e, plain_items q a.held e) (omega arith)

-- the rows outside add up to the octets laid out
outside_sum : (r : List Part) (p end : ℕ) → Each AllowedPart r → end ≤ p
    → sum_of (span_by common_extent_of) (outside_of end (part_rows p r)) ≡ length (layout r)
unfolding part_rows outside_of layout lead_of common_extent_of
outside_sum [] p end a l = rw (le-ltb p end l)
outside_sum (q ∷ r) p end a l =
    let next = p + length (layout_part q) in
    let xs = part_rows next r in
    rw (le-ltb p end l, length-append (layout_part q) (layout r), data_outside q p a.0 xs)
    (omega (arith, length_part q a.0, outside_sum r next (data_end (row_of p q)) a.1 (data_ends q p a.0)))

-- and those inside to what the length octets of the C5s outside count
inside_sum : (r : List Part) (p end : ℕ) → Each AllowedPart r → end ≤ p
    → sum_of (span_by extent_of) (inside_of end (part_rows p r)) ≡ sum_of data_length (outside_of end (part_rows p r))
unfolding part_rows outside_of inside_of
inside_sum [] p end a l = rw (le-ltb p end l)
inside_sum (q ∷ r) p end a l =
    let next = p + length (layout_part q) in
    let xs = part_rows next r in
    rw (le-ltb p end l, data_outside q p a.0 xs)
    (omega (arith, data_inside q p a.0 xs, inside_sum r next (data_end (row_of p q)) a.1 (data_ends q p a.0)))

-- ---- of the rows of an accepted message

module _ (m : List ℕ) (o : every is_octet m ≡ true) (n : ℕ) (e : verdict_of m ≡ Accepted n) where
  parts : Each AllowedPart (record_of m)
  parts = allowed_parts (record_of m) (read_then_laid m o n e).1

  -- as many as it has common parameters and transfer parameters, and the end mark
  pub row_count : length (rows_of m) ≡ 1 + length (record_of m) + length (items_in (record_of m))
  row_count = rw (rows_of_message m o n e) (rows_counted (record_of m) 0)

  pub offsets_rise : Rising 0 (rows_of m)
  offsets_rise = rw (rows_of_message m o n e) (rows_rising (record_of m) 0 0 parts (omega arith))

  -- headers, length octets and contents: outside C5 the message's length, inside what C5's row tells
  pub rows_outside : sum_of (span_by common_extent_of) (outside_of 0 (rows_of m)) ≡ length m
  rows_outside =
      rw (rows_of_message m o n e) (outside_sum (record_of m) 0 0 parts (omega arith)) ∙ ap length (read_then_laid m o n e).2

  pub rows_inside : sum_of (span_by extent_of) (inside_of 0 (rows_of m)) ≡ sum_of data_length (outside_of 0 (rows_of m))
  rows_inside = rw (rows_of_message m o n e) (inside_sum (record_of m) 0 0 parts (omega arith))
