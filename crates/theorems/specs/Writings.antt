-- Writing accepts, room aside, exactly the records that may be written, and gives the length of what they lay out to: each step's tests are
-- one parameter's rules, and the names seen so far keep count against how often each may stand. So what was read is written as it was, and
-- what was written is read as it was.
use Rattle.std.specs.Prelude.{ℕ, suc, ◌+◌, ◌-◌, ◌≤◌, ◌<◌, ◌≡◌, refl, Bool, true, false, cond, not, List, [], ◌∷◌, ◌++◌, ◌↔◌, eqb, leb, ltb, length, drop}
use Rattle.std.proofs.Common.{arith, sym, ap, ◌∙◌, length-append}
use borrow.Author.Tests.{not-false, leb-false, lt-leb, ltb-true, ltb-false, le-ltb}
use Rattle.annex.specs.Answers.{missing, transfer_over, over_the_limits, refuse, header_at, Accepted}
use Rattle.annex.specs.Units.{name_of, extent_of}
use Rattle.annex.specs.Heads.{
  among,
  common_headers,
  user_class,
  signal_kind,
  transfer_data,
  most_commons,
  most_transfers,
  most_transfer_octets,
  most_octets,
  often_of,
}
use Rattle.annex.specs.Items.{Item, Part}
use Rattle.annex.specs.Layout.{layout_item, layout_items, layout_part, layout}
use Rattle.annex.specs.Allowed.{
  every,
  Each,
  is_octet,
  length_right,
  fault_in,
  value_right,
  value_fits,
  HeldItem,
  HeldPart,
  Held,
  items_in,
  contents_sum,
  names_of,
  part_names_of,
  Allowed,
  Writable,
}
use Rattle.annex.specs.Walk.{Seen, unseen, times_seen, counted}
use Rattle.annex.specs.Reading.{whole_in, verdict_of, record_of}
use Rattle.annex.specs.Writing.{
  item_writing,
  items_writing,
  data_writing,
  part_writing,
  parts_writing,
  over_limits,
  record_writing,
  struct_writing,
  writing_of,
  written_of,
}
use Rattle.annex.specs.Records.{pack, is_whole, view, reading_of}
use Rattle.annex.specs.declared.Record.{Record}
use Rattle.laws.specs.Bools.{and_left, and_right}
use Rattle.laws.specs.Steps.{passed, then_passed, sounded, head_taken, head_right}
use Rattle.laws.specs.Laid.{length-layout, lead_small, length_small}
use Rattle.theorems.specs.Counts.{
  Full,
  full_unseen,
  full_counted,
  none_seen,
  moved,
  Sparing,
  sparing_first,
  sparing_rest,
  sparing_cons,
  sparing_more,
}
use Rattle.theorems.specs.Transfers.{AllowedItem, AllowedItems, none_often}
use Rattle.theorems.specs.Commons.{AllowedPart, no_items}
use Rattle.theorems.specs.Records.{plain_items, allowed, header_stands, allowed_parts, allowed_within}
use Rattle.theorems.specs.Layouts.{stood, Standing, standing_rest, standing_whole, standing, laid_then_read}
use Rattle.theorems.specs.Messages.{read_then_laid}
use Rattle.theorems.specs.Views.{FitsStruct, view_held, view_pack, whole_pack}

-- ---- a transfer parameter

-- what an accepted one says; n is the place behind it
pub record ItemWritten (times p : ℕ) (i : Item) (n : ℕ) : Type 0 where
  pub allowed : HeldItem i → AllowedItem i
  pub short : length (layout_item i) ≤ most_transfer_octets + 2
  pub fewer : times < often_of (name_of i.header)
  pub behind : n ≡ p + length (layout_item i)

pub item_written : (times p : ℕ) (i : Item) (n : ℕ) → item_writing times p i ≡ Accepted n → ItemWritten times p i n
unfolding item_writing
item_written times p i n e =
    let t = head_taken p i.header n _ e in
    let e₁ = passed (leb (often_of (name_of i.header)) times) _ p n _ t.rest in
    let e₂ = passed (not (length_right i)) _ p n _ e₁.1 in
    let e₃ = sounded (header_at p) (fault_in i) n (Accepted (p + length (layout_item i))) e₂.1 in
    let right = not-false (length_right i) e₂.0 in
    let same : p + length (layout_item i) ≡ n = cc in
    record {
      allowed = λ h. record { held = h; used = t.used; pli = t.pli; length_right_holds = right; faultless = e₃.0 };
      short = omega (arith, length-layout i, lead_small (extent_of i.header), length_small i right);
      fewer = leb-false _ _ e₁.0;
      behind = sym same;
    }

-- and that is enough
item_writes : (times p : ℕ) (i : Item) → AllowedItem i → times < often_of (name_of i.header)
    → item_writing times p i ≡ Accepted (p + length (layout_item i))
unfolding item_writing
item_writes times p i a f =
    rw (head_right p i.header _ a.used a.pli, lt-leb (often_of (name_of i.header)) times f, a.length_right_holds, a.faultless)

-- ---- transfer parameters

-- no name stands oftener than it may, among those seen and these
record ItemsWritten (seen : Seen) (p : ℕ) (is : List Item) (n : ℕ) : Type 0 where
  pub each : Each AllowedItem is
  pub often : Sparing often_of seen (names_of is)
  pub behind : n ≡ p + length (layout_items is)

items_written : (is : List Item) (seen : Seen) (p n : ℕ) → Full seen → Sparing often_of seen [] → Each HeldItem is
    → items_writing seen p is ≡ Accepted n → ItemsWritten seen p is n
unfolding items_writing layout_items
items_written [] seen p n f s h e = let same : p ≡ n = cc in record { each = tt; often = s; behind = omega arith }
items_written (i ∷ is) seen p n f s h e =
    let k = i.header in
    let t = then_passed (item_writing (times_seen seen k) p i) (λ q. items_writing (counted seen k) q is) n e in
    let w = item_written (times_seen seen k) p i t.0 t.1 in
    let r = items_written is (counted seen k) t.0 n (full_counted seen k f) (sparing_more often_of seen k f s w.fewer) h.1 t.2 in
    record {
      each = (w.allowed h.0, r.each);
      often = sparing_cons often_of seen k f (names_of is) r.often;
      behind = simp length-append (omega (arith, w.behind, r.behind));
    }

items_write : (is : List Item) (seen : Seen) (p : ℕ) → Full seen → Sparing often_of seen (names_of is) → Each AllowedItem is
    → items_writing seen p is ≡ Accepted (p + length (layout_items is))
unfolding items_writing layout_items
items_write [] seen p f s a = let e : p ≡ p + 0 = omega arith in ap Accepted e
items_write (i ∷ is) seen p f s a =
    let k = i.header in
    let e : p + length (layout_item i) + length (layout_items is) ≡ p + length (layout_item i ++ layout_items is) =
    simp length-append (omega arith) in
    rw (item_writes (times_seen seen k) p i a.0 (sparing_first often_of seen k f (names_of is) s))
    (items_write is (counted seen k) (p + length (layout_item i)) (full_counted seen k f) (sparing_rest often_of seen k f (names_of is) s)
    a.1
    ∙ ap Accepted e)

-- ---- C5: none is seen at its start, and 14 comes at its end

data_written : (p : ℕ) (is : List Item) (n : ℕ) → Each HeldItem is → data_writing p is ≡ Accepted n
    → AllowedItems is × (n ≡ p + 2 + length (layout_items is))
unfolding data_writing
data_written p is n h e =
    let over : ℕ → Bool = λ q. ltb most_transfer_octets (q - (p + 2)) in
    let t = then_passed (items_writing unseen (p + 2) is) (λ q. refuse (over q) transfer_over p (Accepted q)) n e in
    let c = passed (over t.0) transfer_over p n (Accepted t.0) t.2 in
    let w = items_written is unseen (p + 2) t.0 full_unseen none_often h t.1 in
    let few = ltb-false most_transfer_octets (t.0 - (p + 2)) c.0 in
    let end : Accepted t.0 ≡ Accepted n = c.1 in
    let same : t.0 ≡ n = cc in (
      record {
        each = w.each;
        often = λ u. omega (arith, w.often u);
        few_octets = omega (arith, w.behind);
      },
      omega (arith, w.behind),
    )

data_writes : (p : ℕ) (is : List Item) → AllowedItems is → data_writing p is ≡ Accepted (p + 2 + length (layout_items is))
unfolding data_writing
data_writes p is a =
    let l = length (layout_items is) in
    let few = a.few_octets in
    rw (
      items_write is unseen (p + 2) full_unseen (λ u. omega (arith, none_seen u, a.often u)) a.each,
      le-ltb most_transfer_octets (p + 2 + l - (p + 2)) (omega arith),
    )

-- ---- a common parameter

-- the like of a transfer parameter; its name was not seen
record PartWritten (times p : ℕ) (q : Part) (n : ℕ) : Type 0 where
  pub allowed : AllowedPart q
  pub new : times ≡ 0
  pub behind : n ≡ p + length (layout_part q)

part_written : (times p : ℕ) (q : Part) (n : ℕ) → HeldPart q → part_writing times p q ≡ Accepted n → PartWritten times p q n
unfolding part_writing layout_part
part_written times p q n h e =
    let e₁ = passed (not (among q.header common_headers)) _ p n _ e in
    let e₂ = passed (ltb 0 times) _ p n _ e₁.1 in
    let e₃ = passed (not (value_right q)) _ p n _ e₂.1 in
    let e₄ = passed (not (value_fits q)) _ p n _ e₃.1 in
    let w = go (eqb q.header transfer_data) refl e₄.1 in
    record {
      allowed = record { held = h; listed = not-false _ e₁.0; right = not-false _ e₃.0; fits = not-false _ e₄.0; items = w.0 };
      new = omega (arith, ltb-false 0 times e₂.0);
      behind = w.1;
    }
  where
    go : (b : Bool) → eqb q.header transfer_data ≡ b
        → cond b (data_writing p q.items) (Accepted (p + length (layout_part q))) ≡ Accepted n
        → AllowedItems q.items × (n ≡ p + length (layout_part q))
    go true b e =
        let w = data_written p q.items n h.each e in
        (w.0, rw b (omega (arith, w.1)))
    go false b e =
        let same : p + length (layout_part q) ≡ n = cc in
        (rw (plain_items q h b) no_items, sym same)

part_writes : (times p : ℕ) (q : Part) → AllowedPart q → times ≡ 0 → part_writing times p q ≡ Accepted (p + length (layout_part q))
unfolding part_writing layout_part
part_writes times p q a z = rw (a.listed, z, a.right, a.fits) (go (eqb q.header transfer_data) refl)
  where
    go : (b : Bool) → eqb q.header transfer_data ≡ b
        → cond b (data_writing p q.items) (Accepted (p + length (layout_part q))) ≡ Accepted (p + length (layout_part q))
    go true b =
        let l = length (layout_items q.items) in
        let e : p + 2 + l ≡ p + suc (suc l) = omega arith in
        rw (data_writes p q.items a.items, b) (ap Accepted e)
    go false b = refl

-- ---- the common parameters

-- each once, and 01 and 06 among those seen and these; n is the place behind the end mark
record PartsWritten (seen : Seen) (p : ℕ) (r : List Part) (n : ℕ) : Type 0 where
  pub each : Each AllowedPart r
  pub once : Sparing (λ x. 1) seen (part_names_of r)
  pub class : 0 < stood seen (part_names_of r) (name_of user_class)
  pub kind : 0 < stood seen (part_names_of r) (name_of signal_kind)
  pub behind : n ≡ p + length (layout r)

parts_written : (r : List Part) (seen : Seen) (p n : ℕ) → Full seen → Sparing (λ x. 1) seen [] → Held r → parts_writing seen p r ≡ Accepted n
    → PartsWritten seen p r n
unfolding parts_writing layout
parts_written [] seen p n f s h e =
    let w = passed (not (whole_in seen)) missing p n (Accepted (p + 1)) e in
    let whole : whole_in seen ≡ true = not-false _ w.0 in
    let end : Accepted (p + 1) ≡ Accepted n = w.1 in
    let same : p + 1 ≡ n = cc in
    let class = ltb-true 0 (times_seen seen user_class) (and_left _ (ltb 0 (times_seen seen signal_kind)) whole) in
    let kind = ltb-true 0 (times_seen seen signal_kind) (and_right (ltb 0 (times_seen seen user_class)) _ whole) in
    record { each = tt; once = s; class = omega arith; kind = omega arith; behind = omega arith }
parts_written (q ∷ r) seen p n f s h e =
    let k = q.header in
    let xs = part_names_of r in
    let t = then_passed (part_writing (times_seen seen k) p q) (λ p'. parts_writing (counted seen k) p' r) n e in
    let w = part_written (times_seen seen k) p q t.0 h.0 t.1 in
    let v =
    parts_written r (counted seen k) t.0 n (full_counted seen k f) (sparing_more (λ x. 1) seen k f s (omega (arith, w.new))) h.1
    t.2 in
    record {
      each = (w.allowed, v.each);
      once = sparing_cons (λ x. 1) seen k f xs v.once;
      class = rw (← moved seen k (name_of user_class) xs f) v.class;
      kind = rw (← moved seen k (name_of signal_kind) xs f) v.kind;
      behind = simp length-append (omega (arith, w.behind, v.behind));
    }

parts_write : (r : List Part) (seen : Seen) (p : ℕ) → Full seen → Standing seen (part_names_of r) → Each AllowedPart r
    → parts_writing seen p r ≡ Accepted (p + length (layout r))
unfolding parts_writing layout
parts_write [] seen p f s a = rw (standing_whole seen s)
parts_write (q ∷ r) seen p f s a =
    let k = q.header in
    let new : times_seen seen k ≡ 0 = omega (arith, sparing_first (λ x. 1) seen k f (part_names_of r) s.once) in
    let e : p + length (layout_part q) + length (layout r) ≡ p + length (layout_part q ++ layout r) = simp length-append (omega arith) in
    rw (part_writes (times_seen seen k) p q a.0 new)
    (parts_write r (counted seen k) (p + length (layout_part q)) (full_counted seen k f) (standing_rest seen k (part_names_of r) f s) a.1
    ∙ ap Accepted e)

-- ---- records: accepted exactly if they may be written

-- what may be written may be read, and what may be read may be written
pub writable_allowed : (r : List Part) → Writable r → Allowed r
writable_allowed r w = w

pub allowed_writable : (r : List Part) → Allowed r → Writable r
allowed_writable r a = a

pub within_limits : (r : List Part) → Allowed r → over_limits r ≡ false
unfolding over_limits
within_limits r a =
    rw (
      le-ltb most_commons (length r) a.few_commons,
      le-ltb most_transfers (length (items_in r)) a.few_transfers,
      le-ltb most_transfer_octets (contents_sum (items_in r)) a.few_contents,
    )

-- what is refused for no parameter may be written; so it is over no limit
pub parts_writable : (r : List Part) → Held r → (n : ℕ) → parts_writing unseen 0 r ≡ Accepted n → Writable r × (n ≡ length (layout r))
parts_writable r h n e =
    let w = parts_written r unseen 0 n full_unseen (λ u. omega (arith, none_seen u)) h e in (
      allowed r w.each (λ u. omega (arith, w.once u))
          (header_stands user_class refl r w.each (omega (arith, w.class, none_seen (name_of user_class))))
          (header_stands signal_kind refl r w.each (omega (arith, w.kind, none_seen (name_of signal_kind)))),
      omega (arith, w.behind),
    )

pub writing_writable : (r : List Part) → Held r → (n : ℕ) → record_writing r ≡ Accepted n → Writable r × (n ≡ length (layout r))
unfolding record_writing
writing_writable r h n e = parts_writable r h n (passed (over_limits r) over_the_limits 0 n (parts_writing unseen 0 r) e).1

pub writable_writing : (r : List Part) → Writable r → record_writing r ≡ Accepted (length (layout r))
unfolding record_writing
writable_writing r w =
    let a = writable_allowed r w in
    let e : 0 + length (layout r) ≡ length (layout r) = omega arith in
    rw (within_limits r a, parts_write r unseen 0 full_unseen (standing r a) (allowed_parts r a)) (ap Accepted e)

pub written_exactly : (r : List Part) → Held r → (record_writing r ≡ Accepted (length (layout r))) ↔ Writable r
written_exactly r h = (λ e. (writing_writable r h (length (layout r)) e).0, writable_writing r)

-- ---- structs

-- what an accepted one says
pub record StructWritten (s : Record) (n : ℕ) : Type 0 where
  pub whole : is_whole s ≡ true
  pub writable : Writable (view s)
  pub length-given : n ≡ length (layout (view s))
  pub few : n ≤ most_octets
  pub octets : every is_octet (layout (view s)) ≡ true

pub struct_written : (s : Record) → FitsStruct s → (n : ℕ) → struct_writing s ≡ Accepted n → StructWritten s n
unfolding struct_writing
struct_written s f n e =
    let t = passed (not (is_whole s)) over_the_limits 0 n (record_writing (view s)) e in
    let w = writing_writable (view s) (view_held s f) n t.1 in
    let l = laid_then_read (view s) (writable_allowed (view s) w.0) in
    record { whole = not-false _ t.0; writable = w.0; length-given = w.1; few = omega (arith, w.1, l.3); octets = l.2 }

-- and that is enough
pub struct_writes : (s : Record) → is_whole s ≡ true → Writable (view s) → struct_writing s ≡ Accepted (length (layout (view s)))
unfolding struct_writing
struct_writes s w a = rw w (writable_writing (view s) a)

-- with room for the message, the answer is the same, and the message stands at the front
module _ (s : Record) (n : ℕ) (e : struct_writing s ≡ Accepted n) where
  pub with_room : (room : ℕ) → n ≤ room → writing_of s room ≡ Accepted n
  unfolding writing_of
  with_room room l = rw (e, le-ltb room n l)

  pub room_after_lem : (room : List ℕ) → n ≤ length room → written_of s room ≡ layout (view s) ++ drop n room
  unfolding written_of
  room_after_lem room l = rw (with_room (length room) l)

-- a record that may be written, packed
pub packed_writes : (r : List Part) → Writable r → struct_writing (pack r) ≡ Accepted (length (layout r))
packed_writes r w =
    let a = writable_allowed r w in
    let v = view_pack r a.held in
    rw v at (struct_writes (pack r) (whole_pack r a.held (allowed_within r a)) (rw v w))

-- 272 octets of room suffice for every record that may be written
pub room_enough : (r : List Part) → Writable r → writing_of (pack r) most_octets ≡ Accepted (length (layout r))
room_enough r w =
    with_room (pack r) (length (layout r)) (packed_writes r w) most_octets (laid_then_read r (writable_allowed r w)).3

-- ---- the round trip

-- the record of an accepted message is written as that message
pub record WrittenBack (m : List ℕ) (s : Record) : Type 0 where
  pub laid : layout (view s) ≡ m
  pub accepted : struct_writing s ≡ Accepted (length m)
  pub answer : (room : ℕ) → length m ≤ room → writing_of s room ≡ Accepted (length m)
  pub written : (room : List ℕ) → length m ≤ length room → written_of s room ≡ m ++ drop (length m) room

pub read_then_written : (m : List ℕ) → every is_octet m ≡ true → (n : ℕ) → verdict_of m ≡ Accepted n → WrittenBack m (reading_of m).«record»
unfolding reading_of
read_then_written m o n e =
    let r = record_of m in
    let w = read_then_laid m o n e in
    let laid : layout (view (pack r)) ≡ m = ap layout (view_pack r w.1.held) ∙ w.2 in
    let accepted : struct_writing (pack r) ≡ Accepted (length m) = rw w.2 at (packed_writes r (allowed_writable r w.1)) in
    rw e
    (record {
      laid = laid;
      accepted = accepted;
      answer = with_room (pack r) (length m) accepted;
      written = λ room l. rw laid at (room_after_lem (pack r) (length m) accepted room l);
    })

-- and a struct that was written is read as what it stands for
pub written_then_read : (s : Record) → FitsStruct s → (n : ℕ) → struct_writing s ≡ Accepted n
    → reading_of (layout (view s)) ≡ record { answer = Accepted n; «record» = pack (view s) }
unfolding reading_of
written_then_read s f n e =
    let w = struct_written s f n e in
    let l = laid_then_read (view s) (writable_allowed (view s) w.writable) in
    rw (l.0, l.1, w.length-given)
