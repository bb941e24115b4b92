-- What finding finds in an allowed record, laid out, are the contents of its parameters. Demand 3: finding a replaced or appended parameter
-- afterwards gives the new contents. In the edited record it stands behind as many of its name as the edit says.
use Rattle.std.specs.Prelude.{ℕ, ◌+◌, ◌*◌, ◌≤◌, ◌<◌, ◌≡◌, Bool, true, false, length, take, drop}
use Rattle.std.proofs.Common.{arith, sym, ap, ◌∙◌, leb-true, eqb-true, length-append, drop-drop}
use Rattle.std.proofs.Math.Path.{refl}
use mathlib.Core.List.{List, [], ◌∷◌, ◌++◌, append_assoc}
use Rattle.std.proofs.Math.Seq.{take-append-add, take-append_seam, drop-append-add}
use Rattle.annex.specs.Units.{name_of, lead_of, extent_of, common_extent_of, contents_in}
use Rattle.annex.specs.Heads.{among, sequence, sequence_number, transfer_data, value_allowed, often_of}
use Rattle.annex.specs.Items.{Item, Part, contents_of}
use Rattle.annex.specs.Layout.{led_by, layout_item, layout_items, layout_part, layout}
use Rattle.annex.specs.Allowed.{every, times_in, is_octet, value_fits, items_in, headers_of, names_of, Allowed}
use Rattle.annex.specs.Reading.{record_of}
use Rattle.annex.specs.Finding.{common_found, transfer_found, found_part, find_part}
use Rattle.annex.specs.Editing.{Edit, new_header, new_after, new_item, edited_items, edited, editing_of, buffer_of}
use Rattle.annex.specs.Editing.Edit.{Replacing, Appending}
use Rattle.annex.specs.Answers.{Accepted, At}
use Rattle.annex.specs.declared.Extent.{Extent}
use Rattle.annex.specs.declared.Extent.TheVariants.{Fixed, Counted}
use Rattle.annex.specs.declared.CountingUnit.TheVariants.{HalfOctet, Octet}
use Rattle.laws.specs.Parts.{from_to}
use Rattle.theorems.specs.Lists.{each_right}
use Rattle.theorems.specs.Commons.{AllowedPart}
use Rattle.theorems.specs.Records.{plain_none, allowed_parts}
use Rattle.theorems.specs.Layouts.{laid_then_read}
use Rattle.theorems.specs.Parted.{Parted, one_data, no_header, layout_parts}
use Rattle.theorems.specs.Places.{common_found_lem, transfer_found_lem}
use Rattle.theorems.specs.Listings.{part_contents, part_contents_lem}
use Rattle.theorems.specs.Reasons.{NewRight, edit_taken}
use Rattle.theorems.specs.Edits.{OfOctets, new_read, changed, items_edited, data_edited, message_allowed, edited_allowed}
use Rattle.theorems.specs.Buffers.{buffer_edited}
use Rattle.theorems.specs.Splices.{layout_one, layout_with}
use Rattle.theorems.specs.Undone.{times_of, none_before}

-- ---- in any allowed record

-- a stretch that starts j octets into xs and ends with it
stretch : (before xs rest : List ℕ) (j : ℕ)
    → found_part (before ++ (xs ++ rest)) (At (length before + j) (length before + length xs)) ≡ drop j xs
stretch before xs rest j =
    from_to (length before + j) (length before + length xs) (before ++ (xs ++ rest))
    ∙ rw (take-append-add before (xs ++ rest) (length xs), take-append_seam xs rest) (drop-append-add before xs j)

-- what is found of one of a name are its contents
contents_found_lem : (r : List Part) → Allowed r → (d : Parted r) (x which : ℕ) (front : List Item) (one : Item) (back : List Item)
    → items_in r ≡ front ++ (one ∷ back) → name_of one.header ≡ x → times_in x (names_of front) ≡ which
    → find_part (layout r) (transfer_found x which (layout r)) ≡ contents_in (extent_of one.header) (drop 1 (layout_item one))
contents_found_lem r a d x which front one back w n b =
    let lead = lead_of (extent_of one.header) in
    let xs = layout_item one in
    let t = layout_items front ++ (layout_items (one ∷ []) ++ layout_items back) in
    let p = layout_parts d.ahead ++ (transfer_data ∷ length t ∷ layout_items front) in
    let rest = layout_items back ++ layout d.behind in
    let s = length (layout_parts d.ahead) + 2 + length (layout_items front) in
    let long : length p ≡ s = simp length-append (omega arith) in
    let start : s + 1 + lead ≡ length p + (1 + lead) = omega arith in
    let whole : layout r ≡ p ++ (xs ++ rest) = rw (append_assoc, ← layout_one one) (layout_with r d front (one ∷ []) back w) in
    let found : find_part (layout r) (transfer_found x which (layout r)) ≡ found_part (layout r) (At (s + 1 + lead) (s + length xs)) =
    rw ((laid_then_read r a).0, transfer_found_lem r a d x which front one back w n b) in
    found ∙ rw (whole, start, ← long) (stretch p xs rest (1 + lead)) ∙ sym (drop-drop lead 1 xs)

-- so they are the contents that it stands for
led_contents : (e : Extent) (s : List ℕ) → contents_in e (led_by e s) ≡ s
unfolding lead_of
led_contents (Fixed n) s = refl
led_contents (Counted HalfOctet) s = refl
led_contents (Counted Octet) s = refl

-- a record with transfer parameters has a C5
has_data : (r : List Part) → Allowed r → 0 < length (items_in r) → Parted r
has_data r a l = go (among transfer_data (headers_of r)) refl
  where
    go : (b : Bool) → among transfer_data (headers_of r) ≡ b → Parted r
    go true e = one_data r a e
    go false e = absurd (omega (arith, ap length (plain_none r a.held (no_header transfer_data r e))))

pub transfer_contents : (r : List Part) → Allowed r → (x which : ℕ) (front : List Item) (one : Item) (back : List Item)
    → items_in r ≡ front ++ (one ∷ back) → name_of one.header ≡ x → times_in x (names_of front) ≡ which
    → find_part (layout r) (transfer_found x which (layout r)) ≡ contents_of one
unfolding layout_item
transfer_contents r a x which front one back w n b =
    let some : 0 < length (items_in r) = rw w (simp length-append (omega arith)) in
    contents_found_lem r a (has_data r a some) x which front one back w n b ∙ led_contents (extent_of one.header) (contents_of one)

-- and of a common parameter
layout_ahead : (ahead : List Part) (q : Part) (behind : List Part)
    → layout (ahead ++ (q ∷ behind)) ≡ layout_parts ahead ++ (layout_part q ++ layout behind)
unfolding layout layout_parts
layout_ahead [] q behind = refl
layout_ahead (p ∷ ahead) q behind = rw (layout_ahead ahead q behind, append_assoc)

pub common_contents : (r : List Part) → Allowed r → (ahead : List Part) (q : Part) (behind : List Part) → r ≡ ahead ++ (q ∷ behind)
    → find_part (layout r) (common_found q.header (layout r)) ≡ part_contents q
common_contents r a ahead q behind w =
    let b = layout_parts ahead in
    let lead = lead_of (common_extent_of q.header) in
    let part = (each_right AllowedPart ahead (q ∷ behind) (rw w at (allowed_parts r a))).0 in
    let start : length b + 1 + lead ≡ length b + (1 + lead) = omega arith in
    let found : find_part (layout r) (common_found q.header (layout r))
    ≡ found_part (layout r) (At (length b + (1 + lead)) (length b + length (layout_part q))) =
    rw ((laid_then_read r a).0, common_found_lem r a ahead q behind w, start) in
    found ∙ rw (w, layout_ahead ahead q behind) (stretch b (layout_part q) (layout behind) (1 + lead)) ∙ part_contents_lem q part

-- of 04 they are one octet, of which nothing is carried unread: the number is 1, and above it stands the mark
pub record SequenceSaid (q : Part) : Type 0 where
  pub number : q.value ≡ sequence_number
  pub mark : q.more_data ≤ 1
  pub contents : part_contents q ≡ (128 * q.more_data + sequence_number) ∷ []

pub sequence_said : (r : List Part) → Allowed r → (ahead : List Part) (q : Part) (behind : List Part) → r ≡ ahead ++ (q ∷ behind)
    → q.header ≡ sequence → SequenceSaid q
unfolding value_allowed value_fits
sequence_said r a ahead q behind w h =
    let part = (each_right AllowedPart ahead (q ∷ behind) (rw w at (allowed_parts r a))).0 in
    let number = eqb-true q.value sequence_number (rw h at part.right) in
    record {
      number = number;
      mark = leb-true q.more_data 1 (rw h at part.fits);
      contents = rw (h, number);
    }

-- ---- after an edit

module _ (new d : List ℕ) (n k : ℕ) (o : every is_octet d ≡ true) (p : every is_octet new ≡ true) where
  -- where these stand in front of the new parameter in the edited record
  new_found : (e : Edit) → OfOctets e → editing_of e d n ≡ Accepted k → NewRight new → (which : ℕ) (front back : List Item)
      → edited_items e (items_in (record_of (take n d))) ≡ front ++ (new_item new ∷ back) → times_of new front ≡ which
      → find_part (take k (buffer_of e d n)) (transfer_found (name_of (new_header new)) which (take k (buffer_of e d n)))
      ≡ contents_in (extent_of (new_header new)) (new_after new)
  new_found e q a w which front back c b =
      let x = name_of (new_header new) in
      let r = record_of (take n d) in
      let t = (edit_taken e d n k a).0 in
      let m = (message_allowed d n n o t.message).0 in
      let parted = one_data r m t.has_data in
      let i = new_read new w p in
      let f =
      contents_found_lem (edited e r) (edited_allowed e d n k o q a).0 (data_edited e r m parted) x which front (new_item new) back
      (items_edited e r m parted ∙ c) (ap name_of i.header) b in
      rw (buffer_edited e d n k o q a).message (rw (i.laid, i.header) at f)

  pub replaced_found : (which : ℕ) → editing_of (Replacing new which) d n ≡ Accepted k
      → find_part (take k (buffer_of (Replacing new which) d n))
      (transfer_found (name_of (new_header new)) which (take k (buffer_of (Replacing new which) d n)))
      ≡ contents_in (extent_of (new_header new)) (new_after new)
  replaced_found which a =
      let e = Replacing new which in
      let right = (edit_taken e d n k a).0.right in
      let c = changed e (items_in (record_of (take n d))) right p in
      new_found e p a right.0 which c.front c.back c.becomes c.taken.before

  -- it is the last of its name, behind as many as stood there before
  pub appended_found : editing_of (Appending new) d n ≡ Accepted k
      → find_part (take k (buffer_of (Appending new) d n))
      (transfer_found (name_of (new_header new)) (times_of new (items_in (record_of (take n d)))) (take k (buffer_of (Appending new) d n)))
      ≡ contents_in (extent_of (new_header new)) (new_after new)
  unfolding edited_items
  appended_found a =
      let is = items_in (record_of (take n d)) in
      let right = (edit_taken (Appending new) d n k a).0.right in
      new_found (Appending new) p a right.0 (times_of new is) is [] refl refl

  -- of a name that may stand once, it is the first
  pub appended_found_once : often_of (name_of (new_header new)) ≡ 1 → editing_of (Appending new) d n ≡ Accepted k →
      let now = take k (buffer_of (Appending new) d n) in
      find_part now (transfer_found (name_of (new_header new)) 0 now) ≡ contents_in (extent_of (new_header new)) (new_after new)
  appended_found_once one a =
      rw (none_before new (items_in (record_of (take n d))) (edit_taken (Appending new) d n k a).0.right one) at (appended_found a)
