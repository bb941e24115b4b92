-- Demand 3: an edit changes one stretch of the transfer data and C5's length octet. Octets before the parameter keep their values save that
-- length octet, and those after it only move.
use Rattle.std.specs.Prelude.{ℕ, ◌+◌, ◌≡◌, refl, true, List, [], ◌∷◌, ◌++◌, length, take, drop, set}
use Rattle.std.proofs.Common.{arith, sym, ◌∙◌, append-nil, append_assoc, length-append, take_at, drop_at}
use Rattle.std.proofs.Math.Path.{ap}
use Rattle.std.proofs.Math.Seq.{append_snoc}
use Rattle.std.proofs.lemmas.List.{set_at}
use Rattle.annex.specs.Units.{name_of, lead_of, extent_of}
use Rattle.annex.specs.Heads.{among, transfer_data}
use Rattle.annex.specs.Items.{Item, Part}
use Rattle.annex.specs.Layout.{layout_item, layout_items, layout}
use Rattle.annex.specs.Allowed.{every, times_in, is_octet, items_in, headers_of, Allowed}
use Rattle.annex.specs.Walk.{Par}
use Rattle.annex.specs.Reading.{transfers_verdict, verdict_of, transfers_of, record_of}
use Rattle.annex.specs.Finding.{common_found, transfer_found}
use Rattle.annex.specs.Editing.{Edit, new_header, edited, editing_of}
use Rattle.annex.specs.Editing.Edit.{Replacing, Appending, Removing}
use Rattle.annex.specs.Answers.{Accepted, At}
use Rattle.theorems.specs.Lists.{every_take}
use Rattle.theorems.specs.Counts.{names_in}
use Rattle.theorems.specs.Transfers.{item_par, item_pars, transfers_built}
use Rattle.theorems.specs.Records.{allowed_items, layout-append}
use Rattle.theorems.specs.Messages.{read_then_laid}
use Rattle.theorems.specs.Parted.{Parted, one_data, layout_parts, layout_parted}
use Rattle.theorems.specs.Places.{pars_named, data_found, transfer_found_lem, transfer_listed}
use Rattle.theorems.specs.Reasons.{EditRight, edited_in, edit_taken}
use Rattle.theorems.specs.Edits.{OfOctets, new_read, Picked, new_items, Changed, changed, items_edited, data_edited}

-- a message with these octets before C5, in front of a part of the transfer data, in that part, behind it in the transfer data, and after
-- C5
abbrev pub with_part : List ℕ → List ℕ → List ℕ → List ℕ → List ℕ → List ℕ
with_part before front part back after =
    before ++ (transfer_data ∷ length (front ++ (part ++ back)) ∷ (front ++ (part ++ (back ++ after))))

-- the octets old are the parameter of the name x with the number `which` in the transfer data t, its header at the place `at` of t; t
-- stands at the place s of m
pub record Stands (x which : ℕ) (m t : List ℕ) (s at : ℕ) (old : List ℕ) : Type 0 where
  pub item : Item
  pub laid : old ≡ layout_item item
  pub named : name_of item.header ≡ x
  pub ahead : List Par
  pub rest : List Par
  pub before : times_in x (names_in ahead) ≡ which
  pub listed : transfers_of t ≡ ahead ++ (item_par at item ∷ rest)
  pub found : transfer_found x which m ≡ At (s + at + 1 + lead_of (extent_of item.header)) (s + at + length old)

-- what each edit takes out and puts in
abbrev pub Told : Edit → List ℕ → List ℕ → ℕ → ℕ → List ℕ → List ℕ → List ℕ → Type 0
Told (Replacing x which) m t s at old new back = (new ≡ x) × Stands (name_of (new_header x)) which m t s at old
Told (Appending x) m t s at old new back = (new ≡ x) × (old ≡ []) × (back ≡ [])
Told (Removing x which) m t s at old new back = (new ≡ []) × Stands x which m t s at old

-- the message m becomes the layout of r: C5's header stands at the place `length before`, the parameter's, or the end of the transfer
-- data for one that is appended, at `length before + 2 + length front`
pub record Spliced (e : Edit) (m : List ℕ) (r : List Part) : Type 0 where
  pub before : List ℕ
  pub front : List ℕ
  pub old : List ℕ
  pub new : List ℕ
  pub back : List ℕ
  pub after : List ℕ
  pub was : m ≡ with_part before front old back after
  pub becomes : layout r ≡ with_part before front new back after
  pub transfer : layout_items (items_in r) ≡ front ++ (new ++ back)
  pub found : common_found transfer_data m ≡ At (length before + 2) (length before + 2 + length (front ++ (old ++ back)))
  pub sound : transfers_verdict (front ++ (old ++ back)) ≡ Accepted (length (front ++ (old ++ back)))
  pub told : Told e m (front ++ (old ++ back)) (length before + 2) (length front) old new back

-- ---- of a record

layout_three : (f o b : List Item) → layout_items (f ++ (o ++ b)) ≡ layout_items f ++ (layout_items o ++ layout_items b)
layout_three f o b = rw (layout-append f (o ++ b), layout-append o b)

pub layout_one : (i : Item) → layout_items (i ∷ []) ≡ layout_item i
unfolding layout_items
layout_one i = append-nil (layout_item i)

-- a record with these transfer parameters in its C5, laid out
pub layout_with : (r : List Part) (d : Parted r) (f o b : List Item) → items_in r ≡ f ++ (o ++ b)
    → layout r ≡ with_part (layout_parts d.ahead) (layout_items f) (layout_items o) (layout_items b) (layout d.behind)
layout_with r d f o b e =
    let t = layout_items f ++ (layout_items o ++ layout_items b) in
    let l : layout_items (items_in r) ≡ t = ap layout_items e ∙ layout_three f o b in
    let nested : t ++ layout d.behind ≡ layout_items f ++ (layout_items o ++ (layout_items b ++ layout d.behind)) = simp append_assoc in
    ap layout d.whole ∙ layout_parted d.ahead (items_in r) d.behind ∙ rw (l, nested)

module _ (r : List Part) (a : Allowed r) (d : Parted r) where
  picked_stands : (x which : ℕ) (front old back : List Item) → items_in r ≡ front ++ (old ++ back) → Picked x which front old
      → Stands x which (layout r) (layout_items (items_in r)) (length (layout_parts d.ahead) + 2) (length (layout_items front))
      (layout_items old)
  picked_stands x which front old back w f =
      let laid : layout_items old ≡ layout_item f.one = ap layout_items f.alone ∙ layout_one f.one in
      let whole : items_in r ≡ front ++ (f.one ∷ back) = rw f.alone at w in
      record {
        item = f.one;
        laid = laid;
        named = f.named;
        ahead = item_pars 0 front;
        rest = item_pars (length (layout_items front) + 1 + length (item_par 0 f.one).own) back;
        before = rw (pars_named front 0) f.before;
        listed = transfer_listed r a d front f.one back whole;
        found = rw laid (transfer_found_lem r a d x which front f.one back whole f.named f.before);
      }

  told_of : (e : Edit) → EditRight e (items_in r) → OfOctets e → (c : Changed e (items_in r))
      → Told e (layout r) (layout_items (items_in r)) (length (layout_parts d.ahead) + 2) (length (layout_items c.front))
      (layout_items c.old) (layout_items (new_items e)) (layout_items c.back)
  unfolding layout_items
  told_of (Replacing x which) w o c = (
    layout_one _
        ∙ (new_read x w.0 o).laid,
    picked_stands (name_of (new_header x)) which c.front c.old c.back c.was c.taken,
  )
  told_of (Appending x) w o c = (layout_one _ ∙ (new_read x w.0 o).laid, ap layout_items c.taken.0, ap layout_items c.taken.1)
  told_of (Removing x which) w o c = (refl, picked_stands x which c.front c.old c.back c.was c.taken)

  record_splices : (e : Edit) → EditRight e (items_in r) → OfOctets e → Spliced e (layout r) (edited e r)
  unfolding data_edited
  record_splices e w o =
      let c = changed e (items_in r) w o in
      let l : layout_items (items_in r) ≡ layout_items c.front ++ (layout_items c.old ++ layout_items c.back) =
      ap layout_items c.was ∙ layout_three c.front c.old c.back in
      let then : items_in (edited e r) ≡ c.front ++ (new_items e ++ c.back) = items_edited e r a d ∙ c.becomes in
      record {
        before = layout_parts d.ahead;
        front = layout_items c.front;
        old = layout_items c.old;
        new = layout_items (new_items e);
        back = layout_items c.back;
        after = layout d.behind;
        was = layout_with r d c.front c.old c.back c.was;
        becomes = layout_with (edited e r) (data_edited e r a d) c.front (new_items e) c.back then;
        transfer = ap layout_items then ∙ layout_three c.front (new_items e) c.back;
        found = rw (← l) (data_found r a d);
        sound = rw (← l) (transfers_built (items_in r) (allowed_items r a)).verdict;
        told = rw (← l) (told_of e w o c);
      }

-- ---- of a message

-- also where the edit is refused for want of room alone, with 14 or 15
pub message_splices : (e : Edit) (m : List ℕ) (n : ℕ) → every is_octet m ≡ true → verdict_of m ≡ Accepted n
    → among transfer_data (headers_of (record_of m)) ≡ true → EditRight e (items_in (record_of m)) → OfOctets e
    → Spliced e m (edited e (record_of m))
message_splices e m n o v t w p =
    let l = read_then_laid m o n v in
    let r = record_of m in
    rw l.2 at (record_splices r l.1 (one_data r l.1 t) e w p)

pub edit_splices : (e : Edit) (d : List ℕ) (n k : ℕ) → every is_octet d ≡ true → OfOctets e → editing_of e d n ≡ Accepted k
    → Spliced e (take n d) (edited_in e d n)
edit_splices e d n k o w a =
    let t = (edit_taken e d n k a).0 in
    message_splices e (take n d) n (every_take is_octet n d o) t.message t.has_data t.right w

-- ---- what the splice comes to

module _ (before front back after : List ℕ) where
  pub length-with : (part : List ℕ)
      → length (with_part before front part back after) ≡ length before + 2 + length front + length part + length back + length after
  length-with part = simp length-append (omega arith)

  -- what stands before the part, with C5's length octet l
  abbrev pub head_of : ℕ → List ℕ
  head_of l = before ++ (transfer_data ∷ l ∷ front)

  pub head-length : (l : ℕ) → length (head_of l) ≡ length before + 2 + length front
  head-length l = simp length-append (omega arith)

  pub head-set : (l v : ℕ) → set (head_of l) (length before + 1) v ≡ head_of v
  head-set l v =
      let five = before ++ (transfer_data ∷ []) in
      let at : length five ≡ length before + 1 = simp length-append (omega arith) in
      rw (← append_snoc before transfer_data (l ∷ front), ← append_snoc before transfer_data (v ∷ front))
      (set_at five l front v (length before + 1) at)

  octets-set : (old new : List ℕ) (v : ℕ)
      → set (take (length before + 2 + length front) (with_part before front old back after)) (length before + 1) v
      ++ (new ++ drop (length before + 2 + length front + length old) (with_part before front old back after))
      ≡ before ++ (transfer_data ∷ v ∷ (front ++ (new ++ (back ++ after))))
  octets-set old new v =
      let l = length (front ++ (old ++ back)) in
      let whole : with_part before front old back after ≡ head_of l ++ (old ++ (back ++ after)) = rw append_assoc in
      let end : length (head_of l ++ old) ≡ length before + 2 + length front + length old = simp length-append (omega arith) in
      let first : take (length before + 2 + length front) (with_part before front old back after) ≡ head_of l =
      rw whole (take_at (head_of l) (old ++ (back ++ after)) _ (head-length l)) in
      let last : drop (length before + 2 + length front + length old) (with_part before front old back after) ≡ back ++ after =
      rw (whole, ← append_assoc (head_of l) old (back ++ after)) (drop_at (head_of l ++ old) (back ++ after) _ end) in
      rw (first, last, head-set l v, append_assoc)

module _ (e : Edit) (m : List ℕ) (r : List Part) (s : Spliced e m r) where
  -- the lengths of the message and of the transfer data
  pub length-becomes : length (layout r) + length s.old ≡ length m + length s.new
  length-becomes =
      omega (
        arith,
        ap length s.was,
        ap length s.becomes,
        length-with s.before s.front s.back s.after s.old,
        length-with s.before s.front s.back s.after s.new,
      )

  pub length_transfer : length (layout_items (items_in r)) + length s.old ≡ length (s.front ++ (s.old ++ s.back)) + length s.new
  length_transfer = rw s.transfer (simp length-append (omega arith))

  -- C5's length octet set, and the new octets in the place of the old
  pub octets_become : set (take (length s.before + 2 + length s.front) m) (length s.before + 1) (length (layout_items (items_in r)))
      ++ (s.new ++ drop (length s.before + 2 + length s.front + length s.old) m)
      ≡ layout r
  octets_become =
      rw (s.was, s.transfer)
      (octets-set s.before s.front s.back s.after s.old s.new (length (s.front ++ (s.new ++ s.back)))
      ∙ sym s.becomes)
