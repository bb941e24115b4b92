-- Demand 3: an accepted edit leaves an allowed record. It changes one parameter of the one C5, the new parameter is allowed by the law of a
-- parameter that is read, and all else stays.
use Rattle.std.specs.Prelude.{ℕ, ◌+◌, ◌≤◌, ◌<◌, ◌≡◌, refl, Bool, true, false, cond, eqb, length, take}
use native.Mathlib.Omega.{arith}
use Rattle.std.proofs.Math.Path.{sym, ap}
use Rattle.std.proofs.Common.{◌∙◌, eqb-true, eq-eqb, ltb-true}
use mathlib.Core.List.{List, [], ◌∷◌, ◌++◌, map, append-nil}
use Rattle.annex.specs.Units.{name_of}
use Rattle.annex.specs.Heads.{transfer_data, most_transfer_octets, often_of}
use Rattle.annex.specs.Items.{Item, Part, data_part, part_with}
use Rattle.annex.specs.Layout.{layout_item, layout_items, layout}
use Rattle.annex.specs.Allowed.{every, Each, times_in, is_octet, items_in, names_of, Allowed}
use Rattle.annex.specs.Walk.{Par}
use Rattle.annex.specs.Reading.{verdict_of, record_of}
use Rattle.annex.specs.Editing.{Edit, new_header, new_item, instead, edited_items, edited, editing_of}
use Rattle.annex.specs.Editing.Edit.{Replacing, Appending, Removing}
use Rattle.annex.specs.Answers.{Accepted}
use Rattle.laws.specs.Bools.{and_left, and_right}
use Rattle.laws.specs.Often.{some_often}
use Rattle.theorems.specs.Lists.{each_append, each_left, each_right, every_take, times_append}
use Rattle.theorems.specs.Steps.{TransferOwn}
use Rattle.theorems.specs.Transfers.{AllowedItem, AllowedItems, item_read}
use Rattle.theorems.specs.Commons.{AllowedPart, data_allowed}
use Rattle.theorems.specs.Records.{Once, Plain, allowed, allowed_items, allowed_parts, allowed_once, names_append}
use Rattle.theorems.specs.Messages.{read_then_laid}
use Rattle.theorems.specs.Named.{passed_over, Chosen, choose}
use Rattle.theorems.specs.Parted.{Parted, one_data, items_instead}
use Rattle.theorems.specs.Reasons.{NewRight, EditRight, edited_in, NoReason, edit_taken}

-- the new octets of an edit are octets
abbrev pub OfOctets : Edit → Type 0
OfOctets (Replacing new which) = every is_octet new ≡ true
OfOctets (Appending new) = every is_octet new ≡ true
OfOctets (Removing x which) = Unit {0}

-- ---- a new parameter

-- what new octets that are right open to: an allowed parameter that lays out to them
pub record NewRead (new : List ℕ) : Type 0 where
  pub header : (new_item new).header ≡ new_header new
  pub laid : layout_item (new_item new) ≡ new
  pub allowed : AllowedItem (new_item new)

pub new_read : (new : List ℕ) → NewRight new → every is_octet new ≡ true → NewRead new
new_read [] r o = absurd (omega (arith, r.some))
new_read (h ∷ xs) r o =
    let q : Par = record { place = 0; head = h; own = xs } in
    let own : TransferOwn 0 h xs =
    record { used = r.used; pli = r.pli; fewer = some_often (name_of h); long = r.long; sound = r.sound } in
    let i = item_read q 0 (ltb-true h 256 (and_left (is_octet h) _ o)) (and_right (is_octet h) _ o) own in
    record { header = i.header; laid = i.laid; allowed = i.allowed }

-- ---- the parameters of C5: those in front of the edited one, it, and those behind it

-- the one of the name x with the number `which`
pub record Picked (x which : ℕ) (front old : List Item) : Type 0 where
  pub one : Item
  pub alone : old ≡ one ∷ []
  pub named : name_of one.header ≡ x
  pub before : times_in x (names_of front) ≡ which

-- what an edit puts in, and what it takes out
abbrev pub new_items : Edit → List Item
new_items (Replacing new which) = new_item new ∷ []
new_items (Appending new) = new_item new ∷ []
new_items (Removing x which) = []

abbrev pub Taken : Edit → List Item → List Item → List Item → Type 0
Taken (Replacing new which) front old back = Picked (name_of (new_header new)) which front old
Taken (Appending new) front old back = (old ≡ []) × (back ≡ [])
Taken (Removing x which) front old back = Picked x which front old

-- how an edit changes the parameters
pub record Changed (e : Edit) (is : List Item) : Type 0 where
  pub front : List Item
  pub old : List Item
  pub back : List Item
  pub was : is ≡ front ++ (old ++ back)
  pub becomes : edited_items e is ≡ front ++ (new_items e ++ back)
  pub taken : Taken e front old back

-- some in the place of one, behind as many of its name as stand in front
pub instead_behind : (new : List Item) (one : Item) (x : ℕ) (front back : List Item) → name_of one.header ≡ x
    → instead x (times_in x (names_of front)) new (front ++ (one ∷ back)) ≡ front ++ (new ++ back)
unfolding instead
instead_behind new one x [] back n = rw (eq-eqb x _ (sym n))
instead_behind new one x (i ∷ front) back n =
    passed_over (eqb x (name_of i.header)) (times_in x (names_of front)) _ (λ w. i ∷ instead x w new (front ++ (one ∷ back)))
    ∙ ap (λ (l : List Item). i ∷ l) (instead_behind new one x front back n)

module _ (x which : ℕ) (is : List Item) (c : Chosen x which is) where
  instead_chosen : (new : List Item) → instead x which new is ≡ c.front ++ (new ++ c.back)
  instead_chosen new =
      ap (instead x which new) c.whole
      ∙ ap (λ (k : ℕ). instead x k new (c.front ++ (c.one ∷ c.back))) (sym c.before)
      ∙ instead_behind new c.one x c.front c.back c.named

  picked : Picked x which c.front (c.one ∷ [])
  picked = record { one = c.one; alone = refl; named = c.named; before = c.before }

pub changed : (e : Edit) (is : List Item) → EditRight e is → OfOctets e → Changed e is
unfolding edited_items
changed (Replacing new which) is r o =
    let x = name_of (new_header new) in
    let c = choose x which is r.1 in
    record {
      front = c.front;
      old = c.one ∷ [];
      back = c.back;
      was = c.whole;
      becomes = instead_chosen x which is c (new_item new ∷ []);
      taken = picked x which is c;
    }
changed (Appending new) is r o =
    record { front = is; old = []; back = []; was = sym (append-nil is); becomes = refl; taken = (refl, refl) }
changed (Removing x which) is r o =
    let c = choose x which is r in
    record {
      front = c.front;
      old = c.one ∷ [];
      back = c.back;
      was = c.whole;
      becomes = instead_chosen x which is c [];
      taken = picked x which is c;
    }

-- ---- so edited, they are allowed

-- each that an edit puts in
new_each : (e : Edit) (is : List Item) → EditRight e is → OfOctets e → Each AllowedItem (new_items e)
new_each (Replacing new which) is r o = ((new_read new r.0 o).allowed, tt)
new_each (Appending new) is r o = ((new_read new r.0 o).allowed, tt)
new_each (Removing x which) is r o = tt

-- how often the name u then stands
module _ (u : ℕ) where
  names_three : (f o b : List Item)
      → times_in u (names_of (f ++ (o ++ b))) ≡ times_in u (names_of f) + (times_in u (names_of o) + times_in u (names_of b))
  names_three f o b = rw (names_append f (o ++ b), names_append o b, times_append, times_append)

  -- one of the same name in the place of one
  same_times : (i j : Item) → name_of i.header ≡ name_of j.header → times_in u (names_of (i ∷ [])) ≡ times_in u (names_of (j ∷ []))
  same_times i j e = rw e

  -- one more
  one_more : (x : ℕ) (is : List Item) → times_in x (names_of is) < often_of x → times_in u (names_of is) ≤ often_of u
      → times_in u (names_of is) + times_in u (x ∷ []) ≤ often_of u
  one_more x is l a = go (eqb u x) refl
    where
      go : (b : Bool) → eqb u x ≡ b → times_in u (names_of is) + cond b 1 0 ≤ often_of u
      go true e = let q = eqb-true u x e in rw q (omega arith)
      go false e = omega arith

  items_often : (e : Edit) (is : List Item) → EditRight e is → OfOctets e → times_in u (names_of is) ≤ often_of u → Changed e is
      → times_in u (names_of (edited_items e is)) ≤ often_of u
  unfolding edited_items
  items_often (Replacing new which) is r o a c =
      let t = c.taken in
      let n : name_of (new_item new).header ≡ name_of t.one.header = ap name_of (new_read new r.0 o).header ∙ sym t.named in
      let old : times_in u (names_of c.old) ≡ times_in u (names_of (t.one ∷ [])) =
      ap (λ (l : List Item). times_in u (names_of l)) t.alone in
      rw c.becomes
      (omega (
        arith,
        names_three c.front (new_item new ∷ []) c.back,
        names_three c.front c.old c.back,
        ap (λ (l : List Item). times_in u (names_of l)) c.was,
        same_times (new_item new) t.one n,
      ))
  items_often (Appending new) is r o a c =
      rw (names_append is (new_item new ∷ []), times_append, (new_read new r.0 o).header) (one_more (name_of (new_header new)) is r.1 a)
  items_often (Removing x which) is r o a c =
      rw c.becomes
      (omega (
        arith,
        names_three c.front [] c.back,
        names_three c.front c.old c.back,
        ap (λ (l : List Item). times_in u (names_of l)) c.was,
      ))

pub items_allowed : (e : Edit) (is : List Item) → AllowedItems is → EditRight e is → OfOctets e
    → length (layout_items (edited_items e is)) ≤ most_transfer_octets → AllowedItems (edited_items e is)
items_allowed e is a r o l =
    let c = changed e is r o in
    let all = rw c.was at a.each in
    let behind = each_right AllowedItem c.old c.back (each_right AllowedItem c.front (c.old ++ c.back) all) in
    record {
      each =
          rw c.becomes
          (each_append AllowedItem c.front (new_items e ++ c.back) (each_left AllowedItem c.front (c.old ++ c.back) all)
          (each_append AllowedItem (new_items e) c.back (new_each e is r o) behind));
      often = λ u. items_often u e is r o (a.often u) c;
      few_octets = l;
    }

-- ---- the record

-- with no C5 nothing is edited
plain_edited : (e : Edit) (r : List Part) → Each Plain r → edited e r ≡ r
unfolding edited
plain_edited e [] p = refl
plain_edited e (q ∷ r) p = rw p.0 (ap (λ (l : List Part). q ∷ l) (plain_edited e r p.1))

-- in a C5 its parameters are
parted_edited : (e : Edit) (ahead : List Part) (is : List Item) (behind : List Part) → Each Plain ahead → Each Plain behind
    → edited e (ahead ++ (data_part is ∷ behind)) ≡ ahead ++ (data_part (edited_items e is) ∷ behind)
unfolding edited
parted_edited e [] is behind a b = ap (λ (l : List Part). data_part (edited_items e is) ∷ l) (plain_edited e behind b)
parted_edited e (p ∷ ahead) is behind a b =
    rw a.0 (ap (λ (l : List Part). p ∷ l) (parted_edited e ahead is behind a.1 b))

-- the headers stay
pub headers_kept : (f : ℕ → ℕ) (e : Edit) (r : List Part) → map (λ p. f p.header) (edited e r) ≡ map (λ p. f p.header) r
unfolding edited
headers_kept f e [] = refl
headers_kept f e (p ∷ r) = go (eqb p.header transfer_data) (headers_kept f e r)
  where
    go : (b : Bool) → map (λ p. f p.header) (edited e r) ≡ map (λ p. f p.header) r
        → f (cond b (part_with (edited_items e p.items) p) p).header ∷ map (λ p. f p.header) (edited e r)
        ≡ f p.header ∷ map (λ p. f p.header) r
    go true ih = ap (λ (l : List ℕ). f p.header ∷ l) ih
    go false ih = ap (λ (l : List ℕ). f p.header ∷ l) ih

module _ (e : Edit) (r : List Part) (a : Allowed r) (d : Parted r) where
  pub record_edited : edited e r ≡ d.ahead ++ (data_part (edited_items e (items_in r)) ∷ d.behind)
  record_edited =
      ap (edited e) d.whole ∙ parted_edited e d.ahead (items_in r) d.behind d.plain_ahead d.plain_behind

  pub items_edited : items_in (edited e r) ≡ edited_items e (items_in r)
  items_edited = ap items_in record_edited ∙ items_instead r a.held d (edited_items e (items_in r))

  -- its C5 stands where it stood
  unfoldable pub data_edited : Parted (edited e r)
  data_edited =
      record {
        ahead = d.ahead;
        behind = d.behind;
        whole = rw items_edited record_edited;
        plain_ahead = d.plain_ahead;
        plain_behind = d.plain_behind;
      }

  record_allowed : EditRight e (items_in r) → OfOctets e → length (layout_items (items_in (edited e r))) ≤ most_transfer_octets
      → Allowed (edited e r)
  record_allowed w o l =
      let is = edited_items e (items_in r) in
      let items = items_allowed e (items_in r) (allowed_items r a) w o (rw items_edited at l) in
      let all = rw d.whole at (allowed_parts r a) in
      let ahead = each_left AllowedPart d.ahead (data_part (items_in r) ∷ d.behind) all in
      let behind = (each_right AllowedPart d.ahead (data_part (items_in r) ∷ d.behind) all).1 in
      let each : Each AllowedPart (edited e r) =
      rw record_edited (each_append AllowedPart d.ahead (data_part is ∷ d.behind) ahead (data_allowed is items, behind)) in
      let once : Once (edited e r) = λ u. rw (headers_kept name_of e r) (allowed_once r a u) in
      allowed (edited e r) each once (rw (headers_kept (λ h. h) e r) a.has_class) (rw (headers_kept (λ h. h) e r) a.has_kind)

-- ---- the message in a buffer

pub message_allowed : (d : List ℕ) (n k : ℕ) → every is_octet d ≡ true → verdict_of (take n d) ≡ Accepted k
    → Allowed (record_of (take n d)) × (layout (record_of (take n d)) ≡ take n d)
message_allowed d n k o v = let w = read_then_laid (take n d) (every_take is_octet n d o) k v in (w.1, w.2)

pub edit_allowed : (e : Edit) (d : List ℕ) (n : ℕ) → every is_octet d ≡ true → OfOctets e → NoReason e d n → Allowed (edited_in e d n)
edit_allowed e d n o w f =
    let r = record_of (take n d) in
    let a = (message_allowed d n n o f.message).0 in
    record_allowed e r a (one_data r a f.has_data) f.right w f.few_octets

pub edited_allowed : (e : Edit) (d : List ℕ) (n k : ℕ) → every is_octet d ≡ true → OfOctets e → editing_of e d n ≡ Accepted k
    → Allowed (edited_in e d n) × (k ≡ length (layout (edited_in e d n)))
edited_allowed e d n k o w a = let t = edit_taken e d n k a in (edit_allowed e d n o w t.0, t.1)
