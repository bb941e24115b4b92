-- Carriers (CC): what is sound opens to carriers that may be said and that lay out to it; carriers that may be said, laid out, are sound
-- and open to themselves. Both are shown once for a level of entries, and hold of the two. And the rows of a message's carriers, with the
-- digits of their codes: those of what its contents say.
use Rattle.std.specs.Prelude.{ℕ, zero, suc, ◌+◌, ◌≤◌, ◌≡◌, Bool, true, false, cond, not, ◌&&◌, ◌↔◌, leb, ltb, get_or, Err}
use Rattle.std.proofs.Common.{arith, sym, ap, ◌∙◌}
use Rattle.std.proofs.Math.Path.{refl}
use mathlib.Core.List.{List, [], ◌∷◌, ◌++◌, map, map-append}
use borrow.Author.Tests.{eqb-true, eq-eqb, ne_eqb, le-ltb}
use Rattle.std.proofs.Math.Dec.{eqb}
use Rattle.std.proofs.Math.ListN.{length, length-append}
use Rattle.std.proofs.lemmas.List.{length-map}
use Rattle.std.proofs.Math.Seq.{take-append_seam, drop-append_seam}
use Rattle.annex.specs.Allowed.{every, Each, is_octet, items_in}
use Rattle.annex.specs.Answers.{no_room, absent, refuse, and_then, Answer, Accepted, Refused, Fault, Sound}
use Rattle.annex.specs.Heads.{carriers, zeroes_of, form_of}
use Rattle.annex.specs.Contents.{fault_of}
use Rattle.annex.specs.Items.{Item, contents_of}
use Rattle.annex.specs.Layout.{lay_all, layout_item, layout_items}
use Rattle.annex.specs.Reading.{verdict_of, record_of}
use Rattle.annex.specs.Units.{extent_of}
use Rattle.annex.specs.Finding.{find_answer, find_part}
use Rattle.annex.specs.Carriers.{
  most_direction,
  lowest_carrier,
  lowest_dependent,
  is_tag,
  holds_code,
  entry_size,
  entries_in,
  inside_of,
  inside_at,
  octets_in,
  entries_right,
  entries_formed,
  entries_fault,
  code_formed,
  code_fault,
  dependent_formed,
  dependent_fault,
  carrier_formed,
  carrier_fault,
  carriers_formed,
  carriers_fault,
}
use Rattle.annex.specs.Digits.{is_digit_in}
use Rattle.annex.specs.Transit.{
  Dependent,
  Carrier,
  OpenedCarriers,
  dependent_right,
  carrier_right,
  carriers_right,
  lay_entry,
  dependent_octets,
  lay_dependent,
  lay_carrier,
  lay_carriers,
  open_dependent,
  open_carrier,
  opened_carriers,
  Entry,
  entry,
  no_entry,
  flat_entries,
  entries_of,
  is_code_entry,
  digits_in,
  entry_row,
  most_carrier_rows,
  most_carrier_digits,
  entry_found,
  code_answer,
  digits_answer,
  carriers_found,
  carrier_rows_of,
  carriers_answer,
}
use Rattle.annex.specs.Walk.{Par, pars}
use Rattle.annex.specs.declared.Alphabet.TheVariants.{Decimal}
use Rattle.annex.specs.declared.CarrierRow.{CarrierRow}
use Rattle.annex.specs.declared.Check.TheVariants.{Carriers}
use Rattle.laws.specs.Bools.{and_left, and_right, and_both}
use Rattle.laws.specs.Entries.{entry_size_lem, raw_entry, Counts, entries_count, entries_all, code_open, code_closed, code_few, entries_of_few}
use Rattle.laws.specs.Faults.{then_sound, then_both}
use Rattle.laws.specs.Headers.{none_asked}
use Rattle.laws.specs.Leaves.{as_they_are}
use Rattle.laws.specs.Plain.{pars_head}
use Rattle.laws.specs.Steps.{then_passed, told_passed, told_roomy}
use Rattle.theorems.specs.Transfers.{AllowedItem}
use Rattle.theorems.specs.Records.{layout-append}
use Rattle.theorems.specs.Messages.{read_then_laid}
use Rattle.theorems.specs.Headed.{found_held}

-- ---- a level: from octets to what they say

-- what is shown of one entry is shown of all
module _
    {A : Type 0}
    (says : Par → A)
    (lay : A → List ℕ)
    (good : A → Bool)
    (lowest : ℕ)
    (right : Par → Bool)
    (fault : Par → Fault)
    (one : (q : Par) → Counts q → is_tag lowest q.head ≡ true → right q ≡ true → fault q ≡ Sound
    → (lay (says q) ≡ raw_entry q) × (good (says q) ≡ true))
  where
    all_open : (qs : List Par) → Each Counts qs → entries_right lowest right qs ≡ true → entries_fault fault qs ≡ Sound
        → (lay_all lay (map says qs) ≡ lay_all raw_entry qs) × (every good (map says qs) ≡ true)
    unfolding entries_fault
    all_open [] c r f = (refl, refl)
    all_open (q ∷ qs) c r f =
        let tag = is_tag lowest q.head in
        let here = and_left (tag && right q) (entries_right lowest right qs) r in
        let g = then_both (fault q) (entries_fault fault qs) f in
        let w = one q c.0 (and_left tag (right q) here) (and_right tag (right q) here) g.0 in
        let ih = all_open qs c.1 (and_right (tag && right q) (entries_right lowest right qs) r) g.1 in
        (rw (w.0, ih.0), and_both (good (says q)) _ w.1 ih.1)

    pub level_open : (at : ℕ) (xs : List ℕ) → entries_formed lowest right at xs ≡ true → entries_fault fault (entries_in at xs) ≡ Sound
        → (lay_all lay (map says (entries_in at xs)) ≡ xs) × (every good (map says (entries_in at xs)) ≡ true)
    unfolding entries_formed
    level_open at xs r f =
        let qs = entries_in at xs in
        let closed = eqb (octets_in qs) (length xs) in
        let e = eqb-true (octets_in qs) (length xs) (and_left closed (entries_right lowest right qs) r) in
        let w = all_open qs (entries_count 0 at xs) (and_right closed (entries_right lowest right qs) r) f in
        (w.0 ∙ entries_all at xs e, w.1)

-- ---- and from what may be said to octets

-- an entry with the tag t that holds s, laid out at p
abbrev laid_at : ℕ → ℕ → List ℕ → Par
laid_at p t s = record { place = p; head = t; own = length s ∷ s }

-- it is the first of the octets that it starts
first_laid : (p t : ℕ) (s rest : List ℕ) → entries_in p (lay_entry t s ++ rest) ≡ laid_at p t s ∷ entries_in (p + 2 + length s) rest
first_laid p t s rest =
    let xs = length s ∷ (s ++ rest) in
    let n : suc (length s) ≡ entry_size t xs = omega (arith, entry_size_lem t xs) in
    let long : suc (length s) ≤ length xs = simp length-append (omega arith) in
    let far : p + 1 + suc (length s) ≡ p + 2 + length s = omega arith in
    pars_head entry_size p t (suc (length s)) xs n long
    ∙ rw (take-append_seam s rest, drop-append_seam s rest, far)

module _
    {A : Type 0}
    (tag : A → ℕ)
    (octets : A → List ℕ)
    (says : Par → A)
    (good : A → Bool)
    (lowest : ℕ)
    (right : Par → Bool)
    (fault : Par → Fault)
  where
    -- what one that may be said is, laid out
    pub record Laid (a : A) (q : Par) : Type 0 where
      pub tagged : is_tag lowest (tag a) ≡ true
      pub right_here : right q ≡ true
      pub sound : fault q ≡ Sound
      pub opens : says q ≡ a

    abbrev lay : A → List ℕ
    lay a = lay_entry (tag a) (octets a)

    abbrev lays : List A → List ℕ
    lays = lay_all lay

    module _ (one : (a : A) (p : ℕ) → good a ≡ true → Laid a (laid_at p (tag a) (octets a))) where
      pub record AllLaid (at : ℕ) (es : List A) : Type 0 where
        pub closed : octets_in (entries_in at (lays es)) ≡ length (lays es)
        pub rights : entries_right lowest right (entries_in at (lays es)) ≡ true
        pub sounds : entries_fault fault (entries_in at (lays es)) ≡ Sound
        pub open_all : map says (entries_in at (lays es)) ≡ es

      all_laid : (at : ℕ) (es : List A) → every good es ≡ true → AllLaid at es
      unfolding entries_fault pars
      all_laid at [] g = record { closed = refl; rights = refl; sounds = refl; open_all = refl }
      all_laid at (a ∷ es) g =
          let s = octets a in
          let first = first_laid at (tag a) s (lays es) in
          let w = one a at (and_left (good a) (every good es) g) in
          let ih = all_laid (at + 2 + length s) es (and_right (good a) (every good es) g) in
          record {
            closed = rw first (simp length-append (omega (arith, ih.closed)));
            rights = rw (first, w.tagged, w.right_here) ih.rights;
            sounds = rw (first, w.sound) ih.sounds;
            open_all = rw (first, w.opens, ih.open_all);
          }

      pub level_laid : (at : ℕ) (es : List A) → every good es ≡ true
          → (entries_formed lowest right at (lays es) ≡ true) × (entries_fault fault (entries_in at (lays es)) ≡ Sound)
          × (map says (entries_in at (lays es)) ≡ es)
      unfolding entries_formed
      level_laid at es g =
          let w = all_laid at es g in
          (rw (eq-eqb (octets_in (entries_in at (lays es))) (length (lays es)) w.closed) w.rights, w.sounds, w.open_all)

-- ---- the two levels

-- a dependent entry of the right form, with nothing wrong in its digits
dependent_open : (q : Par) → Counts q → is_tag lowest_dependent q.head ≡ true → dependent_formed q ≡ true → dependent_fault q ≡ Sound
    → (lay_dependent (open_dependent q) ≡ raw_entry q) × (dependent_right (open_dependent q) ≡ true)
dependent_open q c t r f = go (holds_code q.head) refl r f
  where
    go : (b : Bool) → holds_code q.head ≡ b → cond b (code_formed (inside_of q)) true ≡ true
        → cond b (code_fault (inside_at q) (inside_of q)) Sound ≡ Sound
        → (lay_dependent (open_dependent q) ≡ raw_entry q) × (dependent_right (open_dependent q) ≡ true)
    go true e u v =
        let w = code_open (inside_at q) (inside_of q) u v in
        (rw (e, w.back, ← c), rw (t, e) w.digits)
    go false e u v = (rw (e, ← c), rw (t, e))

-- a carrier entry, by those in it
carrier_open : (q : Par) → Counts q → is_tag lowest_carrier q.head ≡ true → carrier_formed q ≡ true → carrier_fault q ≡ Sound
    → (lay_carrier (open_carrier q) ≡ raw_entry q) × (carrier_right (open_carrier q) ≡ true)
carrier_open q c t r f =
    let w =
    level_open open_dependent lay_dependent dependent_right lowest_dependent dependent_formed dependent_fault dependent_open (inside_at q)
    (inside_of q) r f in
    (rw (w.0, ← c), rw t w.1)

-- and one that may be said, laid out
dependent_laid : (d : Dependent) (p : ℕ) → dependent_right d ≡ true
    → Laid (λ d. d.tag) dependent_octets open_dependent dependent_right lowest_dependent dependent_formed dependent_fault d
    (laid_at p d.tag (dependent_octets d))
dependent_laid d p g = go (holds_code d.tag) refl (and_right tagged _ g)
  where
    tagged : Bool
    tagged = is_tag lowest_dependent d.tag

    go : (b : Bool) → holds_code d.tag ≡ b → cond b (every (is_digit_in Decimal) d.values) true ≡ true
        → Laid (λ d. d.tag) dependent_octets open_dependent dependent_right lowest_dependent dependent_formed dependent_fault d
        (laid_at p d.tag (dependent_octets d))
    go true e h =
        let w = code_closed d.values h in
        record {
          tagged = and_left tagged _ g;
          right_here = rw e w.formed;
          sound = rw e (w.sound (p + 2));
          opens = rw (e, w.digits);
        }
    go false e h = record { tagged = and_left tagged _ g; right_here = rw e; sound = rw e; opens = rw e }

-- the dependent entries of one, laid out from p on
abbrev laid_in : Carrier → List ℕ
laid_in e = lay_all lay_dependent e.dependents

carrier_laid : (e : Carrier) (p : ℕ) → carrier_right e ≡ true
    → Laid (λ e. e.tag) laid_in open_carrier carrier_right lowest_carrier carrier_formed carrier_fault e (laid_at p e.tag (laid_in e))
carrier_laid e p g =
    let tagged = is_tag lowest_carrier e.tag in
    let w =
    level_laid (λ d. d.tag) dependent_octets open_dependent dependent_right lowest_dependent dependent_formed dependent_fault dependent_laid
    (p + 2) e.dependents (and_right tagged _ g) in
    record { tagged = and_left tagged _ g; right_here = w.0; sound = w.1; opens = rw w.2 }

-- ---- the contents

-- what is sound opens to carriers that may be said, and that lay out to it
pub sound_carried : (s : List ℕ) → carriers_fault s ≡ Sound
    → (lay_carriers (opened_carriers s) ≡ s) × (carriers_right (opened_carriers s) ≡ true)
unfolding carriers_fault carriers_formed lay_carriers opened_carriers carriers_right
sound_carried [] e = absurd (let z : ◌≡◌ {A = ℕ} 0 1 = cc in omega arith)
sound_carried (d ∷ xs) e =
    let low = leb d most_direction in
    let formed = entries_formed lowest_carrier carrier_formed 1 xs in
    let t = then_sound (carriers_formed (d ∷ xs)) (entries_fault carrier_fault (entries_in 1 xs)) e in
    let r = and_right (not (eqb (suc (length xs)) 0)) (low && formed) t.0 in
    let w =
    level_open open_carrier lay_carrier carrier_right lowest_carrier carrier_formed carrier_fault carrier_open 1 xs (and_right low formed r)
    t.1 in
    (ap (λ (ys : List ℕ). d ∷ ys) w.0, and_both low _ (and_left low formed r) w.1)

-- carriers that may be said, laid out, are sound, and open to themselves
pub carried_sound : (c : OpenedCarriers) → carriers_right c ≡ true
    → (carriers_fault (lay_carriers c) ≡ Sound) × (opened_carriers (lay_carriers c) ≡ c)
unfolding carriers_fault carriers_formed lay_carriers opened_carriers carriers_right
carried_sound c e =
    let low = leb c.direction most_direction in
    let n = length (lay_all lay_carrier c.entries) in
    let w =
    level_laid (λ e. e.tag) laid_in open_carrier carrier_right lowest_carrier carrier_formed carrier_fault carrier_laid 1 c.entries
    (and_right low _ e) in (
      rw (ne_eqb (suc n) 0 (λ z. omega arith), and_left low (every carrier_right c.entries) e, w.0) w.1,
      ap (λ (es : List Carrier). record { direction = c.direction; entries = es }) w.2,
    )

-- so contents are sound exactly if some carriers that may be said lay out to them, and they are those that they open to, and no others
pub record SaysCarriers (s : List ℕ) : Type 0 where
  pub sound : (carriers_fault s ≡ Sound) ↔ ((c : OpenedCarriers) × (carriers_right c ≡ true) × (lay_carriers c ≡ s))
  pub only : (c : OpenedCarriers) → carriers_right c ≡ true → lay_carriers c ≡ s → opened_carriers s ≡ c

pub says_carriers : (s : List ℕ) → SaysCarriers s
says_carriers s =
    record {
      sound = (
        λ e. let t = sound_carried s e in (opened_carriers s, t.1, t.0),
        λ w. rw w.2 at (carried_sound w.0 w.1).0,
      );
      only = λ c r e. ap opened_carriers (sym e) ∙ (carried_sound c r).1;
    }

-- ---- the rows of what is said

-- of a dependent entry that stands at the place p of a message, and of a carrier entry
abbrev pub told_dependent : ℕ → Dependent → CarrierRow
told_dependent p d =
    record {
      level = 2;
      tag = d.tag;
      offset = p;
      len = length (dependent_octets d);
      digits = cond (holds_code d.tag) (length d.values) 0;
    }

abbrev pub told_carrier : ℕ → Carrier → CarrierRow
told_carrier p e = record { level = 1; tag = e.tag; offset = p; len = length (laid_in e); digits = 0 }

-- of several, one behind the other, each carrier entry before those in it
unfoldable pub told_dependents : ℕ → List Dependent → List CarrierRow
told_dependents p [] = []
told_dependents p (d ∷ ds) = told_dependent p d ∷ told_dependents (p + 2 + length (dependent_octets d)) ds

unfoldable pub told_carriers : ℕ → List Carrier → List CarrierRow
told_carriers p [] = []
told_carriers p (e ∷ es) = told_carrier p e ∷ (told_dependents (p + 2) e.dependents ++ told_carriers (p + 2 + length (laid_in e)) es)

-- of all, the direction's first
abbrev pub told_carrier_rows : ℕ → OpenedCarriers → List CarrierRow
told_carrier_rows p c = record { level = 0; tag = c.direction; offset = p; len = 0; digits = 0 } ∷ told_carriers (p + 1) c.entries

-- and the digits of the codes in these rows, of a row without a code none
abbrev pub told_code : Dependent → List ℕ
told_code d = cond (holds_code d.tag) d.values []

unfoldable pub told_in : List Carrier → List (List ℕ)
told_in [] = []
told_in (e ∷ es) = [] ∷ (map told_code e.dependents ++ told_in es)

abbrev pub told_codes : OpenedCarriers → List (List ℕ)
told_codes c = [] ∷ told_in c.entries

abbrev pub code_in : Entry → List ℕ
code_in e = cond (is_code_entry e) (digits_in e) []

-- one dependent entry, laid out: its row and its code
dependent_row : (d : Dependent) → dependent_right d ≡ true → (s k p : ℕ) → s + k ≡ p →
    let e = entry 2 (laid_at k d.tag (dependent_octets d)) in
    (entry_row s e ≡ told_dependent p d) × (code_in e ≡ told_code d)
dependent_row d g s k p e = go (holds_code d.tag) refl (and_right (is_tag lowest_dependent d.tag) _ g)
  where
    q : Entry
    q = entry 2 (laid_at k d.tag (dependent_octets d))

    go : (b : Bool) → holds_code d.tag ≡ b → cond b (every (is_digit_in Decimal) d.values) true ≡ true
        → (entry_row s q ≡ told_dependent p d) × (code_in q ≡ told_code d)
    go true f h = let w = code_closed d.values h in (rw (f, w.digits, e), rw (f, w.digits))
    go false f h = (rw (f, e), rw f)

dependents_told : (ds : List Dependent) (s k p : ℕ) → every dependent_right ds ≡ true → s + k ≡ p →
    let es = map (entry 2) (entries_in k (lay_all lay_dependent ds)) in
    (map (entry_row s) es ≡ told_dependents p ds) × (map code_in es ≡ map told_code ds)
unfolding pars told_dependents
dependents_told [] s k p g e = (refl, refl)
dependents_told (d ∷ ds) s k p g e =
    let n = length (dependent_octets d) in
    let first = first_laid k d.tag (dependent_octets d) (lay_all lay_dependent ds) in
    let w = dependent_row d (and_left (dependent_right d) (every dependent_right ds) g) s k p e in
    let ih = dependents_told ds s (k + 2 + n) (p + 2 + n) (and_right (dependent_right d) (every dependent_right ds) g) (omega arith) in
    (rw (first, w.0, ih.0), rw (first, w.1, ih.1))

entries_told : (es : List Carrier) (s k p : ℕ) → every carrier_right es ≡ true → s + k ≡ p →
    let fs = flat_entries (entries_in k (lay_all lay_carrier es)) in
    (map (entry_row s) fs ≡ told_carriers p es) × (map code_in fs ≡ told_in es)
unfolding pars flat_entries told_carriers told_in
entries_told [] s k p g e = (refl, refl)
entries_told (c ∷ es) s k p g e =
    let n = length (laid_in c) in
    let first = first_laid k c.tag (laid_in c) (lay_all lay_carrier es) in
    let here = and_left (carrier_right c) (every carrier_right es) g in
    let w = dependents_told c.dependents s (k + 2) (p + 2) (and_right (is_tag lowest_carrier c.tag) _ here) (omega arith) in
    let ih = entries_told es s (k + 2 + n) (p + 2 + n) (and_right (carrier_right c) (every carrier_right es) g) (omega arith) in
    (rw (first, map-append (entry_row s), w.0, ih.0, e), rw (first, map-append code_in, w.1, ih.1))

-- the entries of carriers that may be said, laid out: their rows and their codes
pub carriers_told : (c : OpenedCarriers) → carriers_right c ≡ true → (p : ℕ)
    → (map (entry_row p) (entries_of (lay_carriers c)) ≡ told_carrier_rows p c) × (map code_in (entries_of (lay_carriers c)) ≡ told_codes c)
unfolding carriers_right lay_carriers entries_of
carriers_told c r p =
    let w = entries_told c.entries p 1 (p + 1) (and_right (leb c.direction most_direction) _ r) refl in
    let z : p + 0 ≡ p = omega arith in
    (rw (z, w.0), rw w.1)

-- whether a row is that of a code, which a place without a row is not
abbrev pub no_carrier_row : CarrierRow
no_carrier_row = record { level = 0; tag = 0; offset = 0; len = 0; digits = 0 }

abbrev pub is_code_row : CarrierRow → Bool
is_code_row r = eqb r.level 2 && holds_code r.tag

-- by its number
row_by : (p : ℕ) (es : List Entry) (k : ℕ) → is_code_row (get_or (map (entry_row p) es) k no_carrier_row) ≡ is_code_entry (get_or es k no_entry)
row_by p [] k = refl
row_by p (e ∷ es) zero = refl
row_by p (e ∷ es) (suc k) = row_by p es k

code_by : (es : List Entry) (k : ℕ) → get_or (map code_in es) k [] ≡ code_in (get_or es k no_entry)
code_by [] k = refl
code_by (e ∷ es) zero = refl
code_by (e ∷ es) (suc k) = code_by es k

-- in such a row are the digits of its code
pub row_told : (c : OpenedCarriers) → carriers_right c ≡ true → (p row : ℕ) →
    let e = get_or (entries_of (lay_carriers c)) row no_entry in
    (is_code_entry e ≡ is_code_row (get_or (told_carrier_rows p c) row no_carrier_row)) × (code_in e ≡ get_or (told_codes c) row [])
row_told c r p row =
    let w = carriers_told c r p in (
      sym (row_by p (entries_of (lay_carriers c)) row) ∙ ap (λ (rs : List CarrierRow). is_code_row (get_or rs row no_carrier_row)) w.0,
      sym (code_by (entries_of (lay_carriers c)) row) ∙ ap (λ (ds : List (List ℕ)). get_or ds row []) w.1,
    )

-- ---- in a message

-- what is wrong with its contents is what is wrong with carriers
pub carriers_asked : (t : List ℕ) → fault_of carriers t ≡ carriers_fault t
unfolding fault_of form_of zeroes_of
carriers_asked t = rw (none_asked 0 (get_or t 0 0) refl)

-- in a record it is sound, and held as its contents
pub item_carried : (i : Item) → AllowedItem i → i.header ≡ carriers → (contents_of i ≡ i.values) × (carriers_fault i.values ≡ Sound)
unfolding form_of
item_carried i a h =
    let t = as_they_are Carriers i (rw h) in
    (t.contents, sym (carriers_asked i.values) ∙ rw h at (sym t.fault ∙ a.faultless))

-- so it is in an accepted message, whichever it is
pub found_carriers : (which : ℕ) (m : List ℕ) → every is_octet m ≡ true → (n : ℕ) → find_answer m (carriers_found which m) ≡ Accepted n
    → carriers_fault (find_part m (carriers_found which m)) ≡ Sound
unfolding form_of
found_carriers which m o n e =
    sym (carriers_asked (find_part m (carriers_found which m))) ∙ (found_held carriers Carriers refl refl which m o n e).faultless

pub formed_carriers : (which : ℕ) (m : List ℕ) → every is_octet m ≡ true → (n : ℕ) → find_answer m (carriers_found which m) ≡ Accepted n
    → carriers_formed (find_part m (carriers_found which m)) ≡ true
unfolding carriers_fault
formed_carriers which m o n e =
    (then_sound (carriers_formed (find_part m (carriers_found which m))) _ (found_carriers which m o n e)).0

-- they are at most 253 octets, behind CC's header and length octet
contents_short : (which : ℕ) (m : List ℕ) → every is_octet m ≡ true → (n : ℕ) → find_answer m (carriers_found which m) ≡ Accepted n
    → length (find_part m (carriers_found which m)) ≤ 253
unfolding form_of layout_items layout_item extent_of
contents_short which m o n e =
    let f = found_held carriers Carriers refl refl which m o n e in
    let v = then_passed (verdict_of m) _ n e in
    let w = read_then_laid m o v.0 v.1 in
    let parted : layout_items (items_in (record_of m)) ≡ layout_items f.front ++ (layout_item f.one ++ layout_items f.back) =
    ap layout_items f.whole ∙ layout-append f.front (f.one ∷ f.back) in
    let own : length (layout_item f.one) ≡ 2 + length (find_part m (carriers_found which m)) =
    rw (f.headed, f.held) (omega arith) in
    omega (arith, w.1.few_octets, own, simp length-append at (ap length parted))

-- so there are at most 127 rows
listed_few : (which : ℕ) (m : List ℕ) → every is_octet m ≡ true → (n : ℕ) → find_answer m (carriers_found which m) ≡ Accepted n
    → length (carrier_rows_of which m) ≤ most_carrier_rows
unfolding carrier_rows_of
listed_few which m o n e =
    let s = find_part m (carriers_found which m) in
    simp length-map (omega (arith, entries_of_few s, contents_short which m o n e))

-- what an accepted listing has passed
pub carriers_given : (m : List ℕ) (which room n : ℕ) → carriers_answer m which room ≡ Accepted n
    → (k : ℕ) × (find_answer m (carriers_found which m) ≡ Accepted k) × (n ≡ length (carrier_rows_of which m)) × (n ≤ room)
unfolding carriers_answer
carriers_given m which room n e = told_passed (find_answer m (carriers_found which m)) room (length (carrier_rows_of which m)) n e

pub carrier_rows_few : (m : List ℕ) → every is_octet m ≡ true → (which room n : ℕ) → carriers_answer m which room ≡ Accepted n
    → n ≤ most_carrier_rows
carrier_rows_few m o which room n e =
    let g = carriers_given m which room n e in
    omega (arith, g.2, listed_few which m o g.0 g.1)

-- and with room for these it is never 15
pub carriers_roomy : (m : List ℕ) → every is_octet m ≡ true → (which room : ℕ) → most_carrier_rows ≤ room
    → carriers_answer m which room
    ≡ and_then (find_answer m (carriers_found which m)) (λ _. Accepted (length (carrier_rows_of which m)))
unfolding carriers_answer
carriers_roomy m o which room l =
    told_roomy (find_answer m (carriers_found which m)) room _ (λ k e. omega (arith, listed_few which m o k e))

-- the digits of a code are at most 494
listed_digits : (which row : ℕ) (m : List ℕ) → every is_octet m ≡ true → (n : ℕ) → find_answer m (carriers_found which m) ≡ Accepted n
    → is_code_entry (entry_found which row m) ≡ true → length (digits_in (entry_found which row m)) ≤ most_carrier_digits
listed_digits which row m o n e t =
    omega (arith, code_few (find_part m (carriers_found which m)) row t, contents_short which m o n e)

-- so with room for these it is never 15
pub digits_roomy : (m : List ℕ) → every is_octet m ≡ true → (which row room : ℕ) → most_carrier_digits ≤ room →
    let x = entry_found which row m in
    digits_answer m which row room
    ≡ and_then (find_answer m (carriers_found which m)) (λ _. refuse (not (is_code_entry x)) absent 0 (Accepted (length (digits_in x))))
unfolding digits_answer
digits_roomy m o which row room l = go (find_answer m (carriers_found which m)) refl
  where
    x : Entry
    x = entry_found which row m

    n : ℕ
    n = length (digits_in x)

    by : (b : Bool) → (b ≡ true → n ≤ most_carrier_digits)
        → refuse (not b) absent 0 (refuse (ltb room n) no_room 0 (Accepted n)) ≡ refuse (not b) absent 0 (Accepted n)
    by true f = rw (le-ltb room n (omega (arith, f refl)))
    by false f = refl

    go : (a : Answer) → find_answer m (carriers_found which m) ≡ a
        → and_then a (λ _. code_answer x room) ≡ and_then a (λ _. refuse (not (is_code_entry x)) absent 0 (Accepted n))
    go (Accepted k) e = by (is_code_entry x) (λ t. listed_digits which row m o k e t)
    go (Err r) e = refl
