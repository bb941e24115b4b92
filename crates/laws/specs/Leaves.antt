-- The two laws of one transfer parameter: what is sound opens to an allowed parameter with the same contents, and what is allowed is
-- sound and opens to itself. By the form that the header asks; what lies above knows a parameter through these two alone.
use Rattle.std.specs.Prelude.{ℕ, suc, ◌<◌, ◌≡◌, refl, List, [], ◌∷◌, Bool, true, false, cond, not, ◌&&◌, eqb, length, get_or, drop}
use Rattle.std.proofs.Common.{arith, sym, ap, ◌∙◌, eqb-true, ne_eqb}
use Rattle.annex.specs.Units.{extent_of}
use Rattle.annex.specs.Heads.{clear, added_calling_number, pli_right, zeroes_of, form_of}
use Rattle.annex.specs.declared.Check.{Check}
use Rattle.annex.specs.declared.Form.{Form}
use Rattle.annex.specs.declared.Marks.TheVariants.{Unmarked, Notified, Verified, Typed}
use Rattle.annex.specs.declared.Form.TheVariants.{Checked, Digits, Number, Calling, Generic}
use Rattle.annex.specs.Digits.{packed, number_fault}
use Rattle.annex.specs.Contents.{presentation_of, generic_fault, fault_by, fault_of}
use Rattle.annex.specs.Items.{
  Item,
  holding_by,
  holding_of,
  plain_item,
  open_by,
  item_of,
  number_contents,
  contents_by,
  held_as,
  contents_of,
  own_by,
  own_of,
}
use Rattle.annex.specs.declared.Holding.{Holding}
use Rattle.annex.specs.declared.Holding.TheVariants.{AsContents, AsDigits, AsNumber, AsGeneric}
use Rattle.annex.specs.Allowed.{
  every,
  is_octet,
  length_fits,
  length_by,
  marks_right,
  fields_right,
  withheld_right,
  number_right,
  length_right,
  fault_as,
  fault_in,
  HeldItem,
}
use Rattle.annex.specs.declared.Alphabet.TheVariants.{Numbered}
use Rattle.annex.specs.Answers.{Sound}
use Rattle.laws.specs.Bools.{and_left, and_right, and_both}
use Rattle.laws.specs.Faults.{then_sound, values_sound, sound_values}
use Rattle.laws.specs.Headers.{row_fits, row_fits_lem, digits_row, none_asked}
use Rattle.laws.specs.Joined.{digits_octets}
use Rattle.laws.specs.Counted.{counted_open, counted_closed}
use Rattle.laws.specs.Numbers.{NumberOpen, number_open, NumberClosed, number_closed, calling_open, calling_closed}

-- ---- contents held as they are

-- whatever the check: the parameter's values are its contents, its fault is theirs, and they open to their values
pub record AsTheyAre (i : Item) : Type 0 where
  pub contents : contents_of i ≡ i.values
  pub fault : fault_in i ≡ fault_of i.header i.values
  pub opens : item_of i.header i.values ≡ plain_item i.header i.values

pub as_they_are : (c : Check) (i : Item) → form_of i.header ≡ Checked c → AsTheyAre i
unfolding contents_of fault_in item_of holding_of
as_they_are c i e = record { contents = rw e; fault = rw e; opens = rw e }

-- ---- from contents to a parameter

pub record Opened (h : ℕ) (s : List ℕ) : Type 0 where
  pub header : (item_of h s).header ≡ h
  pub contents : contents_of (item_of h s) ≡ s
  pub held : HeldItem (item_of h s)
  pub length_right_holds : length_right (item_of h s) ≡ true
  pub faultless : fault_in (item_of h s) ≡ Sound

-- the same by the form f of the header and the holding k
record OpenAs (f : Form) (k : Holding) (h : ℕ) (s : List ℕ) : Type 0 where
  kept : holding_by f (get_or (open_by k h s).values 0 0) ≡ k
  contents : contents_by k (open_by k h s) ≡ s
  octets : every is_octet (open_by k h s).values ≡ true
  fits : contents_of (open_by k h s) ≡ s → length_by k (open_by k h s) ≡ true
  faultless : fault_as k (open_by k h s) ≡ Sound

-- held as its contents, whatever is checked of them; and as a number
open_plain : (f : Form) (h : ℕ) (s : List ℕ) → holding_by f (get_or s 0 0) ≡ AsContents → every is_octet s ≡ true
    → length_fits (extent_of h) s ≡ true → fault_of h s ≡ Sound → OpenAs f AsContents h s
open_plain f h s k o l g = record { kept = k; contents = refl; octets = o; fits = λ c. rw c l; faultless = g }

open_number : (w : Bool) (f : Form) (h : ℕ) (s : List ℕ) → ((x : ℕ) → holding_by f x ≡ AsNumber w) → length_fits (extent_of h) s ≡ true
    → NumberOpen s → cond (w && eqb (presentation_of s) 2) (withheld_right (open_by (AsNumber w) h s)) true ≡ true → OpenAs f (AsNumber w) h s
open_number w f h s k l n r =
    let vs = (open_by (AsNumber w) h s).values in
    record {
      kept = k (get_or vs 0 0);
      contents = n.contents h vs;
      octets = digits_octets vs n.digits;
      fits = λ c. rw c l;
      faultless = values_sound (number_right w (open_by (AsNumber w) h s)) vs (and_both _ _ (n.right h vs) r) n.digits;
    }

-- DA, by its first octet
open_generic : (v : Bool) (h : ℕ) (s : List ℕ) → eqb (get_or s 0 0) added_calling_number ≡ v → not (eqb (length s) 0) ≡ true
    → every is_octet s ≡ true
    → length_fits (extent_of h) s ≡ true → cond v (number_fault 1 (drop 1 s)) Sound ≡ Sound → fault_of h s ≡ Sound
    → OpenAs Generic (cond v AsGeneric AsContents) h s
open_generic true h [] e t o l g w = absurd (let z : ◌≡◌ {A = ℕ} 0 1 = cc in omega arith)
open_generic true h (x ∷ s) e t o l g w =
    let n = number_open 1 s (and_right (is_octet x) (every is_octet s) o) g in
    let i = open_by AsGeneric h (x ∷ s) in
    let ds = (open_by (AsNumber false) h s).values in
    record {
      kept = refl;
      contents = rw (n.contents h i.values) (ap (λ y. y ∷ s) (sym (eqb-true x added_calling_number e)));
      octets = digits_octets ds n.digits;
      fits = λ c. rw c l;
      faultless = values_sound (fields_right i) ds (n.right h i.values) n.digits;
    }
open_generic false h s e t o l g w = open_plain Generic h s (rw e) o l w

-- each form; what is held as its contents needs to know nothing of its check
opens_by : (f : Form) (h : ℕ) (s : List ℕ) → every is_octet s ≡ true → row_fits f (zeroes_of h) (extent_of h) ≡ true
    → length_fits (extent_of h) s ≡ true → clear (zeroes_of h) (get_or s 0 0) ≡ true → fault_by f s ≡ Sound → fault_of h s ≡ Sound
    → OpenAs f (holding_by f (get_or s 0 0)) h s
unfolding generic_fault
opens_by (Checked x) h s o t l c g w = open_plain (Checked x) h s refl o l w
opens_by (Digits m) h s o t l c g w =
    let r = digits_row m (zeroes_of h) (extent_of h) t in
    let n = counted_open m h s o (rw r.0 at l) (rw r.1 at c) g in
    let i = open_by (AsDigits m) h s in
    record {
      kept = refl;
      contents = n.contents;
      octets = digits_octets i.values n.digits;
      fits = λ k. n.few;
      faultless = values_sound (marks_right m i) i.values n.right n.digits;
    }
opens_by Number h s o t l c g w = open_number false Number h s (λ x. refl) l (number_open 0 s o g) refl
opens_by Calling h s o t l c g w =
    let k = calling_open h s g in
    open_number true Calling h s (λ x. refl) l (number_open 0 s o k.number) k.withheld
opens_by Generic h s o t l c g w =
    let n = cond (eqb (get_or s 0 0) added_calling_number) (number_fault 1 (drop 1 s)) Sound in
    let p = then_sound (not (eqb (length s) 0)) n g in
    open_generic (eqb (get_or s 0 0) added_calling_number) h s refl p.0 o l p.1 w

-- a parameter opened keeps its header, and has nothing that is not its own
open_header : (k : Holding) (h : ℕ) (s : List ℕ) → (open_by k h s).header ≡ h
open_header AsContents h s = refl
open_header (AsDigits Unmarked) h s = refl
open_header (AsDigits Notified) h s = refl
open_header (AsDigits Verified) h s = refl
open_header (AsDigits Typed) h s = refl
open_header (AsNumber w) h s = refl
open_header AsGeneric h s = refl

open_own : (k : Holding) (h : ℕ) (s : List ℕ) → own_by k (open_by k h s) ≡ open_by k h s
open_own AsContents h s = refl
open_own (AsDigits Unmarked) h s = refl
open_own (AsDigits Notified) h s = refl
open_own (AsDigits Verified) h s = refl
open_own (AsDigits Typed) h s = refl
open_own (AsNumber w) h s = refl
open_own AsGeneric h s = refl

-- the form decides how a parameter is held
item_as : (f : Form) (h : ℕ) (s : List ℕ) → form_of h ≡ f → item_of h s ≡ open_by (holding_by f (get_or s 0 0)) h s
unfolding item_of holding_of
item_as f h s e = rw e

holding_of_lem : (f : Form) (i : Item) → form_of i.header ≡ f → held_as i ≡ holding_by f (get_or i.values 0 0)
unfolding holding_of
holding_of_lem f i e = rw e

opened_by : (f : Form) (h : ℕ) (s : List ℕ) → form_of h ≡ f → h < 256 → OpenAs f (holding_by f (get_or s 0 0)) h s → Opened h s
unfolding contents_of length_right fault_in own_of
opened_by f h s e l w =
    let k = holding_by f (get_or s 0 0) in
    let i = open_by k h s in
    let q : item_of h s ≡ i = item_as f h s e in
    let a : i.header ≡ h = open_header k h s in
    let b : form_of i.header ≡ f = ap form_of a ∙ e in
    let c : held_as i ≡ k = holding_of_lem f i b ∙ w.kept in
    let d : contents_of i ≡ s = rw c w.contents in
    record {
      header = rw q a;
      contents = rw q d;
      held = rw q (record { octet = rw a l; octets = w.octets; own = rw c (open_own k h s) });
      length_right_holds = rw (q, c) (w.fits d);
      faultless = rw (q, c) w.faultless;
    }

-- what is sound opens to an allowed parameter with the same contents
pub opened : (h : ℕ) (s : List ℕ) → h < 256 → every is_octet s ≡ true → pli_right h ≡ true → length_fits (extent_of h) s ≡ true
    → fault_of h s ≡ Sound → Opened h s
unfolding fault_of
opened h s b o p l g =
    let t = then_sound (clear (zeroes_of h) (get_or s 0 0)) (fault_by (form_of h) s) g in
    opened_by (form_of h) h s refl b (opens_by (form_of h) h s o (row_fits_lem h b p) l t.0 t.1 g)

-- ---- from a parameter to its contents

pub record Closed (i : Item) : Type 0 where
  pub fits : length_fits (extent_of i.header) (contents_of i) ≡ true
  pub sound : fault_of i.header (contents_of i) ≡ Sound
  pub opens : item_of i.header (contents_of i) ≡ i
  pub octets : every is_octet (contents_of i) ≡ true

-- the same by the form f of the header and the holding k
record CloseAs (f : Form) (k : Holding) (i : Item) : Type 0 where
  kept : holding_by f (get_or (contents_by k i) 0 0) ≡ k
  fits : length_fits (extent_of i.header) (contents_by k i) ≡ true
  sound : fault_of i.header (contents_by k i) ≡ Sound
  opens : open_by k i.header (contents_by k i) ≡ own_by k i
  octets : every is_octet (contents_by k i) ≡ true

-- no fault by the header's row
sound_by : (f : Form) (h : ℕ) (s : List ℕ) → form_of h ≡ f → clear (zeroes_of h) (get_or s 0 0) ≡ true → fault_by f s ≡ Sound
    → fault_of h s ≡ Sound
unfolding fault_of
sound_by f h s e c g = rw (c, e) g

-- held as its contents, whatever is checked of them; and as a number
close_plain : (f : Form) (i : Item) → holding_by f (get_or i.values 0 0) ≡ AsContents → every is_octet i.values ≡ true
    → length_fits (extent_of i.header) i.values ≡ true → fault_of i.header i.values ≡ Sound → CloseAs f AsContents i
close_plain f i k o l g = record { kept = k; fits = l; sound = g; opens = refl; octets = o }

close_number : (w : Bool) (f : Form) (i : Item) → form_of i.header ≡ f → ((x : ℕ) → holding_by f x ≡ AsNumber w)
    → eqb (zeroes_of i.header) 0 ≡ true → length_fits (extent_of i.header) (number_contents i i.values) ≡ true
    → NumberClosed i i.values → fault_by f (number_contents i i.values) ≡ Sound → CloseAs f (AsNumber w) i
close_number w f i e k z l n g =
    let s = number_contents i i.values in
    record {
      kept = k (get_or s 0 0);
      fits = l;
      sound = sound_by f i.header s e (none_asked (zeroes_of i.header) (get_or s 0 0) z) g;
      opens = rw n.digits n.opens;
      octets = n.octets;
    }

-- a first value taken off and put back
first_put : (x : ℕ) (vs : List ℕ) → get_or vs 0 0 ≡ suc x → suc x ∷ drop 1 vs ≡ vs
first_put x [] e = absurd (omega arith)
first_put x (v ∷ vs) e = ap (λ y. y ∷ vs) (sym e)

-- DA, by its first value
close_generic : (v : Bool) (i : Item) → eqb (get_or i.values 0 0) added_calling_number ≡ v → form_of i.header ≡ Generic
    → eqb (zeroes_of i.header) 0 ≡ true → every is_octet i.values ≡ true
    → length_fits (extent_of i.header) (contents_by (cond v AsGeneric AsContents) i) ≡ true
    → fault_as (cond v AsGeneric AsContents) i ≡ Sound → CloseAs Generic (cond v AsGeneric AsContents) i
unfolding generic_fault
close_generic true i e f z o l g =
    let ds = drop 1 i.values in
    let s = contents_by AsGeneric i in
    let w = sound_values (fields_right i) ds g in
    let n = number_closed i ds w.0 w.1 in
    record {
      kept = refl;
      fits = l;
      sound =
          sound_by Generic i.header s f (none_asked (zeroes_of i.header) added_calling_number z)
          (rw (ne_eqb (suc (suc (suc (length (packed Numbered ds))))) 0 (λ q. omega arith)) (n.sound 1));
      opens = rw (n.digits, first_put 5 i.values (eqb-true (get_or i.values 0 0) added_calling_number e)) n.opens;
      octets = n.octets;
    }
close_generic false i e f z o l g = close_plain Generic i (rw e) o l g

length_generic : (v : Bool) (i : Item) → length_by (cond v AsGeneric AsContents) i ≡ length_fits (extent_of i.header) (contents_of i)
length_generic true i = refl
length_generic false i = refl

-- each form; what is held as its contents needs to know nothing of its check
closes_by : (f : Form) (i : Item) → form_of i.header ≡ f → row_fits f (zeroes_of i.header) (extent_of i.header) ≡ true
    → every is_octet i.values ≡ true → contents_of i ≡ contents_by (holding_by f (get_or i.values 0 0)) i
    → length_by (holding_by f (get_or i.values 0 0)) i ≡ true → fault_as (holding_by f (get_or i.values 0 0)) i ≡ Sound
    → CloseAs f (holding_by f (get_or i.values 0 0)) i
closes_by (Checked x) i e t o c l g = close_plain (Checked x) i refl o (rw c at l) g
closes_by (Digits m) i e t o c l g =
    let r = digits_row m (zeroes_of i.header) (extent_of i.header) t in
    let v = sound_values (marks_right m i) i.values g in
    let w = counted_closed m i l v.0 v.1 in
    record {
      kept = refl;
      fits = rw r.0 w.fits;
      sound = sound_by (Digits m) i.header (contents_by (AsDigits m) i) e (rw r.1 w.clears) w.sound;
      opens = w.opens;
      octets = w.octets;
    }
closes_by Number i e t o c l g =
    let v = sound_values (number_right false i) i.values g in
    let n = number_closed i i.values (and_left (fields_right i) _ v.0) v.1 in
    close_number false Number i e (λ x. refl) t (rw c at l) n (n.sound 0)
closes_by Calling i e t o c l g =
    let v = sound_values (number_right true i) i.values g in
    let r₁ = and_left (fields_right i) _ v.0 in
    let r₂ = and_right (fields_right i) (cond (eqb i.presentation 2) (withheld_right i) true) v.0 in
    close_number true Calling i e (λ x. refl) t (rw c at l) (number_closed i i.values r₁ v.1) (calling_closed i r₁ r₂ v.1)
closes_by Generic i e t o c l g =
    let v = eqb (get_or i.values 0 0) added_calling_number in
    close_generic v i refl e t o (rw (length_generic v i, c) at l) g

closed_by : (f : Form) (i : Item) → form_of i.header ≡ f → own_of i ≡ i → CloseAs f (holding_by f (get_or i.values 0 0)) i → Closed i
unfolding own_of contents_of
closed_by f i e w a =
    let h = i.header in
    let k = holding_by f (get_or i.values 0 0) in
    let s = contents_by k i in
    let b : held_as i ≡ k = holding_of_lem f i e in
    let c : contents_of i ≡ s = rw b in
    let own : own_by k i ≡ i = rw b at w in
    let opens : item_of h s ≡ i = item_as f h s e ∙ rw a.kept a.opens ∙ own in
    record {
      fits = rw c a.fits;
      sound = rw c a.sound;
      opens = rw c opens;
      octets = rw c a.octets;
    }

-- what is allowed is sound and reads back
pub closed : (i : Item) → HeldItem i → pli_right i.header ≡ true → length_right i ≡ true → fault_in i ≡ Sound → Closed i
unfolding length_right fault_in contents_of holding_of
closed i w p l g =
    let h = i.header in
    closed_by (form_of h) i refl w.own
    (closes_by (form_of h) i refl (row_fits_lem h w.octet p) w.octets refl l g)
