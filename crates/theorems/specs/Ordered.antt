-- Connection orders (E0): what is sound opens to an order that the tables allow and that lays out to it; an order that they allow, laid
-- out, is sound and opens to itself, and has at most four parameters. And the rows of a message's order: the stretches that they name, laid
-- end to end, are E0's contents, and they are at most five.
use Rattle.std.specs.Prelude.{ℕ, zero, suc, ◌+◌, ◌-◌, ◌≤◌, ◌≡◌, refl, Bool, true, false, not, ◌&&◌, ◌||◌, List, [], ◌∷◌, ◌++◌, map, ◌↔◌, eqb, leb, length, get_or, take, drop}
use Rattle.std.proofs.Common.{arith, sym, ap, ◌∙◌, append_assoc, eqb-true, eq-eqb, leb-true, le-leb, length-append, take-append-drop, length-take-le, drop-drop, get_or-take}
use Rattle.std.proofs.lemmas.List.{length-map}
use Rattle.std.proofs.Math.Seq.{drop-nil, take-append_seam, drop-append_seam}
use Rattle.annex.specs.Answers.{and_then, is_sound, start_of, stop_of, Accepted, Sound}
use Rattle.annex.specs.Heads.{among, connection_order, zeroes_of, form_of}
use Rattle.annex.specs.Orders.{
  order_forms,
  order_headers,
  layout_of,
  may_stand,
  order_after,
  order_size,
  layout_fault,
  ordered,
  own_fault,
  parameter_fault,
  parameters_fault,
  order_fault,
  OrderParameter,
  OpenedOrder,
  lay_parameters,
  lay_order,
  parameter_right,
  once,
  order_right,
  order_parameter,
  all_right,
  headers_in,
}
use Rattle.annex.specs.Contents.{fault_of}
use Rattle.annex.specs.Items.{Item, contents_of}
use Rattle.annex.specs.Allowed.{every, is_octet}
use Rattle.annex.specs.Walk.{pars}
use Rattle.annex.specs.Walking.{no_row}
use Rattle.annex.specs.Reading.{verdict_of}
use Rattle.annex.specs.Finding.{find_answer, find_part}
use Rattle.annex.specs.Opened.{
  opened_order,
  form_row,
  parameter_row,
  order_listing,
  order_found,
  order_rows_of,
  order_answer,
  parameter_of,
  most_order_rows,
}
use Rattle.annex.specs.declared.Check.TheVariants.{Order}
use Rattle.annex.specs.declared.Row.{Row}
use Rattle.laws.specs.Bools.{and_left, and_right, and_both, same_turned}
use Rattle.laws.specs.Faults.{then_sound, then_both, is_sound_lem}
use Rattle.laws.specs.Offsets.{layout_alike}
use Rattle.laws.specs.Orders.{after_some, in_order, parameters_skip, size_own, stands_listed, few_stand}
use Rattle.laws.specs.Headers.{none_asked}
use Rattle.laws.specs.Leaves.{as_they_are}
use Rattle.laws.specs.Members.{sum_of, once_few}
use Rattle.laws.specs.Plain.{pars_head}
use Rattle.laws.specs.Rows.{par_at}
use Rattle.laws.specs.Steps.{then_passed, told_passed, told_roomy}
use Rattle.theorems.specs.Transfers.{AllowedItem}
use Rattle.theorems.specs.Headed.{found_held}

-- ---- what is asked of the parameters together

-- an order that the tables allow: its form is listed, each parameter is right, and each header stands once
record Ordered (o : OpenedOrder) : Type 0 where
  listed : among o.form order_forms ≡ true
  right : all_right o.form o.parameters ≡ true
  apart : once (headers_in o.parameters) ≡ true

-- that is what the definition tests
order_tested : (o : OpenedOrder) → order_right o ≡ true → Ordered o
unfolding order_right
order_tested o e =
    let listed = among o.form order_forms in
    let right = all_right o.form o.parameters in
    let apart = once (headers_in o.parameters) in
    let rest = and_right listed (right && apart) e in
    record { listed = and_left listed (right && apart) e; right = and_left right apart rest; apart = and_right right apart rest }

order_passes : (o : OpenedOrder) → Ordered o → order_right o ≡ true
unfolding order_right
order_passes o w = rw (w.listed, w.right, w.apart)

-- headers as they come from left to right: each is none of those before it
abbrev fresh : List ℕ → List ℕ → Bool
fresh before [] = true
fresh before (h ∷ hs) = not (among h before) && fresh (h ∷ before) hs

-- none of them is among those before
abbrev others : List ℕ → List ℕ → Bool
others before hs = every (λ h. not (among h before)) hs

-- one more before them
others_more : (h : ℕ) (before hs : List ℕ) → others (h ∷ before) hs ≡ not (among h hs) && others before hs
others_more h before [] = refl
others_more h before (x ∷ xs) =
    rw (others_more h before xs, same_turned x h) (by (eqb h x) (among x before) (among h xs) (others before xs))
  where
    by : (e a n b : Bool) → not (e || a) && (not n && b) ≡ not (e || n) && (not a && b)
    by true a n b = refl
    by false true true b = refl
    by false true false b = refl
    by false false true b = refl
    by false false false b = refl

-- so they are where none is among those before and each stands once; and where there are none before, where each stands once
fresh_once : (before hs : List ℕ) → fresh before hs ≡ others before hs && once hs
fresh_once before [] = refl
fresh_once before (h ∷ hs) =
    rw (fresh_once (h ∷ before) hs, others_more h before hs)
    (by (not (among h before)) (not (among h hs)) (others before hs) (once hs))
  where
    by : (a n b c : Bool) → a && ((n && b) && c) ≡ (a && b) && (n && c)
    by false n b c = refl
    by true true b c = refl
    by true false true c = refl
    by true false false c = refl

none_before : (hs : List ℕ) → fresh [] hs ≡ once hs
none_before hs = rw (fresh_once [] hs, by hs)
  where
    by : (l : List ℕ) → others [] l ≡ true
    by [] = refl
    by (x ∷ xs) = by xs

-- ---- from octets

-- a parameter in which nothing is wrong, the octets xs behind its header
record Stands (form : ℕ) (before : List ℕ) (h : ℕ) (xs : List ℕ) : Type 0 where
  whole : order_size h xs ≤ length xs
  new : not (among h before) ≡ true
  right : parameter_right form (order_parameter h (take (order_size h xs) xs)) ≡ true

stands : (form : ℕ) (before : List ℕ) (at h : ℕ) (xs : List ℕ) → parameter_fault form before at h xs ≡ Sound → Stands form before h xs
unfolding parameter_fault own_fault
stands form before at h xs e =
    let l = layout_of h in
    let n = order_size h xs in
    let own = take n xs in
    let new = not (among h before) in
    let p = then_both (ordered (may_stand form h && new)) (own_fault l at xs) e in
    let t = in_order (may_stand form h && new) p.0 in
    let q = then_sound (leb n (length xs)) (layout_fault l at own) p.1 in
    let w = leb-true n (length xs) q.0 in
    let first : get_or own 0 0 ≡ get_or xs 0 0 = get_or-take n xs 0 0 (after_some l (get_or xs 0 0)) in
    let all : length own ≡ order_after l (get_or own 0 0) = rw first (length-take-le n xs w) in
    let long = eq-eqb (length own) (order_after l (get_or own 0 0)) all in
    let sound : is_sound (layout_fault l 0 own) ≡ true = layout_alike l 0 at own ∙ ap is_sound q.1 in
    record { whole = w; new = and_right (may_stand form h) new t; right = rw (and_left (may_stand form h) new t, long, sound) }

-- the parameters behind k octets that still belong to another
abbrev opened_from : ℕ → ℕ → List ℕ → List OrderParameter
opened_from k p xs = map parameter_of (pars order_size k p xs)

-- what is sound behind them: it is the parameters laid out, each is right, and none has a header of those before
record Kept (form : ℕ) (before : List ℕ) (k p : ℕ) (xs : List ℕ) : Type 0 where
  laid : lay_parameters (opened_from k p xs) ≡ drop k xs
  right : all_right form (opened_from k p xs) ≡ true
  apart : fresh before (headers_in (opened_from k p xs)) ≡ true

kept : (xs : List ℕ) (form : ℕ) (before : List ℕ) (k at p : ℕ) → k ≤ length xs → parameters_fault form before k at xs ≡ Sound
    → Kept form before k p xs
unfolding parameters_fault pars lay_parameters
kept [] form before k at p l e = record { laid = sym (drop-nil k); right = refl; apart = refl }
kept (x ∷ xs) form before (suc k) at p l e =
    let w = kept xs form before k (at + 1) (p + 1) (omega arith) e in
    record { laid = w.laid; right = w.right; apart = w.apart }
kept (x ∷ xs) form before zero at p l e =
    let n = order_size x xs in
    let b = then_both (parameter_fault form before (at + 1) x xs) (parameters_fault form (x ∷ before) n (at + 1) xs) e in
    let t = stands form before (at + 1) x xs b.0 in
    let w = kept xs form (x ∷ before) n (at + 1) (p + 1) t.whole b.1 in
    let c = le-leb n (length xs) t.whole in
    record {
      laid = rw (c, w.laid) (ap (λ (s : List ℕ). x ∷ s) (take-append-drop n xs));
      right = rw (c, t.right) w.right;
      apart = rw (c, t.new) w.apart;
    }

-- ---- from parameters

-- what a right parameter keeps
record Fits (form : ℕ) (p : OrderParameter) : Type 0 where
  stands : may_stand form p.header ≡ true
  long : length p.own ≡ order_after (layout_of p.header) (get_or p.own 0 0)
  sound : (at : ℕ) → layout_fault (layout_of p.header) at p.own ≡ Sound

fits : (form : ℕ) (p : OrderParameter) → parameter_right form p ≡ true → Fits form p
fits form p e =
    let l = layout_of p.header in
    let n = order_after l (get_or p.own 0 0) in
    let long = eqb (length p.own) n in
    let sound = is_sound (layout_fault l 0 p.own) in
    let rest = and_right (may_stand form p.header) (long && sound) e in
    record {
      stands = and_left (may_stand form p.header) (long && sound) e;
      long = eqb-true (length p.own) n (and_left long sound rest);
      sound = λ at. is_sound_lem (layout_fault l at p.own) (layout_alike l at 0 p.own ∙ and_right long sound rest);
    }

-- right parameters, laid out behind others, are sound, and are the parameters of their octets
sound_from : (ps : List OrderParameter) (form : ℕ) (before : List ℕ) (at : ℕ) → all_right form ps ≡ true
    → fresh before (headers_in ps) ≡ true → parameters_fault form before 0 at (lay_parameters ps) ≡ Sound
unfolding parameters_fault parameter_fault own_fault lay_parameters
sound_from [] form before at r a = refl
sound_from (p ∷ ps) form before at r a =
    let h = p.header in
    let own = p.own in
    let rest = lay_parameters ps in
    let new = not (among h before) in
    let behind = fresh (h ∷ before) (headers_in ps) in
    let t = fits form p (and_left (parameter_right form p) (all_right form ps) r) in
    let n = size_own h own rest t.long in
    let w = le-leb (length own) (length (own ++ rest)) (rw length-append (omega arith)) in
    let ih =
    sound_from ps form (h ∷ before) (at + 1 + length own) (and_right (parameter_right form p) (all_right form ps) r)
    (and_right new behind a) in
    rw (t.stands, and_left new behind a, n, take-append_seam own rest, w, t.sound (at + 1))
    (parameters_skip form (h ∷ before) (length own) (at + 1) (own ++ rest) ∙ rw (drop-append_seam own rest) ih)

-- octets that start with a right parameter: it, and the parameters of the octets behind it
pars_right : (form : ℕ) (q : OrderParameter) (rest : List ℕ) (p : ℕ) → parameter_right form q ≡ true
    → pars order_size 0 p (q.header ∷ (q.own ++ rest))
    ≡ par_at p q.header q.own ∷ pars order_size 0 (p + 1 + length q.own) rest
pars_right form q rest p r =
    let h = q.header in
    let own = q.own in
    let told = sym (size_own h own rest (fits form q r).long) in
    let first = pars_head order_size p h (length own) (own ++ rest) told (rw length-append (omega arith)) in
    rw (first, take-append_seam own rest, drop-append_seam own rest)

opens_from : (ps : List OrderParameter) (form p : ℕ) → all_right form ps ≡ true → opened_from 0 p (lay_parameters ps) ≡ ps
unfolding pars lay_parameters
opens_from [] form p r = refl
opens_from (q ∷ ps) form p r =
    let first = pars_right form q (lay_parameters ps) p (and_left (parameter_right form q) (all_right form ps) r) in
    let ih = opens_from ps form (p + 1 + length q.own) (and_right (parameter_right form q) (all_right form ps) r) in
    rw first (ap (λ (l : List OrderParameter). q ∷ l) ih)

-- ---- the contents

-- what is sound opens to an order that the tables allow, and that lays out to it
pub sound_ordered : (s : List ℕ) → order_fault s ≡ Sound → (lay_order (opened_order s) ≡ s) × (order_right (opened_order s) ≡ true)
unfolding order_fault
sound_ordered [] e = absurd (let z : ◌≡◌ {A = ℕ} 0 1 = cc in omega arith)
sound_ordered (form ∷ xs) e =
    let b = then_both (ordered (among form order_forms)) (parameters_fault form [] 0 1 xs) e in
    let w = kept xs form [] 0 1 1 (omega arith) b.1 in (
      ap (λ (l : List ℕ). form ∷ l) w.laid,
      order_passes (opened_order (form ∷ xs))
          (record {
            listed = in_order (among form order_forms) b.0;
            right = w.right;
            apart = sym (none_before (headers_in (opened_from 0 1 xs))) ∙ w.apart;
          }),
    )

-- an order that the tables allow, laid out, is sound, and opens to itself
pub ordered_sound : (o : OpenedOrder) → order_right o ≡ true → (order_fault (lay_order o) ≡ Sound) × (opened_order (lay_order o) ≡ o)
unfolding order_fault
ordered_sound o e =
    let ps = o.parameters in
    let w = order_tested o e in (
      rw w.listed (sound_from ps o.form [] 1 w.right (none_before (headers_in ps) ∙ w.apart)),
      ap (λ (l : List OrderParameter). record { form = o.form; parameters = l }) (opens_from ps o.form 1 w.right),
    )

-- so contents are sound exactly if some order that the tables allow lays out to them, and it is the one that they open to, and no other
pub record Says (s : List ℕ) : Type 0 where
  pub sound : (order_fault s ≡ Sound) ↔ ((o : OpenedOrder) × (order_right o ≡ true) × (lay_order o ≡ s))
  pub only : (o : OpenedOrder) → order_right o ≡ true → lay_order o ≡ s → opened_order s ≡ o

pub says : (s : List ℕ) → Says s
says s =
    record {
      sound = (
        λ e. let t = sound_ordered s e in (opened_order s, t.1, t.0),
        λ w. rw w.2 at (ordered_sound w.0 w.1).0,
      );
      only = λ o r e. ap opened_order (sym e) ∙ (ordered_sound o r).1;
    }

-- ---- how many parameters an order has

-- each header may stand under the form
all_stand : (form : ℕ) (ps : List OrderParameter) → all_right form ps ≡ true → every (may_stand form) (headers_in ps) ≡ true
all_stand form [] r = refl
all_stand form (p ∷ ps) r =
    let t = fits form p (and_left (parameter_right form p) (all_right form ps) r) in
    let rest = all_stand form ps (and_right (parameter_right form p) (all_right form ps) r) in
    and_both (may_stand form p.header) _ t.stands rest

-- at most four, for under no form may more headers stand
pub parameters_few : (o : OpenedOrder) → order_right o ≡ true → length o.parameters ≤ 4
parameters_few o e =
    let ps = o.parameters in
    let form = o.form in
    let w = order_tested o e in
    let few = once_few (may_stand form) order_headers (stands_listed form) (headers_in ps) w.apart (all_stand form ps w.right) in
    omega (arith, length-map ps (λ p. p.header), few_stand form w.listed)

-- ---- in a message

-- what is wrong with its contents is what is wrong with an order
pub order_asked : (t : List ℕ) → fault_of connection_order t ≡ order_fault t
unfolding fault_of form_of zeroes_of
order_asked t = rw (none_asked 0 (get_or t 0 0) refl)

-- in a record it is sound, and held as its contents
pub item_ordered : (i : Item) → AllowedItem i → i.header ≡ connection_order → (contents_of i ≡ i.values) × (order_fault i.values ≡ Sound)
unfolding form_of
item_ordered i a h =
    let t = as_they_are Order i (rw h) in
    (t.contents, sym (order_asked i.values) ∙ rw h at (sym t.fault ∙ a.faultless))

-- so it is in an accepted message
found_order : (m : List ℕ) → every is_octet m ≡ true → (n : ℕ) → find_answer m (order_found m) ≡ Accepted n
    → order_fault (find_part m (order_found m)) ≡ Sound
unfolding form_of
found_order m o n e =
    sym (order_asked (find_part m (order_found m))) ∙ (found_held connection_order Order refl refl 0 m o n e).faultless

-- ---- the rows of an order

-- the rows of an order whose contents start at p: one to its form, and one to each parameter
unfoldable pub told_parameters : ℕ → List OrderParameter → List Row
told_parameters p [] = []
told_parameters p (q ∷ qs) =
    record { offset = p; header = q.header; len = length q.own } ∷ told_parameters (p + 1 + length q.own) qs

abbrev pub told_rows : ℕ → OpenedOrder → List Row
told_rows p o = form_row p o.form ∷ told_parameters (p + 1) o.parameters

-- they are the rows of the contents that it lays out to
parameters_listed : (ps : List OrderParameter) (form s k p : ℕ) → all_right form ps ≡ true → s + k ≡ p
    → map (parameter_row s) (pars order_size 0 k (lay_parameters ps)) ≡ told_parameters p ps
unfolding pars lay_parameters told_parameters
parameters_listed [] form s k p r e = refl
parameters_listed (q ∷ ps) form s k p r e =
    let n = length q.own in
    let first = pars_right form q (lay_parameters ps) k (and_left (parameter_right form q) (all_right form ps) r) in
    let others = and_right (parameter_right form q) (all_right form ps) r in
    rw (first, e, parameters_listed ps form s (k + 1 + n) (p + 1 + n) others (omega arith))

pub order_listed_lem : (o : OpenedOrder) → order_right o ≡ true → (p : ℕ) → order_listing p (lay_order o) ≡ told_rows p o
unfolding order_listing
order_listed_lem o e p = rw (parameters_listed o.parameters o.form p 1 (p + 1) (order_tested o e).right refl)

-- as many as it has parameters, and one
parameters_counted : (p : ℕ) (ps : List OrderParameter) → length (told_parameters p ps) ≡ length ps
unfolding told_parameters
parameters_counted p [] = refl
parameters_counted p (q ∷ ps) = ap suc (parameters_counted (p + 1 + length q.own) ps)

pub order_counted : (p : ℕ) (o : OpenedOrder) → length (told_rows p o) ≡ 1 + length o.parameters
order_counted p o = omega (arith, parameters_counted (p + 1) o.parameters)

-- ---- what they add up to

-- the octets that a row tells: its header, and those behind it
abbrev pub octets_told : Row → ℕ
octets_told r = 1 + r.len

-- the stretches of m that rows name, each from its offset on, laid end to end
abbrev pub stretches_of : List ℕ → List Row → List ℕ
stretches_of m [] = []
stretches_of m (r ∷ rs) = take (octets_told r) (drop r.offset m) ++ stretches_of m rs

-- the first row starts at p, and each other one where the stretch of the one before it ends
abbrev pub Following : ℕ → List Row → Type 0
Following p [] = Unit {0}
Following p (r ∷ rs) = (r.offset ≡ p) × Following (p + octets_told r) rs

-- of the parameters: the octets add up, and each row follows the one before it
parameters_sum : (p : ℕ) (ps : List OrderParameter) → sum_of octets_told (told_parameters p ps) ≡ length (lay_parameters ps)
unfolding told_parameters lay_parameters
parameters_sum p [] = refl
parameters_sum p (q ∷ ps) = simp length-append (omega (arith, parameters_sum (p + 1 + length q.own) ps))

parameters_follow : (p k : ℕ) (ps : List OrderParameter) → k ≡ p → Following k (told_parameters p ps)
unfolding told_parameters
parameters_follow p k [] e = tt
parameters_follow p k (q ∷ ps) e = (sym e, parameters_follow (p + 1 + length q.own) (k + (1 + length q.own)) ps (omega arith))

-- where a header and its own octets stand in m, before others
stretch_there : (m : List ℕ) (p h : ℕ) (own others : List ℕ) → drop p m ≡ h ∷ (own ++ others)
    → (take (1 + length own) (drop p m) ≡ h ∷ own) × (drop (p + 1 + length own) m ≡ others)
stretch_there m p h own others e =
    let n : 1 + length own ≡ suc (length own) = omega arith in
    let k : p + 1 + length own ≡ p + suc (length own) = omega arith in (
      rw (e, n, take-append_seam own others),
      rw (k, ← drop-drop (suc (length own)) p m, e) (drop-append_seam own others),
    )

-- so the stretches of the rows of an order that stands there are the order laid out
parameters_stretch : (m : List ℕ) (p : ℕ) (ps : List OrderParameter) (rest : List ℕ) → drop p m ≡ lay_parameters ps ++ rest
    → stretches_of m (told_parameters p ps) ≡ lay_parameters ps
unfolding told_parameters lay_parameters
parameters_stretch m p [] rest e = refl
parameters_stretch m p (q ∷ ps) rest e =
    let t = stretch_there m p q.header q.own (lay_parameters ps ++ rest) (rw append_assoc at e) in
    rw (t.0, parameters_stretch m (p + 1 + length q.own) ps rest t.1)

order_stretches : (m : List ℕ) (p : ℕ) (o : OpenedOrder) (rest : List ℕ) → drop p m ≡ lay_order o ++ rest
    → stretches_of m (told_rows p o) ≡ lay_order o
order_stretches m p o rest e =
    let t = stretch_there m p o.form [] (lay_parameters o.parameters ++ rest) e in
    let k : p + 1 + 0 ≡ p + 1 = omega arith in
    rw (t.0, parameters_stretch m (p + 1) o.parameters rest (rw k at t.1))

-- ---- of the rows of an accepted message

-- the order that E0's contents say
abbrev order_in : List ℕ → OpenedOrder
order_in m = opened_order (find_part m (order_found m))

-- it lays out to them, the tables allow it, and the rows are its own
record Said (m : List ℕ) : Type 0 where
  laid : lay_order (order_in m) ≡ find_part m (order_found m)
  right : order_right (order_in m) ≡ true
  rows : order_rows_of m ≡ told_rows (start_of (order_found m)) (order_in m)

-- so it is where E0 is found in an accepted message
said_there : (m : List ℕ) → every is_octet m ≡ true → (k : ℕ) → find_answer m (order_found m) ≡ Accepted k → Said m
unfolding order_rows_of
said_there m o k e =
    let s = start_of (order_found m) in
    let t = sound_ordered (find_part m (order_found m)) (found_order m o k e) in
    record { laid = t.0; right = t.1; rows = ap (order_listing s) (sym t.0) ∙ order_listed_lem (order_in m) t.1 s }

-- their stretches, one behind the other, are E0's contents, and so their octets add up to them; there are as many as the answer tells; and
-- the first is the form's, with no octets behind it, where the contents start
pub record AddUp (m : List ℕ) (n : ℕ) : Type 0 where
  pub stretches : stretches_of m (order_rows_of m) ≡ find_part m (order_found m)
  pub follow : Following (start_of (order_found m)) (order_rows_of m)
  pub sum : sum_of octets_told (order_rows_of m) ≡ length (find_part m (order_found m))
  pub count : n ≡ length (order_rows_of m)
  pub first : get_or (order_rows_of m) 0 no_row ≡ form_row (start_of (order_found m)) (get_or (find_part m (order_found m)) 0 0)

-- what an accepted order has passed
pub order_given : (m : List ℕ) (room n : ℕ) → order_answer m room ≡ Accepted n
    → (k : ℕ) × (find_answer m (order_found m) ≡ Accepted k) × (n ≡ length (order_rows_of m)) × (n ≤ room)
unfolding order_answer
order_given m room n e = told_passed (find_answer m (order_found m)) room (length (order_rows_of m)) n e

pub rows_add_up : (m : List ℕ) → every is_octet m ≡ true → (room n : ℕ) → order_answer m room ≡ Accepted n → AddUp m n
rows_add_up m o room n e =
    let g = order_given m room n e in
    let v = then_passed (verdict_of m) _ g.0 g.1 in
    let f = order_found m in
    let s = start_of f in
    let part = find_part m f in
    let t = said_there m o g.0 g.1 in
    let said = order_in m in
    let there : part ≡ take (stop_of f - s) (drop s m) = rw v.1 in
    let rest = drop (stop_of f - s) (drop s m) in
    let whole : drop s m ≡ lay_order said ++ rest =
    sym (take-append-drop (stop_of f - s) (drop s m)) ∙ ap (λ (l : List ℕ). l ++ rest) (sym (t.laid ∙ there)) in
    record {
      stretches = rw t.rows (order_stretches m s said rest whole ∙ t.laid);
      follow = rw t.rows (refl, parameters_follow (s + 1) (s + (1 + 0)) said.parameters (omega arith));
      sum = rw t.rows (omega (arith, parameters_sum (s + 1) said.parameters, ap length t.laid));
      count = g.2;
      first = rw t.rows refl;
    }

-- at most five: the form's, and one to each parameter
listed_few : (m : List ℕ) → every is_octet m ≡ true → (k : ℕ) → find_answer m (order_found m) ≡ Accepted k
    → length (order_rows_of m) ≤ most_order_rows
listed_few m o k e =
    let t = said_there m o k e in
    rw t.rows (omega (arith, order_counted (start_of (order_found m)) (order_in m), parameters_few (order_in m) t.right))

-- so the answer tells no more
pub order_rows_few : (m : List ℕ) → every is_octet m ≡ true → (room n : ℕ) → order_answer m room ≡ Accepted n → n ≤ most_order_rows
order_rows_few m o room n e =
    let g = order_given m room n e in
    omega (arith, listed_few m o g.0 g.1)

-- and with room for five it is never 15: where E0 is found, it is the row count
pub order_roomy : (m : List ℕ) → every is_octet m ≡ true → (room : ℕ) → most_order_rows ≤ room
    → order_answer m room ≡ and_then (find_answer m (order_found m)) (λ _. Accepted (length (order_rows_of m)))
unfolding order_answer
order_roomy m o room l = told_roomy (find_answer m (order_found m)) room _ (λ k e. omega (arith, listed_few m o k e))
