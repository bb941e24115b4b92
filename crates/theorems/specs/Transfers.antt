-- Transfer data: what is accepted opens to allowed parameters that lay out to it, and allowed parameters lay out to what is accepted and
-- opens to them.
use Rattle.std.specs.Prelude.{ℕ, ◌+◌, ◌≤◌, ◌<◌, ◌≡◌, refl, true, List, [], ◌∷◌, map, length}
use Rattle.std.proofs.Common.{arith, ap, ◌∙◌, ltb-true, lt-ltb}
use Rattle.annex.specs.Units.{name_of, lead_of, extent_of, contents_in}
use Rattle.annex.specs.Heads.{name_used, pli_right, often_of, most_transfer_octets}
use Rattle.annex.specs.Items.{Item, contents_of}
use Rattle.annex.specs.Layout.{led_by, layout_item, layout_items}
use Rattle.annex.specs.Allowed.{every, Each, times_in, is_octet, length_right, fault_in, HeldItem, names_of}
use Rattle.annex.specs.Walk.{Seen, unseen, times_seen, counted, Par, walk, judging, listing}
use Rattle.annex.specs.Reading.{transfer_step, transfers_verdict, transfers_of, open_transfer, transfers_verdict_by, transfers_by}
use Rattle.annex.specs.Answers.{Accepted, Sound}
use Rattle.annex.specs.Contents.{fault_of}
use Rattle.laws.specs.Bools.{and_left, and_right, and_both}
use Rattle.laws.specs.Steps.{transfer_taken}
use Rattle.laws.specs.Leaves.{opened, closed}
use Rattle.theorems.specs.Lists.{every_append, every_left, every_right, every_drop, each_so, each_map}
use Rattle.theorems.specs.Lengths.{cut, lead}
use Rattle.theorems.specs.Trails.{laid_out, Trail, walked, built, made_list, made_answer}
use Rattle.theorems.specs.Counts.{names_in, Full, full_unseen, full_counted, none_seen, Sparing, sparing_first, sparing_rest, sparing_trail}
use Rattle.theorems.specs.Steps.{TransferOwn, transfer_own, transfer_accepts}

-- one allowed transfer parameter
pub record AllowedItem (i : Item) : Type 0 where
  pub held : HeldItem i
  pub used : name_used i.header ≡ true
  pub pli : pli_right i.header ≡ true
  pub length_right_holds : length_right i ≡ true
  pub faultless : fault_in i ≡ Sound

-- the parameters of transfer data
pub record AllowedItems (is : List Item) : Type 0 where
  pub each : Each AllowedItem is
  pub often : (u : ℕ) → times_in u (names_of is) ≤ often_of u
  pub few_octets : length (layout_items is) ≤ most_transfer_octets

-- ---- from octets

-- a parameter that was read, and what it opens to
pub record ItemRead (q : Par) : Type 0 where
  pub header : (open_transfer q).header ≡ q.head
  pub laid : layout_item (open_transfer q) ≡ q.head ∷ q.own
  pub allowed : AllowedItem (open_transfer q)

pub items_laid : (qs : List Par) → Each ItemRead qs → layout_items (map open_transfer qs) ≡ laid_out qs
unfolding layout_items laid_out
items_laid [] e = refl
items_laid (q ∷ qs) e = rw (e.0.laid, items_laid qs e.1)

pub items_named : (qs : List Par) → Each ItemRead qs → names_of (map open_transfer qs) ≡ names_in qs
items_named [] e = refl
items_named (q ∷ qs) e = rw (e.0.header, items_named qs e.1)

abbrev fewer : (seen : Seen) (h : ℕ) (xs : List ℕ) (n : ℕ) → transfer_step seen h xs ≡ Accepted n → times_seen seen h < often_of (name_of h)
fewer seen h xs n e = (transfer_taken fault_of (times_seen seen h) h xs n e).often

within : (seen : Seen) (h : ℕ) (xs : List ℕ) (n : ℕ) → transfer_step seen h xs ≡ Accepted n → n ≤ length xs
within seen h xs n e = (transfer_taken fault_of (times_seen seen h) h xs n e).within

pub none_often : Sparing often_of unseen []
none_often u = omega (arith, none_seen u)

pub record TransfersRead (t : List ℕ) (j : ℕ) : Type 0 where
  pub length-given : j ≡ length t
  pub laid : layout_items (map open_transfer (transfers_of t)) ≡ t
  pub items : AllowedItems (map open_transfer (transfers_of t))

-- octets that stand as a parameter open to an allowed one that lays out to them
pub item_read : (q : Par) (times : ℕ) → q.head < 256 → every is_octet q.own ≡ true → TransferOwn times q.head q.own → ItemRead q
unfolding layout_item
item_read q times small o t =
    let h = q.head in
    let c = cut (extent_of h) q.own t.long o in
    let s = contents_in (extent_of h) q.own in
    let w = opened h s small (every_drop is_octet (lead_of (extent_of h)) q.own o) t.pli c.fits t.sound in
    record {
      header = w.header;
      laid = rw (w.contents, w.header, c.led);
      allowed =
          record {
            held = w.held;
            used = rw w.header t.used;
            pli = rw w.header t.pli;
            length_right_holds = w.length_right_holds;
            faultless = w.faultless;
          };
    }

each_read : (qs : List Par) (seen : Seen) (p : ℕ) → Trail transfer_step seen p qs → every is_octet (laid_out qs) ≡ true → Each ItemRead qs
unfolding laid_out
each_read [] seen p t o = tt
each_read (q ∷ qs) seen p t o =
    let h = q.head in
    let small = ltb-true h 256 (and_left (is_octet h) _ o) in
    let after = and_right (is_octet h) _ o in (
      item_read q (times_seen seen h) small (every_left is_octet q.own _ after) (transfer_own _ h q.own _ t.1),
      each_read qs (counted seen h) _ t.2 (every_right is_octet q.own _ after),
    )

pub transfers_read : (t : List ℕ) (j : ℕ) → every is_octet t ≡ true → length t ≤ most_transfer_octets → transfers_verdict t ≡ Accepted j
    → TransfersRead t j
unfolding transfers_verdict_by transfers_by
transfers_read t j o l e =
    let qs = walk (listing transfer_step) unseen 0 0 t in
    let w = walked transfer_step (λ seen p. Accepted p) within t unseen 0 0 j (omega arith) e in
    let r = each_read qs unseen 0 w.trail (rw w.whole o) in
    let laid = items_laid qs r ∙ w.whole in
    let end = w.closes in
    let same : 0 + length t ≡ j = cc in
    let sparing = sparing_trail often_of transfer_step fewer qs unseen 0 full_unseen none_often w.trail in
    record {
      length-given = omega arith;
      laid = laid;
      items =
          record {
            each = each_map ItemRead AllowedItem open_transfer (λ q i. i.allowed) qs r;
            often = λ u. rw (items_named qs r) (omega (arith, sparing u, none_seen u));
            few_octets = rw laid l;
          };
    }

-- ---- and back

-- the parameters as they stand from the place p on
abbrev pub item_par : ℕ → Item → Par
item_par p i = record { place = p; head = i.header; own = led_by (extent_of i.header) (contents_of i) }

unfoldable pub item_pars : ℕ → List Item → List Par
item_pars p [] = []
item_pars p (i ∷ is) = item_par p i ∷ item_pars (p + 1 + length (item_par p i).own) is

pub pars_laid : (is : List Item) (p : ℕ) → laid_out (item_pars p is) ≡ layout_items is
unfolding laid_out item_pars layout_items layout_item
pars_laid [] p = refl
pars_laid (i ∷ is) p = rw (pars_laid is (p + 1 + length (item_par p i).own))

-- a parameter that was laid out
record ItemBuilt (i : Item) : Type 0 where
  own : (times : ℕ) → times < often_of (name_of i.header) → TransferOwn times i.header (led_by (extent_of i.header) (contents_of i))
  opens : (p : ℕ) → open_transfer (item_par p i) ≡ i
  octets : every is_octet (layout_item i) ≡ true

each_octets : (is : List Item) → Each ItemBuilt is → every is_octet (layout_items is) ≡ true
unfolding layout_items
each_octets [] b = refl
each_octets (i ∷ is) b = every_append is_octet (layout_item i) (layout_items is) b.0.octets (each_octets is b.1)

each_opens : (is : List Item) (p : ℕ) → Each ItemBuilt is → map open_transfer (item_pars p is) ≡ is
unfolding item_pars
each_opens [] p b = refl
each_opens (i ∷ is) p b =
    let one : open_transfer (item_par p i) ≡ i = b.0.opens p in
    let rest = each_opens is (p + 1 + length (item_par p i).own) b.1 in
    cc

each_trail : (is : List Item) (seen : Seen) (p : ℕ) → Each ItemBuilt is → Full seen → Sparing often_of seen (names_of is)
    → Trail transfer_step seen p (item_pars p is)
unfolding item_pars
each_trail [] seen p b f s = tt
each_trail (i ∷ is) seen p b f s =
    let h = i.header in (
      refl,
      transfer_accepts (times_seen seen h) h _ _ (b.0.own (times_seen seen h) (sparing_first often_of seen h f (names_of is) s)),
      each_trail is (counted seen h) _ b.1 (full_counted seen h f) (sparing_rest often_of seen h f (names_of is) s),
    )

pub record TransfersBuilt (is : List Item) : Type 0 where
  pub verdict : transfers_verdict (layout_items is) ≡ Accepted (length (layout_items is))
  pub listed : transfers_of (layout_items is) ≡ item_pars 0 is
  pub opens : map open_transfer (transfers_of (layout_items is)) ≡ is
  pub octets : every is_octet (layout_items is) ≡ true

item_built : (i : Item) → AllowedItem i → ItemBuilt i
unfolding layout_item
item_built i a =
    let h = i.header in
    let c = closed i a.held a.pli a.length_right_holds a.faultless in
    let l = lead (extent_of h) (contents_of i) c.fits c.octets in
    record {
      own = λ times f. record { used = a.used; pli = a.pli; fewer = f; long = l.long; sound = rw l.contents c.sound };
      opens = λ p. rw l.contents c.opens;
      octets = and_both (is_octet h) _ (lt-ltb h 256 a.held.octet) l.octets;
    }

pub transfers_built : (is : List Item) → AllowedItems is → TransfersBuilt is
unfolding transfers_verdict_by transfers_by
transfers_built is a =
    let b = each_so AllowedItem ItemBuilt item_built is a.each in
    let qs = item_pars 0 is in
    let s : Sparing often_of unseen (names_of is) = λ u. omega (arith, none_seen u, a.often u) in
    let t = each_trail is unseen 0 b full_unseen s in
    let end : 0 + length (layout_items is) ≡ length (layout_items is) = omega arith in
    let listed = rw (pars_laid is 0) at (built (listing transfer_step) qs unseen 0 t ∙ made_list transfer_step qs unseen 0) in
    record {
      verdict =
          rw (← end, ← pars_laid is 0)
          (built (judging transfer_step (λ seen p. Accepted p)) qs unseen 0 t ∙ made_answer transfer_step (λ seen p. Accepted p) qs unseen 0);
      listed = listed;
      opens = ap (map open_transfer) listed ∙ each_opens is 0 b;
      octets = each_octets is b;
    }
