-- Where C5 and a transfer parameter of it stand in an allowed record, laid out: right behind what is laid out before them. Finding gives
-- those places.
use Rattle.std.specs.Prelude.{ℕ, zero, suc, ◌+◌, ◌-◌, ◌≤◌, ◌<◌, ◌≡◌, refl, Bool, true, false, cond, ◌||◌, eqb, leb, ltb, drop}
use Rattle.std.proofs.Common.{arith, sym, ◌∙◌, eqb-true, eq-eqb, ltb-true, ltb-false, le-ltb, length-append}
use Rattle.std.proofs.Math.Nat.{add-zero, zero-add}
use Rattle.std.proofs.Math.Path.{ap}
use mathlib.Core.List.{List, [], ◌∷◌, ◌++◌, append-nil}
use Rattle.std.proofs.Math.ListN.{length}
use Rattle.annex.specs.Answers.{given_of, start_of, Accepted, Found, At, Nowhere}
use Rattle.annex.specs.Units.{name_of, lead_of, extent_of, common_extent_of}
use Rattle.annex.specs.Heads.{among, end_mark, transfer_data, often_of, kth}
use Rattle.annex.specs.Items.{Item, Part, contents_of, data_part}
use Rattle.annex.specs.Layout.{led_by, layout_item, layout_items, layout_part, layout}
use Rattle.annex.specs.Allowed.{every, Each, times_in, is_octet, items_in, headers_of, names_of, part_names_of, Allowed}
use Rattle.annex.specs.Walk.{Par}
use Rattle.annex.specs.Reading.{verdict_of, transfers_of, record_of}
use Rattle.annex.specs.Finding.{stretch_of, common_in, common_found, transfer_in, transfer_among, transfer_found, found_answer}
use Rattle.laws.specs.Bools.{same_turned}
use Rattle.laws.specs.Often.{some_often}
use Rattle.theorems.specs.Lists.{each_right, times_rest}
use Rattle.theorems.specs.Counts.{names_in}
use Rattle.theorems.specs.Transfers.{item_par, item_pars, transfers_built}
use Rattle.theorems.specs.Steps.{not_end}
use Rattle.theorems.specs.Commons.{AllowedPart, part_par}
use Rattle.theorems.specs.Records.{Once, Plain, plain_none, allowed_items, allowed_parts, allowed_once}
use Rattle.theorems.specs.Named.{passed_over, choose}
use Rattle.theorems.specs.Parted.{Parted, one_data, Others, no_header, layout_parts}
use Rattle.theorems.specs.Messages.{read_then_laid}
use Rattle.theorems.specs.Layouts.{part_pars, laid_then_listed}

-- ---- the parts, from the place `at` on

same_at : (s e s' e' : ℕ) → s ≡ s' → e ≡ e' → At s e ≡ At s' e'
same_at s e s' e' p q = cc

-- a part takes as many octets as it is laid out to
part_length : (p : Part) → length (layout_part p) ≡ 1 + length (drop 1 (layout_part p))
unfolding layout_part
part_length p = omega arith

-- a part, and those ahead, are passed over
behind_part : (at : ℕ) (p : Part) (ahead : List Part)
    → at + 1 + length (part_par at p).own + length (layout_parts ahead) ≡ at + length (layout_parts (p ∷ ahead))
unfolding layout_parts
behind_part at p ahead = simp length-append (omega (arith, part_length p))

common_behind : (h : ℕ) (ahead : List Part) (r : List Part) (at : ℕ) → Others h ahead
    → common_in h (part_pars at (ahead ++ r)) ≡ common_in h (part_pars (at + length (layout_parts ahead)) r)
unfolding part_pars common_in
common_behind h [] r at p = unfold layout_parts in rw add-zero
common_behind h (q ∷ ahead) r at p =
    rw (p.0, ← behind_part at q ahead) (common_behind h ahead r (at + 1 + length (part_par at q).own) p.1)

among_behind : (x which : ℕ) (ahead : List Part) (r : List Part) (at : ℕ) → Each Plain ahead
    → transfer_among x which (part_pars at (ahead ++ r)) ≡ transfer_among x which (part_pars (at + length (layout_parts ahead)) r)
unfolding part_pars transfer_among
among_behind x which [] r at p = unfold layout_parts in rw add-zero
among_behind x which (q ∷ ahead) r at p =
    rw (p.0, ← behind_part at q ahead) (among_behind x which ahead r (at + 1 + length (part_par at q).own) p.1)

-- at the one with the header, and at C5
common_here : (q : Part) (behind : List Part) (at : ℕ)
    → common_in q.header (part_pars at (q ∷ behind)) ≡ At (at + 1 + lead_of (common_extent_of q.header)) (at + length (layout_part q))
unfolding part_pars common_in
common_here q behind at =
    rw (eq-eqb q.header q.header refl) (same_at _ _ _ _ (omega arith) (omega (arith, part_length q)))

data_here : (is : List Item) (behind : List Part) (at : ℕ)
    → common_in transfer_data (part_pars at (data_part is ∷ behind)) ≡ At (at + 2) (at + 2 + length (layout_items is))
unfolding layout_part lead_of common_extent_of
data_here is behind at = common_here (data_part is) behind at ∙ same_at _ _ _ _ (omega arith) (omega arith)

among_here : (x which : ℕ) (is : List Item) (behind : List Part) (at : ℕ)
    → transfer_among x which (part_pars at (data_part is ∷ behind)) ≡ transfer_in x which (at + 2) (transfers_of (layout_items is))
unfolding part_pars transfer_among layout_part lead_of common_extent_of
among_here x which is behind at = refl

-- at the end mark
among_end : (x which at : ℕ) → transfer_among x which (part_pars at []) ≡ Nowhere
unfolding part_pars transfer_among
among_end x which at = refl

-- ---- the transfer parameters, from the place p on

item-length : (i : Item) → length (layout_item i) ≡ 1 + length (led_by (extent_of i.header) (contents_of i))
unfolding layout_item
item-length i = omega arith

-- behind as many of its name as stand in front
transfer_here : (x s : ℕ) (one : Item) (front back : List Item) (p : ℕ) → name_of one.header ≡ x
    → transfer_in x (times_in x (names_of front)) s (item_pars p (front ++ (one ∷ back)))
    ≡ At (s + p + length (layout_items front) + 1 + lead_of (extent_of one.header))
    (s + p + length (layout_items front) + length (layout_item one))
unfolding item_pars transfer_in layout_items
transfer_here x s one [] back p n = rw (eq-eqb x _ (sym n)) (same_at _ _ _ _ (omega arith) (omega (arith, item-length one)))
transfer_here x s one (i ∷ front) back p n =
    let p' = p + 1 + length (item_par p i).own in
    let l : length (layout_item i ++ layout_items front) ≡ 1 + length (item_par p i).own + length (layout_items front) =
    simp length-append (omega (arith, item-length i)) in
    passed_over (eqb x (name_of i.header)) (times_in x (names_of front)) _ (λ w. transfer_in x w s (item_pars p' (front ++ (one ∷ back))))
    ∙ transfer_here x s one front back p' n
    ∙ same_at _ _ _ _ (omega arith) (omega arith)

-- the same, of the list
items_behind : (front rest : List Item) (p : ℕ)
    → item_pars p (front ++ rest) ≡ item_pars p front ++ item_pars (p + length (layout_items front)) rest
unfolding item_pars layout_items
items_behind [] rest p = rw add-zero
items_behind (i ∷ front) rest p =
    let p' = p + 1 + length (item_par p i).own in
    let l : p' + length (layout_items front) ≡ p + length (layout_item i ++ layout_items front) =
    simp length-append (omega (arith, item-length i)) in
    ap (λ (qs : List Par). item_par p i ∷ qs) (items_behind front rest p' ∙ ap (λ (k : ℕ). item_pars p' front ++ item_pars k rest) l)

pub pars_named : (is : List Item) (p : ℕ) → names_in (item_pars p is) ≡ names_of is
unfolding item_pars
pars_named [] p = refl
pars_named (i ∷ is) p = ap (λ (l : List ℕ). name_of i.header ∷ l) (pars_named is (p + 1 + length (item_par p i).own))

-- where no more than so many have the name
transfer_nowhere : (x which s : ℕ) (is : List Item) (p : ℕ) → times_in x (names_of is) ≤ which
    → transfer_in x which s (item_pars p is) ≡ Nowhere
unfolding item_pars transfer_in
transfer_nowhere x which s [] p l = refl
transfer_nowhere x which s (i ∷ is) p l =
    go (eqb x (name_of i.header)) which (λ w. transfer_nowhere x w s is (p + 1 + length (item_par p i).own)) l
  where
    rest : List Par
    rest = item_pars (p + 1 + length (item_par p i).own) is

    go : (b : Bool) (v : ℕ) → ((w : ℕ) → times_in x (names_of is) ≤ w → transfer_in x w s rest ≡ Nowhere)
        → cond b (suc (times_in x (names_of is))) (times_in x (names_of is)) ≤ v
        → cond b (kth v (stretch_of (extent_of i.header) s (item_par p i)) (λ w. transfer_in x w s rest)) (transfer_in x v s rest) ≡ Nowhere
    go true zero ih h = absurd (omega arith)
    go true (suc w) ih h = ih w (omega arith)
    go false w ih h = ih w h

-- ---- in an allowed record, laid out

-- a name that may stand once stands in one part alone
named_there : (q : Part) (ahead behind : List Part) → 0 < times_in (name_of q.header) (part_names_of (ahead ++ (q ∷ behind)))
named_there q [] behind = rw (eq-eqb (name_of q.header) (name_of q.header) refl) (omega arith)
named_there q (p ∷ ahead) behind =
    let x = name_of q.header in
    omega (arith, named_there q ahead behind, times_rest x (name_of p.header) (part_names_of (ahead ++ (q ∷ behind))))

others : (q : Part) (ahead behind : List Part) → Once (ahead ++ (q ∷ behind)) → Others q.header ahead
others q [] behind o = tt
others q (p ∷ ahead) behind o = (go (eqb p.header q.header) refl, others q ahead behind rest)
  where
    xs : List ℕ
    xs = part_names_of (ahead ++ (q ∷ behind))

    rest : Once (ahead ++ (q ∷ behind))
    rest u = omega (arith, o u, times_rest u (name_of p.header) xs)

    go : (b : Bool) → eqb p.header q.header ≡ b → b ≡ false
    go true e =
        let same : name_of q.header ≡ name_of p.header = rw (eqb-true p.header q.header e) in
        let twice = rw (eq-eqb (name_of q.header) (name_of p.header) same) at (o (name_of q.header)) in
        absurd (omega (arith, twice, named_there q ahead behind))
    go false e = refl

-- a common parameter, in front of which these stand
pub common_found_lem : (r : List Part) → Allowed r → (ahead : List Part) (q : Part) (behind : List Part) → r ≡ ahead ++ (q ∷ behind)
    → common_found q.header (layout r)
    ≡ At (length (layout_parts ahead) + 1 + lead_of (common_extent_of q.header)) (length (layout_parts ahead) + length (layout_part q))
unfolding common_found
common_found_lem r a ahead q behind w =
    let part = (each_right AllowedPart ahead (q ∷ behind) (rw w at (allowed_parts r a))).0 in
    rw (not_end q.header part.listed, laid_then_listed r a)
    (ap (λ (s : List Part). common_in q.header (part_pars 0 s)) w
    ∙ common_behind q.header ahead (q ∷ behind) 0 (others q ahead behind (rw w at (allowed_once r a)))
    ∙ rw zero-add (common_here q behind (length (layout_parts ahead))))

module _ (r : List Part) (a : Allowed r) (d : Parted r) where
  pub data_found : common_found transfer_data (layout r)
      ≡ At (length (layout_parts d.ahead) + 2) (length (layout_parts d.ahead) + 2 + length (layout_items (items_in r)))
  unfolding common_found
  data_found =
      rw (laid_then_listed r a)
      (ap (λ (s : List Part). common_in transfer_data (part_pars 0 s)) d.whole
      ∙ common_behind transfer_data d.ahead (data_part (items_in r) ∷ d.behind) 0 d.plain_ahead
      ∙ rw zero-add (data_here (items_in r) d.behind (length (layout_parts d.ahead))))

  transfers_found : (x which : ℕ)
      → transfer_found x which (layout r) ≡ transfer_in x which (length (layout_parts d.ahead) + 2) (item_pars 0 (items_in r))
  unfolding transfer_found
  transfers_found x which =
      rw (laid_then_listed r a, ← (transfers_built (items_in r) (allowed_items r a)).listed)
      (ap (λ (s : List Part). transfer_among x which (part_pars 0 s)) d.whole
      ∙ among_behind x which d.ahead (data_part (items_in r) ∷ d.behind) 0 d.plain_ahead
      ∙ rw zero-add (among_here x which (items_in r) d.behind (length (layout_parts d.ahead))))

  -- one of a name, in front of which these stand
  pub transfer_found_lem : (x which : ℕ) (front : List Item) (one : Item) (back : List Item) → items_in r ≡ front ++ (one ∷ back)
      → name_of one.header ≡ x → times_in x (names_of front) ≡ which
      → transfer_found x which (layout r)
      ≡ At (length (layout_parts d.ahead) + 2 + length (layout_items front) + 1 + lead_of (extent_of one.header))
      (length (layout_parts d.ahead) + 2 + length (layout_items front) + length (layout_item one))
  transfer_found_lem x which front one back w n b =
      let s = length (layout_parts d.ahead) + 2 in
      transfers_found x which
      ∙ ap (λ (is : List Item). transfer_in x which s (item_pars 0 is)) w
      ∙ ap (λ (k : ℕ). transfer_in x k s (item_pars 0 (front ++ (one ∷ back)))) (sym b)
      ∙ rw add-zero at (transfer_here x s one front back 0 n)

  -- and what is listed of the transfer data
  pub transfer_listed : (front : List Item) (one : Item) (back : List Item) → items_in r ≡ front ++ (one ∷ back)
      → transfers_of (layout_items (items_in r))
      ≡ item_pars 0 front
      ++ (item_par (length (layout_items front)) one ∷ item_pars (length (layout_items front) + 1 + length (item_par 0 one).own) back)
  unfolding item_pars
  transfer_listed front one back w =
      (transfers_built (items_in r) (allowed_items r a)).listed ∙ ap (item_pars 0) w ∙ rw zero-add at (items_behind front (one ∷ back) 0)

  transfer_absent : (x which : ℕ) → times_in x (names_of (items_in r)) ≤ which → transfer_found x which (layout r) ≡ Nowhere
  transfer_absent x which l = transfers_found x which ∙ transfer_nowhere x which (length (layout_parts d.ahead) + 2) (items_in r) 0 l

-- ---- what is found is there

module _ (r : List Part) (a : Allowed r) (p : Each Plain r) where
  no_transfer_found : (x which : ℕ) → transfer_found x which (layout r) ≡ Nowhere
  unfolding transfer_found
  no_transfer_found x which =
      rw (laid_then_listed r a) (rw append-nil at (among_behind x which r [] 0 p) ∙ among_end x which (0 + length (layout_parts r)))

-- a common parameter that the record does not have
common_nowhere : (h : ℕ) (r : List Part) → Allowed r → Others h r → eqb end_mark h ≡ false → common_found h (layout r) ≡ Nowhere
unfolding common_found part_pars common_in
common_nowhere h r a o e =
    let turned : eqb h end_mark ≡ false = same_turned h end_mark ∙ e in
    rw (turned, laid_then_listed r a) (rw append-nil at (common_behind h r [] 0 o) ∙ rw e)

abbrev pub is_found : Found → Bool
is_found (At s e) = true
is_found Nowhere = false

-- what the second question accepts was found, where it says
pub found_at : (f : Found) (k : ℕ) → found_answer f ≡ Accepted k → (is_found f ≡ true) × (start_of f ≡ k)
found_at (At s e) k p = (refl, ap given_of p)
found_at Nowhere k p = absurd (let z : ◌≡◌ {A = ℕ} 0 1 = cc in omega arith)

-- a header that stands in a record stands in one of its parts
pub record Holds (h : ℕ) (r : List Part) : Type 0 where
  pub ahead : List Part
  pub one : Part
  pub behind : List Part
  pub whole : r ≡ ahead ++ (one ∷ behind)
  pub headed : one.header ≡ h

pub holds : (h : ℕ) (r : List Part) → among h (headers_of r) ≡ true → Holds h r
holds h [] m = absurd (let z : ◌≡◌ {A = ℕ} 0 1 = cc in omega arith)
holds h (p ∷ r) m = go (eqb h p.header) refl m (holds h r)
  where
    go : (b : Bool) → eqb h p.header ≡ b → b || among h (headers_of r) ≡ true → (among h (headers_of r) ≡ true → Holds h r)
        → Holds h (p ∷ r)
    go true e t f = record { ahead = []; one = p; behind = r; whole = refl; headed = sym (eqb-true h p.header e) }
    go false e t f =
        let w = f t in
        record { ahead = p ∷ w.ahead; one = w.one; behind = w.behind; whole = ap (λ s. p ∷ s) w.whole; headed = w.headed }

pub common_is : (h : ℕ) (r : List Part) → Allowed r → eqb end_mark h ≡ false
    → is_found (common_found h (layout r)) ≡ among h (headers_of r)
common_is h r a n = go (among h (headers_of r)) refl
  where
    go : (b : Bool) → among h (headers_of r) ≡ b → is_found (common_found h (layout r)) ≡ b
    go true e = let w = holds h r e in rw (← w.headed, common_found_lem r a w.ahead w.one w.behind w.whole)
    go false e = rw (common_nowhere h r a (no_header h r e) n)

pub name_is : (x which : ℕ) (r : List Part) → Allowed r
    → is_found (transfer_found x which (layout r)) ≡ ltb which (times_in x (names_of (items_in r)))
name_is x which r a = go (among transfer_data (headers_of r)) refl
  where
    times : ℕ
    times = times_in x (names_of (items_in r))

    by : Parted r → (b : Bool) → ltb which times ≡ b → is_found (transfer_found x which (layout r)) ≡ b
    by d true e =
        let c = choose x which (items_in r) (ltb-true which times e) in
        rw (transfer_found_lem r a d x which c.front c.one c.back c.whole c.named c.before)
    by d false e = rw (transfer_absent r a d x which (ltb-false which times e))

    go : (b : Bool) → among transfer_data (headers_of r) ≡ b → is_found (transfer_found x which (layout r)) ≡ ltb which times
    go true e = by (one_data r a e) (ltb which times) refl
    go false e =
        let plain = no_header transfer_data r e in
        rw (no_transfer_found r a plain x which, plain_none r a.held plain, le-ltb which 0 (omega arith))

-- of an accepted message
pub data_there : (m : List ℕ) → every is_octet m ≡ true → (n : ℕ) → verdict_of m ≡ Accepted n
    → is_found (common_found transfer_data m) ≡ among transfer_data (headers_of (record_of m))
data_there m o n e = let w = read_then_laid m o n e in rw w.2 at (common_is transfer_data (record_of m) w.1 refl)

pub name_there : (x which : ℕ) (m : List ℕ) → every is_octet m ≡ true → (n : ℕ) → verdict_of m ≡ Accepted n
    → is_found (transfer_found x which m) ≡ ltb which (times_in x (names_of (items_in (record_of m))))
name_there x which m o n e = let w = read_then_laid m o n e in rw w.2 at (name_is x which (record_of m) w.1)

-- and that a name may not stand once more: the last that may stand is there
pub often_there : (x : ℕ) (m : List ℕ) → every is_octet m ≡ true → (n : ℕ) → verdict_of m ≡ Accepted n
    → is_found (transfer_found x (often_of x - 1) m) ≡ leb (often_of x) (times_in x (names_of (items_in (record_of m))))
often_there x m o n e =
    let l : suc (often_of x - 1) ≡ often_of x = omega (arith, some_often x) in
    name_there x (often_of x - 1) m o n e ∙ ap (λ (k : ℕ). leb k (times_in x (names_of (items_in (record_of m))))) l
