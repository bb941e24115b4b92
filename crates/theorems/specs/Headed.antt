-- A parameter whose name stands at most once: what is asked of those that have the name is asked of that one, and in an allowed record,
-- laid out, it is the one that finding finds. Here of transfer parameters held as their contents, and of the signal kind.
use Prim.Native.Nat.{ℕ, ◌≤◌, ◌<◌}
use Rattle.std.proofs.Common.{arith, ◌∙◌, append-nil, eqb-true, eq-eqb, ltb-true, ltb-false}
use Rattle.std.specs.Prelude.{◌≡◌, Bool, true, false, cond, not, ◌&&◌, ◌||◌, List, [], ◌∷◌, ◌++◌, map, eqb, ltb, get_or}
use Rattle.std.proofs.Math.Path.{refl, sym, ap}
use Rattle.std.proofs.Math.Bool.{or-false}
use Rattle.annex.specs.Units.{name_of}
use Rattle.annex.specs.Heads.{among, signal_kind, heads, is_free, pli_right, often_of, form_of}
use Rattle.annex.specs.Contents.{fault_of}
use Rattle.annex.specs.Items.{Item, Part, plain_item, holding_of, contents_of, own_of}
use Rattle.annex.specs.Layout.{layout}
use Rattle.annex.specs.Allowed.{every, is_octet, times_in, items_in, names_of, Allowed}
use Rattle.annex.specs.Reading.{verdict_of, record_of}
use Rattle.annex.specs.Finding.{common_found, transfer_found, find_answer, find_part}
use Rattle.annex.specs.Profile.{data_enquiry, some, is_enquiry, is_headed, values_under}
use Rattle.annex.specs.Answers.{Accepted, Sound, Found, At, Nowhere}
use Rattle.annex.specs.declared.Check.{Check}
use Rattle.annex.specs.declared.Form.TheVariants.{Checked}
use Rattle.laws.specs.Bools.{and_left, and_right}
use Rattle.laws.specs.Leaves.{as_they_are}
use Rattle.laws.specs.Members.{among_every}
use Rattle.laws.specs.Steps.{then_passed}
use Rattle.theorems.specs.Lists.{times_here, times_rest}
use Rattle.theorems.specs.Records.{allowed_items, item_allowed, allowed_once}
use Rattle.theorems.specs.Messages.{read_then_laid}
use Rattle.theorems.specs.Layouts.{laid_then_read}
use Rattle.theorems.specs.Named.{choose}
use Rattle.theorems.specs.Places.{is_found, holds, name_is, name_there, found_at}
use Rattle.theorems.specs.Finds.{transfer_contents, common_contents}

-- ---- a test of those with a name

-- the test t passes only at the name x
module _ {A : Type 0} (name : A → ℕ) (x : ℕ) (t : A → Bool) (only : (a : A) → t a ≡ true → name a ≡ x) where
  -- where none has the name
  pub some_none : (xs : List A) → times_in x (map name xs) ≡ 0 → some t xs ≡ false
  some_none [] z = refl
  some_none (a ∷ xs) z = go (t a) refl (some_none xs (omega (arith, times_rest x (name a) (map name xs))))
    where
      go : (b : Bool) → t a ≡ b → some t xs ≡ false → b || some t xs ≡ false
      go true e f = absurd (omega (arith, rw (only a e) at z, times_here x (map name xs)))
      go false e f = f

  there : (front : List A) (a : A) (back : List A) → name a ≡ x → 0 < times_in x (map name (front ++ (a ∷ back)))
  there [] a back n = rw n (omega (arith, times_here x (map name back)))
  there (c ∷ front) a back n =
      omega (arith, there front a back n, times_rest x (name c) (map name (front ++ (a ∷ back))))

  -- where one has it, and it stands once
  pub some_one : (front : List A) (a : A) (back : List A) → name a ≡ x → times_in x (map name (front ++ (a ∷ back))) ≤ 1
      → some t (front ++ (a ∷ back)) ≡ t a
  some_one [] a back n l =
      let none = some_none back (omega (arith, rw n at l, times_here x (map name back))) in
      rw none (or-false (t a))
  some_one (c ∷ front) a back n l =
      go (t c) refl (some_one front a back n (omega (arith, times_rest x (name c) (map name (front ++ (a ∷ back))))))
    where
      go : (b : Bool) → t c ≡ b → some t (front ++ (a ∷ back)) ≡ t a → b || some t (front ++ (a ∷ back)) ≡ t a
      go true e f =
          absurd (omega (arith, rw (only c e) at l, times_here x (map name (front ++ (a ∷ back))), there front a back n))
      go false e f = f

-- a test that fails only there
pub every_some : {A : Type 0} (t : A → Bool) (xs : List A) → every t xs ≡ not (some (λ a. not (t a)) xs)
every_some t [] = refl
every_some t (a ∷ xs) = go (t a) (every_some t xs)
  where
    go : (b : Bool) → every t xs ≡ not (some (λ a. not (t a)) xs) → b && every t xs ≡ not (not b || some (λ a. not (t a)) xs)
    go true e = e
    go false e = refl

-- ---- a header that alone has its name

abbrev pub named_alone : ℕ → Bool
named_alone h = not (is_free h) && every (λ k. not (eqb (name_of k) (name_of h)) || eqb k h) (map (λ r. r.header) heads)

pub named_alone_lem : (h : ℕ) → named_alone h ≡ true → (k : ℕ) → pli_right k ≡ true → name_of k ≡ name_of h → k ≡ h
unfolding pli_right
named_alone_lem h e k p n = go (is_free h) refl (rw n at p)
  where
    headers : List ℕ
    headers = map (λ r. r.header) heads

    one : ℕ → Bool
    one k = not (eqb (name_of k) (name_of h)) || eqb k h

    go : (b : Bool) → is_free h ≡ b → b || among k headers ≡ true → k ≡ h
    go true f q = absurd (let z = rw f at (and_left (not (is_free h)) _ e) in let w : ◌≡◌ {A = ℕ} 0 1 = cc in omega arith)
    go false f q =
        let t = among_every one headers (and_right (not (is_free h)) _ e) k q in
        eqb-true k h (rw (n, eq-eqb (name_of h) (name_of h) refl) at t)

-- in an accepted message the contents that finding finds under it, where they are held as they are, are those of a parameter of its record,
-- and nothing is wrong with them
pub record FoundHeld (h which : ℕ) (m : List ℕ) : Type 0 where
  pub front : List Item
  pub one : Item
  pub back : List Item
  pub whole : items_in (record_of m) ≡ front ++ (one ∷ back)
  pub headed : one.header ≡ h
  pub held : contents_of one ≡ find_part m (transfer_found (name_of h) which m)
  pub faultless : fault_of h (find_part m (transfer_found (name_of h) which m)) ≡ Sound

pub found_held : (h : ℕ) (c : Check) → form_of h ≡ Checked c → named_alone h ≡ true → (which : ℕ) (m : List ℕ) → every is_octet m ≡ true
    → (n : ℕ) → find_answer m (transfer_found (name_of h) which m) ≡ Accepted n → FoundHeld h which m
found_held h c form alone which m o n e =
    let x = name_of h in
    let v = then_passed (verdict_of m) _ n e in
    let w = read_then_laid m o v.0 v.1 in
    let r = record_of m in
    let there = sym (name_there x which m o v.0 v.1) ∙ (found_at (transfer_found x which m) n v.2).0 in
    let d = choose x which (items_in r) (ltb-true which (times_in x (names_of (items_in r))) there) in
    let a = item_allowed r w.1 d.front d.one d.back d.whole in
    let head = named_alone_lem h alone d.one.header a.pli d.named in
    let t = as_they_are c d.one (rw head form) in
    let part =
    rw w.2 at (transfer_contents r w.1 x which d.front d.one d.back d.whole d.named d.before) in
    record {
      front = d.front;
      one = d.one;
      back = d.back;
      whole = d.whole;
      headed = head;
      held = sym part;
      faultless = rw (part, t.contents) (rw head at (sym t.fault ∙ a.faultless));
    }

-- ---- the transfer parameter with such a header, held as its contents

values_behind : (h : ℕ) (front rest : List Item) → some (is_headed h) front ≡ false
    → values_under h (front ++ rest) ≡ values_under h rest
unfolding values_under
values_behind h [] rest e = refl
values_behind h (i ∷ front) rest e = go (is_headed h i) e (values_behind h front rest)
  where
    go : (b : Bool) → b || some (is_headed h) front ≡ false
        → (some (is_headed h) front ≡ false → values_under h (front ++ rest) ≡ values_under h rest)
        → cond b i.values (values_under h (front ++ rest)) ≡ values_under h rest
    go true q f = absurd (let z : ◌≡◌ {A = ℕ} 0 1 = cc in omega arith)
    go false q f = f q

-- where finding finds it in a record, laid out, and what
abbrev pub found_in : ℕ → List Part → Found
found_in h r = transfer_found (name_of h) 0 (layout r)

abbrev pub part_in : ℕ → List Part → List ℕ
part_in h r = find_part (layout r) (found_in h r)

-- that is the parameter, and there is no other
record Single (h : ℕ) (r : List Part) : Type 0 where
  front : List Item
  back : List Item
  whole : items_in r ≡ front ++ (plain_item h (part_in h r) ∷ back)
  before : times_in (name_of h) (names_of front) ≡ 0
  once : times_in (name_of h) (names_of (items_in r)) ≤ 1

headed_named : (h : ℕ) (i : Item) → is_headed h i ≡ true → name_of i.header ≡ name_of h
headed_named h i e = ap name_of (eqb-true i.header h e)

pub nothing_found : (r : List Part) → Allowed r → (f : Found) → is_found f ≡ false → find_part (layout r) f ≡ []
nothing_found r a (At s e) z = absurd (let w : ◌≡◌ {A = ℕ} 0 1 = cc in omega arith)
nothing_found r a Nowhere z = rw (laid_then_read r a).0

module _ (h : ℕ) (c : Check) (form : form_of h ≡ Checked c) (alone : named_alone h ≡ true) (single : often_of (name_of h) ≡ 1)
    (r : List Part) (a : Allowed r) where
  one_single : 0 < times_in (name_of h) (names_of (items_in r)) → Single h r
  unfolding own_of holding_of
  one_single l =
      let x = name_of h in
      let d = choose x 0 (items_in r) l in
      let i = item_allowed r a d.front d.one d.back d.whole in
      let head = named_alone_lem h alone d.one.header i.pli d.named in
      let held = (as_they_are c d.one (rw head form)).contents in
      let same : part_in h r ≡ d.one.values =
      transfer_contents r a x 0 d.front d.one d.back d.whole d.named d.before ∙ held in
      let own : plain_item d.one.header d.one.values ≡ d.one = rw (head, form) at i.held.own in
      let one : d.one ≡ plain_item h (part_in h r) = sym own ∙ rw (head, same) in
      record {
        front = d.front;
        back = d.back;
        whole = d.whole ∙ ap (λ (i : Item). d.front ++ (i ∷ d.back)) one;
        before = d.before;
        once = rw single at ((allowed_items r a).often x);
      }

  -- so a test that passes only at the header passes exactly if it is found and passes there
  pub some_found : (t : Item → Bool) → ((i : Item) → t i ≡ true → is_headed h i ≡ true)
      → some t (items_in r) ≡ is_found (found_in h r) && t (plain_item h (part_in h r))
  some_found t only = rw (name_is (name_of h) 0 r a) (go (ltb 0 times) refl)
    where
      times : ℕ
      times = times_in (name_of h) (names_of (items_in r))

      named : (i : Item) → t i ≡ true → name_of i.header ≡ name_of h
      named i e = headed_named h i (only i e)

      go : (b : Bool) → ltb 0 times ≡ b → some t (items_in r) ≡ b && t (plain_item h (part_in h r))
      go true e =
          let s = one_single (ltb-true 0 times e) in
          rw s.whole
          (some_one (λ i. name_of i.header) (name_of h) t named s.front (plain_item h (part_in h r)) s.back refl
          (rw s.whole at s.once))
      go false e = some_none (λ i. name_of i.header) (name_of h) t named (items_in r) (omega (arith, ltb-false 0 times e))

  -- and its values are the contents that are found
  pub values_found : values_under h (items_in r) ≡ part_in h r
  unfolding values_under
  values_found = go (ltb 0 times) refl (name_is (name_of h) 0 r a)
    where
      times : ℕ
      times = times_in (name_of h) (names_of (items_in r))

      none : (is : List Item) → times_in (name_of h) (names_of is) ≡ 0 → some (is_headed h) is ≡ false
      none is z = some_none (λ i. name_of i.header) (name_of h) (is_headed h) (headed_named h) is z

      go : (b : Bool) → ltb 0 times ≡ b → is_found (found_in h r) ≡ ltb 0 times → values_under h (items_in r) ≡ part_in h r
      go true e f =
          let s = one_single (ltb-true 0 times e) in
          let skipped = values_behind h s.front (plain_item h (part_in h r) ∷ s.back) (none s.front s.before) in
          rw s.whole (skipped ∙ rw (eq-eqb h h refl))
      go false e f =
          let skipped = values_behind h (items_in r) [] (none (items_in r) (omega (arith, ltb-false 0 times e))) in
          rw append-nil at skipped ∙ sym (nothing_found r a (found_in h r) (f ∙ e))

-- ---- the signal kind

-- it stands once, so what finding finds is what it says
pub kind_found : (r : List Part) → Allowed r
    → some is_enquiry r ≡ eqb (get_or (find_part (layout r) (common_found signal_kind (layout r))) 0 0) data_enquiry
kind_found r a =
    let w = holds signal_kind r a.has_kind in
    let q = w.one in
    let name : Part → ℕ = λ p. name_of p.header in
    let named : (p : Part) → is_enquiry p ≡ true → name p ≡ name_of signal_kind =
    λ p e. ap name_of (eqb-true p.header signal_kind (and_left (eqb p.header signal_kind) _ e)) in
    let once = rw w.whole at (allowed_once r a (name_of signal_kind)) in
    let one = some_one name (name_of signal_kind) is_enquiry named w.ahead q w.behind (ap name_of w.headed) once in
    let part : find_part (layout r) (common_found signal_kind (layout r)) ≡ q.value ∷ [] =
    rw w.headed at (common_contents r a w.ahead q w.behind w.whole) in
    ap (some is_enquiry) w.whole ∙ one ∙ rw (part, w.headed)
