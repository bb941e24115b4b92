-- The steps of refusing a record, as the code takes them: each parameter is judged at place 0, and a common parameter without its transfer
-- parameters first.
use Rattle.std.specs.Prelude.{Err, ℕ, ◌+◌, ◌-◌, ◌≤◌, ◌≡◌, Bool, not, List, [], ◌∷◌, ltb, length}
use Rattle.std.proofs.Common.{arith, sym, ◌∙◌, length-append}
use Rattle.std.proofs.Math.Path.{refl, ap}
use Rattle.std.proofs.Math.Bool.{true, false, cond}
use borrow.Author.Tests.{ltb-false, eq-eqb, ne_eqb, eqb-true, eqb-false}
use Rattle.std.proofs.Math.Dec.{eqb, leb}
use Rattle.annex.specs.Answers.{unlisted, repeated, not_allowed, missing, bad_form, transfer_over, refuse, and_then, placed_at, Answer, Accepted, Refused}
use Rattle.annex.specs.declared.Refusal.{Refusal}
use Rattle.annex.specs.Heads.{among, common_headers, value_allowed, sequence, transfer_data, most_transfer_octets}
use Rattle.annex.specs.Items.{Item, Part}
use Rattle.annex.specs.Layout.{layout_items, layout_part}
use Rattle.annex.specs.Allowed.{value_right, value_fits}
use Rattle.annex.specs.Walk.{Seen, unseen, times_seen, counted}
use Rattle.annex.specs.Reading.{whole_in}
use Rattle.annex.specs.Records.{raw_part}
use Rattle.annex.specs.Writing.{item_writing, items_writing, data_writing, part_writing, end_writing, parts_writing}
use Rattle.annex.specs.declared.Common.{Common}
use Rattle.laws.specs.Bools.{cond_again}
use Rattle.laws.specs.Steps.{passed, then_passed, refuse_then}
use Rattle.laws.specs.Places.{told_at, refuse_told, item_told}
use Rattle.theorems.specs.Writings.{item_written}
use Rattle.limits.specs.Along.{part_from}
use Rattle.refusing.specs.Laying.{head_length, head_laid, plain_laid}

-- ---- an answer at place 0, told of the place p: a refusal as the code moves it, and an accepted length added

module _ (p : ℕ) where
  pub placed_err : (a : Answer) (r : Refusal) → placed_at p a ≡ Err r → told_at p a ≡ Err r
  placed_err (Accepted m) r e = cc
  placed_err (Err d) r e = e

  pub placed_ok : (a : Answer) (n : ℕ) → placed_at p a ≡ Accepted n → a ≡ Accepted n
  placed_ok (Accepted m) n e = e
  placed_ok (Err d) n e = cc

-- ---- a transfer parameter

-- a parameter with the header h, judged at place 0, first among those from the place p on
module _ (seen : Seen) (p h : ℕ) (i : Item) (is : List Item) (a : Answer) (same : i.header ≡ h)
    (e : item_writing (times_seen seen h) 0 i ≡ a) where
  told : items_writing seen p (i ∷ is) ≡ and_then (told_at p a) (λ q. items_writing (counted seen h) q is)
  unfolding items_writing
  told =
      ap (λ (x : ℕ). and_then (item_writing (times_seen seen x) p i) (λ q. items_writing (counted seen x) q is)) same
      ∙ ap (λ (x : Answer). and_then x (λ q. items_writing (counted seen h) q is)) (item_told (times_seen seen h) p i ∙ ap (told_at p) e)

  pub items_refused : (k z : ℕ) → a ≡ Refused k z → items_writing seen p (i ∷ is) ≡ Refused k p
  items_refused k z r = rw (told, r)

  pub items_placed : (r : Refusal) → placed_at p a ≡ Err r → items_writing seen p (i ∷ is) ≡ Err r
  items_placed r f = rw (told, placed_err p a r f)

  pub items_accepted : (n : ℕ) → a ≡ Accepted n → items_writing seen p (i ∷ is) ≡ items_writing (counted seen h) (p + n) is
  items_accepted n r = rw (told, r)

pub items_over : (seen : Seen) (p : ℕ) → items_writing seen p [] ≡ Accepted p
unfolding items_writing
items_over seen p = refl

-- the place behind accepted ones
pub items_behind : (is : List Item) (seen : Seen) (p n : ℕ) → items_writing seen p is ≡ Accepted n → n ≡ p + length (layout_items is)
unfolding items_writing layout_items
items_behind [] seen p n e = let same : p ≡ n = cc in omega arith
items_behind (i ∷ is) seen p n e =
    let k = i.header in
    let t = then_passed (item_writing (times_seen seen k) p i) (λ q. items_writing (counted seen k) q is) n e in
    let w = item_written (times_seen seen k) p i t.0 t.1 in
    simp length-append (omega (arith, w.behind, items_behind is (counted seen k) t.0 n t.2))

-- ---- a common parameter

module _ (c : Common) (is : List Item) where
  part_header : (part_from c is).header ≡ c.header
  part_header = go (eqb c.header transfer_data) refl
    where
      go : (b : Bool) → eqb c.header transfer_data ≡ b → (part_from c is).header ≡ c.header
      go true e = rw e
      go false e = rw e

  -- C5 has no value
  part_right : value_right (part_from c is) ≡ value_allowed c.header c.value
  unfolding value_allowed
  part_right = go (eqb c.header transfer_data) refl
    where
      go : (b : Bool) → eqb c.header transfer_data ≡ b → value_right (part_from c is) ≡ value_allowed c.header c.value
      go true e = rw (e, eqb-true c.header transfer_data e)
      go false e = rw e

  -- only the mark of 04 is looked at
  part_fits : value_fits (part_from c is) ≡ value_fits (raw_part c [])
  unfolding value_fits
  part_fits = go (eqb c.header transfer_data) refl
    where
      go : (b : Bool) → eqb c.header transfer_data ≡ b → value_fits (part_from c is) ≡ value_fits (raw_part c [])
      go true e = rw (e, eqb-true c.header transfer_data e)
      go false e = rw e (cond_again (eqb c.header sequence) (λ (m : ℕ). leb m 1) c.more_data 0 _)

-- the tests of a common parameter, 2, 3, 5 and 12, before what then follows
abbrev pub head_then : ℕ → ℕ → Common → Answer → Answer
head_then times p c a =
    refuse (not (among c.header common_headers)) unlisted p
    (refuse (ltb 0 times) repeated p
    (refuse (not (value_allowed c.header c.value)) not_allowed p
    (refuse (not (value_fits (raw_part c []))) bad_form p
    a)))

-- at the place 0, its transfer parameters aside: refused, or how many octets it takes
pub head_checked : (times : ℕ) (c : Common) → part_writing times 0 (raw_part c []) ≡ head_then times 0 c (Accepted (head_length c.header))
unfolding part_writing data_writing items_writing
head_checked times c = ap (head_then times 0 c) (go (eqb c.header transfer_data) refl)
  where
    go : (b : Bool) → eqb c.header transfer_data ≡ b
        → cond b (data_writing 0 []) (Accepted (0 + length (layout_part (raw_part c [])))) ≡ Accepted (head_length c.header)
    go true e = rw (eqb-true c.header transfer_data e)
    go false e = ap Accepted (omega (arith, head_laid c))

-- told of the place p
head_told : (times p n : ℕ) (c : Common) → head_then times p c (Accepted (p + n)) ≡ told_at p (head_then times 0 c (Accepted n))
head_told times p n c =
    refuse_told p (not (among c.header common_headers)) unlisted _ _
    (refuse_told p (ltb 0 times) repeated _ _
    (refuse_told p (not (value_allowed c.header c.value)) not_allowed _ _
    (refuse_told p (not (value_fits (raw_part c []))) bad_form _ (Accepted n)
    refl)))

part_checked : (times p : ℕ) (c : Common) (is : List Item)
    → part_writing times p (part_from c is)
    ≡ head_then times p c (cond (eqb c.header transfer_data) (data_writing p is) (Accepted (p + head_length c.header)))
unfolding part_writing
part_checked times p c is =
    rw (part_right c is, part_fits c is, part_header c is) (ap (head_then times p c) (go (eqb c.header transfer_data) refl))
  where
    go : (b : Bool) → eqb c.header transfer_data ≡ b
        → cond b (data_writing p (part_from c is).items) (Accepted (p + length (layout_part (part_from c is))))
        ≡ cond b (data_writing p is) (Accepted (p + head_length c.header))
    go true e = rw e
    go false e =
        ap (λ n. Accepted (p + n)) (ap (λ (l : List ℕ). length l) (plain_laid c is (eqb-false c.header transfer_data e)) ∙ head_laid c)

-- a common parameter: first without its transfer parameters, then those of C5
part_stepped : (times p : ℕ) (c : Common) (is : List Item)
    → part_writing times p (part_from c is)
    ≡ and_then (told_at p (part_writing times 0 (raw_part c [])))
    (λ n. cond (eqb c.header transfer_data) (data_writing p is) (Accepted n))
part_stepped times p c is =
    let n = head_length c.header in
    let f : ℕ → Answer = λ m. cond (eqb c.header transfer_data) (data_writing p is) (Accepted m) in
    let e : and_then (head_then times p c (Accepted (p + n))) f ≡ head_then times p c (f (p + n)) = simp refuse_then in
    part_checked times p c is ∙ sym e
    ∙ ap (λ (a : Answer). and_then a f) (head_told times p n c ∙ ap (told_at p) (sym (head_checked times c)))

-- what an accepted head says
pub part_head_passed : (times : ℕ) (c : Common) (n : ℕ) → part_writing times 0 (raw_part c []) ≡ Accepted n
    → (times ≡ 0) × (n ≡ head_length c.header)
part_head_passed times c n e =
    let e₁ = passed (not (among c.header common_headers)) _ 0 n _ (sym (head_checked times c) ∙ e) in
    let e₂ = passed (ltb 0 times) _ 0 n _ e₁.1 in
    let e₃ = passed (not (value_allowed c.header c.value)) _ 0 n _ e₂.1 in
    let e₄ = passed (not (value_fits (raw_part c []))) _ 0 n (Accepted (head_length c.header)) e₃.1 in
    let end : Accepted (head_length c.header) ≡ Accepted n = e₄.1 in
    let same : head_length c.header ≡ n = cc in
    (omega (arith, ltb-false 0 times e₂.0), sym same)

-- and what accepted transfer data says
pub data_passed : (p : ℕ) (is : List Item) (n : ℕ) → data_writing p is ≡ Accepted n → n ≤ p + 257
unfolding data_writing
data_passed p is n e =
    let t =
    then_passed (items_writing unseen (p + 2) is)
    (λ q. refuse (ltb most_transfer_octets (q - (p + 2))) transfer_over p (Accepted q)) n e in
    let o = passed (ltb most_transfer_octets (t.0 - (p + 2))) transfer_over p n (Accepted t.0) t.2 in
    let end : Accepted t.0 ≡ Accepted n = o.1 in
    let same : t.0 ≡ n = cc in
    omega (arith, ltb-false most_transfer_octets (t.0 - (p + 2)) o.0)

-- a common parameter with these transfer parameters, its head judged at place 0, first among those from the place p on
module _ (seen : Seen) (p : ℕ) (c : Common) (is : List Item) (ps : List Part) (a : Answer)
    (e : part_writing (times_seen seen c.header) 0 (raw_part c []) ≡ a) where
  parts_told : parts_writing seen p (part_from c is ∷ ps)
      ≡ and_then (and_then (told_at p a) (λ n. cond (eqb c.header transfer_data) (data_writing p is) (Accepted n)))
      (λ q. parts_writing (counted seen c.header) q ps)
  unfolding parts_writing
  parts_told =
      ap (λ (h : ℕ). and_then (part_writing (times_seen seen h) p (part_from c is)) (λ q. parts_writing (counted seen h) q ps))
      (part_header c is)
      ∙ ap (λ (x : Answer). and_then x (λ q. parts_writing (counted seen c.header) q ps))
      (part_stepped (times_seen seen c.header) p c is
      ∙ ap (λ (x : Answer). and_then (told_at p x) (λ n. cond (eqb c.header transfer_data) (data_writing p is) (Accepted n))) e)

  pub head_refused : (k z : ℕ) → a ≡ Refused k z → parts_writing seen p (part_from c is ∷ ps) ≡ Refused k p
  head_refused k z r = rw (parts_told, r)

  pub head_placed : (r : Refusal) → placed_at p a ≡ Err r → parts_writing seen p (part_from c is ∷ ps) ≡ Err r
  head_placed r f = rw (parts_told, placed_err p a r f)

  module _ (n : ℕ) (r : a ≡ Accepted n) where
    pub plain_accepted : (c.header ≡ transfer_data → ⊥)
        → parts_writing seen p (part_from c is ∷ ps) ≡ parts_writing (counted seen c.header) (p + n) ps
    plain_accepted u = rw (parts_told, r, ne_eqb c.header transfer_data u)

    pub data_refused : (k z : ℕ) → c.header ≡ transfer_data → data_writing p is ≡ Refused k z
        → parts_writing seen p (part_from c is ∷ ps) ≡ Refused k z
    data_refused k z h d = rw (parts_told, r, eq-eqb c.header transfer_data h, d)

    pub data_accepted : (m : ℕ) → c.header ≡ transfer_data → data_writing p is ≡ Accepted m
        → parts_writing seen p (part_from c is ∷ ps) ≡ parts_writing (counted seen c.header) m ps
    data_accepted m h d = rw (parts_told, r, eq-eqb c.header transfer_data h, d)

-- the end mark
pub end_told : (whole : Bool) (p : ℕ) → end_writing whole p ≡ told_at p (end_writing whole 0)
end_told whole p = refuse_told p (not whole) missing (Accepted (p + 1)) (Accepted 1) refl

pub end_passed : (whole : Bool) (n : ℕ) → end_writing whole 0 ≡ Accepted n → n ≡ 1
end_passed whole n e =
    let t : Accepted 1 ≡ Accepted n = (passed (not whole) missing 0 n (Accepted 1) e).1 in
    let same : 1 ≡ n = cc in
    sym same

pub parts_over : (seen : Seen) (p : ℕ) → parts_writing seen p [] ≡ end_writing (whole_in seen) p
unfolding parts_writing
parts_over seen p = refl
