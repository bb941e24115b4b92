-- The numbers with which each edit comes to its last step: where the transfer data was found, and where in it the parameter was, are where
-- the edit's theorem has them.
use Rattle.std.specs.Prelude.{ℕ, ◌+◌, ◌-◌, ◌≡◌, true, List, [], ◌∷◌, ◌++◌, length, take, drop}
use Rattle.std.proofs.Common.{arith, sym, ap, ◌∙◌, append_assoc, length-append, take_at, drop_at}
use Rattle.annex.specs.Units.{name_of}
use Rattle.annex.specs.Heads.{among, transfer_data, often_of}
use Rattle.annex.specs.Allowed.{every, is_octet, headers_of, items_in}
use Rattle.annex.specs.Reading.{transfers_verdict, record_of}
use Rattle.annex.specs.Editing.{new_header}
use Rattle.annex.specs.Answers.{start_of, stop_of, Accepted, Found, At, Nowhere}
use Rattle.laws.specs.Finding.{common_plain_lem}
use Rattle.theorems.specs.Lists.{every_take}
use Rattle.theorems.specs.Reasons.{EditRight, edited_in, edit_passed, edit_answer}
use Rattle.theorems.specs.Edits.{OfOctets}
use Rattle.theorems.specs.Splices.{Stands, Told, Spliced, message_splices}
use Rattle.editor.specs.declared.steps.Kind.{Kind}
use Rattle.editor.specs.declared.steps.Kind.TheVariants as kind
use Rattle.editor.specs.Whole.{whole_search, whole_stands}
use Rattle.editor.specs.Steps.{edit_of, Brings, free_end, spot_in, own_answer, Data, data_held, data_part_lem, own_steps}
use Rattle.editor.specs.Splicing.{Cut}

-- the stretch of a message that the transfer data is
stretch : (before front old back after : List ℕ) (l s k : ℕ) → s ≡ length before + 2 → k ≡ length (front ++ (old ++ back))
    → take k (drop s (before ++ (transfer_data ∷ l ∷ (front ++ (old ++ (back ++ after)))))) ≡ front ++ (old ++ back)
stretch before front old back after l s k p q =
    let five = before ++ (transfer_data ∷ l ∷ []) in
    let t = front ++ (old ++ back) in
    let long : length five ≡ s = simp length-append (omega arith) in
    let whole : before ++ (transfer_data ∷ l ∷ (front ++ (old ++ (back ++ after)))) ≡ five ++ (t ++ after) = simp append_assoc in
    rw (whole, drop_at five (t ++ after) s long) (take_at t after k (sym q))

free_end_lem : (l : ℕ) (f : Found) (from to : ℕ) → free_end l f ≡ At from to → (from ≡ l) × (to ≡ l)
free_end_lem l (At s e) from to g = absurd (let z : ◌≡◌ {A = ℕ} 0 1 = cc in omega arith)
free_end_lem l Nowhere from to g = (sym (ap start_of g), sym (ap stop_of g))

-- where the edit is made and what it brings, by what its theorem tells: the parameter old is taken out, or old is empty and the last
module _ (m front old put back : List ℕ) (s j from to : ℕ) (v : transfers_verdict (front ++ (old ++ back)) ≡ Accepted j) where
  stood : (x which : ℕ) → Stands x which m (front ++ (old ++ back)) s (length front) old
      → whole_search x which (front ++ (old ++ back)) ≡ At from to → (from ≡ length front) × (to ≡ length front + length old)
  stood x which w f =
      let g : At (length front) (length front + length old) ≡ At from to =
      sym (whole_stands x which m (front ++ (old ++ back)) s (length front) old j v w) ∙ f in
      (sym (ap start_of g), sym (ap stop_of g))

  spot_is : (k : Kind) (new : List ℕ) → Brings k new → Told (edit_of k new) m (front ++ (old ++ back)) s (length front) old put back
      → spot_in k new (front ++ (old ++ back)) ≡ At from to → (from ≡ length front) × (to ≡ length front + length old) × (new ≡ put)
  spot_is (kind.Replacing which) new b w f = let q = stood (name_of (new_header new)) which w.1 f in (q.0, q.1, sym w.0)
  spot_is kind.Appending new b w f =
      let x = name_of (new_header new) in
      let g = free_end_lem (length (front ++ (old ++ back))) (whole_search x (often_of x - 1) (front ++ (old ++ back))) from to f in
      let o = ap length w.1 in
      let r = ap length w.2 in
      let l : length (front ++ (old ++ back)) ≡ length front + length old + length back = simp length-append (omega arith) in
      (omega (arith, g.0), omega (arith, g.1), sym w.0)
  spot_is (kind.Removing x which) new b w f = let q = stood x which w.1 f in (q.0, q.1, b ∙ sym w.0)

of_octets : (k : Kind) (new : List ℕ) → every is_octet new ≡ true → OfOctets (edit_of k new)
of_octets (kind.Replacing which) new o = o
of_octets kind.Appending new o = o
of_octets (kind.Removing x which) new o = tt

-- every step but the last is accepted; the transfer data was found from s to before t, and the spot in it from a to before z
pub cut : (k : Kind) (new d : List ℕ) (n s t a z j : ℕ) → Brings k new → every is_octet new ≡ true → Data d n s t
    → spot_in k new (take (t - s) (drop s d)) ≡ At a z → own_answer k new (take (t - s) (drop s d)) ≡ Accepted j
    → Cut (edit_of k new) d n s t a z new
cut k new d n s t a z j b o w f r =
    let e = edit_of k new in
    let m = take n d in
    let v = w.message in
    let right : EditRight e (items_in (record_of m)) =
    edit_passed e (items_in (record_of m)) j (own_steps d n _ w.octets v s t w.found k new b ∙ r) in
    let has_data : among transfer_data (headers_of (record_of m)) ≡ true = sym (data_held d n _ w.octets v) ∙ rw w.found in
    let y : Spliced e m (edited_in e d n) =
    message_splices e m _ (every_take is_octet n d w.octets) v has_data right (of_octets k new o) in
    let l = length (y.front ++ (y.old ++ y.back)) in
    let g : At (length y.before + 2) (length y.before + 2 + l) ≡ At s t =
    sym y.found ∙ common_plain_lem transfer_data m _ v ∙ w.found in
    let p : s ≡ length y.before + 2 = sym (ap start_of g) in
    let q : t ≡ length y.before + 2 + l = sym (ap stop_of g) in
    let long : t - s ≡ l = omega arith in
    let part-is : take (t - s) (drop s d) ≡ y.front ++ (y.old ++ y.back) =
    sym (data_part_lem d n _ w.octets v s t w.found) ∙ ap (λ (x : List ℕ). take (t - s) (drop s x)) y.was
    ∙ stretch y.before y.front y.old y.back y.after l s (t - s) p long in
    let spot = spot_is m y.front y.old y.new y.back _ _ a z y.sound k new b y.told (rw (← part-is) f) in
    record {
      within = w.within;
      splice = y;
      start_is = p;
      end_is = q;
      from_is = spot.0;
      to_is = spot.1;
      new_is = spot.2;
      room = edit_answer e d n _ w.within v has_data right;
    }
