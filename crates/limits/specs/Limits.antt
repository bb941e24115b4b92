-- The limits of a record's struct: its counts and lengths stay within its arrays, and its contents within 255 octets.
use Rattle.std.specs.Prelude.{ℕ, suc, ◌+◌, ◌≤◌, ◌≡◌, refl, Bool, true, false, not, ◌&&◌, ◌||◌, List, [], ◌∷◌, leb, ltb, length, take, drop}
use Rattle.std.proofs.Common.{arith, ap, leb-true, le-ltb, length-take, length-drop}
use Rattle.std.proofs.lemmas.Bool.{not-false}
use Rattle.annex.specs.Answers.{over_the_limits, refuse, Refused}
use Rattle.annex.specs.Heads.{most_commons, most_transfers, most_transfer_octets, most_values}
use Rattle.annex.specs.Items.{Item, held_as, contents_by, contents_of}
use Rattle.annex.specs.declared.Holding.{Holding}
use Rattle.annex.specs.declared.Holding.TheVariants.{AsContents, AsDigits, AsNumber, AsGeneric}
use Rattle.annex.specs.Allowed.{contents_sum}
use Rattle.annex.specs.Records.{view_items, lengths_of, transfers_sum, view_parts, commons_in, is_whole, view}
use Rattle.annex.specs.Walk.{unseen}
use Rattle.annex.specs.Writing.{over_limits, parts_writing, record_writing, struct_writing}
use Rattle.annex.specs.declared.Common.{Common}
use Rattle.annex.specs.declared.Transfer.{Transfer}
use Rattle.annex.specs.declared.Record.{Record}
use Rattle.annex.specs.declared.Alphabet.TheVariants.{Dialled, Numbered}
use Rattle.laws.specs.Bools.{and_left, and_right, or_left, or_right}
use Rattle.laws.specs.Joined.{length-packed}
use Rattle.limits.specs.Along.{used_at, items_at, Whole, items_all}

-- both reasons for which a record is refused with 1
abbrev pub is_over : Record → Bool
is_over q = not (is_whole q) || over_limits (view q)

pub told_whole : (q : Record) → is_whole q ≡ true → Whole q
unfolding is_whole
told_whole q e =
    let n = transfers_sum (commons_in q) in
    let a = leb q.commons most_commons in
    let b = leb n most_transfers in
    let d = leb (used_at q n) most_values in
    let r = and_right a (b && d) e in
    record {
      commons = leb-true q.commons most_commons (and_left a (b && d) e);
      within = record { places = leb-true n most_transfers (and_left b d r); values = leb-true (used_at q n) most_values (and_right b d r) };
    }

-- as many parts and parameters as there are heads
pub length_parts : (cs : List Common) (ts : List Transfer) (vs : List ℕ) → length (view_parts cs ts vs) ≡ length cs
unfolding view_parts
length_parts [] ts vs = refl
length_parts (c ∷ cs) ts vs = ap suc (length_parts cs _ _)

pub length-items : (ts : List Transfer) (vs : List ℕ) → length (view_items ts vs) ≡ length ts
unfolding view_items
length-items [] vs = refl
length-items (t ∷ ts) vs = ap suc (length-items ts _)

-- so of a whole struct only the contents can be over
pub over_contents : (q : Record) → Whole q
    → over_limits (view q) ≡ ltb most_transfer_octets (contents_sum (items_at q 0 (transfers_sum (commons_in q))))
unfolding over_limits view lengths_of
over_contents q w =
    let n = transfers_sum (commons_in q) in
    let few : length (view q) ≤ most_commons =
    omega (arith, w.commons, length_parts (commons_in q) q.transfer q.values, length-take q.commons q.common) in
    let items : length (items_at q 0 n) ≤ most_transfers =
    omega (arith, w.within.places, length-items (take n q.transfer) q.values, length-take n q.transfer) in
    rw (items_all q, le-ltb most_commons (length (view q)) few, le-ltb most_transfers (length (items_at q 0 n)) items)

-- contents are little longer than the values that they stand for
pub contents_most : (i : Item) → length (contents_of i) ≤ 3 + length i.values
unfolding contents_of
contents_most i = go (held_as i)
  where
    go : (k : Holding) → length (contents_by k i) ≤ 3 + length i.values
    go AsContents = omega arith
    go (AsDigits m) = omega (arith, length-packed Dialled i.values)
    go (AsNumber w) = omega (arith, length-packed Numbered i.values)
    go AsGeneric = omega (arith, length-packed Numbered (drop 1 i.values), length-drop 1 i.values)

-- what is over is refused with 1, and what is not is refused by its parts
pub over_refused : (q : Record) → is_over q ≡ true → struct_writing q ≡ Refused over_the_limits 0
unfolding struct_writing record_writing
over_refused q e = go (is_whole q) (over_limits (view q)) e
  where
    go : (b o : Bool) → not b || o ≡ true
        → refuse (not b) over_the_limits 0 (refuse o over_the_limits 0 (parts_writing unseen 0 (view q))) ≡ Refused over_the_limits 0
    go true true e = refl
    go true false e = absurd (let z : ◌≡◌ {A = ℕ} 0 1 = cc in omega arith)
    go false o e = refl

pub under_whole : (q : Record) → is_over q ≡ false → Whole q
under_whole q e = told_whole q (not-false (is_whole q) (or_left (not (is_whole q)) (over_limits (view q)) e))

pub under_parts : (q : Record) → is_over q ≡ false → struct_writing q ≡ parts_writing unseen 0 (view q)
unfolding struct_writing record_writing
under_parts q e =
    rw (or_left (not (is_whole q)) (over_limits (view q)) e, or_right (not (is_whole q)) (over_limits (view q)) e)
