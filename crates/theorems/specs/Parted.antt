-- The one C5 of an allowed record: its header stands at most once, so the record is the parts ahead of it, it, and the parts behind it, and
-- all transfer parameters are its own.
use Rattle.std.specs.Prelude.{ℕ, ◌≡◌, refl, Bool, true, false, List, [], ◌∷◌, ◌++◌, eqb, length}
use Rattle.std.proofs.Common.{arith, sym, ap, ◌∙◌, append-nil, append_assoc, eqb-true}
use Rattle.annex.specs.Units.{name_of}
use Rattle.annex.specs.Heads.{among, transfer_data}
use Rattle.annex.specs.Items.{Item, Part, part, data_part}
use Rattle.annex.specs.Layout.{layout_items, layout_part, layout}
use Rattle.annex.specs.Allowed.{Each, HeldPart, items_in, headers_of, part_names_of, Allowed}
use Rattle.laws.specs.Bools.{or_left, or_right, same_turned}
use Rattle.theorems.specs.Lists.{each_left, each_right, times_here, times_rest}
use Rattle.theorems.specs.Records.{Once, Plain, plain_items, unnamed_plain, plain_none, allowed_once}

pub record Parted (r : List Part) : Type 0 where
  pub ahead : List Part
  pub behind : List Part
  pub whole : r ≡ ahead ++ (data_part (items_in r) ∷ behind)
  pub plain_ahead : Each Plain ahead
  pub plain_behind : Each Plain behind

-- one more part ahead
part_ahead : (p : Part) (r : List Part) → HeldPart p → Plain p → Parted r → Parted (p ∷ r)
part_ahead p r h e d =
    let same : items_in (p ∷ r) ≡ items_in r = ap (λ (is : List Item). is ++ items_in r) (plain_items p h e) in
    record {
      ahead = p ∷ d.ahead;
      behind = d.behind;
      whole =
          ap (λ (l : List Part). p ∷ l) d.whole ∙ ap (λ (is : List Item). p ∷ (d.ahead ++ (data_part is ∷ d.behind))) (sym same);
      plain_ahead = (e, d.plain_ahead);
      plain_behind = d.plain_behind;
    }

parted : (r : List Part) → Each HeldPart r → Once r → among transfer_data (headers_of r) ≡ true → Parted r
parted [] h o m = absurd (let z : ◌≡◌ {A = ℕ} 0 1 = cc in omega arith)
parted (p ∷ r) h o m = go (eqb p.header transfer_data) refl (parted r h.1)
  where
    go : (b : Bool) → eqb p.header transfer_data ≡ b → (Once r → among transfer_data (headers_of r) ≡ true → Parted r) → Parted (p ∷ r)
    go true e f =
        let x = name_of transfer_data in
        let names = part_names_of r in
        let five = eqb-true p.header transfer_data e in
        let own : part p.header 0 0 p.items ≡ p = rw e at h.0.own in
        let same : data_part p.items ≡ p = cc in
        let plain = unnamed_plain r (omega (arith, times_here x names, rw five at (o x))) in
        record {
          ahead = [];
          behind = r;
          whole = rw (plain_none r h.1 plain, append-nil, same);
          plain_ahead = tt;
          plain_behind = plain;
        }
    go false e f =
        let rest : Once r = λ u. omega (arith, o u, times_rest u (name_of p.header) (part_names_of r)) in
        part_ahead p r h.0 e (f rest (rw (same_turned transfer_data p.header ∙ e) at m))

pub one_data : (r : List Part) → Allowed r → among transfer_data (headers_of r) ≡ true → Parted r
one_data r a m = parted r a.held (allowed_once r a) m

-- none of these has the header h
abbrev pub Others : ℕ → List Part → Type 0
Others h r = Each (λ p. eqb p.header h ≡ false) r

pub no_header : (h : ℕ) (r : List Part) → among h (headers_of r) ≡ false → Others h r
no_header h [] m = tt
no_header h (p ∷ r) m =
    let b = eqb h p.header in
    let c = among h (headers_of r) in
    (same_turned p.header h ∙ or_left b c m, no_header h r (or_right b c m))

-- ---- other transfer parameters in the place of its own

items-append : (r s : List Part) → items_in (r ++ s) ≡ items_in r ++ items_in s
items-append [] s = refl
items-append (p ∷ r) s = rw (items-append r s, append_assoc)

pub items_instead : (r : List Part) → Each HeldPart r → (d : Parted r) (is : List Item)
    → items_in (d.ahead ++ (data_part is ∷ d.behind)) ≡ is
items_instead r h d is =
    let held = rw d.whole at h in
    let rest = data_part (items_in r) ∷ d.behind in
    let none_ahead = plain_none d.ahead (each_left HeldPart d.ahead rest held) d.plain_ahead in
    let none-behind = plain_none d.behind (each_right HeldPart d.ahead rest held).1 d.plain_behind in
    rw (items-append d.ahead (data_part is ∷ d.behind), none_ahead, none-behind) (append-nil is)

-- ---- laid out

-- parts laid out, without the end mark
unfoldable pub layout_parts : List Part → List ℕ
layout_parts [] = []
layout_parts (p ∷ r) = layout_part p ++ layout_parts r

-- a record with one C5, laid out: C5's header, its length octet and its parameters between the others
pub layout_parted : (ahead : List Part) (is : List Item) (behind : List Part)
    → layout (ahead ++ (data_part is ∷ behind))
    ≡ layout_parts ahead ++ (transfer_data ∷ length (layout_items is) ∷ (layout_items is ++ layout behind))
unfolding layout layout_parts layout_part
layout_parted [] is behind = refl
layout_parted (p ∷ ahead) is behind = rw (layout_parted ahead is behind, append_assoc)
