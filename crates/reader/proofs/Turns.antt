-- The turns of `fill`: what the struct is to become of the whole message, it becomes of the parameters from i on, for which there is room.
use Prim.Native.Nat.{ℕ, ◌≤◌, ◌<◌, ◌+◌, ◌-◌}
use native.Mathlib.Omega.{arith}
use mathlib.Core.Path.{◌≡◌, refl, sym, ap, ◌∙◌}
use mathlib.Core.List.{List}
use lib.ListN.{length, get_or, take, drop, length-append}
use Rattle.annex.specs.Units.{common_extent_of}
use Rattle.annex.specs.Heads.{end_mark, most_commons, most_transfers, most_values}
use Rattle.annex.specs.Items.{Item, Part}
use Rattle.annex.specs.Opening.{part_head}
use Rattle.annex.specs.Allowed.{Each, every, is_octet, items_in}
use Rattle.annex.specs.Reading.{verdict_of, open_common, record_of}
use Rattle.annex.specs.Records.{values_of, common_head_of, pack}
use Rattle.annex.specs.Answers.{Nowhere, Accepted}
use Rattle.annex.specs.Walking.{stretch_at}
use mathlib.Core.Bool.{true}
use Rattle.laws.specs.Plain.{InnerSound}
use Rattle.laws.specs.Filling.{with_items, with_parts, empty_record, filled_whole, filled_none, part_put, values_append, head_opened}
use Rattle.walk.specs.Stretches.{par_in, Whole}
use Rattle.theorems.specs.Messages.{read_within}
use Rattle.reader.specs.Filling.{unfilled, Room, items_under, common_with, items_here, pars_at, parts_left, parts_all, sound_all, parts_none, parts_mark, parts_more, sound_more}
use Rattle.reader.specs.declared.reading.Filled.{Filled}

pub record Filling (m : List ℕ) (f : Filled) (i : ℕ) : Type 0 where
  pub becomes : pack (record_of m) ≡ with_parts f.held (parts_left m i) f.transfers f.used
  pub commons : f.held.commons + length (parts_left m i) ≤ most_commons
  pub places : f.transfers + length (items_in (parts_left m i)) ≤ most_transfers
  pub values : f.used + length (values_of (items_in (parts_left m i))) ≤ most_values
  pub sound : Each InnerSound (pars_at m i)

pub filling_start : (m : List ℕ) (n : ℕ) → every is_octet m ≡ true → verdict_of m ≡ Accepted n → Filling m unfilled 0
filling_start m n o v =
    let w = read_within m o n v in
    let r = parts_all m n v in
    record {
      becomes =
          sym (filled_whole (record_of m) w.commons w.transfers w.values) ∙ ap (λ (ps : List Part). with_parts empty_record ps 0 0) r;
      commons = omega (arith, rw r at w.commons);
      places = omega (arith, rw r at w.transfers);
      values = omega (arith, rw r at w.values);
      sound = sound_all m n v;
    }

-- a parameter that is no end mark: its header h, the octets of its own, and its contents s
pub record Next (m : List ℕ) (f : Filled) (x h : ℕ) (own s : List ℕ) : Type 0 where
  pub place : f.held.commons < most_commons
  pub room : Room f (items_under h s)
  pub put : Filling m (common_with f h own s) x

module _ {m : List ℕ} {f : Filled} {i : ℕ} (g : Filling m f i) where
  pub filling_end : stretch_at m i (common_extent_of (get_or m i 0)) ≡ Nowhere → f.held ≡ pack (record_of m)
  filling_end h = sym (g.becomes ∙ rw (parts_none m i h) (filled_none f.held f.transfers f.used))

  module _ {s x : ℕ} (w : Whole common_extent_of m i s x) where
    pub filling_mark : get_or m i 0 ≡ end_mark → Filling m f x
    filling_mark e =
        let p = parts_mark w e in
        record {
          becomes = rw p at g.becomes;
          commons = rw p at g.commons;
          places = rw p at g.places;
          values = rw p at g.values;
          sound = (sound_more w g.sound).1;
        }

    pub filling_next : (get_or m i 0 ≡ end_mark → ⊥) → Next m f x (get_or m i 0) (par_in m i x).own (take (x - s) (drop s m))
    filling_next u =
        let h = get_or m i 0 in
        let own = (par_in m i x).own in
        let t = take (x - s) (drop s m) in
        let p = open_common (par_in m i x) in
        let rest = parts_left m x in
        let e = parts_more w u in
        let d = sound_more w g.sound in
        let is = items_here w d.0 in
        let head : part_head h own (length (items_under h t)) ≡ common_head_of p =
        ap (λ (is : List Item). part_head h own (length is)) (sym is) ∙ sym (head_opened (par_in m i x)) in
        let lp = length-append p.items (items_in rest) in
        let lv = length-append (values_of p.items) (values_of (items_in rest)) in
        let commons = rw e at g.commons in
        let places = rw e at g.places in
        let values = rw (e, values_append p.items (items_in rest)) at g.values in
        record {
          place = omega arith;
          room = rw (← is) (record { places = omega arith; values = omega arith });
          put =
              record {
                becomes =
                    (rw e at g.becomes)
                    ∙ part_put f.held (with_items f.held p.items f.transfers f.used) f.transfers f.used p rest (common_head_of p) refl refl
                    ∙ rw (head, is);
                commons = omega arith;
                places = rw (← is) (omega arith);
                values = rw (← is) (omega arith);
                sound = d.1;
              };
        }
