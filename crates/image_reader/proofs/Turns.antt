-- The turns of `put_image`: of the image's common parameters those from the octet i on are left to store.
use Prim.Native.Nat.{ℕ, ◌+◌, ◌-◌, ◌≤◌}
use native.Mathlib.Omega.{arith}
use mathlib.Core.Path.{◌≡◌}
use mathlib.Core.Bool.{true}
use mathlib.Core.List.{List, [], ◌∷◌, ◌++◌}
use lib.ListN.{length, get_or, take, drop, set, length-append}
use Rattle.annex.specs.Units.{common_extent_of}
use Rattle.annex.specs.Heads.{end_mark, most_commons, most_transfers, most_values}
use Rattle.annex.specs.Allowed.{Each, every, is_octet, items_in}
use Rattle.annex.specs.Reading.{verdict_of, open_common, record_of}
use Rattle.annex.specs.Records.{values_of}
use Rattle.annex.specs.Image.{image_parts, image_of}
use Rattle.annex.specs.Walking.{stretch_at}
use Rattle.annex.specs.Answers.{Accepted, Nowhere}
use Rattle.laws.specs.Plain.{InnerSound}
use Rattle.laws.specs.Filling.{values_append}
use Rattle.laws.specs.Runs.{sets_before, Puts, Left, left_all, left_none, left_some, left_fits}
use Rattle.theorems.specs.Messages.{read_within}
use Rattle.walk.specs.Stretches.{par_in, Whole}
use Rattle.reader.specs.Filling.{pars_at, parts_left, parts_all, sound_all, parts_none, parts_mark, parts_more, sound_more}
use Rattle.image_reader.specs.Laying.{items_under, part_octets, items_here, part_here}

pub record Imaging (m before : List ℕ) (count at i : ℕ) (now : List ℕ) : Type 0 where
  pub left : Left (image_parts (record_of m)) 1 before (image_parts (parts_left m i)) at now
  pub counted : count + length (parts_left m i) ≡ length (record_of m)
  pub few : length (record_of m) ≤ most_commons
  pub places : length (items_in (parts_left m i)) ≤ most_transfers
  pub values : length (values_of (items_in (parts_left m i))) ≤ most_values
  pub sound : Each InnerSound (pars_at m i)

pub imaging_start : (m before : List ℕ) (n : ℕ) → every is_octet m ≡ true → verdict_of m ≡ Accepted n → Imaging m before 0 1 0 before
imaging_start m before n o v =
    let w = read_within m o n v in
    let r = parts_all m n v in
    record {
      left = rw (← r) (left_all (image_parts (record_of m)) 1 before);
      counted = rw (← r) (omega arith);
      few = w.commons;
      places = rw (← r) w.transfers;
      values = rw (← r) w.values;
      sound = sound_all m n v;
    }

-- a parameter that is no end mark, with those behind it: its header h, the octets of its own, and its contents s
pub record Next (m before : List ℕ) (count at i x h : ℕ) (own s now : List ℕ) : Type 0 where
  pub fits : at + length (part_octets h own s) ≤ length now
  pub room : count + 1 ≤ most_commons
  pub places : length (items_under h s) ≤ most_transfers
  pub values : length (values_of (items_under h s)) ≤ most_values
  pub put : (r : ℕ) (after : List ℕ) → Puts (part_octets h own s) at now r after → Imaging m before (count + 1) r x after

module _ {m before : List ℕ} {count at i : ℕ} {now : List ℕ} (f : Imaging m before count at i now) where
  -- the last parameter is stored, and then the count at the front
  pub imaging_end : stretch_at m i (common_extent_of (get_or m i 0)) ≡ Nowhere → Puts (image_of (record_of m)) 0 before at (set now 0 count)
  unfolding image_parts image_of
  imaging_end h =
      let none = parts_none m i h in
      let p = left_none f.left (rw none) in
      let n : count ≡ length (record_of m) = omega (arith, rw none at f.counted) in
      record {
        ends = omega (arith, p.ends);
        put = rw (p.put, n) (sets_before (length (record_of m) ∷ []) (image_parts (record_of m)) before 0);
      }

  module _ {s x : ℕ} (w : Whole common_extent_of m i s x) where
    pub imaging_mark : get_or m i 0 ≡ end_mark → Imaging m before count at x now
    imaging_mark e =
        let p = parts_mark w e in
        record {
          left = rw p at f.left;
          counted = rw p at f.counted;
          few = f.few;
          places = rw p at f.places;
          values = rw p at f.values;
          sound = (sound_more w f.sound).1;
        }

    pub imaging_next : (get_or m i 0 ≡ end_mark → ⊥) → length (image_of (record_of m)) ≤ length before
        → Next m before count at i x (get_or m i 0) (par_in m i x).own (take (x - s) (drop s m)) now
    unfolding image_parts image_of
    imaging_next u l =
        let h = get_or m i 0 in
        let own = (par_in m i x).own in
        let t = take (x - s) (drop s m) in
        let p = open_common (par_in m i x) in
        let rest = parts_left m x in
        let g = parts_more w u in
        let d = sound_more w f.sound in
        let is = items_here w d.0 in
        let e : image_parts (parts_left m i) ≡ part_octets h own t ++ image_parts rest = rw (g, part_here w d.0) in
        let lp = length-append p.items (items_in rest) in
        let lv = length-append (values_of p.items) (values_of (items_in rest)) in
        let places = rw g at f.places in
        let values = rw (g, values_append p.items (items_in rest)) at f.values in
        let counted = rw g at f.counted in
        record {
          fits = left_fits f.left (part_octets h own t) (image_parts rest) e (omega arith);
          room = omega (arith, f.few);
          places = rw (← is) (omega arith);
          values = rw (← is) (omega arith);
          put = λ r after q.
              record {
                left = left_some f.left (part_octets h own t) (image_parts rest) e r after q;
                counted = omega arith;
                few = f.few;
                places = omega arith;
                values = omega arith;
                sound = d.1;
              };
        }
