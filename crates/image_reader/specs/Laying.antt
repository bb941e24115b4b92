-- The octets of a common parameter's image, by what stands in the message.
use Rattle.std.specs.Prelude.{ℕ, ◌+◌, ◌-◌, ◌≡◌, length, get_or, take, drop}
use Rattle.std.proofs.Common.{arith, ◌∙◌, length-append}
use Rattle.std.proofs.Math.Path.{ap}
use mathlib.Core.List.{List, ◌++◌}
use Rattle.std.proofs.lemmas.List.Edits.{sets}
use Rattle.annex.specs.Units.{common_extent_of}
use Rattle.annex.specs.Items.{Item}
use Rattle.annex.specs.Opening.{part_head}
use Rattle.annex.specs.Reading.{open_common}
use Rattle.annex.specs.Image.{image_items, image_common, image_part, octets_to_a_common_head}
use Rattle.annex.specs.declared.Common.{Common}
use Rattle.laws.specs.Plain.{InnerSound}
use Rattle.laws.specs.Filling.{head_opened}
use Rattle.laws.specs.Runs.{Puts, sets_before}
use Rattle.walk.specs.Stretches.{par_in, Whole}
use Rattle.reader.specs.Filling as filling

-- the transfer parameters under a header: those of the contents of a C5
abbrev pub items_under : ℕ → List ℕ → List Item
items_under = filling.items_under

-- the image of the common parameter with the header h, these octets of its own, and these contents
abbrev pub part_octets : ℕ → List ℕ → List ℕ → List ℕ
part_octets h own s = image_common (part_head h own (length (items_under h s))) ++ image_items (items_under h s)

-- the head stored before its transfer parameters
pub part_put : (h : ℕ) (own s : List ℕ) (at : ℕ) (before mid after : List ℕ) (r : ℕ) (is : List Item) (c : Common) → items_under h s ≡ is
    → Puts (image_items is) (at + octets_to_a_common_head) before r mid → c ≡ part_head h own (length is) → after ≡ sets mid at (image_common c)
    → Puts (part_octets h own s) at before r after
part_put h own s at before mid after r is c e p f g =
    let head = part_head h own (length is) in
    let same : part_octets h own s ≡ image_common head ++ image_items is =
    ap (λ (js : List Item). image_common (part_head h own (length js)) ++ image_items js) e in
    rw same
    (record {
      ends = omega (arith, p.ends, length-append (image_common head) (image_items is));
      put = g ∙ rw (p.put, f) (sets_before (image_common head) (image_items is) before at);
    })

-- in an accepted message they are those of what the parameter opens to
module _ {m : List ℕ} {i s x : ℕ} (w : Whole common_extent_of m i s x) (d : InnerSound (par_in m i x)) where
  pub items_here : (open_common (par_in m i x)).items ≡ items_under (get_or m i 0) (take (x - s) (drop s m))
  items_here = filling.items_here w d

  pub part_here : image_part (open_common (par_in m i x)) ≡ part_octets (get_or m i 0) (par_in m i x).own (take (x - s) (drop s m))
  unfolding image_part
  part_here =
      let p = open_common (par_in m i x) in
      ap (λ (c : Common). image_common c ++ image_items p.items) (head_opened (par_in m i x))
      ∙ ap (λ (is : List Item). image_common (part_head (get_or m i 0) (par_in m i x).own (length is)) ++ image_items is) items_here
