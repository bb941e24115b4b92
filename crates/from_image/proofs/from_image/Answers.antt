-- `from_image` meets its contract: the first octet is the count, and the parameters stand behind it.
use Prim.Native.Nat.{ℕ}
use mathlib.Core.Path.{sym, ap, ◌∙◌}
use mathlib.Core.List.{List}
use lib.ListN.{length, get_or}
use Rattle.annex.specs.Image.{parts_front, imaged_by}
use Rattle.laws.specs.Parts.{to_end}
use Rattle.from_image.specs.Filling.{image_none, image_counted}
use Rattle.from_image.proofs.from_image.Goals as goal

pub returns-in_default : goal.returns-in_default
returns-in_default c = c.imaged.ensures ∙ sym (image_none c.args.image.now c.in_default.len_below)

pub returns : goal.returns
returns c =
    let m = c.args.image.now in
    c.imaged-2.ensures ∙ c.fill.ensures ∙ ap (λ (d : List ℕ). imaged_by (length d) (parts_front (get_or m 0 0) d)) (to_end 1 m)
    ∙ sym (image_counted m c.in-len1-up.len_at_least)
