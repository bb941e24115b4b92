-- `put_short` meets its contract: the array has room for any image, so the image stands at its front, and is copied where it fits.
use Prim.Native.Nat.{ℕ, ◌≤◌, ◌<◌}
use native.Mathlib.Omega.{arith}
use mathlib.Core.Path.{◌≡◌, ap, ◌∙◌}
use mathlib.Core.List.{List}
use lib.ListN.{length, get_or, take}
use Rattle.annex.specs.Reading.{verdict_of, record_of}
use Rattle.annex.specs.Image.{image_of, most_image}
use Rattle.annex.specs.Answers.{Accepted}
use Rattle.laws.specs.Fronts.{front_all}
use Rattle.laws.specs.Runs.{puts_long, puts_taken}
use Rattle.laws.specs.Written.{octets_every}
use Rattle.octets.specs.Copied.{copied_into}
use Rattle.theorems.specs.Images.{image_most}
use Rattle.image_reader.specs.Answering.{read_short, read_done}
use Rattle.image_reader.proofs.put_short.Goals as goal

-- the array has room for the image
few : (m : List ℕ) → ((i : ℕ) → get_or m i 0 < 256) → verdict_of m ≡ Accepted (length m) → length (image_of (record_of m)) ≤ most_image
few m o v = image_most m (octets_every m o) (length m) v

pub put_image-n-requires : goal.put_image-n-requires
put_image-n-requires c =
    let o : (i : ℕ) → get_or c.args.m.now i 0 < 256 = λ i. omega (arith, c.type_inv.m i) in
    (c.requires, few c.args.m.now o c.requires)

pub returns-then-image-n : goal.returns-then-image-n
returns-then-image-n c = read_short c.args.m.now c.args.image.now _ c.requires (omega (arith, c.put_image-n.ensures.ends))

pub slice_bounds-written-end : goal.slice_bounds-written-end
slice_bounds-written-end c =
    let o : (i : ℕ) → get_or c.args.m.now i 0 < 256 = λ i. omega (arith, c.type_inv.m i) in
    omega (arith, c.put_image-n.ensures.ends, puts_long c.put_image-n.ensures, few c.args.m.now o c.requires)

pub slice_bounds-copy_in-end : goal.slice_bounds-copy_in-end
slice_bounds-copy_in-end c =
    let o : (i : ℕ) → get_or c.args.m.now i 0 < 256 = λ i. omega (arith, c.type_inv.m i) in
    let f : take c.put_image-n.result c.put_image-n.new.out ≡ image_of (record_of c.args.m.now) =
    puts_taken c.put_image-n.ensures (few c.args.m.now o c.requires) in
    rw f (omega (arith, c.put_image-n.ensures.ends))

pub returns : goal.returns
returns c =
    let room = c.args.image.now in
    let image = image_of (record_of c.args.m.now) in
    let o : (i : ℕ) → get_or c.args.m.now i 0 < 256 = λ i. omega (arith, c.type_inv.m i) in
    let long : c.put_image-n.result ≡ length image = omega (arith, c.put_image-n.ensures.ends) in
    let f : take c.put_image-n.result c.put_image-n.new.out ≡ image = puts_taken c.put_image-n.ensures (few c.args.m.now o c.requires) in
    let fits : length image ≤ length room = omega (arith, long, c.if-image-n.false) in
    let d = read_done c.args.m.now room _ c.requires fits in
    let s = copied_into room 0 image c.copy_in.new.d c.copy_in.result (omega arith) (rw f at c.copy_in.ensures) in
    (ap Accepted long ∙ d.0, s ∙ front_all room image fits ∙ d.1)
