-- `put_whole` meets its contract: the header stands first, a length octet behind it where the PLI has one, and then the contents.
use Prim.Native.Nat.{◌%◌}
use native.Mathlib.Omega.{arith}
use mathlib.Core.Path.{◌≡◌, sym, ap, ◌∙◌}
use mathlib.Core.List.{[], ◌∷◌}
use lib.ListN.{length, length-set, length-drop}
use Rattle.annex.specs.Units.{lead_of}
use Rattle.annex.specs.Items.{contents_by, contents_of}
use Rattle.annex.specs.Layout.{layout_item}
use Rattle.annex.specs.Records.{raw_item}
use Rattle.annex.specs.Memory.{low_octets}
use Rattle.laws.specs.Written.{written_then}
use Rattle.laws.specs.Laid.{length-layout, layout_plain, layout_led}
use Rattle.laws.specs.Parts.{to_end}
use Rattle.layout.proofs.Holdings.{contents_as}
use Rattle.layout.proofs.put_whole.Goals as goal

pub bounds-room-0 : goal.bounds-room-0
bounds-room-0 c =
    omega (arith, c.requires.1, length-layout (raw_item c.args.t c.args.values.now))

pub slice_bounds-put_contents-start : goal.slice_bounds-put_contents-start
slice_bounds-put_contents-start c =
    let plain : (let a = c.args in
    let i = raw_item a.t a.values.now in
    layout_item i ≡ i.header ∷ contents_of i) =
    let a = c.args in
    layout_plain (raw_item a.t a.values.now) (sym (c.lead.ensures ∙ ap lead_of c.extent_of.ensures) ∙ c.if-lead-eq0.true) in
    simp length-set (omega (arith, rw (plain) at c.requires.1))

pub slice_bounds-put_contents-count : goal.slice_bounds-put_contents-count
slice_bounds-put_contents-count c =
    let plain : (let a = c.args in
    let i = raw_item a.t a.values.now in
    layout_item i ≡ i.header ∷ contents_of i) =
    let a = c.args in
    layout_plain (raw_item a.t a.values.now) (sym (c.lead.ensures ∙ ap lead_of c.extent_of.ensures) ∙ c.if-lead-eq0.true) in
    simp length-set (omega (arith, rw (plain) at c.requires.1))

pub put_contents-requires : goal.put_contents-requires
put_contents-requires c =
    let kept : (let i = raw_item c.args.t c.args.values.now in
    contents_by c.args.held i ≡ contents_of i) =
    contents_as c.args.held (raw_item c.args.t c.args.values.now) c.requires.0 in
    let plain : (let a = c.args in
    let i = raw_item a.t a.values.now in
    layout_item i ≡ i.header ∷ contents_of i) =
    let a = c.args in
    layout_plain (raw_item a.t a.values.now) (sym (c.lead.ensures ∙ ap lead_of c.extent_of.ensures) ∙ c.if-lead-eq0.true) in
    rw (kept, to_end 1 _, length-drop 1 _, length-set) (omega (arith, rw (plain) at c.requires.1))

pub returns-then-lead-eq0 : goal.returns-then-lead-eq0
returns-then-lead-eq0 c =
    let kept : (let i = raw_item c.args.t c.args.values.now in
    contents_by c.args.held i ≡ contents_of i) =
    contents_as c.args.held (raw_item c.args.t c.args.values.now) c.requires.0 in
    let plain : (let a = c.args in
    let i = raw_item a.t a.values.now in
    layout_item i ≡ i.header ∷ contents_of i) =
    let a = c.args in
    layout_plain (raw_item a.t a.values.now) (sym (c.lead.ensures ∙ ap lead_of c.extent_of.ensures) ∙ c.if-lead-eq0.true) in
    let a = c.args in
    let h = a.t.header in
    let s = contents_of (raw_item a.t a.values.now) in
    let b : h ∷ [] ≡ low_octets (h ∷ []) = ap (λ n. n ∷ []) (omega arith) in
    rw (plain)
    (written_then a.room.now (h ∷ []) (h ∷ []) s c.put_contents.new.room b (omega (arith, rw (plain) at c.requires.1))
    (rw (kept) at c.put_contents.ensures))

pub bounds-room-1 : goal.bounds-room-1
bounds-room-1 c =
    let led : (let a = c.args in
    let i = raw_item a.t a.values.now in
    layout_item i ≡ i.header ∷ length (contents_of i) ∷ contents_of i) =
    let a = c.args in
    layout_led (raw_item a.t a.values.now) (λ z. c.if-lead-eq0.false (c.lead.ensures ∙ ap lead_of c.extent_of.ensures ∙ z)) in
    simp length-set (omega (arith, rw (led) at c.requires.1))

pub slice_bounds-put_contents-start-else-lead-eq0 : goal.slice_bounds-put_contents-start-else-lead-eq0
slice_bounds-put_contents-start-else-lead-eq0 c =
    let led : (let a = c.args in
    let i = raw_item a.t a.values.now in
    layout_item i ≡ i.header ∷ length (contents_of i) ∷ contents_of i) =
    let a = c.args in
    layout_led (raw_item a.t a.values.now) (λ z. c.if-lead-eq0.false (c.lead.ensures ∙ ap lead_of c.extent_of.ensures ∙ z)) in
    simp length-set (omega (arith, rw (led) at c.requires.1))

pub slice_bounds-put_contents-count-else-lead-eq0 : goal.slice_bounds-put_contents-count-else-lead-eq0
slice_bounds-put_contents-count-else-lead-eq0 c =
    let led : (let a = c.args in
    let i = raw_item a.t a.values.now in
    layout_item i ≡ i.header ∷ length (contents_of i) ∷ contents_of i) =
    let a = c.args in
    layout_led (raw_item a.t a.values.now) (λ z. c.if-lead-eq0.false (c.lead.ensures ∙ ap lead_of c.extent_of.ensures ∙ z)) in
    simp length-set (omega (arith, rw (led) at c.requires.1))

pub put_contents-requires-else-lead-eq0 : goal.put_contents-requires-else-lead-eq0
put_contents-requires-else-lead-eq0 c =
    let kept : (let i = raw_item c.args.t c.args.values.now in
    contents_by c.args.held i ≡ contents_of i) =
    contents_as c.args.held (raw_item c.args.t c.args.values.now) c.requires.0 in
    let led : (let a = c.args in
    let i = raw_item a.t a.values.now in
    layout_item i ≡ i.header ∷ length (contents_of i) ∷ contents_of i) =
    let a = c.args in
    layout_led (raw_item a.t a.values.now) (λ z. c.if-lead-eq0.false (c.lead.ensures ∙ ap lead_of c.extent_of.ensures ∙ z)) in
    rw (kept, to_end 2 _, length-drop 2 _, length-set, length-set) (omega (arith, rw (led) at c.requires.1))

pub returns-else-lead-eq0 : goal.returns-else-lead-eq0
returns-else-lead-eq0 c =
    let kept : (let i = raw_item c.args.t c.args.values.now in
    contents_by c.args.held i ≡ contents_of i) =
    contents_as c.args.held (raw_item c.args.t c.args.values.now) c.requires.0 in
    let led : (let a = c.args in
    let i = raw_item a.t a.values.now in
    layout_item i ≡ i.header ∷ length (contents_of i) ∷ contents_of i) =
    let a = c.args in
    layout_led (raw_item a.t a.values.now) (λ z. c.if-lead-eq0.false (c.lead.ensures ∙ ap lead_of c.extent_of.ensures ∙ z)) in
    let a = c.args in
    let h = a.t.header in
    let i = raw_item a.t a.values.now in
    let s = contents_of i in
    let x = c.len_as.result in
    let m : x ≡ length s = rw (kept) at c.len_as.ensures in
    let b : h ≡ h % 256 = omega arith in
    let low : h ∷ x % 256 ∷ [] ≡ low_octets (h ∷ length s ∷ []) = rw (← m) (ap (λ n. n ∷ x % 256 ∷ []) b) in
    rw (led)
    (written_then a.room.now (h ∷ x % 256 ∷ []) (h ∷ length s ∷ []) s c.put_contents-else-lead-eq0.new.room low
    (omega (arith, rw (led) at c.requires.1)) (rw (kept) at c.put_contents-else-lead-eq0.ensures))
