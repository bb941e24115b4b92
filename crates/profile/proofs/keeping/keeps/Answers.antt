-- `keeps` meets its contract: the rules are asked one after the other, of what was found.
use Rattle.std.specs.Prelude.{ℕ, ◌≡◌, Bool, true, false, cond, ◌||◌, ◌&&◌, eqb, List, get_or}
use mathlib.Core.Path.{refl, sym, ap, ◌∙◌}
use borrow.Author.Tests.{eq-eqb, ne_eqb}
use Rattle.annex.specs.Profile.{pairs_right, data_enquiry, phs, mobile, originating_region, added_class}
use Rattle.theorems.specs.Places.{is_found}
use Rattle.profile.specs.Keeping.{headed, contents_under, kind_in, network_in, keeps_plain}
use Rattle.profile.proofs.keeping.keeps.Goals.{then-is_network, else-is_network, then-stands, else-stands}
use Rattle.profile.proofs.keeping.keeps.Goals as goal

-- three rules behind the first, tested from the left, and the last one
all_kept : (b c d e : Bool) → (b && c) && d ≡ true → e ≡ b && (c && (d && e))
all_kept true true true e h = refl
all_kept true true false e h = absurd cc
all_kept true false d e h = absurd cc
all_kept false c d e h = absurd cc

one_broken : (b c d e : Bool) → (b && c) && d ≡ false → false ≡ b && (c && (d && e))
one_broken true true true e h = absurd cc
one_broken true true false e h = refl
one_broken true false d e h = refl
one_broken false c d e h = refl

-- what the code found of each is what the rule says
network_is : (m : List ℕ) (n : ℕ) (s : List ℕ) → n ≡ get_or s 0 0 → s ≡ contents_under 0x7E m → n ≡ network_in m
network_is m n s e f = e ∙ ap (λ (t : List ℕ). get_or t 0 0) f

enough_is : (m : List ℕ) (n : ℕ) (b : Bool) → n ≡ network_in m → b ≡ is_found (headed added_class m)
    → cond (eqb n mobile) b true ≡ cond (eqb (network_in m) mobile) (is_found (headed added_class m)) true
enough_is m n b e f = rw (e, f)

pub returns-then-signal_kind-ne-DATA_ENQUIRY : goal.returns-then-signal_kind-ne-DATA_ENQUIRY
unfolding keeps_plain
returns-then-signal_kind-ne-DATA_ENQUIRY c = rw (← c.signal_kind.ensures, ne_eqb _ data_enquiry c.if-signal_kind-ne-DATA_ENQUIRY.true)

pub returns-then-is_enough : goal.returns-then-is_enough
unfolding keeps_plain
returns-then-is_enough c =
    let m = c.args.m.now in
    let a : eqb (kind_in m) data_enquiry ≡ true = rw (← c.signal_kind.ensures) (eq-eqb _ data_enquiry c.if-signal_kind-ne-DATA_ENQUIRY.false) in
    let n = network_is m _ _ c.octet_at-network.ensures c.contents.ensures in
    let b = eqb (network_in m) phs || eqb (network_in m) mobile in
    let r = is_found (headed originating_region m) in
    let d = cond (eqb (network_in m) mobile) (is_found (headed added_class m)) true in
    let v1 : c.is_network.result ≡ b = c.is_network.ensures ∙ ap (λ (x : ℕ). eqb x phs || eqb x mobile) n in
    let v2 : c.if-is_network.value ≡ b && r =
    elim c.if-is_network.branch [
      | then-is_network w ↦ w.value-is ∙ w.stands.ensures ∙ rw (← v1, w.if-is_network.true)
      | else-is_network w ↦ w.value-is ∙ rw (← v1, w.if-is_network.false)
    ] in
    let v3 : c.if-stands.value ≡ (b && r) && d =
    elim c.if-stands.branch [
      | then-stands w ↦
          w.value-is ∙ w.is_enough.ensures ∙ enough_is m _ _ n w.stands-then-stands.ensures ∙ rw (← v2, w.if-stands.true)
      | else-stands w ↦ w.value-is ∙ rw (← v2, w.if-stands.false)
    ] in
    rw a (c.pairs_right.ensures ∙ ap pairs_right c.contents-then-is_enough.ensures ∙ all_kept b r d _ (sym v3 ∙ c.if-is_enough.true))

pub returns-else-is_enough : goal.returns-else-is_enough
unfolding keeps_plain
returns-else-is_enough c =
    let m = c.args.m.now in
    let a : eqb (kind_in m) data_enquiry ≡ true = rw (← c.signal_kind.ensures) (eq-eqb _ data_enquiry c.if-signal_kind-ne-DATA_ENQUIRY.false) in
    let n = network_is m _ _ c.octet_at-network.ensures c.contents.ensures in
    let b = eqb (network_in m) phs || eqb (network_in m) mobile in
    let r = is_found (headed originating_region m) in
    let d = cond (eqb (network_in m) mobile) (is_found (headed added_class m)) true in
    let v1 : c.is_network.result ≡ b = c.is_network.ensures ∙ ap (λ (x : ℕ). eqb x phs || eqb x mobile) n in
    let v2 : c.if-is_network.value ≡ b && r =
    elim c.if-is_network.branch [
      | then-is_network w ↦ w.value-is ∙ w.stands.ensures ∙ rw (← v1, w.if-is_network.true)
      | else-is_network w ↦ w.value-is ∙ rw (← v1, w.if-is_network.false)
    ] in
    let v3 : c.if-stands.value ≡ (b && r) && d =
    elim c.if-stands.branch [
      | then-stands w ↦
          w.value-is ∙ w.is_enough.ensures ∙ enough_is m _ _ n w.stands-then-stands.ensures ∙ rw (← v2, w.if-stands.true)
      | else-stands w ↦ w.value-is ∙ rw (← v2, w.if-stands.false)
    ] in
    rw a (c.if-is_enough.false ∙ one_broken b r d _ (sym v3 ∙ c.if-is_enough.false))
