-- `told` meets its contract: what is found of 7E and D6 is what the record holds of them.
use Prim.Native.Nat.{ℕ}
use native.Mathlib.Omega.{arith}
use mathlib.Core.Path.{◌≡◌, ap, ◌∙◌}
use mathlib.Core.List.{List}
use lib.ListN.{get_or}
use Rattle.annex.specs.Profile.{pairs_in, pairs_right}
use Rattle.annex.specs.declared.Network.{Network}
use Rattle.annex.specs.declared.Profile.{Profile}
use Rattle.laws.specs.Written.{octets_every}
use Rattle.profile.specs.declared.Opened.{Opened}
use Rattle.profile.specs.Pairs.{opened_to}
use Rattle.profile.specs.Keeping.{network_in, network_said}
use Rattle.profile.specs.Telling.{pairs_taken, told_so}
use Rattle.profile.proofs.told.Goals as goal

pub open_pairs-opened-requires : goal.open_pairs-opened-requires
open_pairs-opened-requires c =
    let octets = octets_every c.args.m.now (λ i. omega (arith, c.type_inv.m i)) in
    ap pairs_right c.contents-2.ensures ∙ pairs_taken c.args.m.now octets c.requires.0 c.requires.1

pub returns : goal.returns
returns c =
    let m = c.args.m.now in
    let octets = octets_every m (λ i. omega (arith, c.type_inv.m i)) in
    let network : c.network_of-network.result ≡ network_said (network_in m) =
    c.network_of-network.ensures ∙ ap network_said (c.octet_at.ensures ∙ ap (λ (s : List ℕ). get_or s 0 0) c.contents.ensures) in
    let told : (x : Network) (w : Opened) → Profile = λ x w. record { network = x; classes = w.count; class = w.class } in
    ap (λ (x : Network). told x c.open_pairs-opened.result) network
    ∙ ap (told (network_said (network_in m))) (c.open_pairs-opened.ensures ∙ ap (λ (s : List ℕ). opened_to (pairs_in s)) c.contents-2.ensures)
    ∙ told_so m octets c.requires.0 c.requires.1
