-- `are_pairs` meets its contract: the fold tests every octet.
use mathlib.Core.Path.{◌≡◌, ◌∙◌}
use mathlib.Core.Bool.{true, ◌&&◌}
use borrow.Author.Rules.{rules}
use Rattle.std.specs.List.{fold}
use Rattle.digits.specs.Pairs.{is_pair}
use Rattle.digits.proofs.Flat.{fold_every}
use Rattle.digits.proofs.judging.are_pairs.Goals as goal

pub returns : goal.returns
returns c =
    let a = c.args in
    let folded : c.fold.result ≡ fold (λ b x. b && is_pair a.z x) true a.s.now = search rules in
    folded ∙ fold_every (is_pair a.z) a.s.now
