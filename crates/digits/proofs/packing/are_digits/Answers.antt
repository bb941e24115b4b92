-- `are_digits` meets its contract: the fold tests every value.
use mathlib.Core.Path.{◌≡◌, ◌∙◌}
use mathlib.Core.Bool.{true, ◌&&◌}
use borrow.Author.Rules.{rules}
use Rattle.std.specs.List.{fold}
use Rattle.annex.specs.Digits.{is_digit}
use Rattle.digits.proofs.Flat.{fold_every}
use Rattle.digits.proofs.packing.are_digits.Goals as goal

pub returns : goal.returns
returns c =
    let ds = c.args.values.now in
    let folded : c.fold.result ≡ fold (λ b x. b && is_digit x) true ds = search rules in
    folded ∙ fold_every is_digit ds
