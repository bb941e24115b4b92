-- Demand 2: a message is accepted exactly if some allowed record lays out to it, and that record is the only one.
use Rattle.std.specs.Prelude.{ℕ, ◌≡◌, true, List, ◌↔◌, length}
use Rattle.std.proofs.Common.{sym, ap, ◌∙◌}
use Rattle.annex.specs.Items.{Part}
use Rattle.annex.specs.Layout.{layout}
use Rattle.annex.specs.Allowed.{every, is_octet, Allowed}
use Rattle.annex.specs.Reading.{verdict_of, record_of}
use Rattle.annex.specs.Answers.{Accepted}
use Rattle.theorems.specs.Messages.{read_then_laid}
use Rattle.theorems.specs.Layouts.{laid_then_read}

-- of octets
pub accepted_exactly : (m : List ℕ) → every is_octet m ≡ true
    → (verdict_of m ≡ Accepted (length m)) ↔ ((r : List Part) × Allowed r × (layout r ≡ m))
accepted_exactly m o = (
  λ e. let w = read_then_laid m o (length m) e in (record_of m, w.1, w.2),
  λ w. rw (← w.2) (laid_then_read w.0 w.1).0,
)

-- two allowed records that lay out to the same octets are equal
pub same_record : (r s : List Part) → Allowed r → Allowed s → layout r ≡ layout s → r ≡ s
same_record r s a b e = sym (laid_then_read r a).1 ∙ ap record_of e ∙ (laid_then_read s b).1

-- so the record of an accepted message is the only allowed one that lays out to it
pub only_record : (m : List ℕ) (r : List Part) → Allowed r → layout r ≡ m → r ≡ record_of m
only_record m r a e = sym (laid_then_read r a).1 ∙ ap record_of e
