-- `spot_in` meets its contract: it goes by the kind and by what the search found, as the definition. A name may stand, so there is a last.
use Prim.Native.Nat.{◌%◌}
use native.Mathlib.Omega.{arith}
use Rattle.laws.specs.Often.{some_often}
use Rattle.editor.proofs.steps.spot_in.Goals as goal

pub returns-in-Replacing : goal.returns-in-Replacing
returns-in-Replacing c =
    rw (c.in-Replacing.is, ← c.octet_at-name.ensures) c.search_by_length.ensures

pub overflow_sub-last : goal.overflow_sub-last
overflow_sub-last c = omega (arith, c.often_of.ensures, some_often (c.octet_at-name.result % 64))

pub returns-in_default : goal.returns-in_default
returns-in_default c =
    rw (
      c.in-Appending.is,
      ← c.octet_at-name.ensures,
      ← c.often_of.ensures,
      ← c.search_by_length-in-Appending.ensures,
      c.in_default.is,
    )

pub returns-in-None : goal.returns-in-None
returns-in-None c =
    rw (
      c.in-Appending.is,
      ← c.octet_at-name.ensures,
      ← c.often_of.ensures,
      ← c.search_by_length-in-Appending.ensures,
      c.in-None.is,
    )

pub returns-in-Removing : goal.returns-in-Removing
returns-in-Removing c = rw c.in-Removing.is c.search_by_length-in-Removing.ensures
