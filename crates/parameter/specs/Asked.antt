-- What is wrong with contents, by what the look-up of their header says.
use Rattle.std.specs.Prelude.{ℕ, ◌≡◌, List, get_or}
use Rattle.annex.specs.Heads.{clear}
use Rattle.annex.specs.Answers.{formed_then}
use Rattle.annex.specs.Contents.{fault_by, fault_of}
use Rattle.heads.specs.Asked.{Asks}
use Rattle.heads.specs.declared.Asked.{Asked}

module _ (h : ℕ) (r : Asked) (e : Asks h r) where
  pub fault_of_lem : (s : List ℕ) → formed_then (clear r.zeroes (get_or s 0 0)) (fault_by r.form s) ≡ fault_of h s
  unfolding fault_of
  fault_of_lem s = rw (e.1, e.2)
