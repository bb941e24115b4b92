-- How often a name may stand, as far as the proofs know it: at least once, no oftener than an octet counts, and all names in use together
-- no oftener than a record has room for. No other law opens `often_of`, so a rule that lets a name stand oftener is met here alone.
use Rattle.std.specs.Prelude.{ℕ, ◌≤◌, ◌<◌, Bool, true, false, cond, List, ◌++◌, map, eqb}
use Rattle.std.proofs.Common.{arith}
use Rattle.annex.specs.Units.{name_of}
use Rattle.annex.specs.Heads.{heads, free_names, carriers, most_carriers, often_of, most_transfers}
use Rattle.laws.specs.Members.{sum_of}

pub some_often : (x : ℕ) → 0 < often_of x
unfolding often_of
some_often x = go (eqb x (name_of carriers))
  where
    go : (b : Bool) → 0 < cond b most_carriers 1
    go true = omega arith
    go false = omega arith

pub few_often : (x : ℕ) → often_of x < 256
unfolding often_of
few_often x = go (eqb x (name_of carriers))
  where
    go : (b : Bool) → cond b most_carriers 1 < 256
    go true = omega arith
    go false = omega arith

-- the names in use
abbrev pub used_names : List ℕ
used_names = free_names ++ map (λ r. name_of r.header) heads

pub often_sum : sum_of often_of used_names ≤ most_transfers
unfolding often_of
often_sum = omega arith
