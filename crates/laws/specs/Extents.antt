-- Laws of the length rules.
use Rattle.std.specs.Prelude.{ℕ, ◌≤◌}
use Rattle.std.proofs.Common.{arith}
use Rattle.annex.specs.Units.{after_of, lead_of}
use Rattle.annex.specs.declared.Extent.{Extent}
use Rattle.annex.specs.declared.Extent.TheVariants.{Fixed, Counted}
use Rattle.annex.specs.declared.CountingUnit.TheVariants.{HalfOctet, Octet}

-- there is one length octet, or none
pub lead_one : (e : Extent) → lead_of e ≤ 1
unfolding lead_of
lead_one (Fixed n) = omega arith
lead_one (Counted HalfOctet) = omega arith
lead_one (Counted Octet) = omega arith

-- a length octet is among the octets after its header
pub lead_within : (e : Extent) (x : ℕ) → lead_of e ≤ after_of e x
unfolding lead_of after_of
lead_within (Fixed n) x = omega arith
lead_within (Counted HalfOctet) x = omega arith
lead_within (Counted Octet) x = omega arith
