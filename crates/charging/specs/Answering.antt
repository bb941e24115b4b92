-- The answers about charging information, with what the lent octets then hold.
use Rattle.std.specs.Prelude.{ℕ, ◌≤◌, ◌<◌, ◌≡◌, List, ◌++◌, length, drop}
use borrow.Author.Tests.{lt-ltb, le-ltb}
use Rattle.annex.specs.Answers.{no_room, Accepted, Refused, Is}
use Rattle.annex.specs.Rates.{charges_of}
use Rattle.annex.specs.Finding.{find_answer, find_part}
use Rattle.annex.specs.Charging.{charging_found, charging_of, charging_octets, charge_octets, octet_charging, octet_charged}
use Rattle.annex.specs.Promises.{ChargingPromise, OctetChargingPromise}
use Rattle.annex.specs.declared.Charges.{Charges}

module _ (m : List ℕ) where
  pub not_found : (k p : ℕ) → find_answer m (charging_found m) ≡ Refused k p → ChargingPromise m (Refused k p)
  unfolding charging_of
  not_found k p e = rw e

  pub found : (n : ℕ) → find_answer m (charging_found m) ≡ Accepted n
      → ChargingPromise m (Is (charges_of (find_part m (charging_found m))))
  unfolding charging_of
  found n e = rw e

module _ (m room : List ℕ) where
  pub octets_refused : (k p : ℕ) → charging_of m ≡ Refused k p → OctetChargingPromise m room (Refused k p) room
  unfolding octet_charging octet_charged
  octets_refused k p e = (rw e, rw e)

  -- charging information that has no room, and one that has
  module _ (c : Charges) (e : charging_of m ≡ Is c) where
    pub octets_short : length room < charging_octets → OctetChargingPromise m room (Refused no_room 0) room
    unfolding octet_charging octet_charged
    octets_short h = let t = lt-ltb (length room) charging_octets h in (rw (e, t), rw (e, t))

    pub octets_done : charging_octets ≤ length room
        → OctetChargingPromise m room (Accepted charging_octets) (charge_octets c ++ drop charging_octets room)
    unfolding octet_charging octet_charged
    octets_done h = let t = le-ltb (length room) charging_octets h in (rw (e, t), rw (e, t))
