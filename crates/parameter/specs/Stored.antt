-- What is stored where a request fits, and the two cases of a parameter whose values were to be stored.
use Rattle.std.specs.Prelude.{ℕ, ◌≤◌, ◌≡◌, Bool, true, false, not, List, leb, length}
use Rattle.std.proofs.Common.{ap, ◌∙◌, le-leb}
use Rattle.std.proofs.lemmas.Bool.{not-true, not-false}
use Rattle.std.proofs.lemmas.List.Edits.{sets}
use Rattle.annex.specs.Memory.{values_fit}
use Rattle.annex.specs.Promises.{Stores}
use Rattle.annex.specs.Items.{Item}
use Rattle.annex.specs.Records.{head_of, no_transfer}
use Rattle.annex.specs.Opening.{head_for, values_with}
use Rattle.laws.specs.Stores.{Fits}
use Rattle.parameter.specs.Opening.{without_room, with_room, room_left}

pub stored_fitting : (fits r : Bool) (s before now : List ℕ) → Stores fits s before r now → fits ≡ true → now ≡ s
stored_fitting fits r s before now c h =
    let t : r ≡ true = c.0 ∙ h in
    c.1 ∙ rw t

pub stored : (n m : ℕ) (r : Bool) (s before now : List ℕ) → Stores (leb n m) s before r now → n ≤ m → now ≡ s
stored n m r s before now c h = stored_fitting (leb n m) r s before now c (le-leb n m h)

module _ (i : Item) (used : ℕ) (ds vs now : List ℕ) (b : Bool) (e : i.values ≡ ds)
    (c : Stores (values_fit (length vs) used (length ds)) (sets vs used ds) vs b now) where
  pub not_stored : not b ≡ true → (no_transfer ≡ head_for i used vs) × (now ≡ values_with i used vs)
  not_stored t =
      let w = without_room i used (length ds) vs b (ap length e) c.0 t in
      let f : b ≡ false = not-true b t in
      (w.0, c.1 ∙ rw f w.1)

  pub all_stored : not b ≡ false → (head_of i ≡ head_for i used vs) × (now ≡ values_with i used vs)
  all_stored t =
      let w = with_room i used (length ds) vs b (ap length e) c.0 t in
      let f : b ≡ true = not-false b t in
      (w.0, c.1 ∙ rw (f, ← e) w.1)

  pub few_stored : not b ≡ false → Fits (length vs) used (length ds)
  few_stored t = room_left (length vs) used (length ds) b c.0 t
