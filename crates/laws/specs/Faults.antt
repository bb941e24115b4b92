-- Laws of faults: where nothing is wrong, each test passed.
use Rattle.std.specs.Prelude.{◌≡◌, refl, Bool, true, false, cond, List, ℕ, Err}
use Rattle.std.proofs.Common.{arith}
use Rattle.annex.specs.Answers.{bad_digit, formed, formed_then, fault_then, is_sound, Fault, Sound, Bad}
use Rattle.annex.specs.Digits.{is_digit}
use Rattle.annex.specs.Allowed.{every, values_fault}

pub passed : (b : Bool) (f : Fault) (k i : ℕ) → cond b f (Bad k i) ≡ Sound → (b ≡ true) × (f ≡ Sound)
passed true f k i e = (refl, e)
passed false f k i e = absurd (let z : ◌≡◌ {A = ℕ} 0 1 = cc in omega arith)

pub then_sound : (b : Bool) (f : Fault) → formed_then b f ≡ Sound → (b ≡ true) × (f ≡ Sound)
then_sound true f e = (refl, e)
then_sound false f e = absurd (let z : ◌≡◌ {A = ℕ} 0 1 = cc in omega arith)

pub formed_sound : (b : Bool) → formed b ≡ Sound → b ≡ true
formed_sound b e = (then_sound b Sound e).0

pub then_both : (f g : Fault) → fault_then f g ≡ Sound → (f ≡ Sound) × (g ≡ Sound)
then_both Sound g e = (refl, e)
then_both (Err r) g e = absurd (let z : ◌≡◌ {A = ℕ} 0 1 = cc in omega arith)

-- digits and numbers: the fields and then the values
pub values_sound : (b : Bool) (ds : List ℕ) → b ≡ true → every is_digit ds ≡ true → formed_then b (values_fault ds) ≡ Sound
values_sound b ds e f = rw (e, f)

pub sound_values : (b : Bool) (ds : List ℕ) → formed_then b (values_fault ds) ≡ Sound → (b ≡ true) × (every is_digit ds ≡ true)
sound_values b ds e =
    let t = then_sound b (values_fault ds) e in
    (t.0, (passed (every is_digit ds) Sound bad_digit 0 t.1).0)

-- a test for it
pub is_sound_lem : (f : Fault) → is_sound f ≡ true → f ≡ Sound
is_sound_lem Sound e = refl
is_sound_lem (Err r) e = absurd (let z : ◌≡◌ {A = ℕ} 0 1 = cc in omega arith)
