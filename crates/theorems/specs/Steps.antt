-- What an accepted step says of a parameter with its own octets, and that the same is enough for the step to accept it, whatever follows.
use Rattle.std.specs.Prelude.{ℕ, ◌≤◌, ◌<◌, ◌≡◌, refl, Bool, true, false, cond, not, List, [], ◌∷◌, ◌++◌, eqb, ltb, length, get_or, take, Err}
use Rattle.std.proofs.Common.{arith, sym, ◌∙◌, ltb-false, le-ltb, length-append}
use Rattle.std.proofs.lemmas.Bool.{not-true, not-false, lt-leb}
use Rattle.std.proofs.Math.Seq.{take-append_seam}
use Rattle.annex.specs.Answers.{missing, left_over, and_then, shifted, Answer, Accepted, Refused, Sound}
use Rattle.annex.specs.Units.{name_of, after_of, extent_of, common_extent_of, contents_in}
use Rattle.annex.specs.Heads.{value_allowed, among, common_headers, end_mark, transfer_data, name_used, pli_right, often_of}
use Rattle.annex.specs.Contents.{fault_of}
use Rattle.annex.specs.Reading.{
  transfer_of,
  transfers_verdict,
  octet_allowed,
  common_form,
  end_of,
  data_of,
  common_of,
  transfer_by,
  data_by,
  common_by,
}
use Rattle.laws.specs.Steps.{passed, transfer_taken, FormTaken, form_taken, common_formed, common_refused, data_taken}
use Rattle.laws.specs.Members.{among_every}
use Rattle.theorems.specs.Lists.{among_each}
use Rattle.theorems.specs.Lengths.{Long, long_alone, long_before}

-- ---- a transfer parameter

-- what an accepted one says of its own octets
pub record TransferOwn (times h : ℕ) (own : List ℕ) : Type 0 where
  pub used : name_used h ≡ true
  pub pli : pli_right h ≡ true
  pub fewer : times < often_of (name_of h)
  pub long : Long (extent_of h) own
  pub sound : fault_of h (contents_in (extent_of h) own) ≡ Sound

pub transfer_own : (times h : ℕ) (own rest : List ℕ) → transfer_of times h (own ++ rest) ≡ Accepted (length own) → TransferOwn times h own
transfer_own times h own rest e =
    let t = transfer_taken fault_of times h (own ++ rest) (length own) e in
    record {
      used = t.used;
      pli = t.pli;
      fewer = t.often;
      long = long_alone (extent_of h) own rest t.size;
      sound = rw take-append_seam at t.sound;
    }

pub transfer_accepts : (times h : ℕ) (own rest : List ℕ) → TransferOwn times h own
    → transfer_of times h (own ++ rest) ≡ Accepted (length own)
unfolding transfer_by
transfer_accepts times h own rest t =
    rw (
      t.used,
      t.pli,
      lt-leb (often_of (name_of h)) times t.fewer,
      long_before (extent_of h) own rest t.long,
      le-ltb (length (own ++ rest)) (length own) (simp length-append (omega arith)),
      take-append_seam,
      t.sound,
    )

-- ---- a common parameter

form_accepts : (times h n : ℕ) (xs : List ℕ) → FormTaken times h xs n → common_form times h xs ≡ Accepted n
unfolding common_form
form_accepts times h n xs f =
    rw (f.listed, f.once, ← f.size, le-ltb (length xs) n f.within, f.right)

-- transfer data that stands in these own octets is accepted
abbrev pub InnerAccepted : ℕ → List ℕ → Type 0
InnerAccepted h own = eqb h transfer_data ≡ true → (j : ℕ) × (transfers_verdict (contents_in (common_extent_of transfer_data) own) ≡ Accepted j)

-- an accepted end mark: 6 and 7
pub record Ending (whole : Bool) (n : ℕ) (xs : List ℕ) : Type 0 where
  pub whole_seen : whole ≡ true
  pub nothing : length xs ≡ 0
  pub none : n ≡ 0

end_accepted : (whole : Bool) (n : ℕ) (xs : List ℕ) → end_of whole xs ≡ Accepted n → Ending whole n xs
unfolding end_of
end_accepted whole n xs e =
    let e₁ = passed (not whole) missing 0 n _ e in
    let e₂ = passed (ltb 0 (length xs)) left_over 1 n (Accepted 0) e₁.1 in
    let same : 0 ≡ n = cc in
    record { whole_seen = not-false whole e₁.0; nothing = omega (arith, ltb-false 0 (length xs) e₂.0); none = sym same }

-- an accepted parameter that a record may hold
pub record Commoned (times h n : ℕ) (xs : List ℕ) : Type 0 where
  pub formed : FormTaken times h xs n
  pub inner : InnerAccepted h (take n xs)

abbrev pub Outcome : Bool → ℕ → Bool → ℕ → ℕ → List ℕ → Type 0
Outcome true times whole h n xs = Ending whole n xs
Outcome false times whole h n xs = Commoned times h n xs

pub common_accepted : (times : ℕ) (whole : Bool) (h n : ℕ) (xs : List ℕ) → common_of times whole h xs ≡ Accepted n
    → Outcome (eqb h end_mark) times whole h n xs
common_accepted times whole h n xs e = go (common_form times h xs) refl
  where
    many : (k : ℕ) (d : Bool) → eqb h transfer_data ≡ d → FormTaken times h xs k → cond d (data_of k xs) (Accepted k) ≡ Accepted n
        → Commoned times h n xs
    many k true p f a =
        let d = data_taken fault_of k xs n a in
        rw d.2 (record { formed = f; inner = λ _. (d.0, d.1) })
    many k false p f a =
        let same : k ≡ n = cc in
        rw (← same) (record { formed = f; inner = λ q. absurd (let z : ◌≡◌ {A = ℕ} 0 1 = cc in omega arith) })

    by : (k : ℕ) (b : Bool) → FormTaken times h xs k
        → cond b (end_of whole xs) (cond (eqb h transfer_data) (data_of k xs) (Accepted k)) ≡ Accepted n → Outcome b times whole h n xs
    by k true f a = end_accepted whole n xs a
    by k false f a = many k (eqb h transfer_data) refl f a

    go : (a : Answer) → common_form times h xs ≡ a → Outcome (eqb h end_mark) times whole h n xs
    go (Accepted k) f = by k (eqb h end_mark) (form_taken times h xs k f) (sym (common_formed fault_of times whole h xs k f) ∙ e)
    go (Err r) f = absurd (let g = common_refused fault_of times whole h xs r.0 r.1 f in let z : ◌≡◌ {A = ℕ} 0 1 = cc in omega arith)

-- one that a record may hold, of its own octets
pub record CommonOwn (times h : ℕ) (own : List ℕ) : Type 0 where
  pub listed : among h common_headers ≡ true
  pub new : times ≡ 0
  pub long : Long (common_extent_of h) own
  pub allowed : octet_allowed h (get_or own 0 0) ≡ true
  pub inner : InnerAccepted h own

-- each of them has an octet of its own
common_octet : (h : ℕ) → among h common_headers ≡ true → 1 ≤ after_of (common_extent_of h) 0
unfolding after_of common_extent_of
common_octet h l = among_each (λ k. 1 ≤ after_of (common_extent_of k) 0) common_headers (omega arith) h l

pub not_end : (h : ℕ) → among h common_headers ≡ true → eqb h end_mark ≡ false
not_end h l = not-true (eqb h end_mark) (among_every (λ k. not (eqb k end_mark)) common_headers refl h l)

first_own : (h : ℕ) (own rest : List ℕ) → among h common_headers ≡ true → Long (common_extent_of h) own → get_or (own ++ rest) 0 0 ≡ get_or own 0 0
first_own h [] rest m l = absurd (omega (arith, common_octet h m))
first_own h (x ∷ own) rest m l = refl

pub common_own : (times : ℕ) (whole : Bool) (h : ℕ) (own rest : List ℕ) → eqb h end_mark ≡ false
    → common_of times whole h (own ++ rest) ≡ Accepted (length own) → CommonOwn times h own
common_own times whole h own rest b e =
    let o : Outcome false times whole h (length own) (own ++ rest) = rw b at (common_accepted times whole h (length own) (own ++ rest) e) in
    let f = o.formed in
    let m : among h common_headers ≡ true = rw b at f.listed in
    let l = long_alone (common_extent_of h) own rest f.size in
    record {
      listed = m;
      new = f.once;
      long = l;
      allowed = rw (first_own h own rest m l) at f.right;
      inner = rw take-append_seam at o.inner;
    }

data_accepts : (a : Answer) (k j : ℕ) → a ≡ Accepted j → and_then (shifted 2 a) (λ _. Accepted k) ≡ Accepted k
data_accepts a k j e = rw e

pub common_accepts : (times : ℕ) (whole : Bool) (h : ℕ) (own rest : List ℕ) → CommonOwn times h own
    → common_of times whole h (own ++ rest) ≡ Accepted (length own)
unfolding common_by data_by
common_accepts times whole h own rest c =
    rw (form_accepts times h (length own) (own ++ rest) formed, not_end h c.listed) (go (eqb h transfer_data) refl)
  where
    formed : FormTaken times h (own ++ rest) (length own)
    formed =
        record {
          listed = rw (not_end h c.listed) c.listed;
          once = c.new;
          size = sym (long_before (common_extent_of h) own rest c.long);
          within = simp length-append (omega arith);
          right = rw (first_own h own rest c.listed c.long) c.allowed;
        }

    go : (d : Bool) → eqb h transfer_data ≡ d → cond d (data_of (length own) (own ++ rest)) (Accepted (length own)) ≡ Accepted (length own)
    go true e = let i = c.inner e in rw take-append_seam (data_accepts _ (length own) i.0 i.1)
    go false e = refl

pub end_accepts : common_of 0 true end_mark [] ≡ Accepted 0
unfolding common_by common_form value_allowed after_of common_extent_of end_of
end_accepts = refl
