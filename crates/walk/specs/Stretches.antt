-- Laws of where a parameter's contents stand by the length rule.
use Rattle.std.specs.Prelude.{ℕ, ◌+◌, ◌-◌, ◌≤◌, ◌<◌, ◌≡◌, Bool, cond, List, [], ◌∷◌, length, get_or, take, drop}
use Rattle.std.proofs.Math.Path.{refl}
use Rattle.std.proofs.Common.{sym, arith, lt-ltb, le-leb, ltb-true, ltb-false, leb-true, leb-false, length-drop, drop-drop, length-take-le}
use Rattle.std.proofs.Math.Bool.{true, false}
use Rattle.std.proofs.Math.Dec.{leb, ltb}
use Rattle.annex.specs.Units.{lead_of, contents_in}
use Rattle.annex.specs.Walk.{Par, size_by, pars}
use Rattle.annex.specs.Walking.{after_at, stretch_at}
use Rattle.annex.specs.declared.Extent.{Extent}
use Rattle.annex.specs.Answers.{Found, At, Nowhere}
use Rattle.laws.specs.Extents.{lead_within}
use Rattle.laws.specs.Parts.{from_to}
use Rattle.laws.specs.Plain.{pars_end, pars_short, pars_next}

-- the parameter that ends at x, of the header at i
abbrev pub par_in : List ℕ → ℕ → ℕ → Par
par_in t i x = record { place = i; head = get_or t i 0; own = take (x - (i + 1)) (drop (i + 1) t) }

-- one that is whole
pub stretch_whole : (t : List ℕ) (i n : ℕ) (e : Extent) → i < length t → n ≡ after_at t i e → n ≤ length t - (i + 1)
    → stretch_at t i e ≡ At (i + 1 + lead_of e) (i + 1 + n)
unfolding stretch_at
stretch_whole t i n e h s l = rw (lt-ltb i (length t) h, ← s, le-leb n (length t - (i + 1)) l)

-- what is known of a whole parameter, if ext says what the PLI of a header says: its contents stand from s to x, and others come behind it
pub record Whole (ext : ℕ → Extent) (t : List ℕ) (i s x : ℕ) : Type 0 where
  pub farther : i < x
  pub ordered : s ≤ x
  pub within : x ≤ length t
  pub long : i + 1 + length (par_in t i x).own ≡ x
  pub contents : contents_in (ext (get_or t i 0)) (par_in t i x).own ≡ take (x - s) (drop s t)
  pub next : pars (size_by ext) 0 i (drop i t) ≡ par_in t i x ∷ pars (size_by ext) 0 x (drop x t)

module _ (ext : ℕ → Extent) (t : List ℕ) (i : ℕ) where
  abbrev here : Extent
  here = ext (get_or t i 0)

  whole : (n : ℕ) → i < length t → n ≡ after_at t i here → n ≤ length t - (i + 1) → Whole ext t i (i + 1 + lead_of here) (i + 1 + n)
  whole n h s l =
      let k : i + 1 + n - (i + 1) ≡ n = omega arith in
      let c : i + 1 + n - (i + 1 + lead_of here) ≡ n - lead_of here = omega arith in
      record {
        farther = omega arith;
        ordered = omega (arith, lead_within here (get_or t (i + 1) 0));
        within = omega arith;
        long = rw (k, length-take-le n (drop (i + 1) t) (rw length-drop l));
        contents = rw (k, c, ← drop-drop (lead_of here) (i + 1) t) (sym (from_to (lead_of here) n (drop (i + 1) t)));
        next = rw k (pars_next ext t i n h s l);
      }

  -- by what is found at i: where it is nowhere, no parameters come
  abbrev Known : Found → Type 0
  Known (At s x) = Whole ext t i s x
  Known Nowhere = pars (size_by ext) 0 i (drop i t) ≡ []

  known : Known (stretch_at t i here)
  unfolding stretch_at
  known = go (ltb i (length t)) refl (leb (after_at t i here) (length t - (i + 1))) refl
    where
      go : (a : Bool) → ltb i (length t) ≡ a → (b : Bool) → leb (after_at t i here) (length t - (i + 1)) ≡ b
          → Known (cond a (cond b (At (i + 1 + lead_of here) (i + 1 + after_at t i here)) Nowhere) Nowhere)
      go true p true q = whole (after_at t i here) (ltb-true i (length t) p) refl (leb-true (after_at t i here) (length t - (i + 1)) q)
      go true p false q = pars_short ext t i _ (ltb-true i (length t) p) refl (leb-false (after_at t i here) (length t - (i + 1)) q)
      go false p b q = pars_end (size_by ext) i i t (ltb-false i (length t) p)

  pub stretch_told : {s x : ℕ} → stretch_at t i here ≡ At s x → Whole ext t i s x
  stretch_told h = rw h at known

  pub stretch_none : stretch_at t i here ≡ Nowhere → pars (size_by ext) 0 i (drop i t) ≡ []
  stretch_none h = rw h at known
