-- A whole transfer parameter of a name, from its header to its end, found by the length rule alone: it is where an edit has it.
use Rattle.std.specs.Prelude.{ℕ, ◌+◌, ◌≡◌, refl, true, List, [], ◌∷◌, ◌++◌, eqb, length, drop}
use Rattle.std.proofs.Common.{arith, sym, ap, ◌∙◌, eq-eqb}
use Rattle.annex.specs.Units.{name_of}
use Rattle.annex.specs.Layout.{layout_item}
use Rattle.annex.specs.Allowed.{times_in}
use Rattle.annex.specs.Walk.{Par}
use Rattle.annex.specs.Reading.{transfers_verdict}
use Rattle.annex.specs.Answers.{Accepted, Found, At, Nowhere}
use Rattle.annex.specs.declared.Key.TheVariants.{Name}
use Rattle.annex.specs.Contents.{fault_of}
use Rattle.annex.specs.Walking.{is_sought, sought_in, search_in, contents_at, transfer_search}
use Rattle.laws.specs.Plain.{transfers_plain}
use Rattle.theorems.specs.Counts.{names_in}
use Rattle.theorems.specs.Transfers.{item_par}
use Rattle.theorems.specs.Named.{passed_over}
use Rattle.theorems.specs.Places.{is_found}
use Rattle.theorems.specs.Splices.{Stands}

abbrev pub whole_search : ℕ → ℕ → List ℕ → Found
whole_search x which t = search_in (Name x which) t

-- it is found where its contents are
pub whole_there : (x which : ℕ) (t : List ℕ) → is_found (transfer_search x which t) ≡ is_found (whole_search x which t)
whole_there x which t = go (whole_search x which t)
  where
    go : (f : Found) → is_found (contents_at (Name x which) t f) ≡ is_found f
    go (At i e) = refl
    go Nowhere = refl

-- it is the one in front of which as many of its name stand
whole_behind : (x k : ℕ) (ahead : List Par) (q : Par) (rest : List Par) → is_sought (Name x k) q.head ≡ true
    → sought_in (Name x k) (times_in x (names_in ahead)) (ahead ++ (q ∷ rest)) ≡ At q.place (q.place + 1 + length q.own)
unfolding sought_in
whole_behind x k [] q rest n = rw n
whole_behind x k (p ∷ ahead) q rest n =
    passed_over (eqb x (name_of p.head)) (times_in x (names_in ahead)) _ (λ w. sought_in (Name x k) w (ahead ++ (q ∷ rest)))
    ∙ whole_behind x k ahead q rest n

pub whole_stands : (x which : ℕ) (m t : List ℕ) (s at : ℕ) (old : List ℕ) (k : ℕ) → transfers_verdict t ≡ Accepted k
    → Stands x which m t s at old → whole_search x which t ≡ At at (at + length old)
unfolding layout_item
whole_stands x which m t s at old k v w =
    let l = ap length w.laid in
    let named : is_sought (Name x which) w.item.header ≡ true = eq-eqb x _ (sym w.named) in
    let end : at + 1 + length (drop 1 (layout_item w.item)) ≡ at + length old = omega arith in
    rw (← transfers_plain fault_of t k v, w.listed, ← end)
    (rw w.before at (whole_behind x which w.ahead (item_par at w.item) w.rest named))
