-- Laws of connection orders. The last: under no form may more than four headers stand.
use Rattle.std.specs.Prelude.{ℕ, zero, suc, ◌+◌, ◌≤◌, ◌≡◌, refl, Bool, true, false, cond, ◌||◌, List, [], ◌∷◌, ◌++◌, map, eqb, leb, length, get_or, drop}
use Rattle.std.proofs.Common.{add-zero, arith, ap, ◌∙◌, leb-true}
use Rattle.std.proofs.Math.ListN.{get_or-append}
use Rattle.annex.specs.Heads.{among}
use Rattle.annex.specs.Orders.{
  order_forms,
  OrderRow,
  order_rows,
  order_headers,
  forms_of,
  layout_of,
  may_stand,
  order_after,
  order_size,
  ordered,
  parameters_fault,
  row_in,
}
use Rattle.annex.specs.Answers.{Sound}
use Rattle.annex.specs.declared.OrderLayout.{OrderLayout}
use Rattle.annex.specs.declared.OrderLayout.TheVariants.{
  TrunkKind,
  ReleaseKind,
  RedirectReason,
  SentDigits,
  ForwardNumber,
  AreControl,
  AreLogic,
  Guidance,
  WaitingTime,
}
use Rattle.laws.specs.Members.{among_every, passing}

-- some octet follows each header
pub after_some : (k : OrderLayout) (x : ℕ) → 1 ≤ order_after k x
unfolding order_after
after_some TrunkKind x = omega arith
after_some ReleaseKind x = omega arith
after_some RedirectReason x = omega arith
after_some SentDigits x = omega arith
after_some ForwardNumber x = omega arith
after_some AreControl x = omega arith
after_some AreLogic x = omega arith
after_some Guidance x = omega arith
after_some WaitingTime x = omega arith

-- 19 is not told
pub in_order : (b : Bool) → ordered b ≡ Sound → b ≡ true
in_order true e = refl
in_order false e = absurd (let z : ◌≡◌ {A = ℕ} 0 1 = cc in omega arith)

-- the octets that belong to the one before are passed over
pub parameters_skip : (form : ℕ) (before : List ℕ) (k at : ℕ) (xs : List ℕ)
    → parameters_fault form before k at xs ≡ parameters_fault form before 0 (at + k) (drop k xs)
unfolding parameters_fault
parameters_skip form before zero at xs = rw add-zero
parameters_skip form before (suc k) at [] = refl
parameters_skip form before (suc k) at (x ∷ xs) =
    let e : at + 1 + k ≡ at + suc k = omega arith in
    parameters_skip form before k (at + 1) xs ∙ ap (λ (p : ℕ). parameters_fault form before 0 p (drop k xs)) e

-- a parameter of as many octets as its layout says, before others: the count is told by its own octets
pub size_own : (h : ℕ) (own rest : List ℕ) → length own ≡ order_after (layout_of h) (get_or own 0 0) → order_size h (own ++ rest) ≡ length own
size_own h own rest e =
    let some : 1 ≤ length own = omega (arith, after_some (layout_of h) (get_or own 0 0)) in
    rw (get_or-append own rest 0 0 some, ← e)

-- ---- how many headers may stand under a form

-- if some form is in the row of a header, the header is that of a row
row_listed : (form : ℕ) (rs : List OrderRow) (h : ℕ) → among form (row_in rs h).forms ≡ true → among h (map (λ r. r.header) rs) ≡ true
row_listed form [] h e = e
row_listed form (r ∷ rs) h e = go (eqb h r.header) (row_listed form rs h) e
  where
    headers : List ℕ
    headers = map (λ r. r.header) rs

    go : (b : Bool) → (among form (row_in rs h).forms ≡ true → among h headers ≡ true)
        → among form (cond b r (row_in rs h)).forms ≡ true → b || among h headers ≡ true
    go true i e = refl
    go false i e = i e

-- a header that may stand under some form is in the table
pub stands_listed : (form h : ℕ) → may_stand form h ≡ true → among h order_headers ≡ true
unfolding forms_of
stands_listed form h e = row_listed form order_rows h e

-- under no form may more than four: one test of each form
pub few_stand : (form : ℕ) → among form order_forms ≡ true → passing (may_stand form) [] order_headers ≤ 4
unfolding forms_of
few_stand form e = leb-true _ 4 (among_every (λ f. leb (passing (may_stand f) [] order_headers) 4) order_forms refl form e)
