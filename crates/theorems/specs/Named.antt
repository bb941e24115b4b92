-- The transfer parameter of a name with the number k of those, counted from 0, if the name stands oftener than k times: k of the name stand
-- in front of it.
use Rattle.std.specs.Prelude.{ℕ, zero, suc, ◌<◌, ◌≡◌, refl, Bool, true, false, cond, List, [], ◌∷◌, ◌++◌, eqb}
use Rattle.std.proofs.Common.{arith, sym, ap, eqb-true}
use Rattle.annex.specs.Units.{name_of}
use Rattle.annex.specs.Heads.{kth}
use Rattle.annex.specs.Items.{Item}
use Rattle.annex.specs.Allowed.{times_in, names_of}

-- one more to be passed over where this one has the name (b), and this one is passed over
pub passed_over : {A : Type 0} (b : Bool) (n : ℕ) (a : A) (f : ℕ → A) → cond b (kth (cond b (suc n) n) a f) (f (cond b (suc n) n)) ≡ f n
passed_over true n a f = refl
passed_over false n a f = refl

-- the one of the name x with the number `which`
pub record Chosen (x which : ℕ) (is : List Item) : Type 0 where
  pub front : List Item
  pub one : Item
  pub back : List Item
  pub whole : is ≡ front ++ (one ∷ back)
  pub named : name_of one.header ≡ x
  pub before : times_in x (names_of front) ≡ which

pub choose : (x which : ℕ) (is : List Item) → which < times_in x (names_of is) → Chosen x which is
choose x which [] l = absurd (omega arith)
choose x which (i ∷ is) l = go (eqb x (name_of i.header)) refl which l (λ w. choose x w is)
  where
    behind : (w : ℕ) (c : Chosen x w is) (v : ℕ) → times_in x (names_of (i ∷ c.front)) ≡ v → Chosen x v (i ∷ is)
    behind w c v e =
        record {
          front = i ∷ c.front;
          one = c.one;
          back = c.back;
          whole = ap (λ (l : List Item). i ∷ l) c.whole;
          named = c.named;
          before = e;
        }

    go : (b : Bool) → eqb x (name_of i.header) ≡ b → (v : ℕ) → v < cond b (suc (times_in x (names_of is))) (times_in x (names_of is))
        → ((w : ℕ) → w < times_in x (names_of is) → Chosen x w is) → Chosen x v (i ∷ is)
    go true e zero l f =
        record { front = []; one = i; back = is; whole = refl; named = sym (eqb-true x (name_of i.header) e); before = refl }
    go true e (suc w) l f = let c = f w (omega arith) in behind w c (suc w) (rw e (ap suc c.before))
    go false e w l f = let c = f w l in behind w c w (rw e c.before)
