-- One turn of `order_fault`: what the row that the table gives for the header h, at an offset, tells of the order.
use Rattle.std.proofs.Common.{ℕ, ◌+◌, ◌<◌, ◌≡◌, Bool, true, false, List, length, get_or, set, drop, sym, ap, subst, ◌∙◌}
use Rattle.annex.specs.Answers.{wrong_order, Sound, Bad}
use Rattle.annex.specs.Orders.{order_after, may_stand, own_fault, order_fault}
use Rattle.orders.specs.Asked.{asked_of, has_bit, stand_bits}
use Rattle.orders.specs.declared.table.Asked.{Asked}
use Rattle.orders.specs.Walked.{place_below, Going, may_not, stood, own_bad, going_on}

module _ (s : List ℕ) (at h : ℕ) (a : Asked) (eh : h ≡ get_or s at 0) (e : a ≡ asked_of h) (o : get_or s at 0 < 256) where
  row : a ≡ asked_of (get_or s at 0)
  row = e ∙ ap asked_of eh

  -- where the header's mark is
  pub marked : a.place < 13
  marked = subst (λ (r : Asked). r.place < 13) (sym row) (place_below (get_or s at 0) o)

  module _ (seen : List Bool) (form : ℕ) (g : Going s seen at) (l : at < length s) (ef : form ≡ get_or s 0 0) (z : get_or s 0 0 < 256) where
    bit : may_stand (get_or s 0 0) (get_or s at 0) ≡ has_bit a.forms form
    bit =
        sym (ap (λ (r : Asked). has_bit r.forms form) row
        ∙ (ap (has_bit (asked_of (get_or s at 0)).forms) ef ∙ stand_bits (get_or s at 0) (get_or s 0 0) o z))

    mark : get_or seen (asked_of (get_or s at 0)).place false ≡ get_or seen a.place false
    mark = ap (λ (r : Asked). get_or seen r.place false) (sym row)

    -- the header may not stand under the form
    pub unlisted : has_bit a.forms form ≡ false → order_fault s ≡ Bad wrong_order 0
    unlisted b = may_not s seen at g l o (bit ∙ b)

    -- it may, and has stood
    pub twice : has_bit a.forms form ≡ true → get_or seen a.place false ≡ true → order_fault s ≡ Bad wrong_order 0
    twice b f = stood s seen at g l o (bit ∙ b) (mark ∙ f)

    -- it may, has not stood, and something is wrong with its own octets
    pub bad : has_bit a.forms form ≡ true → get_or seen a.place false ≡ false → (k i : ℕ)
        → own_fault a.layout (at + 1) (drop (at + 1) s) ≡ Bad k i → order_fault s ≡ Bad k i
    bad b f k i w =
        own_bad s seen at g l o (bit ∙ b) (mark ∙ f) k i
        (ap (λ (r : Asked). own_fault r.layout (at + 1) (drop (at + 1) s)) (sym row) ∙ w)

    -- or nothing is, and it goes on behind them
    pub sound : has_bit a.forms form ≡ true → get_or seen a.place false ≡ false
        → own_fault a.layout (at + 1) (drop (at + 1) s) ≡ Sound
        → Going s (set seen a.place true) (at + 1 + order_after a.layout (get_or s (at + 1) 0))
    sound b f w =
        subst (λ (r : Asked). Going s (set seen r.place true) (at + 1 + order_after r.layout (get_or s (at + 1) 0))) (sym row)
        (going_on s seen at g l o (bit ∙ b) (mark ∙ f)
        (ap (λ (r : Asked). own_fault r.layout (at + 1) (drop (at + 1) s)) (sym row) ∙ w))
