-- The rows of a connection order from a cursor on, by the length rule alone, in octets of any kind: `row_here` gives the first of them, and
-- behind `next` the others are left. In an accepted message those from the first cursor on are the rows of its order.
use Rattle.std.specs.Prelude.{ℕ, zero, suc, ◌+◌, ◌-◌, ◌≤◌, ◌<◌, ◌≡◌, refl, Bool, true, false, cond, List, [], ◌∷◌, eqb, leb, ltb, length, get_or, take, drop, Err, Option, Some, None, is_some, ⊤, not}
use Rattle.std.proofs.Common.{zero-add, add-zero, add-one, arith, sym, ap, ◌∙◌, leb-true, le-ltb, lt-ltb, leb-false, ne_eqb, length-take, length-drop, drop_of_length-le, drop-drop, drop-cons, get_or-drop, take_all, length-take-le}
use Rattle.std.specs.Bool.{then_some}
use Rattle.std.proofs.lemmas.Bool.{lt-leb}
use Rattle.std.proofs.lemmas.List.{length-map}
use Rattle.std.proofs.Math.Seq.{drop-nil}
use Rattle.annex.specs.Answers.{start_of, stop_of, and_then, Answer, Accepted, Found, At, Nowhere}
use Rattle.annex.specs.Finding.{found_answer, find_answer, find_part}
use Rattle.annex.specs.Heads.{connection_order}
use Rattle.annex.specs.Opened.{form_row, parameter_row, order_listing, order_found, order_rows_of, order_answer}
use Rattle.annex.specs.Ordering.{
  order_span,
  order_left,
  parameter_rows,
  taken_of,
  order_rows_plain,
  order_rows_from,
  order_row_here,
  order_behind,
  order_next,
}
use Rattle.annex.specs.Orders.{layout_of, order_after, order_size}
use Rattle.annex.specs.Reading.{verdict_of}
use Rattle.annex.specs.Units.{name_of}
use Rattle.annex.specs.Walk.{pars}
use Rattle.annex.specs.Walking.{cursor_to, first_cursor, no_row, transfer_plain}
use Rattle.annex.specs.declared.Cursor.{Cursor}
use Rattle.annex.specs.declared.Key.TheVariants.{Name}
use Rattle.annex.specs.declared.Row.{Row}
use Rattle.laws.specs.Finding.{Inside, plain_inside, transfer_plain_lem}
use Rattle.laws.specs.Listed.{rows_after}
use Rattle.laws.specs.Orders.{after_some}
use Rattle.laws.specs.Parts.{from_to}
use Rattle.laws.specs.Plain.{pars_skip, pars_moved}
use Rattle.laws.specs.Rows.{Accepts}
use Rattle.walk.specs.Cursors.{cursor_at}
use Rattle.rows.specs.Tables.{Given, listing}
use Rattle.rows.specs.Walks.{Turns, told}

-- ---- the first parameter of octets

-- what is known of the octets xs at the place p, where it takes n of them
abbrev pub Known : ℕ → List ℕ → ℕ → Type 0
Known p xs zero = parameter_rows p xs ≡ []
Known p xs (suc n) =
    (n < length xs)
    × (parameter_rows p xs ≡ record { offset = p; header = get_or xs 0 0; len = n } ∷ parameter_rows (p + suc n) (drop (suc n) xs))

known : (p : ℕ) (xs : List ℕ) → Known p xs (taken_of xs)
unfolding taken_of pars
known p [] = refl
known p (h ∷ xs) = go (leb (order_size h xs) (length xs)) refl
  where
    go : (b : Bool) → leb (order_size h xs) (length xs) ≡ b → Known p (h ∷ xs) (cond b (suc (order_size h xs)) 0)
    go true e =
        let n : ℕ = order_size h xs in
        let l : n ≤ length xs = leb-true n (length xs) e in
        let a : p + 1 + n ≡ p + suc n = omega arith in
        (omega arith, rw (e, pars_skip order_size n (p + 1) xs, a, zero-add p, length-take-le n xs l))
    go false e = rw e

-- none has no rows
none_over : (p : ℕ) → parameter_rows p [] ≡ []
unfolding pars
none_over p = refl

-- what the first two octets tell: how many octets behind the header are its own
abbrev pub size_ahead : List ℕ → ℕ
size_ahead xs = order_after (layout_of (get_or xs 0 0)) (get_or xs 1 0)

-- how many are its own, none where it is cut, or there is none
abbrev own_of : ℕ → Option ℕ
own_of zero = None
own_of (suc n) = Some n

abbrev pub own_size : List ℕ → Option ℕ
own_size xs = own_of (taken_of xs)

pub own_short : (xs : List ℕ) → length xs < 2 → own_size xs ≡ None
unfolding taken_of
own_short [] h = refl
own_short (x ∷ xs) h =
    let a = after_some (layout_of x) (get_or xs 0 0) in
    rw (lt-leb (order_size x xs) (length xs) (omega arith))

pub own_told : (xs : List ℕ) → 2 ≤ length xs → own_size xs ≡ then_some (ltb (size_ahead xs) (length xs)) (size_ahead xs)
unfolding taken_of
own_told [] h = absurd (omega arith)
own_told (x ∷ xs) h = go (leb (order_size x xs) (length xs)) refl
  where
    go : (b : Bool) → leb (order_size x xs) (length xs) ≡ b
        → own_of (cond b (suc (order_size x xs)) 0) ≡ then_some (ltb (order_size x xs) (suc (length xs))) (order_size x xs)
    go true e = let l = leb-true (order_size x xs) (length xs) e in rw (lt-ltb (order_size x xs) (suc (length xs)) (omega arith))
    go false e = let l = leb-false (order_size x xs) (length xs) e in rw (le-ltb (order_size x xs) (suc (length xs)) (omega arith))

pub own_none : (xs : List ℕ) → own_size xs ≡ None → taken_of xs ≡ 0
own_none xs e = go (taken_of xs) e
  where
    go : (n : ℕ) → own_of n ≡ None → n ≡ 0
    go zero f = refl
    go (suc n) f = absurd (let z : ◌≡◌ {A = ℕ} 0 1 = cc in omega arith)

pub own_some : (xs : List ℕ) (k : ℕ) → own_size xs ≡ Some k → taken_of xs ≡ suc k
own_some xs k e = go (taken_of xs) e
  where
    go : (n : ℕ) → own_of n ≡ Some k → n ≡ suc k
    go zero f = absurd (let z : ◌≡◌ {A = ℕ} 0 1 = cc in omega arith)
    go (suc n) f = let g : n ≡ k = cc in ap suc g

-- a whole one lies within the octets, and its row is the first of theirs
pub own_known : (p : ℕ) (xs : List ℕ) (k : ℕ) → own_size xs ≡ Some k → Known p xs (suc k)
own_known p xs k e = rw (own_some xs k e) at (known p xs)

pub own_over : (p : ℕ) (xs : List ℕ) → own_size xs ≡ None → parameter_rows p xs ≡ []
own_over p xs e = rw (own_none xs e) at (known p xs)

-- ---- the rows of contents

-- behind the form's row come those of the parameters behind the form
listing_rest : (p : ℕ) (xs : List ℕ) → drop 1 (order_listing p xs) ≡ parameter_rows (p + 1) (drop 1 xs)
unfolding order_listing pars
listing_rest p [] = refl
listing_rest p (form ∷ xs) = pars_moved order_size (parameter_row p) (parameter_row 0) p (λ q h n ys. rw (zero-add (p + q))) 0 1 xs

-- where they start in the message decides nothing of how many they are
listing_long : (p : ℕ) (xs : List ℕ) → length (order_listing p xs) ≡ length (order_listing 0 xs)
unfolding order_listing
listing_long p [] = refl
listing_long p (form ∷ xs) = rw (length-map, length-map)

-- the form's row is the first
pub listing_first : (p : ℕ) (xs : List ℕ) → 0 < length xs → get_or (order_listing p xs) 0 no_row ≡ form_row p (get_or xs 0 0)
unfolding order_listing
listing_first p [] h = absurd (omega arith)
listing_first p (form ∷ xs) h = refl

-- empty contents have none
pub listing_none : (p : ℕ) (xs : List ℕ) → length xs ≡ 0 → order_listing p xs ≡ []
unfolding order_listing
listing_none p [] h = refl
listing_none p (form ∷ xs) h = absurd (omega arith)

-- where there are octets there are rows
pub listing_more : (p : ℕ) (xs : List ℕ) → not (eqb (length xs) 0) ≡ ltb 0 (length (order_listing p xs))
unfolding order_listing
listing_more p [] = refl
listing_more p (form ∷ xs) = rw (ne_eqb (suc (length xs)) 0 (λ z. omega arith)) (sym (lt-ltb 0 (length (order_listing p (form ∷ xs))) (omega arith)))

pub own_more : (p : ℕ) (xs : List ℕ) → is_some (own_size xs) ≡ ltb 0 (length (parameter_rows p xs))
own_more p xs = go (taken_of xs) (known p xs)
  where
    go : (n : ℕ) → Known p xs n → is_some (own_of n) ≡ ltb 0 (length (parameter_rows p xs))
    go zero k = rw k
    go (suc n) k = sym (lt-ltb 0 (length (parameter_rows p xs)) (omega (arith, ap length k.1)))

-- the form's row counts one
pub listing_some : (xs : List ℕ) → (length xs ≡ 0 → ⊥) → length (order_listing 0 xs) ≡ 1 + length (parameter_rows 1 (drop 1 xs))
unfolding order_listing
listing_some [] h = absurd (h refl)
listing_some (form ∷ xs) h = omega arith

-- and so does that of a whole parameter at i
pub count_turn : (xs : List ℕ) (i k : ℕ) → own_size (drop i xs) ≡ Some k →
    let j = i + (k + 1) in
    (j ≤ length xs) × (length (parameter_rows i (drop i xs)) ≡ 1 + length (parameter_rows j (drop j xs)))
count_turn xs i k e =
    let w = own_known i (drop i xs) k e in
    let l : suc k ≤ length xs - i = rw length-drop at w.0 in
    rw (add-one k, ← drop-drop (suc k) i xs) (omega (arith, l), omega (arith, ap length w.1))

-- ---- a turn

-- up to the end of the message
pub left_all : (m : List ℕ) (at : ℕ) → order_left m (cursor_to at (length m)) ≡ drop at m
left_all m at = rw (le-ltb (length m) (length m) (omega arith), take_all (length m) m (omega arith))

-- what is left lies within the message
pub left_long : (m : List ℕ) (c : Cursor) → length (order_left m c) ≤ length m - c.at
left_long m c = go (ltb (length m) c.end)
  where
    go : (b : Bool) → length (cond b [] (drop c.at (take c.end m))) ≤ length m - c.at
    go true = omega arith
    go false = simp (length-drop, length-take) (omega arith)

-- and so does a whole parameter there
pub own_within : (m : List ℕ) (c : Cursor) (k : ℕ) → own_size (order_left m c) ≡ Some k → c.at + k < length m
own_within m c k e = let w = own_known c.at (order_left m c) k e in omega (arith, w.0, left_long m c)

-- n octets further on
left_more : (m : List ℕ) (at end n : ℕ) → order_left m (cursor_to (at + n) end) ≡ drop n (order_left m (cursor_to at end))
left_more m at end n = go (ltb (length m) end)
  where
    go : (b : Bool) → cond b [] (drop (at + n) (take end m)) ≡ drop n (cond b [] (drop at (take end m)))
    go true = sym (drop-nil n)
    go false = sym (drop-drop n at (take end m))

-- nothing is left at the end or past it
pub left_past : (m : List ℕ) (at end : ℕ) → end ≤ at → order_left m (cursor_to at end) ≡ []
left_past m at end h = go (ltb (length m) end)
  where
    go : (b : Bool) → cond b [] (drop at (take end m)) ≡ []
    go true = refl
    go false = let l : length (take end m) ≤ at = simp length-take (omega arith) in drop_of_length-le (take end m) {i = at} l

-- the cursor behind a parameter that is not cut
pub behind_more : (c : Cursor) (n : ℕ) → (n ≡ 0 → ⊥) → order_behind c n ≡ cursor_to (c.at + n) c.end
behind_more c zero h = absurd (h refl)
behind_more c (suc n) h = refl

-- behind the first row the others are left
rows_turn : (m : List ℕ) (c : Cursor) → order_rows_from m (order_next m c) ≡ drop 1 (order_rows_from m c)
unfolding order_rows_from order_next
rows_turn m c = go (eqb c.at 0) refl
  where
    in_order : (n : ℕ) → eqb c.at 0 ≡ false → Known c.at (order_left m c) n
        → order_rows_from m (order_behind c n) ≡ drop 1 (parameter_rows c.at (order_left m c))
    in_order zero e k = rw (e, left_past m c.at c.at (omega arith), k, none_over c.at)
    in_order (suc n) e k =
        rw (ne_eqb (c.at + suc n) 0 (λ z. omega arith), left_more m c.at c.end (suc n)) (sym (ap (drop 1) k.1))

    go : (b : Bool) → eqb c.at 0 ≡ b
        → order_rows_from m (cond b (cursor_to ((order_span m).at + 1) (order_span m).end) (order_behind c (taken_of (order_left m c))))
        ≡ drop 1 (cond b (order_rows_plain m) (parameter_rows c.at (order_left m c)))
    go true e =
        let s : Cursor = order_span m in
        rw (ne_eqb (s.at + 1) 0 (λ z. omega arith), left_more m s.at s.end 1) (sym (listing_rest s.at (order_left m s)))
    go false e = in_order (taken_of (order_left m c)) e (known c.at (order_left m c))

-- where there is one, it comes first
pub rows_step : (m : List ℕ) (c : Cursor) → 0 < length (order_rows_from m c)
    → order_rows_from m c ≡ order_row_here m c ∷ order_rows_from m (order_next m c)
rows_step m c h =
    drop-cons (order_rows_from m c) 0 no_row h ∙ ap (λ (l : List Row). order_row_here m c ∷ l) (sym (rows_turn m c))

-- one turn after the other; no cursor is amiss
pub order_turn : Turns order_rows_from (λ m c. ⊤) order_row_here order_next
order_turn = record { rows = λ m c a h. rows_step m c h; again = λ m c a h. tt }

-- behind k rows, also where there are fewer
rows_behind : (m : List ℕ) (k : ℕ) → order_rows_from m (cursor_at (order_next m) k) ≡ drop k (order_rows_plain m)
unfolding cursor_at order_rows_from
rows_behind m zero = refl
rows_behind m (suc k) =
    rows_turn m (cursor_at (order_next m) k) ∙ ap (drop 1) (rows_behind m k) ∙ drop-drop 1 k (order_rows_plain m)
    ∙ rw (add-one k)

row_behind : (m : List ℕ) (k : ℕ) → order_row_here m (cursor_at (order_next m) k) ≡ get_or (order_rows_plain m) k no_row
row_behind m k =
    ap (λ (l : List Row). get_or l 0 no_row) (rows_behind m k) ∙ get_or-drop k (order_rows_plain m) 0 no_row ∙ rw (add-zero k)

-- ---- of a message

-- E0's contents lie within it
span_inside : (f : Found) (n : ℕ) → Inside n f → (start_of f ≤ stop_of f) × (stop_of f ≤ n)
span_inside (At s e) n i = i.at s e refl
span_inside Nowhere n i = (omega arith, omega arith)

pub span_within : (m : List ℕ) → ((order_span m).at ≤ (order_span m).end) × ((order_span m).end ≤ length m)
span_within m = span_inside (transfer_plain (name_of connection_order) 0 m) (length m) (plain_inside (Name (name_of connection_order) 0) m)

-- one in which E0 is found is accepted
found_accepts : (m : List ℕ) (q : ℕ) → find_answer m (order_found m) ≡ Accepted q → Accepts m
found_accepts m q e = go (verdict_of m) refl e
  where
    go : (a : Answer) → verdict_of m ≡ a → and_then a (λ _. found_answer (order_found m)) ≡ Accepted q → Accepts m
    go (Accepted n) v f = (n, v)
    go (Err r) v f = absurd (let z : ◌≡◌ {A = ℕ} 0 1 = cc in omega arith)

-- there the length rule alone finds the order's rows
rows_plain : (m : List ℕ) → Accepts m → order_rows_of m ≡ order_rows_plain m
unfolding order_rows_of
rows_plain m a =
    let s : Cursor = order_span m in
    let found : order_found m ≡ transfer_plain (name_of connection_order) 0 m = transfer_plain_lem (name_of connection_order) 0 m a.0 a.1 in
    rw (found, a.1, le-ltb (length m) s.end (span_within m).1, from_to s.at s.end m)

-- those from the first cursor on
pub rows_first : (m : List ℕ) (q : ℕ) → find_answer m (order_found m) ≡ Accepted q → order_rows_from m first_cursor ≡ order_rows_of m
unfolding order_rows_from
rows_first m q e = sym (rows_plain m (found_accepts m q e))

-- they are as many as its contents have
pub rows_long : (m : List ℕ) → length (order_rows_of m) ≡ length (order_listing 0 (find_part m (order_found m)))
unfolding order_rows_of
rows_long m = listing_long (start_of (order_found m)) (find_part m (order_found m))

pub rows_counted : (m xs : List ℕ) (n : ℕ) → xs ≡ find_part m (order_found m) → n ≡ length (order_listing 0 xs) → length (order_rows_of m) ≡ n
rows_counted m xs n e c = rows_long m ∙ sym (c ∙ ap (λ (s : List ℕ). length (order_listing 0 s)) e)

-- an accepted listing of them
pub order_given : (m : List ℕ) (room n : ℕ) (a : Answer) → a ≡ order_answer m room → a ≡ Accepted n
    → Given order_rows_from (λ m c. ⊤) m (order_rows_of m) room n
unfolding order_answer
order_given m room n a e f =
    let l = listing (find_answer m (order_found m)) (order_rows_of m) room n (sym e ∙ f) in
    record { stands = tt; same = rows_first m l.accepts.0 l.accepts.1; count = l.count; roomy = omega (arith, l.count, l.roomy) }

-- the rows that its listing gives, none where it refuses
abbrev pub order_listed : List ℕ → List Row
order_listed m = rows_after (find_answer m (order_found m)) (order_rows_of m)

-- row k is told at the cursor behind k rows
pub row_told : (m : List ℕ) (k : ℕ) → k < length (order_listed m)
    → order_row_here m (cursor_at (order_next m) k) ≡ get_or (order_listed m) k no_row
row_told m k h = go (find_answer m (order_found m)) refl h
  where
    go : (a : Answer) → find_answer m (order_found m) ≡ a → k < length (rows_after a (order_rows_of m))
        → order_row_here m (cursor_at (order_next m) k) ≡ get_or (rows_after a (order_rows_of m)) k no_row
    go (Accepted q) e l = let s = rows_first m q e in rw s at (told order_turn m tt k (rw s l))
    go (Err r) e l = absurd (omega arith)
