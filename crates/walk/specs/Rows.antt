-- The rows from a cursor on, of octets of any kind, as `next` goes over them. Of an accepted message they are those of its listing.
use Rattle.std.specs.Prelude.{ℕ, ◌+◌, ◌-◌, ◌≤◌, ◌<◌, ◌≡◌, refl, Bool, true, false, cond, List, [], ◌∷◌, map, eqb, leb, ltb, length, get_or}
use Rattle.std.proofs.Common.{arith, sym, ap, ◌∙◌}
use Rattle.std.proofs.lemmas.List.{length-map}
use Rattle.annex.specs.Answers.{start_of, stop_of, Found, At, Nowhere}
use Rattle.annex.specs.Heads.{transfer_data}
use Rattle.annex.specs.Spans.{rows_of}
use Rattle.annex.specs.Units.{lead_of}
use Rattle.annex.specs.Walking.{steps_from, rows_left, after_at, cursor_to, first_cursor, extent_here, stretch_at, stretch_here, row_here, next_behind, next_of}
use Rattle.annex.specs.declared.Cursor.{Cursor}
use Rattle.annex.specs.declared.Extent.{Extent}
use Rattle.annex.specs.declared.Row.{Row}
use Rattle.laws.specs.Extents.{lead_within}
use Rattle.laws.specs.Rows.{Accepts}
use Rattle.walk.specs.Ahead.{Ahead, ahead_first, ahead_turn, rows_first, rows_none}
use Rattle.walk.specs.Cursors.{rows_from}
use Rattle.walk.specs.Steps.{steps_more, steps_none, steps_few, by_step}

-- contents that are found stand behind the header
behind : (m : List ℕ) (i : ℕ) (e : Extent) (s x : ℕ) → stretch_at m i e ≡ At s x → (i < s) × (s ≤ x)
unfolding stretch_at
behind m i e s x f = go (ltb i (length m)) (leb (after_at m i e) (length m - (i + 1))) f
  where
    go : (a b : Bool) → cond a (cond b (At (i + 1 + lead_of e) (i + 1 + after_at m i e)) Nowhere) Nowhere ≡ At s x → (i < s) × (s ≤ x)
    go true true f =
        let p : i + 1 + lead_of e ≡ s = ap start_of f in
        let q : i + 1 + after_at m i e ≡ x = ap stop_of f in
        let w = lead_within e (get_or m (i + 1) 0) in (omega arith, omega arith)
    go true false f = cc
    go false b f = cc

onward : (m : List ℕ) (c : Cursor) → c.at < length m → c.at < (next_of m c).at
unfolding next_of stretch_here
onward m c l = go (stretch_here m c) refl
  where
    by_place : (s x : ℕ) → (c.at < s) × (s ≤ x) → (a b : Bool)
        → c.at < (cond a (cursor_to x c.end) (cond b (cursor_to s x) (cursor_to x x))).at
    by_place s x k true b = omega (arith, k.0, k.1)
    by_place s x k false true = k.0
    by_place s x k false false = omega (arith, k.0, k.1)

    go : (f : Found) → stretch_here m c ≡ f → c.at < (next_behind m c f).at
    go (At s x) e = by_place s x (behind m c.at (extent_here m c) s x e) (ltb c.at c.end) (eqb (get_or m c.at 0) transfer_data)
    go Nowhere e = l

pub rows_more : (m : List ℕ) (c : Cursor) → c.at < length m → rows_left m c ≡ row_here m c ∷ rows_left m (next_of m c)
unfolding rows_left
rows_more m c l = ap (map (row_here m)) (steps_more (next_of m) (length m) (onward m) c l)

pub rows_past : (m : List ℕ) (c : Cursor) → length m ≤ c.at → rows_left m c ≡ []
unfolding rows_left
rows_past m c l = ap (map (row_here m)) (steps_none (next_of m) (length m) c l)

pub rows_few : (m : List ℕ) (c : Cursor) → length (rows_left m c) ≤ length m
unfolding rows_left
rows_few m c = omega (arith, steps_few (next_of m) (length m) c, length-map (steps_from (next_of m) (length m) c) (row_here m))

-- those of an accepted message
pub rows_all : (m : List ℕ) → Accepts m → rows_left m first_cursor ≡ rows_of m
rows_all m a =
    by_step (next_of m) (length m) (onward m) (Ahead m) (λ c. rows_left m c ≡ rows_from m c)
    (λ c i h. let t = ahead_turn m c i h in (t.again, λ r. rows_more m c h ∙ (ap (λ (rs : List Row). row_here m c ∷ rs) r ∙ sym t.rows)))
    (λ c i h. rows_past m c h ∙ sym (rows_none m c i h))
    first_cursor (ahead_first m a)
    ∙ rows_first m a
