-- The steps of an edit in the order in which the code takes them, each an answer by itself. They come to what document 01 says.
use Rattle.std.specs.Prelude.{ℕ, ◌-◌, ◌≤◌, ◌≡◌, Bool, true, false, cond, not, List, [], ◌∷◌, eqb, leb, ltb, take, drop, Err}
use Rattle.std.proofs.Common.{arith, ◌∙◌, length-take, take-take, leb-true, leb-false, lt-ltb, le-ltb, ne_eqb}
use Rattle.std.proofs.Math.Path.{refl, sym, ap}
use Rattle.std.proofs.Math.ListN.{length}
use Rattle.annex.specs.Answers.{repeated_name, transfer_over, no_room, absent, refuse, and_then, Answer, Accepted, Refused, Found, At, Nowhere}
use Rattle.annex.specs.Units.{name_of}
use Rattle.annex.specs.Heads.{among, transfer_data, most_transfer_octets, often_of}
use Rattle.annex.specs.Layout.{layout_items, layout}
use Rattle.annex.specs.Allowed.{every, times_in, is_octet, headers_of, items_in, names_of}
use Rattle.annex.specs.Reading.{verdict_of, record_of}
use Rattle.annex.specs.Finding.{transfer_found}
use Rattle.annex.specs.Editing.{Edit, new_header, new_head, new_contents, edit_refusal, record_editing, editing_of}
use Rattle.annex.specs.Editing.Edit.{Replacing, Appending, Removing}
use Rattle.annex.specs.Promises.{EditPromise}
use Rattle.annex.specs.Walking.{common_plain, moved, transfer_search}
use Rattle.laws.specs.Steps.{head_then_lem}
use Rattle.laws.specs.Parts.{from_to}
use Rattle.laws.specs.Finding.{common_inside, common_plain_lem, transfer_plain_lem}
use Rattle.theorems.specs.Lists.{every_take}
use Rattle.theorems.specs.Places.{is_found, data_there, name_there, often_there}
use Rattle.theorems.specs.Reasons.{edited_in}
use Rattle.theorems.specs.Buffers.{buffer_refused}
use Rattle.editor.specs.declared.steps.Kind.{Kind}
use Rattle.editor.specs.declared.steps.Kind.TheVariants as kind
use Rattle.editor.specs.Whole.{whole_search, whole_there}

-- ---- the edits

-- the edit of a kind that brings these octets; a removal brings none
abbrev pub edit_of : Kind → List ℕ → Edit
edit_of (kind.Replacing which) new = Replacing new which
edit_of kind.Appending new = Appending new
edit_of (kind.Removing x which) new = Removing x which

abbrev pub Brings : Kind → List ℕ → Type 0
Brings (kind.Replacing which) new = Unit {0}
Brings kind.Appending new = Unit {0}
Brings (kind.Removing x which) new = new ≡ []

-- ---- the steps

-- what is brought has a header, in use, under its PLI: 11, 8, 9
abbrev pub head_answer : Kind → List ℕ → Answer
head_answer (kind.Replacing which) new = new_head new (Accepted 0)
head_answer kind.Appending new = new_head new (Accepted 0)
head_answer (kind.Removing x which) new = Accepted 0

-- where in the transfer data t an edit is made: at the whole parameter that it is told; if it appends, at the end, unless the last of the
-- name that may stand in t does
abbrev pub free_end : ℕ → Found → Found
free_end l (At s e) = Nowhere
free_end l Nowhere = At l l

abbrev pub spot_in : Kind → List ℕ → List ℕ → Found
spot_in (kind.Replacing which) new t = whole_search (name_of (new_header new)) which t
spot_in kind.Appending new t = free_end (length t) (whole_search (name_of (new_header new)) (often_of (name_of (new_header new)) - 1) t)
spot_in (kind.Removing x which) new t = whole_search x which t

-- nowhere to make the edit: what is to be replaced or removed does not stand there, the last that may have the name of an addition does
abbrev pub no_spot : Kind → ℕ
no_spot (kind.Replacing which) = absent
no_spot kind.Appending = repeated_name
no_spot (kind.Removing x which) = absent

abbrev pub spot_answer : Kind → Found → Answer → Answer
spot_answer k (At s e) a = a
spot_answer k Nowhere a = Refused (no_spot k) 0

-- the octets behind that header are as many as it asks, and nothing is wrong with them. Nothing brought is right
abbrev pub contents_answer : List ℕ → Answer
contents_answer new = cond (eqb (length new) 0) (Accepted 0) (new_contents new)

-- the edit's own, in the transfer data t
abbrev pub own_answer : Kind → List ℕ → List ℕ → Answer
own_answer k new t = and_then (head_answer k new) (λ _. spot_answer k (spot_in k new t) (contents_answer new))

-- 14, then 15, or the message's new length
abbrev pub room_answer : Edit → List ℕ → ℕ → Answer
room_answer e d n =
    refuse (ltb most_transfer_octets (length (layout_items (items_in (edited_in e d n))))) transfer_over 0
    (refuse (ltb (length d) (length (layout (edited_in e d n)))) no_room 0
    (Accepted (length (layout (edited_in e d n)))))

-- from where the transfer data was found in the message
abbrev pub data_answer : Kind → List ℕ → List ℕ → ℕ → Found → Answer
data_answer k new d n (At s t) =
    and_then (own_answer k new (take (t - s) (drop s d))) (λ _. room_answer (edit_of k new) d n)
data_answer k new d n Nowhere = Refused absent 0

-- 15 where n is beyond the buffer d, reading's numbers, and the rest
abbrev pub steps_answer : Kind → List ℕ → List ℕ → ℕ → Answer
steps_answer k new d n =
    refuse (ltb (length d) n) no_room 0
    (and_then (verdict_of (take n d)) (λ _. data_answer k new d n (common_plain transfer_data (take n d))))

-- ---- answers

-- what was found, as a test
found_refuse : (k : Kind) (f : Found) (a : Answer) → no_spot k ≡ absent → refuse (not (is_found f)) absent 0 a ≡ spot_answer k f a
found_refuse k (At s e) a h = refl
found_refuse k Nowhere a h = rw h

free_refuse : (l : ℕ) (f : Found) (a : Answer) → refuse (is_found f) repeated_name 0 a ≡ spot_answer kind.Appending (free_end l f) a
free_refuse l (At s e) a = refl
free_refuse l Nowhere a = refl

-- a new parameter whose header is accepted has one
new_head_then : (new : List ℕ) (f : Answer → Answer)
    → new_head new (f (new_contents new)) ≡ and_then (new_head new (Accepted 0)) (λ _. f (contents_answer new))
new_head_then [] f = refl
new_head_then (h ∷ xs) f =
    rw (ne_eqb (length (h ∷ xs)) 0 (λ e. omega arith)) (sym (head_then_lem 0 h (Accepted 0) (λ _. f (new_contents (h ∷ xs)))))

-- a name stands no oftener than so many times, or it stands oftener
times_test : (a b : ℕ) → leb a b ≡ not (ltb b a)
times_test a b = go (leb a b) refl
  where
    go : (t : Bool) → leb a b ≡ t → t ≡ not (ltb b a)
    go true e = rw (le-ltb b a (leb-true a b e))
    go false e = rw (lt-ltb b a (leb-false a b e))

found_moved : (s : ℕ) (f : Found) → is_found (moved s f) ≡ is_found f
found_moved s (At a e) = refl
found_moved s Nowhere = refl

-- ---- they come to the definition

module _ (d : List ℕ) (n j : ℕ) (o : every is_octet d ≡ true) (v : verdict_of (take n d) ≡ Accepted j) where
  octets_held : every is_octet (take n d) ≡ true
  octets_held = every_take is_octet n d o

  -- there is transfer data where the search finds it
  pub data_held : is_found (common_plain transfer_data (take n d)) ≡ among transfer_data (headers_of (record_of (take n d)))
  data_held = ap is_found (sym (common_plain_lem transfer_data (take n d) j v)) ∙ data_there (take n d) octets_held j v

  module _ (s t : ℕ) (f : common_plain transfer_data (take n d) ≡ At s t) where
    pub data_part_lem : take (t - s) (drop s (take n d)) ≡ take (t - s) (drop s d)
    data_part_lem =
        let l : t ≤ n = omega (arith, ((common_inside transfer_data (take n d)).at s t f).1, length-take n d) in
        from_to s t (take n d) ∙ ap (drop s) (take-take t n d l) ∙ sym (from_to s t d)

    -- a parameter is found whole in it where finding finds its contents
    name_held : (x which : ℕ) → is_found (transfer_found x which (take n d)) ≡ is_found (whole_search x which (take (t - s) (drop s d)))
    name_held x which =
        rw (transfer_plain_lem x which (take n d) j v, f, found_moved s (transfer_search x which (take (t - s) (drop s (take n d)))), data_part_lem)
        (whole_there x which (take (t - s) (drop s d)))

    -- and not where the name stands no oftener
    name_lacks : (x which : ℕ)
        → leb (times_in x (names_of (items_in (record_of (take n d))))) which ≡ not (is_found (whole_search x which (take (t - s) (drop s d))))
    name_lacks x which = times_test _ which ∙ ap not (sym (name_there x which (take n d) octets_held j v) ∙ name_held x which)

    pub own_steps : (k : Kind) (new : List ℕ) → Brings k new
        → edit_refusal (edit_of k new) (items_in (record_of (take n d))) ≡ own_answer k new (take (t - s) (drop s d))
    unfolding edit_refusal
    own_steps (kind.Replacing which) new b =
        let x = name_of (new_header new) in
        let k = kind.Replacing which in
        let w = whole_search x which (take (t - s) (drop s d)) in
        rw (name_lacks x which, found_refuse k w (new_contents new) refl) (new_head_then new (spot_answer k w))
    own_steps kind.Appending new b =
        let x = name_of (new_header new) in
        let last = often_of x - 1 in
        let w = whole_search x last (take (t - s) (drop s d)) in
        let l = length (take (t - s) (drop s d)) in
        let p = sym (often_there x (take n d) octets_held j v) ∙ name_held x last in
        rw (p, free_refuse l w (new_contents new)) (new_head_then new (spot_answer kind.Appending (free_end l w)))
    own_steps (kind.Removing x which) new b =
        rw (name_lacks x which, b) (found_refuse (kind.Removing x which) (whole_search x which (take (t - s) (drop s d))) (Accepted 0) refl)

module _ (k : Kind) (new : List ℕ) (b : Brings k new) (d : List ℕ) (n : ℕ) where
  record_steps : (j : ℕ) → every is_octet d ≡ true → verdict_of (take n d) ≡ Accepted j
      → record_editing (edit_of k new) (record_of (take n d)) (length d) ≡ data_answer k new d n (common_plain transfer_data (take n d))
  unfolding record_editing
  record_steps j o v = rw (← data_held d n j o v) (go (common_plain transfer_data (take n d)) refl)
    where
      go : (f : Found) → common_plain transfer_data (take n d) ≡ f
          → refuse (not (is_found f)) absent 0
          (and_then (edit_refusal (edit_of k new) (items_in (record_of (take n d)))) (λ _. room_answer (edit_of k new) d n))
          ≡ data_answer k new d n f
      go (At s t) f = rw (own_steps d n j o v s t f k new b)
      go Nowhere f = refl

  steps_edit : every is_octet d ≡ true → editing_of (edit_of k new) d n ≡ steps_answer k new d n
  unfolding editing_of
  steps_edit o = ap (refuse (ltb (length d) n) no_room 0) (go (verdict_of (take n d)) refl)
    where
      go : (a : Answer) → verdict_of (take n d) ≡ a
          → and_then a (λ _. record_editing (edit_of k new) (record_of (take n d)) (length d))
          ≡ and_then a (λ _. data_answer k new d n (common_plain transfer_data (take n d)))
      go (Accepted j) v = record_steps j o v
      go (Err r) v = refl

  -- a step that refuses keeps the promise, with the buffer unchanged
  pub refused : (r : Answer) (i p : ℕ) → every is_octet d ≡ true → r ≡ Refused i p → steps_answer k new d n ≡ r
      → EditPromise (edit_of k new) d n r d
  refused r i p o q a =
      let s = steps_edit o ∙ a in
      (sym s, sym (buffer_refused (edit_of k new) d n i p (s ∙ q)))

-- every step up to the transfer data is accepted, and it was found from s to before t
pub record Data (d : List ℕ) (n s t : ℕ) : Type 0 where
  pub octets : every is_octet d ≡ true
  pub within : n ≤ length d
  pub given : ℕ
  pub message : verdict_of (take n d) ≡ Accepted given
  pub found : common_plain transfer_data (take n d) ≡ At s t

-- it lies within the buffer
pub data_inside : {d : List ℕ} {n s t : ℕ} → Data d n s t → (s ≤ t) × (t ≤ length d)
data_inside {d} {n} {s} {t} w =
    let i = (common_inside transfer_data (take n d)).at s t w.found in
    (i.0, omega (arith, i.1, length-take n d, w.within))

pub own_refused : (k : Kind) (new d : List ℕ) (n s t : ℕ) (r : Answer) (i p : ℕ) → Brings k new → Data d n s t → r ≡ Refused i p
    → own_answer k new (take (t - s) (drop s d)) ≡ r → EditPromise (edit_of k new) d n r d
own_refused k new d n s t r i p b w q a =
    refused k new b d n r i p w.octets q (rw (le-ltb (length d) n w.within, w.message, w.found, a, q))

-- with the header accepted and the spot found, the contents decide
pub own_left : (k : Kind) (new t : List ℕ) (j a b : ℕ) → head_answer k new ≡ Accepted j → spot_in k new t ≡ At a b
    → own_answer k new t ≡ contents_answer new
own_left k new t j a b h f = rw (h, f)
