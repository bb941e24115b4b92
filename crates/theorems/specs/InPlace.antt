-- Demand 3, octet by octet: of the octets before the parameter only C5's length octet changes, the new octets stand in the place of the
-- old, and those after them move by as much as the parameter has grown or shrunk.
use Rattle.std.specs.Prelude.{ℕ, ◌+◌, ◌≤◌, ◌<◌, ◌≡◌, true, List, [], ◌∷◌, ◌++◌, length, take}
use Rattle.std.proofs.Common.{arith, sym, ap, ◌∙◌, append-nil, append_assoc, length-append, get_or-take, get_or-append-add, get_or-set_other, length-take-le}
use Rattle.std.proofs.Math.ListN.{get_or, get_or-append}
use Rattle.annex.specs.Units.{name_of, lead_of, extent_of}
use Rattle.annex.specs.Heads.{transfer_data}
use Rattle.annex.specs.Layout.{layout_item}
use Rattle.annex.specs.Allowed.{every, is_octet}
use Rattle.annex.specs.Finding.{common_found, transfer_found}
use Rattle.annex.specs.Editing.{Edit, new_header, editing_of, buffer_of}
use Rattle.annex.specs.Editing.Edit.{Replacing, Appending, Removing}
use Rattle.annex.specs.Answers.{Accepted, At}
use Rattle.theorems.specs.Reasons.{edited_in, edit_taken}
use Rattle.theorems.specs.Edits.{OfOctets}
use Rattle.theorems.specs.Buffers.{buffer_edited}
use Rattle.theorems.specs.Splices.{with_part, Stands, Told, Spliced, edit_splices, length-with, head_of, head-length, head-set}

-- ---- a message with a part in its transfer data

length_three : (xs ys zs : List ℕ) → length (xs ++ (ys ++ zs)) ≡ length xs + length ys + length zs
length_three xs ys zs = simp length-append (omega arith)

module _ (before front part back after : List ℕ) where
  abbrev m : List ℕ
  m = with_part before front part back after

  -- C5's length octet, and what stands before the part
  abbrev length_octet : ℕ
  length_octet = length (front ++ (part ++ back))

  abbrev head : List ℕ
  head = head_of before front back after length_octet

  abbrev at : ℕ
  at = length before + 2 + length front

  parted : m ≡ head ++ (part ++ (back ++ after))
  parted = rw append_assoc

  long : length head ≡ at
  long = head-length before front back after length_octet

  ahead_of : (i : ℕ) → i < at → get_or m i 0 ≡ get_or head i 0
  ahead_of i h = rw parted (get_or-append head (part ++ (back ++ after)) 0 i (rw long h))

  within : (i : ℕ) → i < length part → get_or m (at + i) 0 ≡ get_or part i 0
  within i h =
      rw (parted, ← long)
      (get_or-append-add head (part ++ (back ++ after)) i 0 ∙ get_or-append part (back ++ after) 0 i h)

  behind : (j : ℕ) → get_or m (at + length part + j) 0 ≡ get_or (back ++ after) j 0
  behind j =
      let sum : at + length part + j ≡ length head + (length part + j) = omega (arith, long) in
      rw (parted, sum)
      (get_or-append-add head (part ++ (back ++ after)) (length part + j) 0 ∙ get_or-append-add part (back ++ after) j 0)

  at_length : get_or m (length before + 1) 0 ≡ length_octet
  at_length = get_or-append-add before (transfer_data ∷ length_octet ∷ (front ++ (part ++ (back ++ after)))) 1 0

-- two such messages that differ in the part alone agree before it, but for C5's length octet
module _ (before front back after old new : List ℕ) where
  same_ahead : (i : ℕ) → i < length before + 2 + length front → (i ≡ length before + 1 → ⊥)
      → get_or (with_part before front new back after) i 0 ≡ get_or (with_part before front old back after) i 0
  same_ahead i h n =
      let l = length_octet before front old back after in
      let k = length_octet before front new back after in
      let other : get_or (head_of before front back after k) i 0 ≡ get_or (head_of before front back after l) i 0 =
      ap (λ (s : List ℕ). get_or s i 0) (sym (head-set before front back after l k))
      ∙ get_or-set_other (head_of before front back after l) (length before + 1) i k 0 n in
      ahead_of before front new back after i h ∙ other ∙ sym (ahead_of before front old back after i h)

-- ---- the buffer after an edit

-- the parameter that an edit of m takes out stands at the place `at`, where finding finds it; one that is appended comes at the end of C5
abbrev pub Placed : Edit → List ℕ → ℕ → ℕ → List ℕ → List ℕ → Type 0
Placed (Replacing x which) m end at old new =
    (new ≡ x) × (transfer_found (name_of (new_header x)) which m ≡ At (at + 1 + lead_of (extent_of (get_or old 0 0))) (at + length old))
Placed (Appending x) m end at old new = (new ≡ x) × (old ≡ []) × (at ≡ end)
Placed (Removing x which) m end at old new =
    (new ≡ []) × (transfer_found x which m ≡ At (at + 1 + lead_of (extent_of (get_or old 0 0))) (at + length old))

-- an edit of the message in the first n octets of d, after which the buffer holds `now`, and its first k octets the message
pub record InPlace (e : Edit) (d : List ℕ) (n k : ℕ) (now : List ℕ) : Type 0 where
  -- C5's header stands at `five`, and its parameters end before `end`
  pub five : ℕ
  pub end : ℕ
  pub data_found : common_found transfer_data (take n d) ≡ At (five + 2) end
  -- the edit's parameter stands at `at`: these octets before, those after
  pub at : ℕ
  pub old : List ℕ
  pub new : List ℕ
  pub placed : Placed e (take n d) end at old new
  pub stood : (i : ℕ) → i < length old → get_or d (at + i) 0 ≡ get_or old i 0
  pub longer : k + length old ≡ n + length new
  -- before it, all but C5's length octet
  pub before : (i : ℕ) → i < at → (i ≡ five + 1 → ⊥) → get_or now i 0 ≡ get_or d i 0
  pub length_octet_holds : get_or now (five + 1) 0 + length old ≡ get_or d (five + 1) 0 + length new
  -- the new octets, and those after them
  pub stands : (i : ℕ) → i < length new → get_or now (at + i) 0 ≡ get_or new i 0
  pub after : (j : ℕ) → at + length old + j < n → get_or now (at + length new + j) 0 ≡ get_or d (at + length old + j) 0
  -- behind the message: zeros to where the old one ended, and then as before
  pub zeroes : (i : ℕ) → k ≤ i → i < n → get_or now i 0 ≡ 0
  pub rest : (i : ℕ) → k ≤ i → n ≤ i → get_or now i 0 ≡ get_or d i 0
  pub same_length : length now ≡ length d

module _ (e : Edit) (d : List ℕ) (n k : ℕ) (o : every is_octet d ≡ true) (w : OfOctets e) (a : editing_of e d n ≡ Accepted k) where
  s : Spliced e (take n d) (edited_in e d n)
  s = edit_splices e d n k o w a

  abbrev was : List ℕ
  was = with_part s.before s.front s.old s.back s.after

  abbrev becomes : List ℕ
  becomes = with_part s.before s.front s.new s.back s.after

  length-was : n ≡ length was
  length-was = sym (length-take-le n d (edit_taken e d n k a).0.within) ∙ ap length s.was

  length_now : k ≡ length becomes
  length_now = (edit_taken e d n k a).1 ∙ ap length s.becomes

  in_was : (i : ℕ) → i < n → get_or d i 0 ≡ get_or was i 0
  in_was i h = sym (get_or-take n d i 0 h) ∙ ap (λ (l : List ℕ). get_or l i 0) s.was

  in_now : (i : ℕ) → i < k → get_or (buffer_of e d n) i 0 ≡ get_or becomes i 0
  in_now i h =
      sym (get_or-take k (buffer_of e d n) i 0 h)
      ∙ ap (λ (l : List ℕ). get_or l i 0) ((buffer_edited e d n k o w a).message ∙ s.becomes)

  -- a parameter that is taken out begins with its header
  found : (x which : ℕ)
      → Stands x which (take n d) (s.front ++ (s.old ++ s.back)) (length s.before + 2) (length s.front) s.old
      → transfer_found x which (take n d)
      ≡ At (length s.before + 2 + length s.front + 1 + lead_of (extent_of (get_or s.old 0 0)))
      (length s.before + 2 + length s.front + length s.old)
  unfolding layout_item
  found x which t = let first : get_or s.old 0 0 ≡ t.item.header = rw t.laid in rw first t.found

  place : (f : Edit)
      → Told f (take n d) (s.front ++ (s.old ++ s.back)) (length s.before + 2) (length s.front) s.old s.new s.back
      → Placed f (take n d) (length s.before + 2 + length (s.front ++ (s.old ++ s.back)))
      (length s.before + 2 + length s.front) s.old s.new
  place (Replacing x which) t = (t.0, found (name_of (new_header x)) which t.1)
  place (Appending x) t =
      let end : length (s.front ++ (s.old ++ s.back)) ≡ length s.front = rw (t.1, t.2, append-nil) in
      (t.0, t.1, omega (arith, end))
  place (Removing x which) t = (t.0, found x which t.1)

  pub in_place : InPlace e d n k (buffer_of e d n)
  in_place =
      let b = s.before in
      let f = s.front in
      let q = s.back in
      let r = s.after in
      let long-was = length-with b f q r s.old in
      let long-now = length-with b f q r s.new in
      let edited = buffer_edited e d n k o w a in
      record {
        five = length b;
        end = length b + 2 + length (f ++ (s.old ++ q));
        data_found = s.found;
        at = length b + 2 + length f;
        old = s.old;
        new = s.new;
        placed = place e s.told;
        stood = λ i h. in_was _ (omega (arith, length-was)) ∙ within b f s.old q r i h;
        longer = omega (arith, length-was, length_now);
        before = λ i h other.
            in_now i (omega (arith, length_now)) ∙ same_ahead b f q r s.old s.new i h other
            ∙ sym (in_was i (omega (arith, length-was)));
        length_octet_holds =
            omega (
              arith,
              in_now (length b + 1) (omega (arith, length_now)) ∙ at_length b f s.new q r,
              in_was (length b + 1) (omega (arith, length-was)) ∙ at_length b f s.old q r,
              length_three f s.new q,
              length_three f s.old q,
            );
        stands = λ i h. in_now _ (omega (arith, length_now)) ∙ within b f s.new q r i h;
        after = λ j h.
            in_now _ (omega (arith, length_now, length-was)) ∙ behind b f s.new q r j
            ∙ sym (in_was _ h ∙ behind b f s.old q r j);
        zeroes = edited.zeroes;
        rest = edited.rest;
        same_length = edited.same_length;
      }
