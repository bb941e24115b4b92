-- An allowed record, laid out, is accepted and read as that record: each part stands as an accepted parameter, and the end mark behind
-- them finds 01 and 06 seen.
use Rattle.std.specs.Prelude.{ℕ, zero, suc, ◌+◌, ◌≤◌, ◌<◌, ◌≡◌, refl, true, false, List, [], ◌∷◌, map, length, get_or, drop}
use Rattle.std.proofs.Common.{arith, ap, ◌∙◌, ne_eqb, lt-ltb, le-ltb, length-append}
use Rattle.annex.specs.Units.{name_of}
use Rattle.annex.specs.Heads.{among, end_mark, user_class, signal_kind, most_octets}
use Rattle.annex.specs.Items.{Part}
use Rattle.annex.specs.Layout.{layout_part, layout}
use Rattle.annex.specs.Allowed.{every, Each, times_in, is_octet, part_names_of, Allowed}
use Rattle.annex.specs.Walk.{Seen, unseen, times_seen, counted, Par, judging, listing}
use Rattle.annex.specs.Reading.{
  whole_in,
  common_step,
  common_close,
  message_verdict,
  verdict_of,
  commons_of,
  open_common,
  without_end,
  record_of,
  message_verdict_by,
  verdict_by,
  commons_by,
  record_by,
}
use Rattle.annex.specs.Answers.{Accepted}
use Rattle.laws.specs.Bools.{and_both}
use Rattle.laws.specs.Members.{sum_of}
use Rattle.theorems.specs.Lists.{every_append, each_so, stands, times_rest, pigeons}
use Rattle.theorems.specs.Trails.{laid_out, seen_by, Trail, built, made_list, made_answer}
use Rattle.theorems.specs.Counts.{names_in, Full, full_unseen, full_counted, none_seen, moved, seen_times, Sparing, sparing_first}
use Rattle.theorems.specs.Steps.{not_end, CommonOwn, common_accepts, end_accepts}
use Rattle.theorems.specs.Commons.{most_of, AllowedPart, part_par, PartBuilt, part_built}
use Rattle.theorems.specs.Records.{Once, common_names, common_names_lem, name_stands, allowed_parts, allowed_once}

-- the parts as they stand from a place on, and the end mark
unfoldable pub part_pars : ℕ → List Part → List Par
part_pars at [] = record { place = at; head = end_mark; own = [] } ∷ []
part_pars at (p ∷ r) = part_par at p ∷ part_pars (at + 1 + length (part_par at p).own) r

abbrev Built : Part → Type 0
Built p = PartBuilt p (drop 1 (layout_part p))

pars_laid : (r : List Part) (at : ℕ) → laid_out (part_pars at r) ≡ layout r
unfolding laid_out part_pars layout layout_part
pars_laid [] at = refl
pars_laid (p ∷ r) at = rw (pars_laid r (at + 1 + length (part_par at p).own))

each_octets : (r : List Part) → Each AllowedPart r → Each Built r → every is_octet (layout r) ≡ true
unfolding layout
each_octets [] a b = refl
each_octets (p ∷ r) a b =
    let one : every is_octet (layout_part p) ≡ true =
    rw b.0.laid (and_both (is_octet p.header) _ (lt-ltb p.header 256 a.0.held.octet) b.0.octets) in
    every_append is_octet (layout_part p) (layout r) one (each_octets r a.1 b.1)

-- each common parameter at its longest, once, and the end mark: 272
each_most : (r : List Part) → Each Built r → length (layout r) ≤ 1 + sum_of most_of (part_names_of r)
unfolding layout
each_most [] b = omega arith
each_most (p ∷ r) b = simp length-append (omega (arith, ap length b.0.laid, b.0.most, each_most r b.1))

pub layout_most : (r : List Part) → Each AllowedPart r → Once r → Each Built r → length (layout r) ≤ most_octets
layout_most r a o b = omega (arith, each_most r b, pigeons most_of (λ x. 1) common_names (part_names_of r) (common_names_lem r a) o)

each_opens : (r : List Part) (at : ℕ) → Each AllowedPart r → Each Built r → map open_common (without_end (part_pars at r)) ≡ r
unfolding part_pars
each_opens [] at a b = refl
each_opens (p ∷ r) at a b =
    let one : open_common (part_par at p) ≡ p = b.0.opens at in
    let rest = each_opens r (at + 1 + length (part_par at p).own) a.1 b.1 in
    rw (not_end p.header a.0.listed) (cc)

-- how often a name was seen, or is to stand
abbrev pub stood : Seen → List ℕ → ℕ → ℕ
stood seen xs u = get_or seen u 0 + times_in u xs

pub record Standing (seen : Seen) (xs : List ℕ) : Type 0 where
  pub once : Sparing (λ x. 1) seen xs
  pub no_end : stood seen xs (name_of end_mark) ≡ 0
  pub class : 0 < stood seen xs (name_of user_class)
  pub kind : 0 < stood seen xs (name_of signal_kind)

pub standing_rest : (seen : Seen) (h : ℕ) (xs : List ℕ) → Full seen → Standing seen (name_of h ∷ xs) → Standing (counted seen h) xs
standing_rest seen h xs f s =
    let same : (u : ℕ) → stood (counted seen h) xs u ≡ stood seen (name_of h ∷ xs) u = λ u. moved seen h u xs f in
    record {
      once = λ u. rw (same u) (s.once u);
      no_end = same (name_of end_mark) ∙ s.no_end;
      class = rw (same (name_of user_class)) s.class;
      kind = rw (same (name_of signal_kind)) s.kind;
    }

pub standing_whole : (seen : Seen) → Standing seen [] → whole_in seen ≡ true
standing_whole seen s =
    rw (lt-ltb 0 (times_seen seen user_class) (omega (arith, s.class)), lt-ltb 0 (times_seen seen signal_kind) (omega (arith, s.kind)))

end_stands : (seen : Seen) → Standing seen [] → common_step seen end_mark [] ≡ Accepted 0
end_stands seen s =
    let none : times_seen seen end_mark ≡ 0 = omega (arith, s.no_end) in
    rw (standing_whole seen s, none) end_accepts

each_trail : (r : List Part) (seen : Seen) (at : ℕ) → Each Built r → Full seen → Standing seen (part_names_of r)
    → Trail common_step seen at (part_pars at r)
unfolding part_pars laid_out
each_trail [] seen at b f s = (refl, end_stands seen s, tt)
each_trail (p ∷ r) seen at b f s =
    let h = p.header in
    let new : times_seen seen h ≡ 0 = omega (arith, sparing_first (λ x. 1) seen h f (part_names_of r) s.once) in
    let own : CommonOwn (times_seen seen h) h (drop 1 (layout_part p)) = rw new b.0.accepted in (
      refl,
      common_accepts (times_seen seen h) (whole_in seen) h (drop 1 (layout_part p))
          (laid_out (part_pars (at + 1 + length (part_par at p).own) r)) own,
      each_trail r (counted seen h) (at + 1 + length (part_par at p).own) b.1 (full_counted seen h f)
          (standing_rest seen h (part_names_of r) f s),
    )

end_named : (r : List Part) (at : ℕ) → 0 < times_in (name_of end_mark) (names_in (part_pars at r))
unfolding part_pars
end_named [] at = omega arith
end_named (p ∷ r) at =
    let at' = at + 1 + length (part_par at p).own in
    omega (arith, end_named r at', times_rest (name_of end_mark) (name_of p.header) (names_in (part_pars at' r)))

-- the end mark's name is not among those of the parts
no_end_name : (r : List Part) → Each AllowedPart r → times_in (name_of end_mark) (part_names_of r) ≡ 0
no_end_name r a = go (times_in (name_of end_mark) (part_names_of r)) refl
  where
    go : (n : ℕ) → times_in (name_of end_mark) (part_names_of r) ≡ n → n ≡ 0
    go zero e = refl
    go (suc n) e =
        let f : false ≡ true = stands (λ x. among x common_names) (part_names_of r) (name_of end_mark) (common_names_lem r a) (omega arith) in
        absurd (let z : ◌≡◌ {A = ℕ} 0 1 = cc in omega arith)

pub standing : (r : List Part) → Allowed r → Standing unseen (part_names_of r)
standing r a =
    record {
      once = λ u. omega (arith, none_seen u, allowed_once r a u);
      no_end = omega (arith, no_end_name r (allowed_parts r a));
      class = omega (arith, name_stands user_class refl r a.has_class);
      kind = omega (arith, name_stands signal_kind refl r a.has_kind);
    }

-- the walk over the laid out record closes behind the end mark
closing : (r : List Part) (k : ℕ) → common_close (seen_by unseen (part_pars 0 r)) k ≡ Accepted k
closing r k =
    let qs = part_pars 0 r in
    rw (lt-ltb 0 (times_seen (seen_by unseen qs) end_mark) (omega (arith, seen_times qs unseen (name_of end_mark) full_unseen, end_named r 0)))

message_built : (r : List Part) → Trail common_step unseen 0 (part_pars 0 r) → message_verdict (layout r) ≡ Accepted (length (layout r))
unfolding message_verdict_by
message_built r t =
    let qs = part_pars 0 r in
    let end : 0 + length (layout r) ≡ length (layout r) = omega arith in
    rw (← end, ← pars_laid r 0)
    (built (judging common_step common_close) qs unseen 0 t ∙ made_answer common_step common_close qs unseen 0
    ∙ closing r (0 + length (laid_out qs)))

layout_some : (r : List Part) → 1 ≤ length (layout r)
unfolding layout
layout_some [] = omega arith
layout_some (p ∷ r) = simp length-append (omega (arith, layout_some r))

verdict_built : (r : List Part) → Trail common_step unseen 0 (part_pars 0 r) → length (layout r) ≤ most_octets
    → verdict_of (layout r) ≡ Accepted (length (layout r))
unfolding verdict_by
verdict_built r t l =
    let some = layout_some r in
    rw (ne_eqb (length (layout r)) 0 (λ e. omega arith), le-ltb most_octets (length (layout r)) l) (message_built r t)

-- what is listed of it: its parts and the end mark
commons_built : (r : List Part) → Trail common_step unseen 0 (part_pars 0 r) → commons_of (layout r) ≡ part_pars 0 r
unfolding commons_by
commons_built r t =
    let qs = part_pars 0 r in
    rw (pars_laid r 0) at (built (listing common_step) qs unseen 0 t ∙ made_list common_step qs unseen 0)

record_built : (r : List Part) → Trail common_step unseen 0 (part_pars 0 r) → Each AllowedPart r → Each Built r → record_of (layout r) ≡ r
unfolding record_by
record_built r t a b = ap (λ (l : List Par). map open_common (without_end l)) (commons_built r t) ∙ each_opens r 0 a b

all_built : (r : List Part) → Allowed r → Each Built r
all_built r a = each_so AllowedPart Built part_built r (allowed_parts r a)

trail_built : (r : List Part) → Allowed r → Trail common_step unseen 0 (part_pars 0 r)
trail_built r a = each_trail r unseen 0 (all_built r a) full_unseen (standing r a)

pub laid_then_listed : (r : List Part) → Allowed r → commons_of (layout r) ≡ part_pars 0 r
laid_then_listed r a = commons_built r (trail_built r a)

pub laid_then_read : (r : List Part) → Allowed r
    → (verdict_of (layout r) ≡ Accepted (length (layout r))) × (record_of (layout r) ≡ r) × (every is_octet (layout r) ≡ true)
    × (length (layout r) ≤ most_octets)
laid_then_read r a =
    let p = allowed_parts r a in
    let b = all_built r a in
    let t = trail_built r a in
    let most = layout_most r p (allowed_once r a) b in
    (verdict_built r t most, record_built r t p b, each_octets r p b, most)
