-- `open_generic` meets its contract: 06 is stored first, and behind it the digits of the number that follows it.
use Rattle.std.specs.Prelude.{not}
use native.Mathlib.Omega.{arith}
use native.Mathlib.Numerals.{add-one}
use mathlib.Core.Path.{◌≡◌, ap, ◌∙◌}
use Prim.Native.Nat.{ℕ, suc, ◌+◌}
use mathlib.Core.List.{List}
use lib.ListN.{length, get_or, drop, set, length-set}
use lib.Seq.{sets, drop-drop, get_or-drop}
use Rattle.annex.specs.Heads.{added_calling_number}
use Rattle.annex.specs.Digits.{digits_of, count_of}
use Rattle.annex.specs.Items.{open_by}
use Rattle.annex.specs.declared.Holding.TheVariants.{AsGeneric}
use Rattle.annex.specs.Memory.{values_fit}
use Rattle.annex.specs.Records.{head_of}
use Rattle.annex.specs.declared.Alphabet.TheVariants.{Numbered}
use Rattle.laws.specs.Stores.{Fits, fits_told}
use Rattle.digits.specs.Unpacked.{length_there}
use Rattle.parameter.specs.Stored.{stored_fitting}
use Rattle.parameter.specs.Opening.{without_room, with_room, room_left, number_digits}
use Rattle.parameter.proofs.opening.open_generic.Goals as goal

-- the digits, as those of the number
digits : (s : List ℕ) → digits_of Numbered (count_of (drop 1 s)) (drop 2 (drop 1 s)) ≡ digits_of Numbered (count_of (drop 1 s)) (drop 3 s)
digits s = ap (digits_of Numbered (count_of (drop 1 s))) (drop-drop 2 1 s)

pub returns-then-not-has_room-clause-head : goal.returns-then-not-has_room-clause-head
returns-then-not-has_room-clause-head c =
    let a = c.args in
    let s = a.s.now in
    let f = c.has_room in
    let i = open_by AsGeneric a.header s in
    let counted : length i.values ≡ c.count_of-count.result.0 + 1 =
    rw (c.count_of-count.ensures, c.octets_from-number.ensures, add-one, ← digits s) (ap suc (number_digits (drop 1 s))) in
    let w =
    without_room i a.used (c.count_of-count.result.0 + 1) a.values.now f.result counted f.ensures (ap not c.if-not-has_room.true) in
    c.none.ensures ∙ w.0

pub returns-then-not-has_room-clause-put : goal.returns-then-not-has_room-clause-put
returns-then-not-has_room-clause-put c =
    let a = c.args in
    let s = a.s.now in
    let f = c.has_room in
    let i = open_by AsGeneric a.header s in
    let counted : length i.values ≡ c.count_of-count.result.0 + 1 =
    rw (c.count_of-count.ensures, c.octets_from-number.ensures, add-one, ← digits s) (ap suc (number_digits (drop 1 s))) in
    let w =
    without_room i a.used (c.count_of-count.result.0 + 1) a.values.now f.result counted f.ensures (ap not c.if-not-has_room.true) in
    w.1

pub returns-clause-head : goal.returns-clause-head
returns-clause-head c =
    let a = c.args in
    let s = a.s.now in
    let g = c.has_room in
    let i = open_by AsGeneric a.header s in
    let counted : length i.values ≡ c.count_of-count.result.0 + 1 =
    rw (c.count_of-count.ensures, c.octets_from-number.ensures, add-one, ← digits s) (ap suc (number_digits (drop 1 s))) in
    let w = with_room i a.used (c.count_of-count.result.0 + 1) a.values.now g.result counted g.ensures (ap not c.if-not-has_room.false) in
    let x : c.octet_at.result ≡ get_or s 1 0 =
    rw (c.octet_at.ensures, c.octets_from-number.ensures) (get_or-drop 1 s 0 0) in
    let y : c.octet_at-2.result ≡ get_or s 2 0 = rw (c.octet_at-2.ensures, c.octets_from-number.ensures) (get_or-drop 1 s 1 0) in
    let h : c.number.result ≡ head_of i = rw (c.number.ensures, x, y, counted) in
    h ∙ w.0

pub returns-clause-put : goal.returns-clause-put
returns-clause-put c =
    let a = c.args in
    let s = a.s.now in
    let g = c.has_room in
    let n = c.count_of-count.result in
    let i = open_by AsGeneric a.header s in
    let counted : length i.values ≡ n.0 + 1 =
    rw (c.count_of-count.ensures, c.octets_from-number.ensures, add-one, ← digits s) (ap suc (number_digits (drop 1 s))) in
    let f : Fits (length a.values.now) a.used (n.0 + 1) =
    room_left (length a.values.now) a.used (n.0 + 1) g.result g.ensures (ap not c.if-not-has_room.false) in
    let w = with_room i a.used (n.0 + 1) a.values.now g.result counted g.ensures (ap not c.if-not-has_room.false) in
    let vs = set a.values.now a.used added_calling_number in
    let ds = digits_of Numbered n c.octets_from.result.now in
    let l = length_there Numbered n c.octets_from.result.now in
    let digits-fit : Fits (length vs) (a.used + 1) (length ds) =
    record { few = omega arith; within = rw (length-set a.values.now a.used added_calling_number) (omega arith) } in
    let all =
    stored_fitting (values_fit (length vs) (a.used + 1) (length ds)) _ (sets vs (a.used + 1) ds) vs _ c.unpack_digits.ensures
    (fits_told _ _ _ digits-fit) in
    let v : c.unpack_digits.new.values ≡ sets a.values.now a.used i.values =
    rw (
      all,
      c.octets_from.ensures,
      c.count_of-count.ensures,
      c.octets_from-number.ensures,
      digits s,
      add-one,
    ) in
    v ∙ w.1
