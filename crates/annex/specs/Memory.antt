-- What lent memory holds after the functions that serve the codec: octets written over others, numbers at the front of lent room, a
-- stretch of a message replaced in its buffer. No rule of document 01.
use Rattle.std.specs.Prelude.{ℕ, ◌+◌, ◌-◌, ◌%◌, Bool, cond, ◌&&◌, List, [], ◌++◌, map, leb, length, take, drop, Err}
use Rattle.std.proofs.lemmas.List.Edits.{sets}
use Rattle.annex.specs.Heads.{most_values}
use Rattle.annex.specs.Digits.{digits_of, packed}
use Rattle.annex.specs.Layout.{layout_item, layout_part}
use Rattle.annex.specs.Records.{raw_part, item_from}
use Rattle.annex.specs.Editing.{holding}
use Rattle.annex.specs.declared.Alphabet.{Alphabet}
use Rattle.annex.specs.Answers.{Answer, Accepted}
use Rattle.annex.specs.declared.Common.{Common}
use Rattle.annex.specs.declared.HalfOctets.{HalfOctets}
use Rattle.annex.specs.declared.Transfer.{Transfer}

-- d with s written over it from index at on
unfoldable pub put : List ℕ → ℕ → List ℕ → List ℕ
put d at s = take at d ++ (s ++ drop (at + length s) d)

-- each number modulo 256
abbrev pub low_octets : List ℕ → List ℕ
low_octets xs = map (λ x. x % 256) xs

-- numbers written at the front of the room, and behind them what it held
abbrev pub at_front : List ℕ → List ℕ → List ℕ
at_front xs room = low_octets xs ++ drop (length xs) room

-- numbers written from index at on where an answer accepts and they fit there; else the room as it was
abbrev pub laid_at : Answer → List ℕ → ℕ → List ℕ → List ℕ
laid_at (Accepted n) xs at room = cond (leb (at + length xs) (length room)) (put room at (low_octets xs)) room
laid_at (Err r) xs at room = room

-- the message in the first n octets of d, with its old octets from index from on replaced by new
abbrev pub spliced_message : List ℕ → ℕ → ℕ → ℕ → List ℕ → List ℕ
spliced_message d n from old new = take from d ++ (new ++ drop (from + old) (take n d))

-- the buffer that then holds it
unfoldable pub spliced : List ℕ → ℕ → ℕ → ℕ → List ℕ → List ℕ
spliced d n from old new = holding d n (spliced_message d n from old new)

-- whether the old octets lie within the message, the message within the buffer, and the new message too
abbrev pub splice_fits : List ℕ → ℕ → ℕ → ℕ → List ℕ → Bool
splice_fits d n from old new =
    leb (from + old) n && (leb n (length d) && leb (n - old + length new) (length d))

-- whether n values, no more than a record holds, fit in room for so many after the `used` ones
abbrev pub values_fit : ℕ → ℕ → ℕ → Bool
values_fit room used n = leb n most_values && leb (used + n) room

-- ---- what a function that stores is asked for: whether the request fits, lent memory with it stored, and as it was

pub record Request : Type 0 where
  pub fits : Bool
  pub stored : List ℕ
  pub before : List ℕ

abbrev request : Bool → List ℕ → List ℕ → Request
request f s b = record { fits = f; stored = s; before = b }

-- octets::copy_in, octets::splice
abbrev pub copying : List ℕ → ℕ → List ℕ → Request
copying d at s = request (leb (at + length s) (length d)) (put d at s) d

abbrev pub splicing : List ℕ → ℕ → ℕ → ℕ → List ℕ → Request
splicing d n from old new = request (splice_fits d n from old new) (spliced d n from old new) d

-- digits::packing::pack_digits, unpack_digits
abbrev pub packing : Alphabet → List ℕ → List ℕ → Request
packing z ds room = request (leb (length (packed z ds)) (length room)) (at_front (packed z ds) room) room

abbrev pub unpacking : Alphabet → List ℕ → HalfOctets → List ℕ → ℕ → Request
unpacking z octets n values used =
    request (values_fit (length values) used (length (digits_of z n octets))) (sets values used (digits_of z n octets)) values

-- layout::put
abbrev pub laying : Transfer → List ℕ → List ℕ → Request
laying t vs room = request (leb (length (layout_item (item_from t vs))) (length room)) (at_front (layout_item (item_from t vs)) room) room

-- common::laying::lay_head: a common parameter, its transfer parameters aside, from index at on
abbrev pub laying_head : Common → List ℕ → ℕ → Request
laying_head c room at =
    request (leb (at + length (layout_part (raw_part c []))) (length room)) (put room at (low_octets (layout_part (raw_part c [])))) room
