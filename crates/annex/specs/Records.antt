-- The record as a struct, and as the sequence of values that it stands for: document 01, "Writing". Two structs that stand for the same
-- values are the same record; in a struct handed out all room that is not used is zero.
use Rattle.std.specs.Prelude.{ℕ, ◌+◌, ◌-◌, ◌/◌, ◌%◌, Bool, cond, ◌&&◌, List, [], ◌∷◌, ◌++◌, map, eqb, leb, length, take, drop, replicate, Err}
use Rattle.annex.specs.Heads.{transfer_data, most_commons, most_transfers, most_values}
use Rattle.annex.specs.Items.{Item, Part, item, part, octet_value, octet_mark, own_of}
use Rattle.annex.specs.Allowed.{items_in, own_part}
use Rattle.annex.specs.Reading.{verdict_of, record_of}
use Rattle.annex.specs.declared.Common.{Common}
use Rattle.annex.specs.declared.Transfer.{Transfer}
use Rattle.annex.specs.declared.Record.{Record}
use Rattle.annex.specs.declared.Reading.{Reading}
use Rattle.annex.specs.Answers.{Answer, Accepted}

-- ---- the parts of the struct

-- header, value, more-data mark, how many transfer parameters; only this names the fields one by one
abbrev pub common_head : ℕ → ℕ → ℕ → ℕ → Common
common_head h v m n = record { header = h; value = v; more_data = m; transfers = n }

-- a common parameter with one value, and one of the octet x: 01, 04 or 06
abbrev pub value_head : ℕ → ℕ → Common
value_head h v = common_head h v 0 0

abbrev pub octet_head : ℕ → ℕ → Common
octet_head h x = common_head h (octet_value h x) (octet_mark h x) 0

abbrev pub data_head : ℕ → Common
data_head n = common_head transfer_data 0 0 n

abbrev pub no_common : Common
no_common = value_head 0 0

-- a transfer parameter with the fields of `Items.item`, in that order, and so many values
abbrev pub transfer_head : ℕ → ℕ → ℕ → ℕ → ℕ → ℕ → ℕ → ℕ → ℕ → ℕ → Transfer
transfer_head h n v d t c p r s l =
    record {
      header = h;
      notification = n;
      verification = v;
      dialling = d;
      number_type = t;
      incomplete = c;
      plan = p;
      presentation = r;
      screening = s;
      len = l;
    }

abbrev pub dialled_head : ℕ → ℕ → ℕ → ℕ → ℕ → Transfer
dialled_head h n v d l = transfer_head h n v d 0 0 0 0 0 l

abbrev pub carried_head : ℕ → ℕ → Transfer
carried_head h l = dialled_head h 0 0 0 l

abbrev pub no_transfer : Transfer
no_transfer = carried_head 0 0

abbrev pub number_head : ℕ → ℕ → ℕ → ℕ → Transfer
number_head h x y l = transfer_head h 0 0 0 (x % 128) (y / 128) (y / 16 % 8) (y / 4 % 4) (y % 4) l

-- ---- pack: the struct that is handed out

-- a list in an array of n places, the unused ones at z
unfoldable pub pad : {A : Type 0} → ℕ → A → List A → List A
pad n z xs = xs ++ replicate (n - length xs) z

abbrev pub head_of : Item → Transfer
head_of i =
    transfer_head i.header i.notification i.verification i.dialling i.number_type i.incomplete i.plan i.presentation
    i.screening (length i.values)

abbrev pub common_head_of : Part → Common
common_head_of p = common_head p.header p.value p.more_data (length p.items)

unfoldable pub values_of : List Item → List ℕ
values_of [] = []
values_of (i ∷ is) = i.values ++ values_of is

unfoldable pub pack : List Part → Record
pack r =
    record {
      commons = length r;
      common = pad most_commons no_common (map common_head_of r);
      transfer = pad most_transfers no_transfer (map head_of (items_in r));
      values = pad most_values 0 (values_of (items_in r));
    }

-- ---- view: what any struct at all stands for

abbrev pub raw_item : Transfer → List ℕ → Item
raw_item t vs =
    item t.header t.notification t.verification t.dialling t.number_type t.incomplete t.plan t.presentation
    t.screening vs

abbrev pub raw_part : Common → List Item → Part
raw_part c is = part c.header c.value c.more_data is

-- the transfer parameter with this head and these values; what a parameter does not have is no part of it
abbrev pub item_from : Transfer → List ℕ → Item
item_from t vs = own_of (raw_item t vs)

-- the parameters of which these are the heads, with their values one after the other
unfoldable pub view_items : List Transfer → List ℕ → List Item
view_items [] vs = []
view_items (t ∷ ts) vs = item_from t (take t.len vs) ∷ view_items ts (drop t.len vs)

unfoldable pub lengths_of : List Transfer → ℕ
lengths_of [] = 0
lengths_of (t ∷ ts) = t.len + lengths_of ts

-- only a C5 has transfer parameters
abbrev pub transfer_count : Common → ℕ
transfer_count c = cond (eqb c.header transfer_data) c.transfers 0

unfoldable pub transfers_sum : List Common → ℕ
transfers_sum [] = 0
transfers_sum (c ∷ cs) = transfer_count c + transfers_sum cs

unfoldable pub view_parts : List Common → List Transfer → List ℕ → List Part
view_parts [] ts vs = []
view_parts (c ∷ cs) ts vs =
    own_part (raw_part c (view_items (take (transfer_count c) ts) vs)) ∷
    view_parts cs (drop (transfer_count c) ts) (drop (lengths_of (take (transfer_count c) ts)) vs)

abbrev pub commons_in : Record → List Common
commons_in r = take r.commons r.common

-- the struct's counts and lengths stay within its arrays
unfoldable pub is_whole : Record → Bool
is_whole r =
    leb r.commons most_commons
    && (leb (transfers_sum (commons_in r)) most_transfers
    && leb (lengths_of (take (transfers_sum (commons_in r)) r.transfer)) most_values)

unfoldable pub view : Record → List Part
view r = view_parts (commons_in r) r.transfer r.values

-- ---- the struct's transfer parameters one by one

-- heads, each with its part of the values
unfoldable pub held_from : List Transfer → List ℕ → List (Transfer × List ℕ)
held_from [] vs = []
held_from (t ∷ ts) vs = (t, take t.len vs) ∷ held_from ts (drop t.len vs)

-- the n of them from the place k on, or those of them that there are
abbrev pub held_at : Record → ℕ → ℕ → List (Transfer × List ℕ)
held_at r k n = held_from (take n (drop k r.transfer)) (drop (lengths_of (take k r.transfer)) r.values)

-- ---- what reading gives: the record of an accepted message, packed; beside a refusal the record of nothing

abbrev pub read_by : Answer → List Part → Reading
read_by (Accepted n) r = record { answer = Accepted n; «record» = pack r }
read_by (Err w) r = record { answer = Err w; «record» = pack [] }

unfoldable pub reading_of : List ℕ → Reading
reading_of m = read_by (verdict_of m) (record_of m)
