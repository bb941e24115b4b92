-- Writing: document 01, "Refusal numbers and their order", Writing: 1, then each parameter's refusals in the order in which its octets
-- would stand, each at the place where they would stand; 14 behind the last of C5, 6 at the end mark, 15 last; and what the room then
-- holds.
use Rattle.std.specs.Prelude.{ℕ, ◌+◌, ◌-◌, Bool, cond, not, ◌||◌, List, [], ◌∷◌, eqb, leb, ltb, length}
use Rattle.annex.specs.Answers.{
  over_the_limits,
  unlisted,
  repeated,
  not_allowed,
  missing,
  unused_name,
  other_pli,
  repeated_name,
  cut_contents,
  bad_form,
  transfer_over,
  no_room,
  refuse,
  sound_then,
  header_at,
  and_then,
  room_after,
  Answer,
  Accepted,
}
use Rattle.annex.specs.Units.{name_of}
use Rattle.annex.specs.Heads.{
  among,
  common_headers,
  transfer_data,
  most_commons,
  most_transfers,
  most_transfer_octets,
  name_used,
  pli_right,
  often_of,
}
use Rattle.annex.specs.Items.{Item, Part}
use Rattle.annex.specs.Layout.{layout_item, layout_part, layout}
use Rattle.annex.specs.Allowed.{length_right, fault_in, value_right, value_fits, items_in, contents_sum}
use Rattle.annex.specs.Walk.{Seen, unseen, times_seen, counted}
use Rattle.annex.specs.Reading.{whole_in}
use Rattle.annex.specs.Records.{is_whole, view}
use Rattle.annex.specs.declared.Record.{Record}

-- 8 and 9 of a header that is to be written, its place p, in a record or as the new parameter of an edit; and then what follows. A header
-- that may be read and not written would be refused here, after 9
abbrev pub head_writing : ℕ → ℕ → Answer → Answer
head_writing p h a = refuse (not (name_used h)) unused_name p (refuse (not (pli_right h)) other_pli p a)

-- a transfer parameter whose name stood so many times before, its header at the place p: 8 to 11, what is wrong with its values, or the
-- place behind it
unfoldable pub item_writing : ℕ → ℕ → Item → Answer
item_writing times p i =
    head_writing p i.header
    (refuse (leb (often_of (name_of i.header)) times) repeated_name p
    (refuse (not (length_right i)) cut_contents p
    (sound_then (header_at p) (fault_in i)
    (Accepted (p + length (layout_item i))))))

-- transfer parameters from the place p on, or the place behind them
unfoldable pub items_writing : Seen → ℕ → List Item → Answer
items_writing seen p [] = Accepted p
items_writing seen p (i ∷ is) =
    and_then (item_writing (times_seen seen i.header) p i) (λ q. items_writing (counted seen i.header) q is)

-- C5, its header at the place p: its parameters start behind the length octet; then 14
unfoldable pub data_writing : ℕ → List Item → Answer
data_writing p is =
    and_then (items_writing unseen (p + 2) is) (λ q. refuse (ltb most_transfer_octets (q - (p + 2))) transfer_over p (Accepted q))

-- a common parameter whose name stood so many times before, its header at the place p: 2, 3, 5, a mark or number too large for its bits 12,
-- and for C5 its parameters; or the place behind it
unfoldable pub part_writing : ℕ → ℕ → Part → Answer
part_writing times p q =
    refuse (not (among q.header common_headers)) unlisted p
    (refuse (ltb 0 times) repeated p
    (refuse (not (value_right q)) not_allowed p
    (refuse (not (value_fits q)) bad_form p
    (cond (eqb q.header transfer_data) (data_writing p q.items)
    (Accepted (p + length (layout_part q)))))))

-- the end mark at the place p: 6, or the place behind it. whole: 01 and 06 have been seen
abbrev pub end_writing : Bool → ℕ → Answer
end_writing whole p = refuse (not whole) missing p (Accepted (p + 1))

-- the parameters from the place p on, and the end mark: 6, or the message's length
unfoldable pub parts_writing : Seen → ℕ → List Part → Answer
parts_writing seen p [] = end_writing (whole_in seen) p
parts_writing seen p (q ∷ qs) =
    and_then (part_writing (times_seen seen q.header) p q) (λ p'. parts_writing (counted seen q.header) p' qs)

-- a record over its limits
unfoldable pub over_limits : List Part → Bool
over_limits r =
    ltb most_commons (length r)
    || (ltb most_transfers (length (items_in r)) || ltb most_transfer_octets (contents_sum (items_in r)))

-- a record, room aside: the message's length, or the first refusal
unfoldable pub record_writing : List Part → Answer
record_writing r = refuse (over_limits r) over_the_limits 0 (parts_writing unseen 0 r)

-- a struct over its limits: its counts or lengths leave its arrays, or its record is over them
abbrev pub struct_over : Record → Bool
struct_over s = not (is_whole s) || over_limits (view s)

-- a struct: one whose counts or lengths leave its arrays is over its limits
unfoldable pub struct_writing : Record → Answer
struct_writing s = refuse (not (is_whole s)) over_the_limits 0 (record_writing (view s))

-- and where the message goes: 15 where the room is shorter
unfoldable pub writing_of : Record → ℕ → Answer
writing_of s room = and_then (struct_writing s) (λ n. refuse (ltb room n) no_room 0 (Accepted n))

-- what the room then holds
unfoldable pub written_of : Record → List ℕ → List ℕ
written_of s room = room_after (writing_of s (length room)) (layout (view s)) room
