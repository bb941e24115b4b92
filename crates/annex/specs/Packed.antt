-- What the functions for Rust and C give, in numbers and octets alone: an answer as one number, the refusal's number times 2^32, the place
-- times 2^16, and the value, number 0 where accepted (places and values are below 2^16); a record as its image; a row as five octets, one
-- of carriers as eight.
use Rattle.std.specs.Prelude.{ℕ, ◌+◌, ◌*◌, ◌/◌, ◌%◌, List, ◌∷◌, ◌++◌, ltb, length, drop, Err}
use Rattle.annex.specs.Answers.{
  number_of,
  place_of,
  given_of,
  class_given_of,
  no_room,
  refuse,
  and_then,
  room_after,
  Answer,
  Accepted,
  ClassAnswer,
}
use Rattle.annex.specs.Layout.{lay_all, layout}
use Rattle.annex.specs.Reading.{verdict_of, record_of}
use Rattle.annex.specs.Records.{view}
use Rattle.annex.specs.Writing.{writing_of}
use Rattle.annex.specs.Image.{two_octets, image_of, imaged_of}
use Rattle.annex.specs.Spans.{rows_of, spans_of}
use Rattle.annex.specs.Opened.{order_rows_of, order_answer}
use Rattle.annex.specs.Transit.{carrier_rows_of, carriers_answer}
use Rattle.annex.specs.Profile.{profile_verdict, profile_writing}
use Rattle.annex.specs.declared.CarrierRow.{CarrierRow}
use Rattle.annex.specs.declared.Row.{Row}

-- ---- answers

abbrev pub one_number : ℕ → ℕ → ℕ → ℕ
one_number number place value = number * 4294967296 + place % 65536 * 65536 + value % 65536

-- a count, or number and place
abbrev pub packed_answer : Answer → ℕ
packed_answer a = one_number (number_of a) (place_of a) (given_of a)

-- where contents start and how many octets they have, or number and place
abbrev pub packed_length : Answer → ℕ → ℕ
packed_length (Accepted s) len = one_number 0 s len
packed_length (Err r) len = one_number r.0 r.1 0

abbrev pub packed_stretch : Answer → List ℕ → ℕ
packed_stretch a part = packed_length a (length part)

-- 0 named, 1 held back, 2 spare, or number and place
abbrev pub packed_class : ClassAnswer → ℕ
packed_class a = one_number (number_of a) (place_of a) (class_given_of a)

-- ---- a message read to its record's image

-- the image's length, or number and place: reading's, then 15 where the room is shorter
unfoldable pub image_reading : List ℕ → ℕ → Answer
image_reading m room =
    and_then (verdict_of m)
    (λ _. refuse (ltb room (length (image_of (record_of m)))) no_room 0 (Accepted (length (image_of (record_of m)))))

-- what the room then holds: the image at its front, octets past it as before; unchanged where refused
unfoldable pub image_read : List ℕ → List ℕ → List ℕ
image_read m room = room_after (image_reading m (length room)) (image_of (record_of m)) room

-- ---- a message written from a record's image

-- the message's length, or number and place: 1 where the octets are no image, then writing's
unfoldable pub image_writing : List ℕ → ℕ → Answer
image_writing image room = and_then (imaged_of image).answer (λ _. writing_of (imaged_of image).held room)

-- what the room then holds
unfoldable pub image_written : List ℕ → List ℕ → List ℕ
image_written image room = room_after (image_writing image (length room)) (layout (view (imaged_of image).held)) room

-- ---- the same by the mobile call profile

-- the profile's refusals, 20 the last of them, then 15
unfoldable pub profile_image_reading : List ℕ → ℕ → Answer
profile_image_reading m room = and_then (profile_verdict m) (λ _. image_reading m room)

unfoldable pub profile_image_read : List ℕ → List ℕ → List ℕ
profile_image_read m room = room_after (profile_image_reading m (length room)) (image_of (record_of m)) room

-- 1 where the octets are no image, then the refusals of the profile's writing
unfoldable pub profile_image_writing : List ℕ → ℕ → Answer
profile_image_writing image room = and_then (imaged_of image).answer (λ _. profile_writing (imaged_of image).held room)

unfoldable pub profile_image_written : List ℕ → List ℕ → List ℕ
profile_image_written image room = room_after (profile_image_writing image (length room)) (layout (view (imaged_of image).held)) room

-- ---- a message's rows

-- a row: offset in two octets, header, length of the contents in two octets
abbrev pub octets_to_a_row : ℕ
octets_to_a_row = 5

abbrev pub row_octets : Row → List ℕ
row_octets r = two_octets r.offset ++ (r.header ∷ two_octets r.len)

unfoldable pub rows_octets : List Row → List ℕ
rows_octets rs = lay_all row_octets rs

-- the row count, or number and place, for a table of so many octets: it has room for the rows that are whole in it
abbrev pub octet_spans : List ℕ → ℕ → Answer
octet_spans m room = spans_of m (room / octets_to_a_row)

-- what the table then holds, rows taking so many octets: the rows at its front, octets past the last as before; unchanged where refused
abbrev pub octets_by : ℕ → Answer → List ℕ → List ℕ → List ℕ
octets_by width (Accepted n) octets table = octets ++ drop (width * n) table
octets_by width (Err r) octets table = table

unfoldable pub octet_table : List ℕ → List ℕ → List ℕ
octet_table m table = octets_by octets_to_a_row (octet_spans m (length table)) (rows_octets (rows_of m)) table

-- the same of its connection order
abbrev pub octet_order : List ℕ → ℕ → Answer
octet_order m room = order_answer m (room / octets_to_a_row)

unfoldable pub octet_order_table : List ℕ → List ℕ → List ℕ
octet_order_table m table = octets_by octets_to_a_row (octet_order m (length table)) (rows_octets (order_rows_of m)) table

-- ---- the rows of its carriers

-- a row: level, tag, offset in two octets, how many octets the entry holds in two, how many digits in two
abbrev pub octets_to_a_carrier_row : ℕ
octets_to_a_carrier_row = 8

abbrev pub carrier_row_octets : CarrierRow → List ℕ
carrier_row_octets r = r.level ∷ r.tag ∷ (two_octets r.offset ++ (two_octets r.len ++ two_octets r.digits))

unfoldable pub carrier_rows_octets : List CarrierRow → List ℕ
carrier_rows_octets rs = lay_all carrier_row_octets rs

abbrev pub octet_carriers : List ℕ → ℕ → ℕ → Answer
octet_carriers m which room = carriers_answer m which (room / octets_to_a_carrier_row)

unfoldable pub octet_carriers_table : List ℕ → ℕ → List ℕ → List ℕ
octet_carriers_table m which table =
    octets_by octets_to_a_carrier_row (octet_carriers m which (length table)) (carrier_rows_octets (carrier_rows_of which m)) table
