-- The three answers of reading to an image, with what the lent octets then hold.
use Rattle.std.specs.Prelude.{ℕ, ◌≤◌, ◌<◌, ◌≡◌, List, ◌++◌, length, drop}
use borrow.Author.Tests.{lt-ltb, le-ltb}
use Rattle.annex.specs.Answers.{no_room, Accepted, Refused}
use Rattle.annex.specs.Reading.{verdict_of, record_of}
use Rattle.annex.specs.Image.{image_of}
use Rattle.annex.specs.Packed.{image_reading, image_read}
use Rattle.annex.specs.Promises.{ImageReadPromise}

module _ (m room : List ℕ) where
  pub read_refused : (k p : ℕ) → verdict_of m ≡ Refused k p → ImageReadPromise m room (Refused k p) room
  unfolding image_reading image_read
  read_refused k p v = (rw v, rw v)

  -- an accepted message whose record's image is longer than the room, and one whose image has room
  module _ (n : ℕ) (v : verdict_of m ≡ Accepted n) where
    pub read_short : length room < length (image_of (record_of m)) → ImageReadPromise m room (Refused no_room 0) room
    unfolding image_reading image_read
    read_short h =
        let t = lt-ltb (length room) (length (image_of (record_of m))) h in
        (rw (v, t), rw (v, t))

    pub read_done : length (image_of (record_of m)) ≤ length room
        → ImageReadPromise m room (Accepted (length (image_of (record_of m))))
        (image_of (record_of m) ++ drop (length (image_of (record_of m))) room)
    unfolding image_reading image_read
    read_done h =
        let t = le-ltb (length room) (length (image_of (record_of m))) h in
        (rw (v, t), rw (v, t))
