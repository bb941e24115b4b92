-- What `tk_read` writes, `tk_write` takes back to the message.
use Rattle.std.specs.Prelude.{ℕ, ◌≤◌, ◌≡◌, true, List, ◌++◌, length, drop}
use Rattle.std.proofs.Common.{sym, ap}
use Rattle.annex.specs.Allowed.{every, is_octet}
use Rattle.annex.specs.Reading.{verdict_of, record_of}
use Rattle.annex.specs.Records.{pack, reading_of}
use Rattle.annex.specs.Writing.{written_of}
use Rattle.annex.specs.Image.{image_of}
use Rattle.annex.specs.Packed.{packed_answer, image_writing, image_written}
use Rattle.annex.specs.Promises.{TkReadPromise, TkWritePromise}
use Rattle.annex.specs.Answers.{Accepted}
use Rattle.theorems.specs.Messages.{read_then_laid}
use Rattle.theorems.specs.Writings.{WrittenBack, read_then_written}
use Rattle.theorems.specs.Images.{allowed_back}
use Rattle.image_reader.specs.Answering.{read_done}

module _ (m : List ℕ) (o : every is_octet m ≡ true) (n : ℕ) (e : verdict_of m ≡ Accepted n) where
  -- with room for it, the image of an accepted message's record is written at the front
  pub image_written_lem : (room : List ℕ) → length (image_of (record_of m)) ≤ length room
      → TkReadPromise m room (packed_answer (Accepted (length (image_of (record_of m)))))
      (image_of (record_of m) ++ drop (length (image_of (record_of m))) room)
  image_written_lem room l =
      let d = read_done m room n e l in
      (ap packed_answer d.0, d.1)

  -- and with room for the message, that image gives the message
  pub message_back : (room : List ℕ) → length m ≤ length room
      → TkWritePromise (image_of (record_of m)) room (packed_answer (Accepted (length m))) (m ++ drop (length m) room)
  unfolding image_writing image_written reading_of written_of
  message_back room l =
      let r = record_of m in
      let b = allowed_back r (read_then_laid m o n e).1 in
      let w : WrittenBack m (pack r) = rw e at (read_then_written m o n e) in
      (rw b (ap packed_answer (sym (w.answer (length room) l))), rw b (sym (w.written room l)))
