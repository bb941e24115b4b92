-- Reading: document 01, "Refusal numbers and their order", Reading: the tests of a transfer parameter, of a common parameter and of the end
-- mark, each in the order of their numbers, over the message from left to right; and the record of an accepted message. What
-- judges contents is by a rule of contents, `Contents.Rule`, and named `..By`; the names at the end are by the rule in force,
-- `Contents.fault_of`.
use Rattle.std.specs.Prelude.{ℕ, ◌+◌, ◌*◌, Bool, cond, not, ◌&&◌, ◌||◌, List, [], ◌∷◌, map, eqb, ltb, leb, length, get_or, take}
use Rattle.annex.specs.Answers.{
  over_the_limits,
  unlisted,
  repeated,
  cut_short,
  not_allowed,
  missing,
  left_over,
  unused_name,
  other_pli,
  repeated_name,
  cut_contents,
  refuse,
  sound_then,
  reading_at,
  and_then,
  shifted,
  Answer,
  Accepted,
}
use Rattle.annex.specs.Units.{name_of, after_of, lead_of, extent_of, common_extent_of, contents_in}
use Rattle.annex.specs.Heads.{
  among,
  listed_headers,
  value_allowed,
  end_mark,
  user_class,
  signal_kind,
  transfer_data,
  is_call,
  most_octets,
  name_used,
  pli_right,
  often_of,
}
use Rattle.annex.specs.Contents.{Rule, fault_of}
use Rattle.annex.specs.Items.{Item, Part, part, value_part, octet_value, octet_part, item_of}
use Rattle.annex.specs.Walk.{Seen, unseen, times_seen, Par, Step, walk, judging, listing}

-- ---- the common part, but for what C5 holds

-- 5: what the octet right after the header says is allowed
abbrev pub octet_allowed : ℕ → ℕ → Bool
octet_allowed h x = value_allowed h (octet_value h x)

-- 2 to 5
unfoldable pub common_form : ℕ → ℕ → List ℕ → Answer
common_form times h xs =
    let n = after_of (common_extent_of h) (get_or xs 0 0) in
    refuse (not (among h listed_headers)) unlisted 0
    (refuse (ltb 0 times) repeated 0
    (refuse (ltb (length xs) n) cut_short 0
    (refuse (not (octet_allowed h (get_or xs 0 0))) not_allowed 0
    (Accepted n))))

-- the end mark: 6, then 7 at the first octet after it
unfoldable pub end_of : Bool → List ℕ → Answer
end_of whole xs = refuse (not whole) missing 0 (refuse (ltb 0 (length xs)) left_over 1 (Accepted 0))

abbrev pub whole_in : Seen → Bool
whole_in seen = ltb 0 (times_seen seen user_class) && ltb 0 (times_seen seen signal_kind)

-- 4 where the message ends with no end mark
abbrev pub common_close : Seen → ℕ → Answer
common_close seen p = refuse (not (ltb 0 (times_seen seen end_mark))) cut_short p (Accepted p)

-- Common part: a call number, least octet first
abbrev pub call_number : List ℕ → ℕ
call_number s = get_or s 0 0 + 256 * get_or s 1 0 + 65536 * get_or s 2 0

abbrev pub open_transfer : Par → Item
open_transfer q = item_of q.head (contents_in (extent_of q.head) q.own)

-- the octets of C5 that are its parameters
abbrev pub data_in : Par → List ℕ
data_in q = contents_in (common_extent_of transfer_data) q.own

-- Writing: a record has no end mark
abbrev pub without_end : List Par → List Par
without_end [] = []
without_end (q ∷ qs) = cond (eqb q.head end_mark) (without_end qs) (q ∷ without_end qs)

module _ (rule : Rule) where
  -- ---- transfer data

  -- a transfer parameter whose name stood so many times before: its header and the octets after it, to the end of the transfer data
  unfoldable pub transfer_by : ℕ → ℕ → List ℕ → Answer
  transfer_by times h xs =
      let n = after_of (extent_of h) (get_or xs 0 0) in
      refuse (not (name_used h)) unused_name 0
      (refuse (not (pli_right h)) other_pli 0
      (refuse (leb (often_of (name_of h)) times) repeated_name 0
      (refuse (ltb (length xs) n) cut_contents 0
      (sound_then (reading_at (1 + lead_of (extent_of h))) (rule h (contents_in (extent_of h) (take n xs)))
      (Accepted n)))))

  abbrev pub transfer_step_by : Step
  transfer_step_by seen h xs = transfer_by (times_seen seen h) h xs

  -- transfer data: accepted with its length, or the first refusal
  unfoldable pub transfers_verdict_by : List ℕ → Answer
  transfers_verdict_by t = walk (judging transfer_step_by (λ seen p. Accepted p)) unseen 0 0 t

  -- ---- the message

  -- C5: its parameters start behind the header and the length octet
  unfoldable pub data_by : ℕ → List ℕ → Answer
  data_by n xs = and_then (shifted 2 (transfers_verdict_by (contents_in (common_extent_of transfer_data) (take n xs)))) (λ _. Accepted n)

  -- a common parameter whose name stood so many times before; whole: 01 and 06 have been seen
  unfoldable pub common_by : ℕ → Bool → ℕ → List ℕ → Answer
  common_by times whole h xs =
      and_then (common_form times h xs)
      (λ n. cond (eqb h end_mark) (end_of whole xs) (cond (eqb h transfer_data) (data_by n xs) (Accepted n)))

  abbrev pub common_step_by : Step
  common_step_by seen h xs = common_by (times_seen seen h) (whole_in seen) h xs

  unfoldable pub message_verdict_by : List ℕ → Answer
  message_verdict_by m = walk (judging common_step_by common_close) unseen 0 0 m

  -- the verdict of a message: accepted with its length, or the first refusal
  unfoldable pub verdict_by : List ℕ → Answer
  verdict_by m = refuse (eqb (length m) 0 || ltb most_octets (length m)) over_the_limits 0 (message_verdict_by m)

  -- ---- the record of an accepted message

  -- the parameters in order, with the places of their headers, in the message or in the transfer data
  unfoldable pub commons_by : List ℕ → List Par
  commons_by m = walk (listing common_step_by) unseen 0 0 m

  unfoldable pub transfers_by : List ℕ → List Par
  transfers_by t = walk (listing transfer_step_by) unseen 0 0 t

  unfoldable pub open_common_by : Par → Part
  open_common_by q =
      cond (eqb q.head transfer_data) (part q.head 0 0 (map open_transfer (transfers_by (data_in q))))
      (cond (is_call q.head) (value_part q.head (call_number q.own))
      (octet_part q.head (get_or q.own 0 0)))

  unfoldable pub record_by : List ℕ → List Part
  record_by m = map open_common_by (without_end (commons_by m))

-- ---- by the rule in force

abbrev pub transfer_of : ℕ → ℕ → List ℕ → Answer
transfer_of = transfer_by fault_of

abbrev pub transfer_step : Step
transfer_step = transfer_step_by fault_of

abbrev pub transfers_verdict : List ℕ → Answer
transfers_verdict = transfers_verdict_by fault_of

abbrev pub data_of : ℕ → List ℕ → Answer
data_of = data_by fault_of

abbrev pub common_of : ℕ → Bool → ℕ → List ℕ → Answer
common_of = common_by fault_of

abbrev pub common_step : Step
common_step = common_step_by fault_of

abbrev pub message_verdict : List ℕ → Answer
message_verdict = message_verdict_by fault_of

abbrev pub verdict_of : List ℕ → Answer
verdict_of = verdict_by fault_of

abbrev pub commons_of : List ℕ → List Par
commons_of = commons_by fault_of

abbrev pub transfers_of : List ℕ → List Par
transfers_of = transfers_by fault_of

abbrev pub open_common : Par → Part
open_common = open_common_by fault_of

abbrev pub record_of : List ℕ → List Part
record_of = record_by fault_of
