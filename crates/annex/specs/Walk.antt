-- A walk over octets, parameter by parameter. Verdict, record, finding and rows are instances of it, in Reading, Finding and Spans.
-- Nothing counts down but the list itself: after a header as many octets are passed over as its step says are its own. At the end a walk
-- that asks nothing but how many these are: the listing of a connection order is an instance, in Opened, and so are the entries of
-- carriers, in Carriers.
use Rattle.std.specs.Prelude.{ℕ, zero, suc, ◌+◌, cond, List, [], ◌∷◌, leb, length, get_or, set, take, replicate, Err}
use Rattle.annex.specs.Heads.{name_count}
use Rattle.annex.specs.Units.{name_of, after_of, extent_of, common_extent_of}
use Rattle.annex.specs.Answers.{Answer, Accepted, Refused}
use Rattle.annex.specs.declared.Extent.{Extent}

-- how often each name has been seen
abbrev pub Seen : Type 0
Seen = List ℕ

abbrev pub unseen : Seen
unseen = replicate name_count 0

abbrev pub times_seen : Seen → ℕ → ℕ
times_seen seen h = get_or seen (name_of h) 0

abbrev pub counted : Seen → ℕ → Seen
counted seen h = set seen (name_of h) (times_seen seen h + 1)

-- a parameter: the place of its header, the header, and the octets after it that are its own
pub record Par : Type 0 where
  pub place : ℕ
  pub head : ℕ
  pub own : List ℕ

-- Of a header, with the octets after it, a step says: refused, at a place counted from the header; or how many of those octets are its own.
abbrev pub Step : Type 0
Step = Seen → ℕ → List ℕ → Answer

-- close: at the end of the octets. stop: at a refusal. more: a parameter, and what comes of those after it
pub record Walker (R : Type 0) : Type 0 where
  pub step : Step
  pub close : Seen → ℕ → R
  pub stop : ℕ → ℕ → R
  pub more : Par → R → R

abbrev pub by_step : {R : Type 0} → Answer → (ℕ → ℕ → R) → (ℕ → R) → R
by_step (Accepted n) stop f = f n
by_step (Err r) stop f = stop r.0 r.1

-- k octets still belong to the parameter before; `at` is the place of the next octet
unfoldable pub walk : {R : Type 0} → Walker R → Seen → ℕ → ℕ → List ℕ → R
walk r seen k at [] = r.close seen at
walk r seen (suc k) at (x ∷ xs) = walk r seen k (at + 1) xs
walk r seen zero at (x ∷ xs) =
    by_step (r.step seen x xs) (λ k q. r.stop k (at + q))
    (λ n. r.more (record { place = at; head = x; own = take n xs }) (walk r (counted seen x) n (at + 1) xs))

-- the walk that tells only whether all is accepted, and else the first refusal
abbrev pub judging : Step → (Seen → ℕ → Answer) → Walker Answer
judging step close = record { step = step; close = close; stop = Refused; more = λ q a. a }

-- the walk that lists the parameters, up to the first refusal
abbrev pub listing : Step → Walker (List Par)
listing step = record { step = step; close = λ seen p. []; stop = λ k p. []; more = λ q qs. q ∷ qs }

-- ---- by the length rule alone, up to the first parameter that is cut

-- how many octets after a header are its own, of the octets after it
abbrev pub Size : Type 0
Size = ℕ → List ℕ → ℕ

-- by its PLI: of a common parameter, and of a transfer parameter
abbrev pub size_by : (ℕ → Extent) → Size
size_by ext h xs = after_of (ext h) (get_or xs 0 0)

abbrev pub common_size : Size
common_size = size_by common_extent_of

abbrev pub transfer_size : Size
transfer_size = size_by extent_of

abbrev pub par_of : ℕ → ℕ → ℕ → List ℕ → Par
par_of p h n xs = record { place = p; head = h; own = take n xs }

-- k octets still belong to the parameter before; p is the place of the next octet
unfoldable pub pars : Size → ℕ → ℕ → List ℕ → List Par
pars size k p [] = []
pars size (suc k) p (x ∷ xs) = pars size k (p + 1) xs
pars size zero p (x ∷ xs) =
    cond (leb (size x xs) (length xs)) (par_of p x (size x xs) xs ∷ pars size (size x xs) (p + 1) xs) []
