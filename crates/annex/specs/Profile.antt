-- The mobile call profile: document 02, request f, with the annex's figure 3.1 and item (35). What it asks of a record, apart from the
-- order of refusals; then this order, in reading and in writing, and what is told beside the record.
use Rattle.std.specs.Prelude.{ℕ, ◌-◌, ◌%◌, ◌≡◌, Bool, true, false, cond, not, ◌&&◌, ◌||◌, List, [], ◌∷◌, map, eqb, ltb, length, get_or, Err}
use Rattle.annex.specs.Answers.{outside_profile, no_room, absent, refuse, and_then, room_after, Answer, Accepted}
use Rattle.annex.specs.Heads.{among, signal_kind}
use Rattle.annex.specs.Orders.{once}
use Rattle.annex.specs.Items.{Item, Part}
use Rattle.annex.specs.Layout.{layout}
use Rattle.annex.specs.Allowed.{every, Each, items_in}
use Rattle.annex.specs.Reading.{verdict_of, record_of}
use Rattle.annex.specs.Records.{pad, pack, view}
use Rattle.annex.specs.Writing.{struct_writing}
use Rattle.annex.specs.declared.Record.{Record}
use Rattle.annex.specs.declared.Network.{Network}
use Rattle.annex.specs.declared.Network.TheVariants.{Other, Phs, Mobile}
use Rattle.annex.specs.declared.AddedClass.{AddedClass}
use Rattle.annex.specs.declared.Profile.{Profile}
use Rattle.annex.specs.declared.ProfileReading.{ProfileReading}

-- ---- the added user classes, D6

-- item (35): the names that are defined
abbrev pub class_names : List ℕ
class_names = 0x01 ∷ 0x02 ∷ 0xFB ∷ 0xFC ∷ 0xFD ∷ 0xFE ∷ []

-- a name and its value
abbrev pub named_class : ℕ → ℕ → AddedClass
named_class n v = record { name = n; value = v }

-- pairs laid out: each name, and behind it its value
unfoldable pub pair_octets : List AddedClass → List ℕ
pair_octets [] = []
pair_octets (c ∷ cs) = c.name ∷ c.value ∷ pair_octets cs

-- and contents opened to pairs; an octet left over is in none
unfoldable pub pairs_in : List ℕ → List AddedClass
pairs_in [] = []
pairs_in (n ∷ []) = []
pairs_in (n ∷ v ∷ s) = named_class n v ∷ pairs_in s

-- the names are defined ones, and none stands twice
abbrev pub names_right : List AddedClass → Bool
names_right cs = every (λ c. among c.name class_names) cs && once (map (λ c. c.name) cs)

-- what D6 may hold: pairs with such names, whatever their values
pub record OfPairs (s : List ℕ) : Type 0 where
  pub pairs : List AddedClass
  pub laid : pair_octets pairs ≡ s
  pub right : names_right pairs ≡ true

-- the same as a test: no octet is left over, and the names are right
abbrev pub pairs_right : List ℕ → Bool
pairs_right s = eqb (length s % 2) 0 && names_right (pairs_in s)

-- ---- what the profile asks of a record

-- the signal kind of a call enquiry
abbrev pub data_enquiry : ℕ
data_enquiry = 0x11

-- 7E, the adjacent network form, and those of its values that are meant; FD, the originating region; D6, the added user class
abbrev pub adjacent_network : ℕ
adjacent_network = 0x7E

abbrev pub phs : ℕ
phs = 2

abbrev pub mobile : ℕ
mobile = 3

abbrev pub originating_region : ℕ
originating_region = 0xFD

abbrev pub added_class : ℕ
added_class = 0xD6

-- the test passes at one of the list
abbrev pub some : {A : Type 0} → (A → Bool) → List A → Bool
some f [] = false
some f (x ∷ xs) = f x || some f xs

abbrev pub is_enquiry : Part → Bool
is_enquiry p = eqb p.header signal_kind && eqb p.value data_enquiry

abbrev pub is_headed : ℕ → Item → Bool
is_headed h i = eqb i.header h

-- 7E has one octet, by its PLI
abbrev pub is_network : ℕ → Item → Bool
is_network x i = is_headed adjacent_network i && eqb (get_or i.values 0 0) x

pub record InProfile (r : List Part) : Type 0 where
  -- signal kind 11
  pub enquiry : some is_enquiry r ≡ true
  -- 7E is present with 2 or 3
  pub network : some (is_network phs) (items_in r) || some (is_network mobile) (items_in r) ≡ true
  -- FD is present
  pub region : some (is_headed originating_region) (items_in r) ≡ true
  -- D6 is present when 7E is 3
  pub added : some (is_network mobile) (items_in r) ≡ true → some (is_headed added_class) (items_in r) ≡ true
  -- D6, wherever present, is pairs
  pub opened : Each (λ i. is_headed added_class i ≡ true → OfPairs i.values) (items_in r)

-- ---- the order of refusals

-- all of these rules as one test; theorems: `Profiles` shows it to be `InProfile`
abbrev pub added_right : Item → Bool
added_right i = cond (is_headed added_class i) (pairs_right i.values) true

unfoldable pub is_in_profile : List Part → Bool
is_in_profile r =
    some is_enquiry r
    && ((some (is_network phs) (items_in r) || some (is_network mobile) (items_in r))
    && (some (is_headed originating_region) (items_in r)
    && (cond (some (is_network mobile) (items_in r)) (some (is_headed added_class) (items_in r)) true
    && every added_right (items_in r))))

-- behind the refusals of a message or a record: 20 at the end mark, the last of the message's n octets
abbrev pub profiled : List Part → Answer → Answer
profiled r a = and_then a (λ n. refuse (not (is_in_profile r)) outside_profile (n - 1) (Accepted n))

-- reading: its own numbers first
unfoldable pub profile_verdict : List ℕ → Answer
profile_verdict m = profiled (record_of m) (verdict_of m)

-- writing: its own, room aside, the last of which is 6; then 20, then 15
unfoldable pub profile_refusal : Record → Answer
profile_refusal s = profiled (view s) (struct_writing s)

unfoldable pub profile_writing : Record → ℕ → Answer
profile_writing s room = and_then (profile_refusal s) (λ n. refuse (ltb room n) no_room 0 (Accepted n))

-- what the room then holds
unfoldable pub profile_written : Record → List ℕ → List ℕ
profile_written s room = room_after (profile_writing s (length room)) (layout (view s)) room

-- ---- what is told beside the record

-- the network, by what 7E says
abbrev pub network_of : List Part → Network
network_of r = cond (some (is_network phs) (items_in r)) Phs (cond (some (is_network mobile) (items_in r)) Mobile Other)

-- what 7E says of each network, 0 where it says neither
abbrev pub network_value : Network → ℕ
network_value Other = 0
network_value Phs = phs
network_value Mobile = mobile

-- the values of the first parameter with the header h, none where there is none
unfoldable pub values_under : ℕ → List Item → List ℕ
values_under h [] = []
values_under h (i ∷ is) = cond (is_headed h i) i.values (values_under h is)

-- D6's pairs, in the order of arrival
abbrev pub classes_of : List Part → List AddedClass
classes_of r = pairs_in (values_under added_class (items_in r))

-- as a struct: six places, as there are six names, the unused ones zero
abbrev pub most_classes : ℕ
most_classes = 6

abbrev pub no_class : AddedClass
no_class = named_class 0 0

abbrev pub profile_of : List Part → Profile
profile_of r = record { network = network_of r; classes = length (classes_of r); class = pad most_classes no_class (classes_of r) }

-- reading by the profile: beside an accepted message its record, packed, and what that tells; beside a refusal those of nothing
abbrev pub profile_by : Answer → List Part → ProfileReading
profile_by (Accepted n) r = record { answer = Accepted n; «record» = pack r; profile = profile_of r }
profile_by (Err w) r = record { answer = Err w; «record» = pack []; profile = profile_of [] }

unfoldable pub profile_reading : List ℕ → ProfileReading
profile_reading m = profile_by (profile_verdict m) (record_of m)

-- D6's pairs as octets: how many there are, or number and place: the profile's, 16 without D6, 15 where the room is shorter
unfoldable pub classes_answer : List ℕ → ℕ → Answer
classes_answer m room =
    let n = length (pair_octets (classes_of (record_of m))) in
    and_then (profile_verdict m)
    (λ _. refuse (not (some (is_headed added_class) (items_in (record_of m)))) absent 0
    (refuse (ltb room n) no_room 0 (Accepted n)))

-- what the room then holds
unfoldable pub classes_given : List ℕ → List ℕ → List ℕ
classes_given m room = room_after (classes_answer m (length room)) (pair_octets (classes_of (record_of m))) room
