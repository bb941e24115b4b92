-- What each public function of the product promises, for all inputs, refused ones too: its answer, and what lent memory then holds.
-- m: the octets of a message; image: those of a record's image; room, table, buffer: lent memory at entry; now: at exit.
use Rattle.std.specs.Prelude.{ℕ, ◌≡◌, Bool, cond, List, length}
use Rattle.annex.specs.Reading.{verdict_of}
use Rattle.annex.specs.Records.{reading_of}
use Rattle.annex.specs.Writing.{struct_writing, writing_of, written_of}
use Rattle.annex.specs.Image.{imaged_of}
use Rattle.annex.specs.Finding.{common_found, transfer_found, find_answer, find_part}
use Rattle.annex.specs.Spans.{spans_of, table_of}
use Rattle.annex.specs.Editing.{Edit, editing_of, buffer_of}
use Rattle.annex.specs.Classes.{class_of}
use Rattle.annex.specs.Charging.{charging_of, octet_charging, octet_charged}
use Rattle.annex.specs.Opened.{order_answer, order_table}
use Rattle.annex.specs.Transit.{digits_answer, digits_given}
use Rattle.annex.specs.Profile.{profile_verdict, profile_writing, profile_written, profile_reading, classes_answer, classes_given}
use Rattle.annex.specs.Packed.{
  packed_answer,
  packed_stretch,
  packed_class,
  image_reading,
  image_read,
  image_writing,
  image_written,
  profile_image_reading,
  profile_image_read,
  profile_image_writing,
  profile_image_written,
  octet_spans,
  octet_table,
  octet_order,
  octet_order_table,
  octet_carriers,
  octet_carriers_table,
}
use Rattle.annex.specs.Memory.{Request}
use Rattle.annex.specs.Answers.{Answer, ClassAnswer, ChargingAnswer}
use Rattle.annex.specs.declared.Record.{Record}
use Rattle.annex.specs.declared.Reading.{Reading}
use Rattle.annex.specs.declared.Imaged.{Imaged}
use Rattle.annex.specs.declared.Row.{Row}
use Rattle.annex.specs.declared.ProfileReading.{ProfileReading}

-- reader::verdict::verdict
abbrev pub VerdictPromise : List ℕ → Answer → Type 0
VerdictPromise m r = r ≡ verdict_of m

-- reader::reading::read
abbrev pub ReadPromise : List ℕ → Reading → Type 0
ReadPromise m r = r ≡ reading_of m

-- reader::finding::find_common
abbrev pub FindCommonPromise : List ℕ → ℕ → List ℕ → Type 0
FindCommonPromise m h r = r ≡ find_part m (common_found h m)

-- reader::finding::find_common_answer
abbrev pub FindCommonAnswerPromise : List ℕ → ℕ → Answer → Type 0
FindCommonAnswerPromise m h r = r ≡ find_answer m (common_found h m)

-- reader::finding::find_transfer, of those with the name the one with the number `which`, counted from 0 (request g)
abbrev pub FindTransferPromise : List ℕ → ℕ → ℕ → List ℕ → Type 0
FindTransferPromise m x which r = r ≡ find_part m (transfer_found x which m)

-- reader::finding::find_transfer_answer
abbrev pub FindTransferAnswerPromise : List ℕ → ℕ → ℕ → Answer → Type 0
FindTransferAnswerPromise m x which r = r ≡ find_answer m (transfer_found x which m)

-- reader::rows::check, listing::list
abbrev pub SpansCheckPromise : List ℕ → ℕ → Answer → Type 0
SpansCheckPromise m room r = r ≡ spans_of m room

-- rows::spans
abbrev pub SpansPromise : List ℕ → List Row → Answer → List Row → Type 0
SpansPromise m table r now = (r ≡ spans_of m (length table)) × (now ≡ table_of m table)

-- rows::in_octets::octet_spans
abbrev pub OctetSpansPromise : List ℕ → List ℕ → Answer → List ℕ → Type 0
OctetSpansPromise m table r now = (r ≡ octet_spans m (length table)) × (now ≡ octet_table m table)

-- rows::opened::check_order
abbrev pub OrderCheckPromise : List ℕ → ℕ → Answer → Type 0
OrderCheckPromise m room r = r ≡ order_answer m room

-- rows::order
abbrev pub OrderPromise : List ℕ → List Row → Answer → List Row → Type 0
OrderPromise m table r now = (r ≡ order_answer m (length table)) × (now ≡ order_table m table)

-- rows::in_octets::octet_order
abbrev pub OctetOrderPromise : List ℕ → List ℕ → Answer → List ℕ → Type 0
OctetOrderPromise m table r now = (r ≡ octet_order m (length table)) × (now ≡ octet_order_table m table)

-- writer::write
abbrev pub WritePromise : Record → List ℕ → Answer → List ℕ → Type 0
WritePromise s room r now = (r ≡ writing_of s (length room)) × (now ≡ written_of s room)

-- refusing::record_refusal
abbrev pub RecordRefusalPromise : Record → Answer → Type 0
RecordRefusalPromise s r = r ≡ struct_writing s

-- editor::replace, append, remove
abbrev pub EditPromise : Edit → List ℕ → ℕ → Answer → List ℕ → Type 0
EditPromise e buffer n r now = (r ≡ editing_of e buffer n) × (now ≡ buffer_of e buffer n)

-- classes::class_of
abbrev pub ClassPromise : ℕ → ℕ → ClassAnswer → Type 0
ClassPromise h x r = r ≡ class_of h x

-- charging::charging
abbrev pub ChargingPromise : List ℕ → ChargingAnswer → Type 0
ChargingPromise m r = r ≡ charging_of m

-- charging::packing::octet_charging
abbrev pub OctetChargingPromise : List ℕ → List ℕ → Answer → List ℕ → Type 0
OctetChargingPromise m room r now = (r ≡ octet_charging m (length room)) × (now ≡ octet_charged m room)

-- carriers::carriers
abbrev pub CarriersPromise : List ℕ → ℕ → List ℕ → Answer → List ℕ → Type 0
CarriersPromise m which table r now = (r ≡ octet_carriers m which (length table)) × (now ≡ octet_carriers_table m which table)

-- carriers::carrier_digits
abbrev pub CarrierDigitsPromise : List ℕ → ℕ → ℕ → List ℕ → Answer → List ℕ → Type 0
CarrierDigitsPromise m which row room r now = (r ≡ digits_answer m which row (length room)) × (now ≡ digits_given m which row room)

-- ---- the mobile call profile

-- profile::verdict::profile_verdict
abbrev pub ProfileVerdictPromise : List ℕ → Answer → Type 0
ProfileVerdictPromise m r = r ≡ profile_verdict m

-- profile::read
abbrev pub ProfileReadPromise : List ℕ → ProfileReading → Type 0
ProfileReadPromise m r = r ≡ profile_reading m

-- profile::writing::write
abbrev pub ProfileWritePromise : Record → List ℕ → Answer → List ℕ → Type 0
ProfileWritePromise s room r now = (r ≡ profile_writing s (length room)) × (now ≡ profile_written s room)

-- profile::images::read_image
abbrev pub ProfileImageReadPromise : List ℕ → List ℕ → Answer → List ℕ → Type 0
ProfileImageReadPromise m room r now = (r ≡ profile_image_reading m (length room)) × (now ≡ profile_image_read m room)

-- profile::writing::write_image
abbrev pub ProfileImageWritePromise : List ℕ → List ℕ → Answer → List ℕ → Type 0
ProfileImageWritePromise image room r now =
    (r ≡ profile_image_writing image (length room)) × (now ≡ profile_image_written image room)

-- profile::images::added_classes
abbrev pub ClassesPromise : List ℕ → List ℕ → Answer → List ℕ → Type 0
ClassesPromise m room r now = (r ≡ classes_answer m (length room)) × (now ≡ classes_given m room)

-- ---- a record's image

-- image_reader::read_image
abbrev pub ImageReadPromise : List ℕ → List ℕ → Answer → List ℕ → Type 0
ImageReadPromise m room r now = (r ≡ image_reading m (length room)) × (now ≡ image_read m room)

-- from_image::from_image
abbrev pub FromImagePromise : List ℕ → Imaged → Type 0
FromImagePromise image r = r ≡ imaged_of image

-- image_writer::write_image
abbrev pub ImageWritePromise : List ℕ → List ℕ → Answer → List ℕ → Type 0
ImageWritePromise image room r now = (r ≡ image_writing image (length room)) × (now ≡ image_written image room)

-- ---- the functions for Rust and C, which answer one number

-- tk_read
abbrev pub TkReadPromise : List ℕ → List ℕ → ℕ → List ℕ → Type 0
TkReadPromise m room r now = (r ≡ packed_answer (image_reading m (length room))) × (now ≡ image_read m room)

-- tk_write
abbrev pub TkWritePromise : List ℕ → List ℕ → ℕ → List ℕ → Type 0
TkWritePromise image room r now = (r ≡ packed_answer (image_writing image (length room))) × (now ≡ image_written image room)

-- tk_rows
abbrev pub TkRowsPromise : List ℕ → List ℕ → ℕ → List ℕ → Type 0
TkRowsPromise m table r now = (r ≡ packed_answer (octet_spans m (length table))) × (now ≡ octet_table m table)

-- tk_find_common
abbrev pub TkFindCommonPromise : List ℕ → ℕ → ℕ → Type 0
TkFindCommonPromise m h r = r ≡ packed_stretch (find_answer m (common_found h m)) (find_part m (common_found h m))

-- tk_find_transfer
abbrev pub TkFindTransferPromise : List ℕ → ℕ → ℕ → ℕ → Type 0
TkFindTransferPromise m x which r =
    r ≡ packed_stretch (find_answer m (transfer_found x which m)) (find_part m (transfer_found x which m))

-- tk_class
abbrev pub TkClassPromise : ℕ → ℕ → ℕ → Type 0
TkClassPromise h x r = r ≡ packed_class (class_of h x)

-- tk_charging
abbrev pub TkChargingPromise : List ℕ → List ℕ → ℕ → List ℕ → Type 0
TkChargingPromise m room r now = (r ≡ packed_answer (octet_charging m (length room))) × (now ≡ octet_charged m room)

-- tk_order
abbrev pub TkOrderPromise : List ℕ → List ℕ → ℕ → List ℕ → Type 0
TkOrderPromise m table r now = (r ≡ packed_answer (octet_order m (length table))) × (now ≡ octet_order_table m table)

-- tk_carriers
abbrev pub TkCarriersPromise : List ℕ → ℕ → List ℕ → ℕ → List ℕ → Type 0
TkCarriersPromise m which table r now =
    (r ≡ packed_answer (octet_carriers m which (length table))) × (now ≡ octet_carriers_table m which table)

-- tk_carrier_digits
abbrev pub TkCarrierDigitsPromise : List ℕ → ℕ → ℕ → List ℕ → ℕ → List ℕ → Type 0
TkCarrierDigitsPromise m which row room r now =
    (r ≡ packed_answer (digits_answer m which row (length room))) × (now ≡ digits_given m which row room)

-- tk_profile_read
abbrev pub TkProfileReadPromise : List ℕ → List ℕ → ℕ → List ℕ → Type 0
TkProfileReadPromise m room r now = (r ≡ packed_answer (profile_image_reading m (length room))) × (now ≡ profile_image_read m room)

-- tk_profile_write
abbrev pub TkProfileWritePromise : List ℕ → List ℕ → ℕ → List ℕ → Type 0
TkProfileWritePromise image room r now =
    (r ≡ packed_answer (profile_image_writing image (length room))) × (now ≡ profile_image_written image room)

-- tk_added_classes
abbrev pub TkClassesPromise : List ℕ → List ℕ → ℕ → List ℕ → Type 0
TkClassesPromise m room r now = (r ≡ packed_answer (classes_answer m (length room))) × (now ≡ classes_given m room)

-- tk_replace, tk_append, tk_remove
abbrev pub TkEditPromise : Edit → List ℕ → ℕ → ℕ → List ℕ → Type 0
TkEditPromise e buffer n r now = (r ≡ packed_answer (editing_of e buffer n)) × (now ≡ buffer_of e buffer n)

-- ---- the functions that serve these

-- one answers what the definition named beside it gives;
abbrev pub Gives : {A : Type 0} → A → A → Type 0
Gives given r = r ≡ given

-- one that stores says whether the request fits, and where it does not, lent memory stays as it was.
abbrev pub Stores : Bool → List ℕ → List ℕ → Bool → List ℕ → Type 0
Stores fits stored before r now = (r ≡ fits) × (now ≡ cond r stored before)

-- the same of a request (Memory)
abbrev pub Keeps : Request → Bool → List ℕ → Type 0
Keeps a r now = Stores a.fits a.stored a.before r now
