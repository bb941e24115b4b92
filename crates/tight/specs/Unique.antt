-- Two answers that keep a promise on the same input are equal: the result, and what lent memory holds after it. So no promise lets two
-- programs differ. A part of the message that finding hands back is equal by its octets; `common-where` and `transfer-where` say with the
-- answer to the second question where in the message it is.
use Rattle.std.specs.Prelude.{ℕ, ◌≡◌, Bool, cond, List, length}
use Rattle.std.proofs.Common.{sym, ap, ◌∙◌}
use Rattle.annex.specs.Reading.{verdict_of}
use Rattle.annex.specs.Finding.{common_found, transfer_found}
use Rattle.annex.specs.Editing.{Edit}
use Rattle.annex.specs.Promises.{
  VerdictPromise,
  ReadPromise,
  FindCommonPromise,
  FindCommonAnswerPromise,
  FindTransferPromise,
  FindTransferAnswerPromise,
  SpansCheckPromise,
  SpansPromise,
  OctetSpansPromise,
  OrderCheckPromise,
  OrderPromise,
  OctetOrderPromise,
  WritePromise,
  RecordRefusalPromise,
  EditPromise,
  ClassPromise,
  ChargingPromise,
  OctetChargingPromise,
  CarriersPromise,
  CarrierDigitsPromise,
  ProfileVerdictPromise,
  ProfileReadPromise,
  ProfileWritePromise,
  ProfileImageReadPromise,
  ProfileImageWritePromise,
  ClassesPromise,
  ImageReadPromise,
  ImageWritePromise,
  FromImagePromise,
  TkReadPromise,
  TkWritePromise,
  TkRowsPromise,
  TkFindCommonPromise,
  TkFindTransferPromise,
  TkClassPromise,
  TkChargingPromise,
  TkOrderPromise,
  TkCarriersPromise,
  TkCarrierDigitsPromise,
  TkProfileReadPromise,
  TkProfileWritePromise,
  TkClassesPromise,
  TkEditPromise,
  Gives,
  Stores,
}
use Rattle.annex.specs.Answers.{Answer, ClassAnswer, ChargingAnswer}
use Rattle.annex.specs.declared.Record.{Record}
use Rattle.annex.specs.declared.Reading.{Reading}
use Rattle.annex.specs.declared.Imaged.{Imaged}
use Rattle.annex.specs.declared.Row.{Row}
use Rattle.annex.specs.declared.ProfileReading.{ProfileReading}
use Rattle.laws.specs.Found.{stretch_from, part_where}

-- what is equal to the same is equal
pub same : {A : Type 0} {x a b : A} → a ≡ x → b ≡ x → a ≡ b
same p q = p ∙ sym q

-- an answer, and lent memory beside it
pub both : {A B : Type 0} {x a b : A} {y s t : B} → (a ≡ x) × (s ≡ y) → (b ≡ x) × (t ≡ y) → (a ≡ b) × (s ≡ t)
both p q = (same p.0 q.0, same p.1 q.1)

pub one_verdict : (m : List ℕ) (a b : Answer) → VerdictPromise m a → VerdictPromise m b → a ≡ b
one_verdict m a b p q = same p q

pub one_reading : (m : List ℕ) (a b : Reading) → ReadPromise m a → ReadPromise m b → a ≡ b
one_reading m a b p q = same p q

pub one_common : (m : List ℕ) (h : ℕ) (a b : List ℕ) → FindCommonPromise m h a → FindCommonPromise m h b → a ≡ b
one_common m h a b p q = same p q

pub one_common_answer : (m : List ℕ) (h : ℕ) (a b : Answer) → FindCommonAnswerPromise m h a → FindCommonAnswerPromise m h b → a ≡ b
one_common_answer m h a b p q = same p q

pub one_transfer : (m : List ℕ) (x which : ℕ) (a b : List ℕ) → FindTransferPromise m x which a → FindTransferPromise m x which b → a ≡ b
one_transfer m x which a b p q = same p q

pub one_transfer_answer : (m : List ℕ) (x which : ℕ) (a b : Answer) → FindTransferAnswerPromise m x which a
    → FindTransferAnswerPromise m x which b → a ≡ b
one_transfer_answer m x which a b p q = same p q

-- a part that finding hands back, and the answer to the second question: where in the message the part is
pub common_where : (m : List ℕ) (h : ℕ) (part : List ℕ) (a : Answer) → FindCommonPromise m h part → FindCommonAnswerPromise m h a
    → part ≡ stretch_from a (length part) m
common_where m h part a p q = rw (p, q) (part_where (verdict_of m) m (common_found h m))

pub transfer_where : (m : List ℕ) (x which : ℕ) (part : List ℕ) (a : Answer) → FindTransferPromise m x which part
    → FindTransferAnswerPromise m x which a → part ≡ stretch_from a (length part) m
transfer_where m x which part a p q = rw (p, q) (part_where (verdict_of m) m (transfer_found x which m))

pub one_check : (m : List ℕ) (room : ℕ) (a b : Answer) → SpansCheckPromise m room a → SpansCheckPromise m room b → a ≡ b
one_check m room a b p q = same p q

pub one_order_check : (m : List ℕ) (room : ℕ) (a b : Answer) → OrderCheckPromise m room a → OrderCheckPromise m room b → a ≡ b
one_order_check m room a b p q = same p q

pub one_refusal : (held : Record) (a b : Answer) → RecordRefusalPromise held a → RecordRefusalPromise held b → a ≡ b
one_refusal held a b p q = same p q

-- with lent memory
pub one_listing : (m : List ℕ) (table : List Row) (a b : Answer) (s t : List Row) → SpansPromise m table a s → SpansPromise m table b t
    → (a ≡ b) × (s ≡ t)
one_listing m table a b s t p q = both p q

pub one_octet_listing : (m table : List ℕ) (a b : Answer) (s t : List ℕ) → OctetSpansPromise m table a s → OctetSpansPromise m table b t
    → (a ≡ b) × (s ≡ t)
one_octet_listing m table a b s t p q = both p q

pub one_order : (m : List ℕ) (table : List Row) (a b : Answer) (s t : List Row) → OrderPromise m table a s → OrderPromise m table b t
    → (a ≡ b) × (s ≡ t)
one_order m table a b s t p q = both p q

pub one_octet_order : (m table : List ℕ) (a b : Answer) (s t : List ℕ) → OctetOrderPromise m table a s → OctetOrderPromise m table b t
    → (a ≡ b) × (s ≡ t)
one_octet_order m table a b s t p q = both p q

pub one_writing : (held : Record) (room : List ℕ) (a b : Answer) (s t : List ℕ) → WritePromise held room a s → WritePromise held room b t
    → (a ≡ b) × (s ≡ t)
one_writing held room a b s t p q = both p q

pub one_edit : (e : Edit) (buffer : List ℕ) (n : ℕ) (a b : Answer) (s t : List ℕ) → EditPromise e buffer n a s → EditPromise e buffer n b t
    → (a ≡ b) × (s ≡ t)
one_edit e buffer n a b s t p q = both p q

pub one_class : (h x : ℕ) (a b : ClassAnswer) → ClassPromise h x a → ClassPromise h x b → a ≡ b
one_class h x a b p q = same p q

pub one_charging : (m : List ℕ) (a b : ChargingAnswer) → ChargingPromise m a → ChargingPromise m b → a ≡ b
one_charging m a b p q = same p q

pub one_octet_charging : (m room : List ℕ) (a b : Answer) (s t : List ℕ) → OctetChargingPromise m room a s
    → OctetChargingPromise m room b t → (a ≡ b) × (s ≡ t)
one_octet_charging m room a b s t p q = both p q

pub one_carriers : (m : List ℕ) (which : ℕ) (table : List ℕ) (a b : Answer) (s t : List ℕ) → CarriersPromise m which table a s
    → CarriersPromise m which table b t → (a ≡ b) × (s ≡ t)
one_carriers m which table a b s t p q = both p q

pub one_carrier_digits : (m : List ℕ) (which row : ℕ) (room : List ℕ) (a b : Answer) (s t : List ℕ)
    → CarrierDigitsPromise m which row room a s → CarrierDigitsPromise m which row room b t → (a ≡ b) × (s ≡ t)
one_carrier_digits m which row room a b s t p q = both p q

-- ---- the mobile call profile

pub one_profile_verdict : (m : List ℕ) (a b : Answer) → ProfileVerdictPromise m a → ProfileVerdictPromise m b → a ≡ b
one_profile_verdict m a b p q = same p q

pub one_profile_reading : (m : List ℕ) (a b : ProfileReading) → ProfileReadPromise m a → ProfileReadPromise m b → a ≡ b
one_profile_reading m a b p q = same p q

pub one_profile_writing : (held : Record) (room : List ℕ) (a b : Answer) (s t : List ℕ) → ProfileWritePromise held room a s
    → ProfileWritePromise held room b t → (a ≡ b) × (s ≡ t)
one_profile_writing held room a b s t p q = both p q

pub one_profile_imaging : (m room : List ℕ) (a b : Answer) (s t : List ℕ) → ProfileImageReadPromise m room a s
    → ProfileImageReadPromise m room b t → (a ≡ b) × (s ≡ t)
one_profile_imaging m room a b s t p q = both p q

pub one_profile_image_writing : (image room : List ℕ) (a b : Answer) (s t : List ℕ) → ProfileImageWritePromise image room a s
    → ProfileImageWritePromise image room b t → (a ≡ b) × (s ≡ t)
one_profile_image_writing image room a b s t p q = both p q

pub one_classes : (m room : List ℕ) (a b : Answer) (s t : List ℕ) → ClassesPromise m room a s → ClassesPromise m room b t
    → (a ≡ b) × (s ≡ t)
one_classes m room a b s t p q = both p q

-- ---- a record's image

pub one_imaging : (m room : List ℕ) (a b : Answer) (s t : List ℕ) → ImageReadPromise m room a s → ImageReadPromise m room b t
    → (a ≡ b) × (s ≡ t)
one_imaging m room a b s t p q = both p q

pub one_image_writing : (image room : List ℕ) (a b : Answer) (s t : List ℕ) → ImageWritePromise image room a s
    → ImageWritePromise image room b t → (a ≡ b) × (s ≡ t)
one_image_writing image room a b s t p q = both p q

pub one_imaged : (image : List ℕ) (a b : Imaged) → FromImagePromise image a → FromImagePromise image b → a ≡ b
one_imaged image a b p q = same p q

-- ---- the functions for Rust and C

pub one_tk_read : (m room : List ℕ) (a b : ℕ) (s t : List ℕ) → TkReadPromise m room a s → TkReadPromise m room b t → (a ≡ b) × (s ≡ t)
one_tk_read m room a b s t p q = both p q

pub one_tk_write : (image room : List ℕ) (a b : ℕ) (s t : List ℕ) → TkWritePromise image room a s → TkWritePromise image room b t
    → (a ≡ b) × (s ≡ t)
one_tk_write image room a b s t p q = both p q

pub one_tk_rows : (m table : List ℕ) (a b : ℕ) (s t : List ℕ) → TkRowsPromise m table a s → TkRowsPromise m table b t → (a ≡ b) × (s ≡ t)
one_tk_rows m table a b s t p q = both p q

pub one_tk_common : (m : List ℕ) (h a b : ℕ) → TkFindCommonPromise m h a → TkFindCommonPromise m h b → a ≡ b
one_tk_common m h a b p q = same p q

pub one_tk_transfer : (m : List ℕ) (x which a b : ℕ) → TkFindTransferPromise m x which a → TkFindTransferPromise m x which b → a ≡ b
one_tk_transfer m x which a b p q = same p q

pub one_tk_class : (h x a b : ℕ) → TkClassPromise h x a → TkClassPromise h x b → a ≡ b
one_tk_class h x a b p q = same p q

pub one_tk_charging : (m room : List ℕ) (a b : ℕ) (s t : List ℕ) → TkChargingPromise m room a s → TkChargingPromise m room b t
    → (a ≡ b) × (s ≡ t)
one_tk_charging m room a b s t p q = both p q

pub one_tk_order : (m table : List ℕ) (a b : ℕ) (s t : List ℕ) → TkOrderPromise m table a s → TkOrderPromise m table b t
    → (a ≡ b) × (s ≡ t)
one_tk_order m table a b s t p q = both p q

pub one_tk_carriers : (m : List ℕ) (which : ℕ) (table : List ℕ) (a b : ℕ) (s t : List ℕ) → TkCarriersPromise m which table a s
    → TkCarriersPromise m which table b t → (a ≡ b) × (s ≡ t)
one_tk_carriers m which table a b s t p q = both p q

pub one_tk_carrier_digits : (m : List ℕ) (which row : ℕ) (room : List ℕ) (a b : ℕ) (s t : List ℕ)
    → TkCarrierDigitsPromise m which row room a s → TkCarrierDigitsPromise m which row room b t → (a ≡ b) × (s ≡ t)
one_tk_carrier_digits m which row room a b s t p q = both p q

pub one_tk_profile_read : (m room : List ℕ) (a b : ℕ) (s t : List ℕ) → TkProfileReadPromise m room a s → TkProfileReadPromise m room b t
    → (a ≡ b) × (s ≡ t)
one_tk_profile_read m room a b s t p q = both p q

pub one_tk_profile_write : (image room : List ℕ) (a b : ℕ) (s t : List ℕ) → TkProfileWritePromise image room a s
    → TkProfileWritePromise image room b t → (a ≡ b) × (s ≡ t)
one_tk_profile_write image room a b s t p q = both p q

pub one_tk_classes : (m room : List ℕ) (a b : ℕ) (s t : List ℕ) → TkClassesPromise m room a s → TkClassesPromise m room b t
    → (a ≡ b) × (s ≡ t)
one_tk_classes m room a b s t p q = both p q

pub one_tk_edit : (e : Edit) (buffer : List ℕ) (n a b : ℕ) (s t : List ℕ) → TkEditPromise e buffer n a s → TkEditPromise e buffer n b t
    → (a ≡ b) × (s ≡ t)
one_tk_edit e buffer n a b s t p q = both p q

-- ---- the functions that serve these

pub one_given : {A : Type 0} (given a b : A) → Gives given a → Gives given b → a ≡ b
one_given given a b p q = same p q

pub one_stored : (fits : Bool) (stored before : List ℕ) (a b : Bool) (s t : List ℕ) → Stores fits stored before a s
    → Stores fits stored before b t → (a ≡ b) × (s ≡ t)
one_stored fits stored before a b s t p q =
    (same p.0 q.0, p.1 ∙ (ap (λ r. cond r stored before) (same p.0 q.0) ∙ sym q.1))
