-- The messages of an input are answered over the plan of some rows.
use Rattle.std.specs.Prelude.{◌≡◌, ℕ, true, false, List, [], ◌∷◌, map, ◌⊎◌, Option, Result, Err, IsPermutation}
use Rattle.std.specs.Io.KnownBytes.{Keeps}
use Rattle.channel_plan.specs.declared.plan.PlanRow.{PlanRow}
use Rattle.channel_plan.specs.declared.refusal.Code.TheVariants as code
use Rattle.channel_plan.specs.declared.refusal.Refusal.{Refusal}
use Rattle.channel_plan.specs.Refusal.{refused}
use Rattle.channel_plan.specs.Plan.{IsPlanText, is_plan}
use Rattle.channel_view_model.specs.Centre.{Centre}
use Rattle.http_office_requests.specs.Piece.{Piece}
use Rattle.http_office_requests.specs.Request.{request_of}
use Rattle.http_office.specs.Run.{AnswersAll, rows_left_by, stop_after_messages}
use Rattle.http_office.specs.Serving.{IsServed}
use Rattle.http_office_answers.specs.declared.answers.Answer.{Answer}
use Rattle.http_office.specs.declared.serving.End.{End}
use Rattle.http_office.specs.declared.serving.ServeFault.{ServeFault}
use Rattle.http_office.specs.declared.serving.ServeFault.TheVariants as serve_fault
use Rattle.playout_lists.specs.declared.fault.Fault.{Fault}
use Rattle.playout_lists.specs.declared.fault.Fault.TheVariants.{Label, List as OfList, Refused, NoChannel, Open}
use Rattle.playout_lists.specs.declared.fault.Fault.TheVariants.{Listen, Stream}
use Rattle.playout_lists.specs.declared.streams.InputFault.TheVariants as input
use Rattle.playout_lists.specs.declared.streams.StreamFault.{StreamFault}
use Rattle.playout_lists.specs.declared.streams.StreamFault.TheVariants.{Input, Write}

-- these texts are these plan rows
abbrev pub ArePlanTexts : List (List ℕ) → List PlanRow → Type 0
ArePlanTexts [] [] = Unit {0}
ArePlanTexts [] (row ∷ rows) = ⊥
ArePlanTexts (text ∷ texts) [] = ⊥
ArePlanTexts (text ∷ texts) (row ∷ rows) = IsPlanText text row × ArePlanTexts texts rows

-- one of the texts is no plan row, or a channel comes twice
abbrev pub AreNoPlan : List (List ℕ) → Type 0
AreNoPlan texts =
    ((plan : List PlanRow) → ArePlanTexts texts plan → ⊥)
    ⊎ ((plan : List PlanRow) × ArePlanTexts texts plan × (is_plan plan ≡ false))

-- why there is no plan of these texts: they are none, or memory ran out
abbrev pub RefusesPlan : List (List ℕ) → Refusal → Type 0
RefusesPlan texts refusal = ((refusal ≡ refused code.PlanRow) × AreNoPlan texts) ⊎ (refusal ≡ refused code.Unavailable)

-- how a served stream's fault is told
abbrev pub stream_fault_of : ServeFault → StreamFault
stream_fault_of serve_fault.Read = Input input.Read
stream_fault_of serve_fault.Write = Write
stream_fault_of serve_fault.Memory = Input input.Unavailable

-- A stream was served over each set of rows that Begins says. Leaves holds of the rows that it left; and a stop now,
-- which may leave what MayLeave says, leaves these, or whole messages of those that were not acknowledged.
pub record ServesOn (Begins Leaves MayLeave : Centre → Type 0)
    (readable_old readable_new written_old written_new : Option (List ℕ))
    (result : Result End ServeFault) : Type 0 where
  pub pieces : List Piece
  pub answers : List Answer
  pub served : IsServed pieces answers readable_old readable_new written_old written_new result
  pub answered : (rows : Centre) → Begins rows → AnswersAll rows (map request_of pieces) answers
  pub left : (rows : Centre) → Begins rows → Leaves (rows_left_by rows (map request_of pieces) answers)
  pub stop : (rows : Centre) → Begins rows → (found : Centre) → MayLeave found
      → stop_after_messages (λ begun. begun ≡ rows) rows (map request_of pieces) answers found

-- The texts are a plan, and the stream was served over that plan alone.
pub record ServesPlan (texts : List (List ℕ)) (readable_old readable_new written_old written_new : Option (List ℕ))
    (result : Result End ServeFault) : Type 0 where
  pub plan : List PlanRow
  pub texts_are : ArePlanTexts texts plan
  pub plan_is : is_plan plan ≡ true
  pub rows : Centre
  pub channels : IsPermutation plan rows.channels
  pub nothing_else : (rows.tapes ≡ []) × (rows.clips ≡ []) × (rows.offers ≡ []) × (rows.days ≡ []) × (rows.aired ≡ [])
  pub serves : ServesOn (λ begun. begun ≡ rows)
      (λ left. Unit {0}) (λ found. ⊥) readable_old readable_new written_old written_new result

-- Why the stream isn't served to its end: the plan has a fault, and nothing was read or written, or the stream has one.
abbrev pub AnswerHas : List (List ℕ) → Option (List ℕ) → Option (List ℕ) → Option (List ℕ) → Option (List ℕ) → Fault
    → Type 0
AnswerHas texts readable_old readable_new written_old written_new (Refused refusal) =
    RefusesPlan texts refusal × Keeps readable_old readable_new × Keeps written_old written_new
AnswerHas texts readable_old readable_new written_old written_new (Stream fault) =
    (f : ServeFault) × (fault ≡ stream_fault_of f)
    × ServesPlan texts readable_old readable_new written_old written_new (Err f)
AnswerHas texts readable_old readable_new written_old written_new (Label fault) = ⊥
AnswerHas texts readable_old readable_new written_old written_new (OfList fault) = ⊥
AnswerHas texts readable_old readable_new written_old written_new Open = ⊥
AnswerHas texts readable_old readable_new written_old written_new Listen = ⊥
AnswerHas texts readable_old readable_new written_old written_new NoChannel = ⊥
