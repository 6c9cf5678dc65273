-- Refusals: their numbers, their names, and the detail that goes with some of them.
use Rattle.std.specs.Prelude.{◌≡◌, ℕ, List, [], ◌++◌, Option, Some, None, Result, Ok, Err, ◌⊎◌, codes, decimal}
use Rattle.timecode.specs.Label.{label_text}
use Rattle.timecode.specs.Fault.{fault_number as label_fault_number, fault_name as label_fault_name}
use Rattle.channel_plan.specs.Fault.{fault_number as line_fault_number, fault_name as line_fault_name}
use Rattle.umid.specs.Fault.{fault_number as umid_fault_number, fault_name as umid_fault_name}
use Rattle.channel_plan.specs.declared.refusal.Code.{Code}
use Rattle.channel_plan.specs.declared.refusal.Code.TheVariants.{Label, Umid, List as OfList, BadSlot, SlotTaken}
use Rattle.channel_plan.specs.declared.refusal.Code.TheVariants.{BarcodeKnown, BarcodeForm, NoTape, TapeOut}
use Rattle.channel_plan.specs.declared.refusal.Code.TheVariants.{TapeShelved, VaultFull, UmidKnown, TitleForm}
use Rattle.channel_plan.specs.declared.refusal.Code.TheVariants.{ClipRange, NoClip, ClipRetired, RegisterFull, LentClip}
use Rattle.channel_plan.specs.declared.refusal.Code.TheVariants.{ToSelf, BadChannel, AlreadyOffered, NoOffer, Withdrawn}
use Rattle.channel_plan.specs.declared.refusal.Code.TheVariants.{OffersFull, NoDay, DayKnown, DaySealed, NotSealed}
use Rattle.channel_plan.specs.declared.refusal.Code.TheVariants.{Overlap, Gap, NoSource, RateDiffers, SourceRange}
use Rattle.channel_plan.specs.declared.refusal.Code.TheVariants.{MixLong, Recalled, NoItem, DayFull, SpeedEvent}
use Rattle.channel_plan.specs.declared.refusal.Code.TheVariants.{KeyEvent, PastDayEnd, EmptyItem, OutsideWindow}
use Rattle.channel_plan.specs.declared.refusal.Code.TheVariants.{WholeDay, RowForm, AiredTwice, BatchDiffers}
use Rattle.channel_plan.specs.declared.refusal.Code.TheVariants.{BatchOrder, BatchesFull, PlanRow, NotOurs}
use Rattle.channel_plan.specs.declared.refusal.Code.TheVariants.{SchemaVersion, Unavailable}
use Rattle.channel_plan.specs.declared.refusal.At.{At}
use Rattle.channel_plan.specs.declared.refusal.At.TheVariants.{Nothing, Place, Count, LineLabel}
use Rattle.channel_plan.specs.declared.refusal.Refusal.{Refusal}

abbrev pub number_of : Code → ℕ
number_of (Label fault) = label_fault_number fault
number_of (Umid fault) = umid_fault_number fault
number_of (OfList fault) = line_fault_number fault
number_of BadSlot = 41
number_of SlotTaken = 42
number_of BarcodeKnown = 43
number_of BarcodeForm = 44
number_of NoTape = 45
number_of TapeOut = 46
number_of TapeShelved = 47
number_of VaultFull = 48
number_of UmidKnown = 51
number_of TitleForm = 52
number_of ClipRange = 53
number_of NoClip = 54
number_of ClipRetired = 55
number_of RegisterFull = 56
number_of LentClip = 61
number_of ToSelf = 62
number_of BadChannel = 63
number_of AlreadyOffered = 64
number_of NoOffer = 65
number_of Withdrawn = 66
number_of OffersFull = 67
number_of NoDay = 71
number_of DayKnown = 72
number_of DaySealed = 73
number_of NotSealed = 74
number_of Overlap = 75
number_of Gap = 76
number_of NoSource = 77
number_of RateDiffers = 78
number_of SourceRange = 79
number_of MixLong = 80
number_of Recalled = 81
number_of NoItem = 82
number_of DayFull = 83
number_of SpeedEvent = 84
number_of KeyEvent = 85
number_of PastDayEnd = 86
number_of EmptyItem = 87
number_of OutsideWindow = 88
number_of WholeDay = 89
number_of RowForm = 91
number_of AiredTwice = 92
number_of BatchDiffers = 93
number_of BatchOrder = 94
number_of BatchesFull = 95
number_of PlanRow = 96
number_of NotOurs = 97
number_of SchemaVersion = 98
number_of Unavailable = 100

abbrev pub name_of : Code → List ℕ
name_of (Label fault) = label_fault_name fault
name_of (Umid fault) = umid_fault_name fault
name_of (OfList fault) = line_fault_name fault
name_of BadSlot = codes "BadSlot"
name_of SlotTaken = codes "SlotTaken"
name_of BarcodeKnown = codes "BarcodeKnown"
name_of BarcodeForm = codes "BarcodeForm"
name_of NoTape = codes "NoTape"
name_of TapeOut = codes "TapeOut"
name_of TapeShelved = codes "TapeShelved"
name_of VaultFull = codes "VaultFull"
name_of UmidKnown = codes "UmidKnown"
name_of TitleForm = codes "TitleForm"
name_of ClipRange = codes "ClipRange"
name_of NoClip = codes "NoClip"
name_of ClipRetired = codes "ClipRetired"
name_of RegisterFull = codes "RegisterFull"
name_of LentClip = codes "LentClip"
name_of ToSelf = codes "ToSelf"
name_of BadChannel = codes "BadChannel"
name_of AlreadyOffered = codes "AlreadyOffered"
name_of NoOffer = codes "NoOffer"
name_of Withdrawn = codes "Withdrawn"
name_of OffersFull = codes "OffersFull"
name_of NoDay = codes "NoDay"
name_of DayKnown = codes "DayKnown"
name_of DaySealed = codes "DaySealed"
name_of NotSealed = codes "NotSealed"
name_of Overlap = codes "Overlap"
name_of Gap = codes "Gap"
name_of NoSource = codes "NoSource"
name_of RateDiffers = codes "RateDiffers"
name_of SourceRange = codes "SourceRange"
name_of MixLong = codes "MixLong"
name_of Recalled = codes "Recalled"
name_of NoItem = codes "NoItem"
name_of DayFull = codes "DayFull"
name_of SpeedEvent = codes "SpeedEvent"
name_of KeyEvent = codes "KeyEvent"
name_of PastDayEnd = codes "PastDayEnd"
name_of EmptyItem = codes "EmptyItem"
name_of OutsideWindow = codes "OutsideWindow"
name_of WholeDay = codes "WholeDay"
name_of RowForm = codes "RowForm"
name_of AiredTwice = codes "AiredTwice"
name_of BatchDiffers = codes "BatchDiffers"
name_of BatchOrder = codes "BatchOrder"
name_of BatchesFull = codes "BatchesFull"
name_of PlanRow = codes "PlanRow"
name_of NotOurs = codes "NotOurs"
name_of SchemaVersion = codes "SchemaVersion"
name_of Unavailable = codes "Unavailable"

-- the detail as text, if there is one
abbrev pub text_of : At → Option (List ℕ)
text_of Nothing = None
text_of (Place label) = Some (label_text label)
text_of (Count n) = Some (decimal n)
text_of (LineLabel line fault) = Some (decimal line ++ (codes " " ++ decimal (label_fault_number fault)))

-- the number and the name, and the detail behind them
abbrev pub detail_text : Option (List ℕ) → List ℕ
detail_text None = []
detail_text (Some detail) = codes " at " ++ detail

abbrev pub refusal_text : Refusal → List ℕ
refusal_text refusal =
    decimal (number_of refusal.code) ++ (codes " " ++ (name_of refusal.code ++ detail_text (text_of refusal.at)))

-- a refusal without a detail
abbrev pub refused : Code → Refusal
refused code = record { code = code; at = Nothing }

-- the refusal is the definition's; or memory ran out, for what the definition accepts
abbrev pub IsRefusalOf : {X : Type 0} → Result X Refusal → Refusal → Type 0
IsRefusalOf {X} reply e = ((e ≡ refused Unavailable) × (x : X) × (reply ≡ Ok x)) ⊎ (reply ≡ Err e)
