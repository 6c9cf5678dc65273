-- How long the names of faults are.
use Rattle.std.proofs.Common.{◌≤◌, length, arith}
use Rattle.timecode.specs.declared.faults.TcFault.{TcFault}
use Rattle.timecode.specs.declared.faults.TcFault.TheVariants as label
use Rattle.timecode.specs.Fault.{fault_name as label_fault_name}
use Rattle.umid.specs.declared.fault.UmidFault.{UmidFault}
use Rattle.umid.specs.declared.fault.UmidFault.TheVariants as umid
use Rattle.umid.specs.Fault.{fault_name as umid_fault_name}
use Rattle.channel_plan.specs.declared.fault.LineFault.{LineFault}
use Rattle.channel_plan.specs.declared.fault.LineFault.TheVariants as line
use Rattle.channel_plan.specs.Fault.{fault_name as line_fault_name}
use Rattle.channel_plan.specs.declared.refusal.Code.{Code}
use Rattle.channel_plan.specs.declared.refusal.Code.TheVariants as code
use Rattle.channel_plan.specs.Refusal.{name_of}

pub label_name_short : (fault : TcFault) → length (label_fault_name fault) ≤ 12
label_name_short label.LabelForm = omega arith
label_name_short label.LabelRange = omega arith
label_name_short label.DropMark = omega arith
label_name_short label.DroppedLabel = omega arith
label_name_short label.FrameRange = omega arith

umid_name_short : (fault : UmidFault) → length (umid_fault_name fault) ≤ 8
umid_name_short umid.Length = omega arith
umid_name_short umid.Extended = omega arith
umid_name_short umid.NotUmid = omega arith
umid_name_short umid.HexText = omega arith

pub line_name_short : (fault : LineFault) → length (line_fault_name fault) ≤ 16
line_name_short line.NotText = omega arith
line_name_short line.FieldCount = omega arith
line_name_short line.EventNumber = omega arith
line_name_short line.EditKind = omega arith
line_name_short (line.BadLabel fault) = omega arith
line_name_short line.FrameMode = omega arith
line_name_short line.SourceBackwards = omega arith
line_name_short line.DurationMismatch = omega arith
line_name_short line.TooManyEvents = omega arith

pub refusal_name_short : (cause : Code) → length (name_of cause) ≤ 16
refusal_name_short (code.Label fault) = omega (arith, label_name_short fault)
refusal_name_short (code.Umid fault) = omega (arith, umid_name_short fault)
refusal_name_short (code.List fault) = line_name_short fault
refusal_name_short code.BadSlot = omega arith
refusal_name_short code.SlotTaken = omega arith
refusal_name_short code.BarcodeKnown = omega arith
refusal_name_short code.BarcodeForm = omega arith
refusal_name_short code.NoTape = omega arith
refusal_name_short code.TapeOut = omega arith
refusal_name_short code.TapeShelved = omega arith
refusal_name_short code.VaultFull = omega arith
refusal_name_short code.UmidKnown = omega arith
refusal_name_short code.TitleForm = omega arith
refusal_name_short code.ClipRange = omega arith
refusal_name_short code.NoClip = omega arith
refusal_name_short code.ClipRetired = omega arith
refusal_name_short code.RegisterFull = omega arith
refusal_name_short code.LentClip = omega arith
refusal_name_short code.ToSelf = omega arith
refusal_name_short code.BadChannel = omega arith
refusal_name_short code.AlreadyOffered = omega arith
refusal_name_short code.NoOffer = omega arith
refusal_name_short code.Withdrawn = omega arith
refusal_name_short code.OffersFull = omega arith
refusal_name_short code.NoDay = omega arith
refusal_name_short code.DayKnown = omega arith
refusal_name_short code.DaySealed = omega arith
refusal_name_short code.NotSealed = omega arith
refusal_name_short code.Overlap = omega arith
refusal_name_short code.Gap = omega arith
refusal_name_short code.NoSource = omega arith
refusal_name_short code.RateDiffers = omega arith
refusal_name_short code.SourceRange = omega arith
refusal_name_short code.MixLong = omega arith
refusal_name_short code.Recalled = omega arith
refusal_name_short code.NoItem = omega arith
refusal_name_short code.DayFull = omega arith
refusal_name_short code.SpeedEvent = omega arith
refusal_name_short code.KeyEvent = omega arith
refusal_name_short code.PastDayEnd = omega arith
refusal_name_short code.EmptyItem = omega arith
refusal_name_short code.OutsideWindow = omega arith
refusal_name_short code.WholeDay = omega arith
refusal_name_short code.RowForm = omega arith
refusal_name_short code.AiredTwice = omega arith
refusal_name_short code.BatchDiffers = omega arith
refusal_name_short code.BatchOrder = omega arith
refusal_name_short code.BatchesFull = omega arith
refusal_name_short code.PlanRow = omega arith
refusal_name_short code.NotOurs = omega arith
refusal_name_short code.SchemaVersion = omega arith
refusal_name_short code.Unavailable = omega arith
