-- `push_label`: the label of a frame.
use Rattle.std.proofs.Common.{◌≡◌, ℕ, Bool, true, false, ◌++◌, ◌∙◌, ap}
use Rattle.std.specs.Prelude.{Result, Ok, Err, nat_lt, if◌then◌else◌}
use Rattle.timecode.specs.declared.rates.Rate.{Rate}
use Rattle.timecode.specs.declared.labels.Label.{Label}
use Rattle.timecode.specs.declared.faults.TcFault.{TcFault}
use Rattle.timecode.specs.declared.faults.TcFault.TheVariants.{FrameRange}
use Rattle.timecode.specs.Counting.{address_of_frame, day_length}
use Rattle.timecode.specs.Label.{label_of, label_text, frame_text}
use Rattle.reports.proofs.fields.push_label.Goals as goal

-- the text of the label that a frame has
text_of_label : (b : Bool) (rate : Rate) (n : ℕ) (label : Label)
    → Ok label
    ≡ (let labelled : Result Label TcFault = Ok (label_of rate (address_of_frame rate n)) in
    if b then labelled else Err FrameRange)
    → label_text label ≡ frame_text rate n
text_of_label true rate n label e =
    let same : label ≡ label_of rate (address_of_frame rate n) = cc in ap label_text same
text_of_label false rate n label e = cc

pub returns-clause-ok : goal.returns-clause-ok
returns-clause-ok c =
    c.push.ensures.items
    ∙ ap (λ text. c.args.line.now.items ++ text) (c.bytes.ensures.text
    ∙ text_of_label (nat_lt c.args.frame (day_length c.args.rate)) c.args.rate c.args.frame c.in-Ok.label
    c.in-Ok.ensures.label)
