-- `from_timecode`: the frame of the day that a label names: the text has 11 bytes, `HH:MM:SS:FF`.
use Rattle.timecode.specs.Address.{address}
use Rattle.timecode.proofs.Readings.{found_frame}
use Rattle.timecode.proofs.conversion.from_timecode.Goals as goal

pub returns-clause-frame : goal.returns-clause-frame
returns-clause-frame c =
    let parts = c.in-Some.parts in
    let same = c.in-Some.ensures.1 in
    found_frame c.args.rate c.args.text.now (address parts.hours parts.minutes parts.seconds parts.frames)
    c.frame.result c.ok_or.result c.ok_or.ensures.value c.frame.ensures same
