-- `after_blanks`: the text without the blanks at its start.
use Rattle.edl.proofs.TextLemmas.{IsCharBoundary-blanks}
use Rattle.edl.proofs.text.after_blanks.Goals as goal

pub split_at-requires : goal.split_at-requires
split_at-requires c =
    rw c.blanks_in_front.ensures.count (rw c.as_bytes.ensures.value (IsCharBoundary-blanks c.args.text.now c.utf8.text))
