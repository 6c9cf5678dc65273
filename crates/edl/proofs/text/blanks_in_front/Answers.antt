-- `blanks_in_front`: how many blanks the bytes begin with.
use Rattle.std.proofs.Common.{◌∙◌, not}
use Rattle.edl.specs.Text.{is_blank}
use Rattle.edl.proofs.TextLemmas.{prefix_len_twice, unwrap_or-position}
use Rattle.edl.proofs.text.blanks_in_front.Goals as goal

pub returns-clause-count : goal.returns-clause-count
returns-clause-count c =
    c.unwrap_or.ensures
    ∙ rw c.first_non_blank.ensures (unwrap_or-position (λ byte. not (is_blank byte)) c.args.bytes.now)
    ∙ prefix_len_twice is_blank c.args.bytes.now
