-- `split_field`: what stands before the first blank, and what stands from the next field on.
use Rattle.std.proofs.Common.{◌≡◌, ◌∙◌}
use Rattle.std.specs.List.{position_or_len}
use Rattle.edl.specs.Text.{is_blank}
use Rattle.edl.proofs.TextLemmas.{IsCharBoundary-first_blank, unwrap_or-position}
use Rattle.edl.proofs.text.split_field.Goals as goal

pub split_at-requires : goal.split_at-requires
split_at-requires c =
    let e : c.unwrap_or-end.result ≡ position_or_len is_blank c.args.text.now =
    c.unwrap_or-end.ensures
    ∙ rw (c.first_blank.ensures, c.as_bytes.ensures.value) (unwrap_or-position is_blank c.args.text.now) in
    rw e (IsCharBoundary-first_blank c.args.text.now c.utf8.text)
