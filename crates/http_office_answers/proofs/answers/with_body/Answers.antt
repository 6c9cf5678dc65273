-- `with_body`: the bytes of an answer with a body of this type.
use Rattle.std.proofs.Common.{◌++◌, ◌∙◌, ap}
use Rattle.http_office_answers.specs.Answer.{with_body}
use Rattle.http_office_answers.proofs.answers.with_body.Goals as goal

pub returns : goal.returns
unfolding with_body
returns c =
    let head = rw (c.as_u16.ensures.value, c.phrase_of.ensures) at c.in_ok-head.ensures in
    c.in_ok-extend_from_slice.ensures.items
    ∙ ap (λ front. front ++ c.args.body.now) (ap (λ v. v.items) c.into_bytes-bytes.ensures.value ∙ head)
