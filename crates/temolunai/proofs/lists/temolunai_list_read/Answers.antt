-- `temolunai_list_read`: reads an edit list.
use Rattle.std.proofs.Common.{◌≡◌, ◌∙◌, ap}
use Rattle.temolunai.specs.declared.lists.ListRead.{ListRead}
use Rattle.temolunai.proofs.ListLemmas.{read_written, rest_kept}
use Rattle.temolunai.proofs.lists.temolunai_list_read.Goals as goal

pub put_found-requires-clause-events : goal.put_found-requires-clause-events
put_found-requires-clause-events c = c.in-Ok.ensures.found.events_are.0

pub returns-in-Ok-clause-read : goal.returns-in-Ok-clause-read
returns-in-Ok-clause-read c is =
    let same : c.put_found.result ≡ c.in-Ok.found.read = c.put_found.ensures.done is in
    rw (← c.in-Some.ensures, same) (read_written c.in-Some.rate c.args.ignore_timecode_mismatch c.args.text.now
    c.in-Ok.found.read _ _ _ _ _ _ _ _ _ c.in-Ok.ensures.found (c.put_found.ensures.events is)
    (c.put_found.ensures.places is) (c.put_found.ensures.bytes is))

pub returns-in-Ok-clause-behind : goal.returns-in-Ok-clause-behind
returns-in-Ok-clause-behind c is =
    let same : c.put_found.result ≡ c.in-Ok.found.read = c.put_found.ensures.done is in (
      rest_kept _ _ _ _ (ap (λ (r : ListRead). r.events) same ∙ c.in-Ok.ensures.found.events_are.0)
          (c.put_found.ensures.events is),
      rest_kept _ _ _ _ (ap (λ (r : ListRead). r.texts) same ∙ c.in-Ok.ensures.found.texts_are.0)
          (c.put_found.ensures.places is),
      rest_kept _ _ _ _ (ap (λ (r : ListRead). r.bytes) same ∙ c.in-Ok.ensures.found.within.0)
          (c.put_found.ensures.bytes is),
    )
