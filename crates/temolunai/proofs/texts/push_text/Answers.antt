-- `push_text`: adds a text.
use Rattle.temolunai.proofs.TextLemmas.{texts_pushed}
use Rattle.temolunai.proofs.texts.push_text.Goals as goal

pub returns-clause-said : goal.returns-clause-said
returns-clause-said c =
    let pushed = texts_pushed c.args.texts.now.bytes.items c.args.text.now c.args.texts.now.places.items c.requires in
    let len = c.len-at.ensures in let bytes = c.in_ok-extend_from_slice.ensures.items in
    let places = c.in_ok-push.ensures.items in cc
