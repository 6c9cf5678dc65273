-- `counts_of`: what a list holds, if its notes can be counted.
use Rattle.std.proofs.Common.{◌≡◌, ◌+◌, length, refl, sym, ap, ◌∙◌}
use Rattle.std.proofs.lemmas.List.{length-map}
use Rattle.edl.specs.Texts.{texts_of}
use Rattle.edl.specs.EntryShown.{entries_of, entry_shown}
use Rattle.playout_lists.specs.Checking.{picture_count, note_count}
use Rattle.playout_lists.proofs.CountLemmas.{picture_count-entries_of}
use Rattle.playout_lists.proofs.checking.counts_of.Goals as goal

pub returns : goal.returns
returns c =
    let events = c.args.events.now in
    let count_is : length events ≡ length (entries_of events) = sym (length-map events entry_shown) in
    let picture_is : c.pictures-picture.result ≡ picture_count (entries_of events) =
    c.pictures-picture.ensures ∙ sym (picture_count-entries_of events) in
    let head_is : length c.args.head.now ≡ length (texts_of c.args.head.now) =
    sym (length-map c.args.head.now (λ t. t.now)) in
    let notes_is = c.in_ok-notes.ensures ∙ ap (λ n. n + note_count (entries_of events)) head_is in
    rw (count_is, picture_is, notes_is) refl
