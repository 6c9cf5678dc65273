-- Two lists of events are equal just where each event is.
use Rattle.std.proofs.Common.{◌∙◌, sym, ap}
use Rattle.std.specs.Cmp.Lexicographic.{pointwise}
use Rattle.std.specs.Cmp.Derive.Mapped.{pointwise-map}
use Rattle.edl.specs.EntryShown.{entry_shown, entries_of}
use Rattle.edl.specs.Equal.{entry_eq}
use Rattle.edl.proofs.values.EventsPartialEq.eq.Goals as goal

pub returns : goal.returns
returns c =
    c.are_equal.ensures ∙ sym (pointwise-map entry_shown entry_eq c.as_slice.result.now c.as_slice-2.result.now)
    ∙ ap (λ entries. pointwise entry_eq entries (entries_of c.as_slice-2.result.now)) c.as_slice.ensures
    ∙ ap (pointwise entry_eq c.args.self.now) c.as_slice-2.ensures
