-- Equality of notes and of events is an equivalence.
use Rattle.std.specs.Cmp.{IsEquivalence, and_equiv, on_equiv, nat_eq_equiv, bool_eq_equiv}
use Rattle.std.specs.Cmp.Lexicographic.{lists_equiv, options_equiv, nat_list_eq_equiv}
use Rattle.edl.specs.Entry.{EventEntry}
use Rattle.edl.specs.Equal.{texts_eq, words_eq, places_eq, entry_eq}

pub texts_equiv : IsEquivalence texts_eq
texts_equiv = lists_equiv nat_list_eq_equiv

words_equiv : IsEquivalence words_eq
words_equiv =
    and_equiv (and_equiv (and_equiv (and_equiv (and_equiv
    (on_equiv (λ (e : EventEntry). e.line) nat_eq_equiv)
    (on_equiv (λ (e : EventEntry). e.number) nat_eq_equiv))
    (on_equiv (λ (e : EventEntry). e.reel) nat_list_eq_equiv))
    (on_equiv (λ (e : EventEntry). e.channels) nat_list_eq_equiv))
    (on_equiv (λ (e : EventEntry). e.kind) nat_list_eq_equiv))
    (on_equiv (λ (e : EventEntry). e.duration) (options_equiv nat_eq_equiv))

places_equiv : IsEquivalence places_eq
places_equiv =
    and_equiv (and_equiv (and_equiv
    (on_equiv (λ (e : EventEntry). e.source_first) nat_eq_equiv)
    (on_equiv (λ (e : EventEntry). e.source_end) nat_eq_equiv))
    (on_equiv (λ (e : EventEntry). e.record_first) nat_eq_equiv))
    (on_equiv (λ (e : EventEntry). e.length) nat_eq_equiv)

pub entries_equiv : IsEquivalence entry_eq
entries_equiv =
    and_equiv (and_equiv (and_equiv words_equiv places_equiv)
    (on_equiv (λ (e : EventEntry). e.speed) bool_eq_equiv))
    (on_equiv (λ (e : EventEntry). e.notes) texts_equiv)
