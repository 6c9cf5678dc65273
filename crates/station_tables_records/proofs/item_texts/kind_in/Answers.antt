-- `kind_in`: the kind whose text this is.
use Rattle.std.proofs.Common.{sym, ◌∙◌}
use Rattle.station_tables_records.proofs.ReelLemmas.{full_word, no_kind, short_word}
use Rattle.station_tables_records.proofs.item_texts.kind_in.Goals as goal

pub returns-in_default-clause-none : goal.returns-in_default-clause-none
returns-in_default-clause-none c = no_kind c.args.text.now (sym c.read.ensures.value ∙ c.in_default.is)

pub returns-then-is_full_word-clause-text : goal.returns-then-is_full_word-clause-text
returns-then-is_full_word-clause-text c =
    full_word c.args.text.now c.in-Some.kind (sym c.read.ensures.value ∙ c.in-Some.is)
    (sym c.is_full_word.ensures ∙ c.if-is_full_word.true)

pub returns-else-is_full_word-clause-none : goal.returns-else-is_full_word-clause-none
returns-else-is_full_word-clause-none c =
    short_word c.args.text.now c.in-Some.kind (sym c.read.ensures.value ∙ c.in-Some.is)
    (sym c.is_full_word.ensures ∙ c.if-is_full_word.false)
