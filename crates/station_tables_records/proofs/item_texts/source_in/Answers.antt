-- `source_in`: the source whose reel this is.
use Rattle.std.proofs.Common.{sym, ◌∙◌}
use Rattle.station_tables_records.proofs.ReelLemmas.{short_reel, no_source, long_name}
use Rattle.station_tables_records.proofs.item_texts.source_in.Goals as goal

pub returns-in_default-clause-none : goal.returns-in_default-clause-none
returns-in_default-clause-none c = no_source c.args.text.now (sym c.read.ensures ∙ c.in_default.is)

pub returns-then-is_short_name-clause-reel : goal.returns-then-is_short_name-clause-reel
returns-then-is_short_name-clause-reel c =
    short_reel c.args.text.now c.in-Some.source (sym c.read.ensures ∙ c.in-Some.is)
    (sym c.is_short_name.ensures ∙ c.if-is_short_name.true)

pub returns-else-is_short_name-clause-none : goal.returns-else-is_short_name-clause-none
returns-else-is_short_name-clause-none c =
    long_name c.args.text.now c.in-Some.source (sym c.read.ensures ∙ c.in-Some.is)
    (sym c.is_short_name.ensures ∙ c.if-is_short_name.false)
