-- `all_rows`: all rows of a table, by their keys.
use Rattle.std.proofs.Common.{◌∙◌, sym}
use Rattle.station_tables_opening.proofs.finding.all_rows.Goals as goal

pub returns-in-Err-clause-ours : goal.returns-in-Err-clause-ours
returns-in-Err-clause-ours g c ours clean is can =
    absurd (let unlike = sym is ∙ c.code_of.ensures.short (c.in-Err.ensures.short ours clean) in cc)
