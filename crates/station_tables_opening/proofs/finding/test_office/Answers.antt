-- `test_office`: the version of the tables.
use Rattle.std.proofs.Common.{◌∙◌, sym, subst}
use Rattle.station_tables_records.specs.OfficeRow.{HasVersion}
use Rattle.station_tables_opening.proofs.finding.test_office.Goals as goal

pub returns-in-Err-clause-ours : goal.returns-in-Err-clause-ours
returns-in-Err-clause-ours g c ours clean is version has =
    absurd (let unlike = sym is ∙ c.code_of.ensures.short (c.in-Err.ensures.short ours clean) in cc)

pub returns-clause-ours : goal.returns-clause-ours
returns-clause-ours g c ours clean is version has =
    c.in-None.ensures.none version
    (subst (HasVersion version) (sym c.deref.ensures.value) ((c.in-Ok.ensures.rows ours clean version).1 has))
