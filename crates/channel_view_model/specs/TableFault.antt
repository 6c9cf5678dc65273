-- Why a table isn't written whole, where the line of one of its rows isn't.
use Rattle.report_texts.specs.declared.fault.RowFault.{RowFault}
use Rattle.report_texts.specs.declared.fault.RowFault.TheVariants as row
use Rattle.channel_view_model.specs.declared.table.TableFault.{TableFault}
use Rattle.channel_view_model.specs.declared.table.TableFault.TheVariants.{Write, Unavailable}

-- rows whose frame has no label break a rule
abbrev pub fault_of_row : RowFault → TableFault
fault_of_row row.NoLabel = Unavailable
fault_of_row (row.Write fault) = Write
