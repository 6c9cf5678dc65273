-- `MemRows::write`: a table of the channel, where it is in the plan.
use Rattle.std.proofs.Common.{subst, ap}
use Rattle.std.specs.Option.{option_map}
use Rattle.report_texts.specs.Output.{AppendsPart}
use Rattle.report_texts.proofs.LineLemmas.{on_err}
use Rattle.channel_view_model.specs.TableText.{text_at}
use Rattle.channel_view_model.specs.Centre.{view_at, view_of}
use Rattle.channel_view.proofs.mem.MemRows.write.Goals as goal

pub returns-in_err-write_table_at-in-Some-clause-err : goal.returns-in_err-write_table_at-in-Some-clause-err
unfolding view_of
returns-in_err-write_table_at-in-Some-clause-err g c =
    let table = c.args.table in
    let channel = c.args.channel in
    on_err c.from_residual.result
    (subst (AppendsPart (g.W.Write.contents c.args.output.now) (g.W.Write.contents c.write_table_at.new.output))
    (ap (λ plan. text_at table (option_map (view_at channel c.args.self.now) plan)) c.in-Some.ensures)
    c.in_err-write_table_at-in-Some.ensures.err)
