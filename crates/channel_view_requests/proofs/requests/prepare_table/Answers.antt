-- `prepare_table`: the reply to a command that asks for a table.
use Rattle.std.proofs.Common.{ℕ, List, sym, ◌∙◌, subst}
use Rattle.std.specs.Prelude.{Some}
use Rattle.std.specs.Io.KnownBytes.{Appends}
use Rattle.channel_view_model.specs.TableText.{text_at}
use Rattle.channel_view_model.specs.Centre.{view_of}
use Rattle.channel_view_model.proofs.NeedLemmas.{table_decided}
use Rattle.channel_view_requests.proofs.requests.prepare_table.Goals as goal

pub returns-in-Ok-true-clause-decided : goal.returns-in-Ok-true-clause-decided
returns-in-Ok-true-clause-decided g c = λ clean rows stands.
    let view = view_of c.args.channel rows in
    let begun =
    subst
    (λ (front : List ℕ). Appends (Some front) (Some c.write_table.new.output.items) (text_at c.args.table view))
    c.new-text.ensures.items (c.in-Ok-true.ensures.ok clean rows stands) in
    table_decided c.args.table c.of.result view
    (sym c.in-Ok-true.field-0-test ∙ c.in-Ok-true.ensures.there clean rows stands) (c.of.ensures ∙ begun)
