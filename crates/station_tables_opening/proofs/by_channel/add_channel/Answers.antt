-- `add_channel`: puts the rows of a channel behind what was read, and their rowids.
use Rattle.std.proofs.Common.{sym, ◌∙◌, subst}
use Rattle.station_tables_records.specs.Inside.{inside}
use Rattle.station_tables_statements.specs.ByChannel.{ShowsChannel}
use Rattle.station_tables_opening.proofs.PartLemmas.{adds_channel, code_weaker, unread_channel}
use Rattle.station_tables_opening.proofs.by_channel.add_channel.Goals as goal

pub returns-in-Ok-clause-adds : goal.returns-in-Ok-clause-adds
returns-in-Ok-clause-adds g c known clean =
    let t = g.T.StoredRow.table in
    let trees = (inside g.S.Store c.args.tx.now).now.trees in
    let shows =
    subst (λ rows. ShowsChannel t c.args.channel rows trees) (sym c.deref.ensures.value)
    (c.in-Ok.ensures.shown known clean) in
    adds_channel t c.args.channel trees c.deref.result.now c.args.rows.now.items c.add_shown.new.rows.items
    c.args.ids.now.items c.add_shown.new.ids.items shows c.add_shown.result c.add_shown.ensures.rows
    c.add_shown.ensures.ids

pub returns-in-Ok-clause-ours : goal.returns-in-Ok-clause-ours
returns-in-Ok-clause-ours g c known clean =
    let t = g.T.StoredRow.table in
    let trees = (inside g.S.Store c.args.tx.now).now.trees in
    let shows =
    subst (λ rows. ShowsChannel t c.args.channel rows trees) (sym c.deref.ensures.value)
    (c.in-Ok.ensures.shown known clean) in
    code_weaker c.add_shown.result _
    (unread_channel t g.met.T.StoredRow.is_table g.T.ChannelTable.channel_of g.met.T.ChannelTable.by_channel
    g.T.StoredRow.fits c.args.channel trees c.deref.result.now shows) c.add_shown.ensures.ours

pub returns-in-Err-clause-ours : goal.returns-in-Err-clause-ours
returns-in-Err-clause-ours g c known clean is can =
    absurd (let unlike = sym is ∙ c.code_of.ensures.short (c.in-Err.ensures.short known clean) in cc)
