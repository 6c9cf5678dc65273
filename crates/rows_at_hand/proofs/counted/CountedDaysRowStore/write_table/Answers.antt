-- `CountedDays::write_table`: a days table from what is told of the days, which the store below is asked for once.
use Rattle.std.proofs.Common.{◌≡◌, ◌∙◌, true, ap, sym, subst}
use Rattle.std.specs.Prelude.{is_some, find}
use Rattle.std.specs.Option.{option_map}
use Rattle.std.specs.Io.KnownBytes.{Appends}
use Rattle.report_texts.specs.Output.{AppendsPart}
use Rattle.report_texts.proofs.LineLemmas.{on_err}
use Rattle.channel_view_model.specs.declared.table.Table.TheVariants.{Days}
use Rattle.channel_view_model.specs.Centre.{view_of}
use Rattle.channel_view_model.specs.TableText.{text_at}
use Rattle.rows_at_hand.specs.declared.counts.ChannelCounts.{ChannelCounts}
use Rattle.channel_view_model.specs.Counts.{counts_seen}
use Rattle.rows_at_hand.specs.Counted.{IsCounted, counts_text, is_channel}
use Rattle.rows_at_hand.proofs.CountedLemmas.{is_there, known_here, table_told, told_below}
use Rattle.rows_at_hand.proofs.counted.CountedDaysRowStore.write_table.Goals as goal

pub returns-in_err-write_counts-clause-err : goal.returns-in_err-write_counts-clause-err
returns-in_err-write_counts-clause-err g c clean rows stands =
    let ch = c.args.channel in
    let start = g.W.Write.contents c.args.output.now in
    let end = g.W.Write.contents c.write_counts.new.output in
    let found = sym (c.in-Some.ensures ∙ ap (find (is_channel ch)) c.deref.ensures.value) in
    let here = known_here rows ch c.args.self.now.channels.items c.in-Some.known.now found stands.1 in
    let text = ap counts_text c.deref-in-Some.ensures.value ∙ table_told rows c.in-Some.known.now here.0 in
    on_err c.from_residual.result
    (subst (λ t. AppendsPart start end (text_at t (view_of ch rows))) (sym c.in-Days.is)
    (subst (λ b. AppendsPart start end (text_at Days (view_of b rows))) here.1
    (subst (AppendsPart start end) text c.in_err-write_counts.ensures.err)))

pub returns-in-Some-clause-there : goal.returns-in-Some-clause-there
returns-in-Some-clause-there g c clean rows stands =
    let ch = c.args.channel in
    let found = sym (c.in-Some.ensures ∙ ap (find (is_channel ch)) c.deref.ensures.value) in
    let here = known_here rows ch c.args.self.now.channels.items c.in-Some.known.now found stands.1 in
    subst (λ b. true ≡ is_some (view_of b rows)) here.1 (is_there rows c.in-Some.known.now here.0)

pub returns-in-Some-clause-ok : goal.returns-in-Some-clause-ok
returns-in-Some-clause-ok g c clean rows stands =
    let ch = c.args.channel in
    let start = g.W.Write.contents c.args.output.now in
    let end = g.W.Write.contents c.write_counts.new.output in
    let found = sym (c.in-Some.ensures ∙ ap (find (is_channel ch)) c.deref.ensures.value) in
    let here = known_here rows ch c.args.self.now.channels.items c.in-Some.known.now found stands.1 in
    let text = ap counts_text c.deref-in-Some.ensures.value ∙ table_told rows c.in-Some.known.now here.0 in
    subst (λ t. Appends start end (text_at t (view_of ch rows))) (sym c.in-Days.is)
    (subst (λ b. Appends start end (text_at Days (view_of b rows))) here.1
    (subst (Appends start end) text c.in_ok-write_counts.ensures.ok))

pub returns-in-Some-clause-rules : goal.returns-in-Some-clause-rules
returns-in-Some-clause-rules g c clean rows stands =
    let ch = c.args.channel in
    let found = sym (c.in-Some.ensures ∙ ap (find (is_channel ch)) c.deref.ensures.value) in
    (known_here rows ch c.args.self.now.channels.items c.in-Some.known.now found stands.1).0.rules

pub returns-in_err-written-clause-err : goal.returns-in_err-written-clause-err
returns-in_err-written-clause-err g c clean rows stands =
    let start = g.W.Write.contents c.args.output.now in
    let end = g.W.Write.contents c.write_counts-written.new.output in
    let known : ChannelCounts = record { channel = c.args.channel; counts = c.in-Ok-Some.counts } in
    let is : IsCounted rows known =
    told_below rows known (c.in-Ok-Some.ensures.rules clean rows stands.0)
    (subst (λ o. option_map (λ v. v.items) o ≡ option_map counts_seen (view_of c.args.channel rows))
    c.in-Ok-Some.field-0-is (c.in-Ok-Some.ensures.counts clean rows stands.0)) in
    let text = ap counts_text c.deref-2.ensures.value ∙ table_told rows known is in
    on_err c.from_residual-in_err-written.result
    (subst (λ t. AppendsPart start end (text_at t (view_of c.args.channel rows))) (sym c.in-Days.is)
    (subst (AppendsPart start end) text c.in_err-written.ensures.err))

pub returns-in_err-written-clause-same : goal.returns-in_err-written-clause-same
returns-in_err-written-clause-same g c clean rows stands =
    let known : ChannelCounts = record { channel = c.args.channel; counts = c.in-Ok-Some.counts } in
    let is : IsCounted rows known =
    told_below rows known (c.in-Ok-Some.ensures.rules clean rows stands.0)
    (subst (λ o. option_map (λ v. v.items) o ≡ option_map counts_seen (view_of c.args.channel rows))
    c.in-Ok-Some.field-0-is (c.in-Ok-Some.ensures.counts clean rows stands.0)) in
    (c.in-Ok-Some.ensures.same clean rows stands.0, c.learn.ensures.counted rows stands.1 is)

pub returns-clause-ok : goal.returns-clause-ok
returns-clause-ok g c clean rows stands =
    let start = g.W.Write.contents c.args.output.now in
    let end = g.W.Write.contents c.write_counts-written.new.output in
    let known : ChannelCounts = record { channel = c.args.channel; counts = c.in-Ok-Some.counts } in
    let is : IsCounted rows known =
    told_below rows known (c.in-Ok-Some.ensures.rules clean rows stands.0)
    (subst (λ o. option_map (λ v. v.items) o ≡ option_map counts_seen (view_of c.args.channel rows))
    c.in-Ok-Some.field-0-is (c.in-Ok-Some.ensures.counts clean rows stands.0)) in
    let text = ap counts_text c.deref-2.ensures.value ∙ table_told rows known is in
    subst (λ t. Appends start end (text_at t (view_of c.args.channel rows))) (sym c.in-Days.is)
    (subst (Appends start end) text c.in_ok-written.ensures.ok)

pub returns-clause-same : goal.returns-clause-same
returns-clause-same g c clean rows stands =
    let known : ChannelCounts = record { channel = c.args.channel; counts = c.in-Ok-Some.counts } in
    let is : IsCounted rows known =
    told_below rows known (c.in-Ok-Some.ensures.rules clean rows stands.0)
    (subst (λ o. option_map (λ v. v.items) o ≡ option_map counts_seen (view_of c.args.channel rows))
    c.in-Ok-Some.field-0-is (c.in-Ok-Some.ensures.counts clean rows stands.0)) in
    (c.in-Ok-Some.ensures.same clean rows stands.0, c.learn.ensures.counted rows stands.1 is)
