-- `MemRows::plan_of`: the channel's row of the plan.
use Rattle.std.proofs.Common.{◌∙◌, ap, sym}
use Rattle.std.specs.Prelude.{◌==◌, slice_get}
use Rattle.channel_view_model.specs.Centre.{plan_of}
use Rattle.channel_view_rules.proofs.BisectLemmas.{first_found}
use Rattle.channel_view.proofs.mem.MemRows.plan_of.Goals as goal

pub returns : goal.returns
returns c =
    c.copied.ensures ∙ c.first.ensures.value ∙ ap (λ l. slice_get l 0) c.channel_rows.ensures
    ∙ sym (first_found (λ p. p.ch == c.args.channel) c.deref.result.now)
    ∙ ap
    (λ l. plan_of c.args.channel
    (record {
      channels = l;
      tapes = c.args.self.now.tapes;
      clips = c.args.self.now.clips;
      offers =
          c.args.self.now.offers;
      days = c.args.self.now.days;
      aired = c.args.self.now.aired;
    })) c.deref.ensures.value
    ∙ ap (λ m. plan_of c.args.channel m.rows) c.self-inside.view_is ∙ ap (plan_of c.args.channel) c.self.view_is
