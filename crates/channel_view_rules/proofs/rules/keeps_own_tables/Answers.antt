-- `keeps_own_tables`: whether the channels are a plan in order.
use Rattle.std.proofs.Common.{◌≡◌, ◌≤◌, length, sym, ◌∙◌, ap, subst, rules, arith}
use Rattle.std.specs.Prelude.{IsTrue}
use Rattle.channel_view_model.proofs.WalkLemmas.{Lists, turn-order, turn-joined, turn-first, turn-later, at_end}
use Rattle.channel_view_model.proofs.WalkLemmas.{none_left, no_row_left}
use Rattle.channel_view_rules.proofs.rules.keeps_own_tables.Goals as goal

pub returns-then-not-branch : goal.returns-then-not-branch
returns-then-not-branch c =
    let channels = c.args.rows.now.channels in
    let items = c.deref-plan-items.result.now in
    let same : items ≡ channels = c.deref-plan-items.ensures.value ∙ ap (λ r. r.channels) c.rows.view_is in (
      search rules,
      λ set.
          let left = c.loop-plan.invariant.broken set.1 in
          let own =
          turn-first channels items same c.loop-plan.plan-index _ (omega arith)
          (record {
            tapes = c.loop-plan.left.tapes.now;
            clips = c.loop-plan.left.clips.now;
            offers =
                c.loop-plan.left.offers.now;
            days = c.args.rows.now.days;
            aired = c.args.rows.now.aired;
          })
          (record {
            tapes = c.split.result.0.tapes.now;
            clips = c.split.result.0.clips.now;
            offers =
                c.split.result.0.offers.now;
            days = c.args.rows.now.days;
            aired = c.args.rows.now.aired;
          })
          (record {
            tapes = c.split.result.1.tapes.now;
            clips = c.split.result.1.clips.now;
            offers =
                c.split.result.1.offers.now;
            days = c.args.rows.now.days;
            aired = c.args.rows.now.aired;
          })
          (λ i. record {
            tapes = c.split.ensures.own_tapes i;
            clips = c.split.ensures.own_clips i;
            offers =
                c.split.ensures.own_offers i;
            days = c.args.rows.now.days;
            aired = c.args.rows.now.aired;
          })
          (λ i. record {
            tapes = c.split.ensures.tapes_behind i;
            clips = c.split.ensures.clips_behind i;
            offers =
                c.split.ensures.offers_behind i;
            days = c.args.rows.now.days;
            aired = c.args.rows.now.aired;
          })
          c.loop-plan.invariant.order left in
          subst IsTrue c.if-not-branch.true (c.in_ok-keeps_own_rules.ensures.1 own),
    )

pub loop-plan-preserved : goal.loop-plan-preserved
loop-plan-preserved c =
    let channels = c.args.rows.now.channels in
    let items = c.deref-plan-items.result.now in
    let same : items ≡ channels = c.deref-plan-items.ensures.value ∙ ap (λ r. r.channels) c.rows.view_is in
    let own = c.in_ok-keeps_own_rules.ensures.0 c.if-not-branch.false in
    record {
      order =
          turn-order channels items same c.loop-plan.plan-index _ (omega arith)
          (record {
            tapes = c.loop-plan.left.tapes.now;
            clips = c.loop-plan.left.clips.now;
            offers =
                c.loop-plan.left.offers.now;
            days = c.args.rows.now.days;
            aired = c.args.rows.now.aired;
          })
          (record {
            tapes = c.split.result.0.tapes.now;
            clips = c.split.result.0.clips.now;
            offers =
                c.split.result.0.offers.now;
            days = c.args.rows.now.days;
            aired = c.args.rows.now.aired;
          })
          (record {
            tapes = c.split.result.1.tapes.now;
            clips = c.split.result.1.clips.now;
            offers =
                c.split.result.1.offers.now;
            days = c.args.rows.now.days;
            aired = c.args.rows.now.aired;
          })
          (λ i. record {
            tapes = c.split.ensures.own_tapes i;
            clips = c.split.ensures.own_clips i;
            offers =
                c.split.ensures.own_offers i;
            days = c.args.rows.now.days;
            aired = c.args.rows.now.aired;
          })
          (λ i. record {
            tapes = c.split.ensures.tapes_behind i;
            clips = c.split.ensures.clips_behind i;
            offers =
                c.split.ensures.offers_behind i;
            days = c.args.rows.now.days;
            aired = c.args.rows.now.aired;
          })
          c.loop-plan.invariant.order;
      kept =
          λ later. c.loop-plan.invariant.kept
          (turn-joined channels items same c.loop-plan.plan-index _ (omega arith)
          (record {
            tapes = c.loop-plan.left.tapes.now;
            clips = c.loop-plan.left.clips.now;
            offers =
                c.loop-plan.left.offers.now;
            days = c.args.rows.now.days;
            aired = c.args.rows.now.aired;
          })
          (record {
            tapes = c.split.result.0.tapes.now;
            clips = c.split.result.0.clips.now;
            offers =
                c.split.result.0.offers.now;
            days = c.args.rows.now.days;
            aired = c.args.rows.now.aired;
          })
          (record {
            tapes = c.split.result.1.tapes.now;
            clips = c.split.result.1.clips.now;
            offers =
                c.split.result.1.offers.now;
            days = c.args.rows.now.days;
            aired = c.args.rows.now.aired;
          })
          (λ i. record {
            tapes = c.split.ensures.own_tapes i;
            clips = c.split.ensures.own_clips i;
            offers =
                c.split.ensures.own_offers i;
            days = c.args.rows.now.days;
            aired = c.args.rows.now.aired;
          })
          (λ i. record {
            tapes = c.split.ensures.tapes_behind i;
            clips = c.split.ensures.clips_behind i;
            offers =
                c.split.ensures.offers_behind i;
            days = c.args.rows.now.days;
            aired = c.args.rows.now.aired;
          })
          c.loop-plan.invariant.order own later);
      broken =
          λ set. turn-later channels items same c.loop-plan.plan-index _ (omega arith)
          (record {
            tapes = c.loop-plan.left.tapes.now;
            clips = c.loop-plan.left.clips.now;
            offers =
                c.loop-plan.left.offers.now;
            days = c.args.rows.now.days;
            aired = c.args.rows.now.aired;
          })
          (record {
            tapes = c.split.result.0.tapes.now;
            clips = c.split.result.0.clips.now;
            offers =
                c.split.result.0.offers.now;
            days = c.args.rows.now.days;
            aired = c.args.rows.now.aired;
          })
          (record {
            tapes = c.split.result.1.tapes.now;
            clips = c.split.result.1.clips.now;
            offers =
                c.split.result.1.offers.now;
            days = c.args.rows.now.days;
            aired = c.args.rows.now.aired;
          })
          (λ i. record {
            tapes = c.split.ensures.own_tapes i;
            clips = c.split.ensures.own_clips i;
            offers =
                c.split.ensures.own_offers i;
            days = c.args.rows.now.days;
            aired = c.args.rows.now.aired;
          })
          (λ i. record {
            tapes = c.split.ensures.tapes_behind i;
            clips = c.split.ensures.clips_behind i;
            offers =
                c.split.ensures.offers_behind i;
            days = c.args.rows.now.days;
            aired = c.args.rows.now.aired;
          })
          c.loop-plan.invariant.order (c.loop-plan.invariant.broken set);
    }

pub returns : goal.returns
returns c =
    let channels = c.args.rows.now.channels in
    let same : c.deref-plan-items.result.now ≡ channels =
    c.deref-plan-items.ensures.value ∙ ap (λ r. r.channels) c.rows.view_is in
    let left : Lists =
    record {
      tapes = c.loop-plan.left.tapes.now;
      clips = c.loop-plan.left.clips.now;
      offers =
          c.loop-plan.left.offers.now;
      days = c.args.rows.now.days;
      aired = c.args.rows.now.aired;
    } in
    let past : length channels ≤ c.loop-plan.plan-index = omega (arith, ap length same) in
    let end = at_end channels c.loop-plan.plan-index left past in (
      λ t. (
        search rules,
        c.loop-plan.invariant.kept
            (subst (λ T. T) (sym end) (none_left left (c.are_empty.ensures.0 t))),
      ),
      λ set. c.are_empty.ensures.1 (no_row_left left (subst (λ T. T) end (c.loop-plan.invariant.broken set.1))),
    )
