-- `sources_named`: what sources name, or all.
use Rattle.std.proofs.Common.{◌∙◌, ap, arith}
use Rattle.std.proofs.lemmas.List.{take_all}
use Rattle.std.proofs.lemmas.Result.{IfOk-weaker}
use Rattle.channel_view_model.proofs.NamedLemmas.{all_alike, clips_more, grants_more, clips_named, grants_named}
use Rattle.channel_view_model.proofs.NamedLemmas.{named_alike}
use Rattle.channel_view.proofs.sources.sources_named.Goals as goal

pub returns-then-sources-gt-FEW_SOURCES : goal.returns-then-sources-gt-FEW_SOURCES
returns-then-sources-gt-FEW_SOURCES g c = λ numbered.
    let clips = g.R.FindsSources.clips c.args.rows.now c.args.channel in
    let grants = g.R.FindsSources.grants c.args.rows.now c.args.channel in
    IfOk-weaker c.all_sources.result _ _
    (λ found are.
    all_alike c.args.sources.now clips found.clips.items grants found.grants.items are.0 are.1) (c.all_sources.ensures numbered)

pub loop-source-preserved : goal.loop-source-preserved
loop-source-preserved g c = λ numbered.
    let clips = g.R.FindsSources.clips c.args.rows.now c.args.channel in
    let grants = g.R.FindsSources.grants c.args.rows.now c.args.channel in
    let front = c.loop-source.invariant numbered in
    let named = c.in_ok-named.ensures numbered in (
      c.in_ok-extend_from_slice.ensures.items
          ∙ clips_more clips grants c.args.sources.now c.loop-source.source-index c.source-item.result _ _ (omega arith)
          c.source-item.is front.0 (c.deref.ensures.value ∙ named.0),
      c.in_ok-extend_from_slice-2.ensures.items
          ∙ grants_more clips grants c.args.sources.now c.loop-source.source-index c.source-item.result _ _
          (omega arith)
          c.source-item.is front.1 (c.deref-in-loop-source.ensures.value ∙ named.1),
    )

pub returns : goal.returns
returns g c = λ numbered.
    let clips = g.R.FindsSources.clips c.args.rows.now c.args.channel in
    let grants = g.R.FindsSources.grants c.args.rows.now c.args.channel in
    let front = c.loop-source.invariant numbered in
    let whole = take_all c.loop-source.source-index c.args.sources.now (omega arith) in
    named_alike clips grants c.args.sources.now c.loop-source.found.clips.items c.loop-source.found.grants.items
    (front.0 ∙ ap (clips_named clips grants) whole) (front.1 ∙ ap (grants_named clips grants) whole)
