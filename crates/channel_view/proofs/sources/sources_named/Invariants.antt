-- The loop of `sources_named` (what sources name).
use Rattle.std.proofs.Common.{◌≡◌, take}
use Rattle.channel_view_model.proofs.NamedLemmas.{clips_named, grants_named}
use Rattle.channel_view.proofs.sources.sources_named.Given as goal

-- what the sources in front name was found
abbrev pub invariant-loop-source : goal.invariant-loop-source
invariant-loop-source g l =
    let clips = g.R.FindsSources.clips l.rows l.channel in
    let grants = g.R.FindsSources.grants l.rows l.channel in
    g.R.FindsSources.is_found l.rows l.channel
    → (l.found.clips.items ≡ clips_named clips grants (take l.source-index l.sources))
    × (l.found.grants.items ≡ grants_named clips grants (take l.source-index l.sources))
