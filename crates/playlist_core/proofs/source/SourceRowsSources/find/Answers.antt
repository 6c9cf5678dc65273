-- `Sources::find`: the clip or the lent clip that a source names, if it is there.
use Rattle.std.proofs.Common.{◌∙◌, sym, ap}
use Rattle.std.specs.Prelude.{◌==◌, ◌&&◌, find}
use Rattle.playlist_core.specs.Source.{found, of_clip, of_grant, seen_of}
use Rattle.playlist_core.proofs.source.SourceRowsSources.find.Goals as goal

pub returns-in_ok-clip-in-Own : goal.returns-in_ok-clip-in-Own
returns-in_ok-clip-in-Own c =
    let rows = c.args.self.now in
    ap of_clip c.in_ok-clip-in-Own.ensures
    ∙ ap (λ n. of_clip (find (λ k. k.n == n) rows.clips)) c.get.ensures
    ∙ ap (found (seen_of rows.clips rows.grants)) (sym c.in-Own.is)

pub returns-in_ok-grant-in-Lent : goal.returns-in_ok-grant-in-Lent
returns-in_ok-grant-in-Lent c =
    let rows = c.args.self.now in
    ap of_grant c.in_ok-grant-in-Lent.ensures
    ∙ ap (λ n. of_grant (find (λ g. g.owner == n && g.offer.n == c.get-in-Lent-2.result) rows.grants))
    c.get-in-Lent.ensures
    ∙ ap (λ n. of_grant (find (λ g. g.owner == c.in-Lent.owner && g.offer.n == n) rows.grants)) c.get-in-Lent-2.ensures
    ∙ ap (found (seen_of rows.clips rows.grants)) (sym c.in-Lent.is)
