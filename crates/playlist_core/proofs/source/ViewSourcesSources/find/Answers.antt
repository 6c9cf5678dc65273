-- `Sources::find`: the clip or the lent clip that a source names, if it is there.
use Rattle.std.proofs.Common.{◌∙◌, sym, ap}
use Rattle.std.specs.Prelude.{◌==◌, ◌&&◌, find}
use Rattle.playlist_core.specs.Source.{found, of_clip, of_grant, seen_of}
use Rattle.playlist_core.proofs.source.ViewSourcesSources.find.Goals as goal

pub returns-in_ok-clip-in-Own : goal.returns-in_ok-clip-in-Own
returns-in_ok-clip-in-Own c =
    let rows = c.args.self.now in
    ap of_clip c.in_ok-clip-in-Own.ensures
    ∙ ap (λ n. of_clip (find (λ k. k.n == n) rows.own.now.clips)) c.get.ensures
    ∙ ap (found (seen_of rows.own.now.clips rows.lent.now)) (sym c.in-Own.is)

pub returns-in_ok-grant-in-Lent : goal.returns-in_ok-grant-in-Lent
returns-in_ok-grant-in-Lent c =
    let rows = c.args.self.now in
    ap of_grant c.in_ok-grant-in-Lent.ensures
    ∙ ap (λ n. of_grant (find (λ g. g.owner == n && g.offer.n == c.get-in-Lent-2.result) rows.lent.now))
    c.get-in-Lent.ensures
    ∙ ap (λ n. of_grant (find (λ g. g.owner == c.in-Lent.owner && g.offer.n == n) rows.lent.now))
    c.get-in-Lent-2.ensures
    ∙ ap (found (seen_of rows.own.now.clips rows.lent.now)) (sym c.in-Lent.is)
