-- `outgoing_line`: the zero cut before the line of an item, which a dissolve and a wipe have.
use Rattle.std.proofs.Common.{◌+◌, sym, subst}
use Rattle.std.specs.Prelude.{IfSome, ◌==◌}
use Rattle.playlist_edl.specs.Exporting.{CanBeListed}
use Rattle.playlist_edl.proofs.ExportLemmas.{found_before}
use Rattle.playlist_edl.proofs.exporting.outgoing_line.Goals as goal

pub cut_line-requires : goal.cut_line-requires
cut_line-requires g c =
    let seen = g.S.Sources.seen c.args.sources.now in
    subst (λ o. IfSome o (CanBeListed c.args.plan.now seen)) (sym c.ending_at-ending.ensures)
    (found_before (CanBeListed c.args.plan.now seen) (λ i. i.pos + i.frames == c.args.item.now.pos) c.args.before
    c.requires)
