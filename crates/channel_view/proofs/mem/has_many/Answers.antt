-- `has_many`: the channel's rows stand together.
use Rattle.std.proofs.Common.{◌∙◌, length, sym, ap}
use Rattle.std.specs.Prelude.{nat_lt}
use Rattle.std.proofs.lemmas.List.{length-map}
use Rattle.channel_view_rules.proofs.BisectLemmas.{rises}
use Rattle.channel_view.proofs.mem.has_many.Goals as goal

pub channel_rows-requires : goal.channel_rows-requires
channel_rows-requires g c = rises c.args.table.now c.requires

pub returns : goal.returns
returns g c =
    ap (λ rows. nat_lt 2000 (length rows)) c.channel_rows.ensures
    ∙ ap (nat_lt 2000) (sym (length-map _ (λ r. r.1)))
