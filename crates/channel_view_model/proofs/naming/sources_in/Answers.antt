-- `sources_in`: the sources that words of an edit list name.
use Rattle.std.proofs.Common.{rules, tests}
use Rattle.std.proofs.lemmas.Iterator.{items_from_collect}
use Rattle.std.proofs.lemmas.Iterator.Consumers.{YieldsList-from_filter_map}
use Rattle.std.proofs.lemmas.Iterator.Splits.{YieldsList-from_slice_split}
use Rattle.std.proofs.lemmas.Result.{IfOk-at_ok}
use Rattle.edl.specs.Text.{is_blank}
use Rattle.playlist_core.specs.Source.{source_of_reel}
use Rattle.channel_view_model.proofs.naming.sources_in.Goals as goal

pub returns : goal.returns
returns c =
    IfOk-at_ok _ c.in_ok-collect.was
    (items_from_collect _ c.collect.ensures.ran
    (YieldsList-from_filter_map _ source_of_reel
    (YieldsList-from_slice_split _ is_blank c.args.list.now (cc) (cc) (cc)
    (λ x b q k. search (rules, tests)))
    c.filter_map.ensures.closure (λ x r q k. search (rules, tests))))
