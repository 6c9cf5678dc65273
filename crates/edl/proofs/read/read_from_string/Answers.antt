-- `read_from_string`: reads an event list.
use Rattle.std.proofs.lemmas.Result.{IfOk-weaker}
use Rattle.edl.specs.EntryShown.{title_shown}
use Rattle.edl.proofs.OrderLemmas.{in_order_of_list, title_of_list}
use Rattle.edl.proofs.PlaceLemmas.{list_stands}
use Rattle.edl.proofs.read.read_from_string.Goals as goal

pub returns-clause-places : goal.returns-clause-places
returns-clause-places c =
    IfOk-weaker c.read_list.result _ _
    (λ list h. list_stands c.args.rate c.args.ignore_timecode_mismatch c.args.text.now (title_shown list.title)
    list.head list.events h)
    c.read_list.ensures.list

pub returns-clause-in_order : goal.returns-clause-in_order
returns-clause-in_order c =
    IfOk-weaker c.read_list.result _ _
    (λ list h. in_order_of_list c.args.rate c.args.ignore_timecode_mismatch c.args.text.now (title_shown list.title)
    list.head list.events h)
    c.read_list.ensures.list

pub returns-clause-title : goal.returns-clause-title
returns-clause-title c =
    IfOk-weaker c.read_list.result _ _
    (λ list h. title_of_list c.args.rate c.args.ignore_timecode_mismatch c.args.text.now (title_shown list.title)
    list.head list.events h)
    c.read_list.ensures.list
