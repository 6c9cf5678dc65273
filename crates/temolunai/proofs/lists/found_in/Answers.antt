-- `found_in`: what is said of a list that was read.
use Rattle.std.proofs.Common.{◌∙◌, ap}
use Rattle.edl.specs.EntryShown.{title_shown}
use Rattle.temolunai.specs.declared.lists.ListRead.{ListRead}
use Rattle.temolunai.proofs.lists.found_in.Goals as goal

pub returns-clause-found : goal.returns-clause-found
returns-clause-found c rate ignore text is = let e = c.counts_of-read.ensures in record {
  title = title_shown c.args.list.now.title;
  head = c.args.list.now.head;
  entries = c.args.list.now.events;
  is_list = is;
  has_title = ap (λ (r : ListRead). r.has_title) e ∙ c.title_flag.ensures;
  head_notes = ap (λ (r : ListRead). r.head_notes) e ∙ c.notes_in.ensures;
  events_are = (ap (λ (r : ListRead). r.events) e, c.in_ok-laid.ensures.events);
  texts_are = (ap (λ (r : ListRead). r.texts) e, c.in_ok-laid.ensures.texts);
  within = (ap (λ (r : ListRead). r.bytes) e, c.in_ok-laid.ensures.within);
}
