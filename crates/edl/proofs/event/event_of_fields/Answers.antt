-- `event_of_fields`: the event of a line's fields, or their first fault.
use Rattle.std.proofs.Common.{Ok, Err, rules}
use Rattle.edl.proofs.FieldLemmas.{edit_refused, edit_read}
use Rattle.edl.proofs.event.event_of_fields.Goals as goal

pub returns-in_default-edit_of-clause-value : goal.returns-in_default-edit_of-clause-value
returns-in_default-edit_of-clause-value c =
    edit_refused c.args.rate c.args.fields.now c.in-Some.number c.edit_of.result c.in-len8-up.len_at_least c.requires
    c.in-Some.ensures c.edit_of.ensures (search rules)

pub returns-in-Ok-clause-value : goal.returns-in-Ok-clause-value
returns-in-Ok-clause-value c =
    edit_read c.args.rate c.args.fields.now c.in-Some.number c.in-Some-edit_of.edit (Ok c.in-Ok.places)
    c.in-len8-up.len_at_least
    c.requires c.in-Some.ensures c.in-Some-edit_of.ensures c.in-Ok.ensures.value

pub returns-in-Err-clause-value : goal.returns-in-Err-clause-value
returns-in-Err-clause-value c =
    edit_read c.args.rate c.args.fields.now c.in-Some.number c.in-Some-edit_of.edit (Err c.in-Err.fault)
    c.in-len8-up.len_at_least
    c.requires c.in-Some.ensures c.in-Some-edit_of.ensures c.in-Err.ensures.value
