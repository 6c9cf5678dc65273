-- `fields_of`: the fields of a line that doesn't begin with a blank; none where there are more than ten.
use Rattle.std.proofs.Common.{◌∙◌, sym, ◌<◌, length, arith, refl, length-set}
use Rattle.std.specs.List.{position_or_len}
use Rattle.std.proofs.Common.{drop}
use Rattle.edl.specs.Text.{is_blank}
use Rattle.edl.proofs.TextLemmas.{fields_of-after_blanks, fields_over, fields_step, prefix_len-after_blanks}
use Rattle.edl.proofs.TextLemmas.{rest_shorter, above_zero, no_more_fields}
use Rattle.edl.proofs.text.fields_of.Goals as goal

pub loop-rest-init : goal.loop-rest-init
loop-rest-init c = record {
  few = omega arith;
  room = refl;
  fields = rw c.after_blanks-rest.ensures (fields_of-after_blanks c.args.line.now);
  clear = rw c.after_blanks-rest.ensures (prefix_len-after_blanks c.args.line.now);
  text = c.after_blanks-rest.utf8;
}

pub returns-then-count-eq10 : goal.returns-then-count-eq10
returns-then-count-eq10 c =
    let h = c.loop-rest.invariant in
    let some : 0 < length c.loop-rest.rest.now = above_zero _ (sym c.is_empty.ensures ∙ c.loop-rest-test.true) in
    fields_over c.loop-rest.items c.loop-rest.rest.now c.args.line.now h.room (rw c.if-count-eq10.true at h.fields) some
    h.clear

pub loop-rest-smaller : goal.loop-rest-smaller
loop-rest-smaller c =
    let some : 0 < length c.loop-rest.rest.now = above_zero _ (sym c.is_empty.ensures ∙ c.loop-rest-test.true) in
    rw c.split_field.ensures.rest (rest_shorter c.loop-rest.rest.now some c.loop-rest.invariant.clear)

pub loop-rest-preserved : goal.loop-rest-preserved
loop-rest-preserved c =
    let h = c.loop-rest.invariant in
    let some : 0 < length c.loop-rest.rest.now = above_zero _ (sym c.is_empty.ensures ∙ c.loop-rest-test.true) in
    record {
      few = omega arith;
      room = length-set c.loop-rest.items c.loop-rest.count c.split_field.result.0 ∙ h.room;
      fields =
          rw c.split_field.ensures.rest
          (fields_step c.loop-rest.items c.loop-rest.count c.split_field.result.0 c.loop-rest.rest.now c.args.line.now
          (omega (arith, h.room)) h.fields some h.clear c.split_field.ensures.field);
      clear =
          rw c.split_field.ensures.rest
          (prefix_len-after_blanks (drop (position_or_len is_blank c.loop-rest.rest.now) c.loop-rest.rest.now));
      text = c.split_field.ensures.text;
    }

pub returns : goal.returns
returns c =
    let h = c.loop-rest.invariant in (
      h.few,
      no_more_fields c.loop-rest.items c.loop-rest.count c.loop-rest.rest.now c.args.line.now h.fields
          (sym c.is_empty.ensures ∙ c.loop-rest-test.false),
    )
