-- `make_room`: the days that were asked for least lately make room for one with so many rows.
use Rattle.std.proofs.Common.{◌≡◌, ◌+◌, ◌≤◌, ◌∙◌, false, refl, sym, subst, ap, arith}
use Rattle.rows_at_hand.specs.Known.{has_room, most_rows, rows_at_hand}
use Rattle.rows_at_hand.proofs.LatestLemmas.{drop_rows, first_gone, in_the_way}
use Rattle.rows_at_hand.proofs.known.make_room.Goals as goal

pub loop-days-init : goal.loop-days-init
loop-days-init c = record {
  few_rows = c.requires.few_rows;
  latest = (0, refl, λ n below. absurd (omega arith));
}

pub loop-days-preserved : goal.loop-days-preserved
loop-days-preserved c =
    let inv = c.loop-days.invariant in
    let all = c.args.days.now.items in
    let full : has_room c.args.rows c.loop-days.days.items ≡ false =
    ap (has_room c.args.rows) (sym c.deref.ensures.value) ∙ sym c.has_room.ensures ∙ c.loop-days-test.true in
    record {
      few_rows =
          subst (λ ks. rows_at_hand ks ≤ most_rows) (sym c.remove-earliest.ensures.items)
          (omega (arith, drop_rows 1 c.loop-days.days.items, inv.few_rows));
      latest = (
        inv.latest.0 + 1,
        c.remove-earliest.ensures.items ∙ first_gone inv.latest.0 all c.loop-days.days.items inv.latest.1,
        in_the_way c.args.rows inv.latest.0 all inv.latest.2
            (subst (λ ks. has_room c.args.rows ks ≡ false) inv.latest.1 full),
      );
    }

pub returns : goal.returns
returns c =
    let inv = c.loop-days.invariant in
    record {
      gone = inv.latest.0;
      latest = inv.latest.1;
      room = ap (has_room c.args.rows) (sym c.deref.ensures.value) ∙ sym c.has_room.ensures ∙ c.loop-days-test.false;
      no_more = inv.latest.2;
    }
