-- `AiredDay::keep_the_rules`: what was aired keeps the rules.
use Rattle.std.proofs.Common.{subst}
use Rattle.asrun_match.specs.Aired.{KeepsAiringRules}
use Rattle.asrun_match.proofs.day.AiredDay.keep_the_rules.Goals as goal

pub returns : goal.returns
returns c =
    subst KeepsAiringRules c.self.view_is (record {
      few = c.self.invariant.1;
      fields = c.self.invariant.2;
      order = c.self.inside.rows.rows;
      same = c.self.invariant.0;
      apart = c.keep_apart.ensures.apart;
    })
