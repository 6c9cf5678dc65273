-- `learn`: knows this channel from now on.
use Rattle.std.proofs.Common.{rules}
use Rattle.rows_at_hand.specs.Counted.{Learns}
use Rattle.rows_at_hand.proofs.CountedLemmas.{learned_counted}
use Rattle.rows_at_hand.proofs.counts.learn.Goals as goal

pub returns-clause-counted : goal.returns-clause-counted
returns-clause-counted c = λ rows all new.
    let learns : Learns c.args.known c.args.channels.now.items c.push.new.self.items = search rules in
    learned_counted rows c.args.known c.args.channels.now.items c.push.new.self.items learns all new
