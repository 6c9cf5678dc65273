-- `Vaults::commit`: a change of own rows, in the vault of its channel.
use Rattle.std.proofs.Common.{arith}
use Rattle.rows_at_hand.proofs.VaultLemmas.{committed}
use Rattle.rows_at_hand.proofs.vaults.Vaults.commit.Goals as goal

pub returns-then-index-channel : goal.returns-then-index-channel
returns-then-index-channel c = λ rows put own same at is.
    let vaults = c.args.self.now.each.items in
    let place = c.channel_start-place.result in
    committed c.commit.result rows c.commit.new.self vaults c.args.channel place c.index_mut.result.now
    c.index.result.now at (omega (arith, c.if-place-len.true, c.len.ensures)) c.index_mut.ensures.value c.index.ensures
    c.if-index-channel.true c.args.change.now put own same is (c.commit.ensures.ok tt)
