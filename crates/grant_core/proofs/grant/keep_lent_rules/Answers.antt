-- `keep_lent_rules`: whether grants keep the rules of what is lent to a channel.
use Rattle.grant_core.proofs.LentLemmas.{owners_some, clips_below}
use Rattle.grant_core.proofs.grant.keep_lent_rules.Goals as goal

pub are_lent_once-requires-clause-owners : goal.are_lent_once-requires-clause-owners
are_lent_once-requires-clause-owners c =
    owners_some c.args.channel c.args.grants.now (cc (c.are_lent_to.ensures, c.if-not-are_lent_to.false))

pub are_lent_once-requires-clause-clips : goal.are_lent_once-requires-clause-clips
are_lent_once-requires-clause-clips c =
    clips_below c.args.channel c.args.grants.now (cc (c.are_clips.ensures, c.if-not-are_clips.false))

pub are_one_copy-requires-clause-clips : goal.are_one_copy-requires-clause-clips
are_one_copy-requires-clause-clips c =
    clips_below c.args.channel c.args.grants.now (cc (c.are_clips.ensures, c.if-not-are_clips.false))
