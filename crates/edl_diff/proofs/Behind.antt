-- One piece of text behind another.
use Rattle.std.proofs.lemmas.List.{append_assoc}

pub ruleset behind = (append_assoc)
