-- What is told of words that ask for nothing.
use Rattle.std.proofs.Common.{inl, inr, map}
use Rattle.std.specs.Prelude.{string_bytes}
use Rattle.clap.specs.Words.{kind_of}
use Rattle.playout_args.proofs.AskLemmas.{told_is}
use Rattle.playout_args.proofs.words.read_words.Goals as goal

pub returns-in-Ok : goal.returns-in-Ok
returns-in-Ok c = c.in-Ok.ensures.asks

pub returns-in-Err : goal.returns-in-Err
returns-in-Err c = (
  λ taken. elim (c.in-Err.ensures.fails taken) [
    | inl memory ↦ inl (c.no_action.ensures.memory memory)
    | inr nothing ↦ inr nothing
  ],
  told_is (map string_bytes c.args.words.now) (kind_of c.in-Err.error) c.no_action.result c.in-Err.ensures.ends
      c.no_action.ensures.memory c.no_action.ensures.told,
)
