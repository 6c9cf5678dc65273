-- `read_sized`: reads the text of N bytes.
use Rattle.std.proofs.Common.{rules}
use Rattle.umid.proofs.ReadingLemmas.{text_reading_is}
use Rattle.umid.proofs.read_sized.Goals as goal

pub returns-in-Ok-clause-value : goal.returns-in-Ok-clause-value
returns-in-Ok-clause-value g c = text_reading_is c.args.text.now _ (search rules)

pub returns-in-Err-clause-value : goal.returns-in-Err-clause-value
returns-in-Err-clause-value g c = text_reading_is c.args.text.now _ (search rules)
