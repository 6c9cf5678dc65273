-- `parts_are_read_back`: such parts are read back from their bytes.
use Rattle.umid.proofs.ReadingLemmas.{read_back}
use Rattle.umid.proofs.laws.parts_are_read_back.Goals as goal

pub returns : goal.returns
returns c = read_back
