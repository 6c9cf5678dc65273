-- `read_both`: all of both files.
use Rattle.playout_lists.proofs.comparing.read_both.Goals as goal

pub returns-in-Err-clause-err : goal.returns-in-Err-clause-err
returns-in-Err-clause-err g c = c.in-Err.ensures.err c.args.rate

pub returns-in-Err-read_file-clause-err : goal.returns-in-Err-read_file-clause-err
returns-in-Err-read_file-clause-err g c = c.in-Err-read_file.ensures.err c.args.rate
