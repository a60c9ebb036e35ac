use Rattle.papertape.proofs.Written.{written_denotes}
use Rattle.papertape.proofs.law.written_is_read.Goals as goal

pub returns : goal.returns
returns c = written_denotes
