use Rattle.json_messages.proofs.ReadAgain as again
use Rattle.json_messages.proofs.laws.reads_again.Goals as goal

pub returns : goal.returns
returns c = again.reads_again
