use Rattle.json_messages.proofs.Stays as laws
use Rattle.json_messages.proofs.laws.stays.Goals as goal

pub returns : goal.returns
returns c = laws.stays
