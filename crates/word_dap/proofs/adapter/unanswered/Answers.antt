use Rattle.std.proofs.Common.{ap, map}
use Rattle.dap_messages.specs.Messages.{said_of}
use Rattle.word_dap.proofs.adapter.unanswered.Goals as goal

pub returns : goal.returns
returns c = ap (map said_of) c.new.ensures.items
