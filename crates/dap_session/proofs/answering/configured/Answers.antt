use Rattle.std.proofs.Common.{map}
use Rattle.std.proofs.lemmas.Result.{IfOk-weaker}
use Rattle.dap_messages.specs.Messages.{said_of}
use Rattle.dap_session.proofs.answering.configured.Goals as goal

pub returns : goal.returns
returns c = IfOk-weaker c.go_on.result _ _ (λ ms passes. (c.begun.new.client, map said_of c.in_ok-said.said.items, c.in_ok-said.ensures, passes))
    c.go_on.ensures
