use Rattle.std.proofs.Common.{map}
use Rattle.std.proofs.lemmas.Result.{IfOk-weaker}
use Rattle.dap_messages.specs.Messages.{said_of}
use Rattle.dap_session.proofs.passing.go_on.Goals as goal

pub returns : goal.returns
returns c =
    let passed = c.in_ok-said.ensures in
    IfOk-weaker c.settle.result _ _ (λ ms settles. (passed.0, c.pass.new.client, map said_of c.in_ok-said.said.items, passed.1, passed.2, settles))
    c.settle.ensures
