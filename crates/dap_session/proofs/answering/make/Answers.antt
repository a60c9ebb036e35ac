use Rattle.std.proofs.Common.{map, subst}
use Rattle.std.proofs.lemmas.Result.{IfOk-weaker}
use Rattle.dap_messages.specs.Messages.{said_of}
use Rattle.dap_session.specs.Passes.{PassesLogs}
use Rattle.dap_session.specs.declared.passing.Further.{Further}
use Rattle.dap_session.proofs.answering.make.Goals as goal

pub returns : goal.returns
returns c =
    let first = c.go_first.new.client in
    let so_far = map said_of c.in_ok-said.said.items in
    IfOk-weaker c.go_on.result _ _
    (λ ms passes. (
      first,
      so_far,
      c.in_ok-said.ensures,
      subst (λ (f : Further). PassesLogs f first so_far c.go_on.new.client (map said_of ms.items)) c.further_of-further.ensures passes,
    ))
    c.go_on.ensures
