use Rattle.std.proofs.Common.{List, map, refl, subst}
use Rattle.std.proofs.lemmas.Result.{IfOk-weaker}
use Rattle.dap_messages.specs.Messages.{Said, said_of}
use Rattle.dap_session.specs.Stands.{IsToldHalt}
use Rattle.dap_session.proofs.passing.rest.Goals as goal

pub returns : goal.returns
returns c =
    let log = c.in_ok-before.ensures in
    let halt = c.rest_halt-halt.result in
    let is = c.rest_halt-halt.ensures in
    IfOk-weaker c.with_halt_at.result _ _
    (λ ms told. (
      log.0,
      log.1,
      halt,
      is.reason,
      is.words,
      is.fault,
      c.with_halt_at.ensures.kept,
      subst (λ (front : List Said). IsToldHalt c.args.client.now halt c.with_halt_at.new.client front (map said_of ms.items)) log.2 told,
    ))
    (c.with_halt_at.ensures.told _ refl)
