use Rattle.std.proofs.Common.{List, ap, map, refl, subst}
use Rattle.std.proofs.lemmas.Result.{IfOk-weaker}
use Rattle.dap_messages.specs.Messages.{Said, said_of}
use Rattle.dap_messages.specs.declared.request.Move.{Move}
use Rattle.dap_session.specs.Passes.{Makes, way_of}
use Rattle.dap_session.proofs.passing.go_past.Goals as goal

pub returns : goal.returns
returns c =
    let log = c.in_ok-before.ensures in
    let old = c.args.client.now in
    let new = c.go.new.client in
    IfOk-weaker c.go.result _ _
    (λ ms goes. (
      log.0,
      log.1,
      subst (λ (front : List Said). Makes (way_of c.args.further) front old new (map said_of ms.items)) log.2
          (subst (λ (way : Move). Makes way (map said_of c.in_ok-before.before.items) old new (map said_of ms.items)) c.way_of.ensures goes),
    ))
    (c.go.ensures _ refl)
