use Rattle.std.proofs.Common.{None, Some}
use Rattle.std.proofs.lemmas.Result.{IfOk-weaker}
use Rattle.dap_views.proofs.targets.goto_targets.Goals as goal

pub returns-in-Some : goal.returns-in-Some
returns-in-Some g c = IfOk-weaker c.targets_body.result _ _ (λ v is. (Some c.in-Some.file, c.in-Some.ensures, is))
    (c.targets_body.ensures _ c.own_targets.ensures)

pub returns-in-None : goal.returns-in-None
returns-in-None g c = IfOk-weaker c.targets_body-in-None.result _ _ (λ v is. (None, c.in-None.ensures, is))
    (c.targets_body-in-None.ensures _ c.new.ensures)
