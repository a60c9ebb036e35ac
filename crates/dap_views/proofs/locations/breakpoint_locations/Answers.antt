use Rattle.std.proofs.Common.{None, Some}
use Rattle.std.proofs.lemmas.Result.{IfOk-weaker}
use Rattle.dap_views.proofs.locations.breakpoint_locations.Goals as goal

pub returns-in-Some : goal.returns-in-Some
returns-in-Some g c = IfOk-weaker c.breakpoints_body.result _ _ (λ v is. (Some c.in-Some.file, c.in-Some.ensures, is))
    (c.breakpoints_body.ensures _ c.own_locations-list.ensures)

pub returns-in-None : goal.returns-in-None
returns-in-None g c = IfOk-weaker c.breakpoints_body-in-None.result _ _ (λ v is. (None, c.in-None.ensures, is))
    (c.breakpoints_body-in-None.ensures _ c.new.ensures)
