use Rattle.std.proofs.lemmas.Result.{IfOk-weaker}
use Rattle.dap_views.proofs.locals.locals_in.Goals as goal

pub returns : goal.returns
returns c = IfOk-weaker c.locals_found.result _ _ (λ list is. (c.in_ok-found.found, c.in_ok-found.ensures, is)) c.locals_found.ensures
