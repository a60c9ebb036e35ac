use Rattle.std.proofs.Common.{IfOk, ℕ, subst}
use Rattle.dap_views.specs.Locals.{HasLocals}
use Rattle.dap_views.proofs.locals.local_scope.Goals as goal

pub returns : goal.returns
returns c = subst (λ (n : ℕ). IfOk c.scope_numbered.result (HasLocals c.args.mon.now.session.current c.args.mon.now.places n))
    c.frame_number.ensures c.scope_numbered.ensures
