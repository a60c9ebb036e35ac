use Rattle.dap_messages.proofs.bodies.locals_scopes.Goals as goal

pub returns-in-Some : goal.returns-in-Some
returns-in-Some c = rw c.in-Some.is (c.with.ensures _ _ c.new.ensures c.locals_scope.ensures)
