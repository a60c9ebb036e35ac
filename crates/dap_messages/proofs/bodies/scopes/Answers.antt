use Rattle.dap_messages.proofs.bodies.scopes.Goals as goal

pub returns : goal.returns
returns c = c.build.ensures _ (c.member.ensures _ _ c.new.ensures (c.build-scopes.ensures _ (c.with_scopes-list.ensures _ c.locals_scopes.ensures)))
