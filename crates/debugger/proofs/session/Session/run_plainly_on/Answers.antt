use Rattle.debugger.proofs.session.Session.run_plainly_on.Goals as goal

pub returns-clause-session : goal.returns-clause-session
returns-clause-session c =
    let before = c.self.inside in
    rw (← c.self.view_is) (c.run_plainly.ensures.steps before.breaks before.watches before.replayed)

pub returns-clause-ran : goal.returns-clause-ran
returns-clause-ran c = rw (← c.self.view_is) c.run_plainly.ensures.ran
