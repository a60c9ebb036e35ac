use Rattle.std.proofs.Common.{refl}
use Rattle.engine.proofs.Outcomes.{early_reaches, early_serves, early_session, serving_no_session, serving_no_source, serving_no_tape, serving_reaches}
use Rattle.engine.proofs.image.debug_image.Goals as goal

pub returns-in_err-session-clause-serves : goal.returns-in_err-session-clause-serves
returns-in_err-session-clause-serves g c =
    early_serves c.from_residual.result _ _ _ (early_session c.from_residual.result c.in_err-session.field-0.0 c.from_residual.ensures.1)

pub returns-in_err-session-clause-reaches : goal.returns-in_err-session-clause-reaches
returns-in_err-session-clause-reaches g c =
    early_reaches c.from_residual.result _ _ (early_session c.from_residual.result c.in_err-session.field-0.0 c.from_residual.ensures.1) (refl, refl)

pub returns-clause-reaches : goal.returns-clause-reaches
returns-clause-reaches g c = serving_reaches c.serve.result _ c.serve.ensures.only

pub returns-clause-source : goal.returns-clause-source
returns-clause-source g c = serving_no_source c.serve.result c.serve.ensures.only

pub returns-clause-tape : goal.returns-clause-tape
returns-clause-tape g c = serving_no_tape c.serve.result c.serve.ensures.only

pub returns-clause-session : goal.returns-clause-session
returns-clause-session g c = serving_no_session c.serve.result _ c.serve.ensures.only
