use Rattle.std.proofs.Common.{Bool, ap}
use Rattle.dap_messages.specs.SeenAnswers.{scopes}
use Rattle.dap_session.proofs.answering.scopes_shown.Goals as goal

pub returns : goal.returns
returns c = (
  c.in_ok-locals.locals,
  c.in_ok-locals.ensures,
  ap (λ (first : Bool). scopes first c.in_ok-locals.locals) c.is_first_frame.ensures,
)
