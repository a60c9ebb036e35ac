use Rattle.std.proofs.Common.{◌∷◌, map, refl}
use Rattle.std.proofs.lemmas.Result.{IfOk-weaker}
use Rattle.dap_messages.specs.Messages.{done, said_of}
use Rattle.dap_session.proofs.Done.{done_more}
use Rattle.dap_session.proofs.stands.with_halt_at.Goals as goal

pub returns-clause-answer : goal.returns-clause-answer
returns-clause-answer c = λ body rest is.
    IfOk-weaker c.with_halt.result _ _ (λ ms more. done_more body (done body ∷ rest) (map said_of ms.items) _ more (rest, refl))
    (c.with_halt.ensures.messages _ is)
