use Rattle.std.proofs.Common.{◌∷◌, map, refl}
use Rattle.std.proofs.lemmas.Result.{IfOk-weaker}
use Rattle.dap_messages.specs.Messages.{done, said_of}
use Rattle.dap_session.proofs.Done.{done_more}
use Rattle.dap_session.proofs.console.with_moved.Goals as goal

pub returns-then-is_change-clause-answer : goal.returns-then-is_change-clause-answer
returns-then-is_change-clause-answer c = λ body rest is.
    IfOk-weaker c.with_unmoved.result _ _ (λ ms more. done_more body (done body ∷ rest) (map said_of ms.items) _ more (rest, refl))
    (c.with_unmoved.ensures _ is)

pub returns-else-is_change-clause-answer : goal.returns-else-is_change-clause-answer
returns-else-is_change-clause-answer c = λ body rest is. IfOk-weaker c.args.messages _ _ (λ ms said. (rest, said)) is
