use Rattle.std.proofs.Common.{map}
use Rattle.dap_messages.specs.Messages.{said_of}
use Rattle.dap_session.proofs.Done.{done_by}
use Rattle.dap_session.proofs.console.with_over.Goals as goal

pub returns-then-is_over : goal.returns-then-is_over
returns-then-is_over c = λ body done. done_by body c.args.messages c.with_terminated.result (λ ms. map said_of ms.items) _ c.with_terminated.ensures done
