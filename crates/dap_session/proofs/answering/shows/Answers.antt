use Rattle.std.proofs.Common.{map}
use Rattle.dap_messages.specs.SeenAnswers.{SeenAnswer}
use Rattle.dap_messages.specs.Messages.{said_of}
use Rattle.dap_session.proofs.Done.{answered_with, kept}
use Rattle.dap_session.specs.Answered.{IsShown}
use Rattle.dap_session.proofs.answering.shows.Goals as goal

pub returns-clause-done : goal.returns-clause-done
returns-clause-done g c =
    let shows = λ (v : SeenAnswer). IsShown c.args.query c.args.counting c.args.client.now v in
    kept c.answered.result c.or_memory.result _ c.or_memory.ensures.made
    (answered_with c.shown-told.result c.answered.result (λ ms. map said_of ms.items) shows c.shown-told.ensures c.answered.ensures)
