use Rattle.std.proofs.Common.{map, refl}
use Rattle.std.proofs.lemmas.Result.{IfOk-weaker}
use Rattle.dap_messages.specs.SeenAnswers.{SeenAnswer}
use Rattle.dap_messages.specs.Messages.{said_of}
use Rattle.dap_session.proofs.Done.{answered_with, kept}
use Rattle.dap_session.specs.Answered.{AreAnswers, SetsListed}
use Rattle.dap_session.proofs.answering.answer_open.Goals as goal

pub returns-in-Sets-clause-done : goal.returns-in-Sets-clause-done
unfolding AreAnswers
returns-in-Sets-clause-done g c =
    let sets = λ (v : SeenAnswer). SetsListed c.in-Sets.listed c.args.counting c.args.client.now c.set_listed-told.new.client v in
    rw c.in-Sets.is (kept c.answered.result c.or_memory-in-Sets.result _ c.or_memory-in-Sets.ensures.made
    (answered_with c.set_listed-told.result c.answered.result (λ ms. map said_of ms.items) sets c.set_listed-told.ensures c.answered.ensures))

pub returns-in-Shows-clause-done : goal.returns-in-Shows-clause-done
unfolding AreAnswers
returns-in-Shows-clause-done g c = rw c.in-Shows.is (IfOk-weaker c.shows.result _ _ (λ ms said. (refl, said)) c.shows.ensures.done)

pub returns-in-Terminate-clause-done : goal.returns-in-Terminate-clause-done
unfolding AreAnswers
returns-in-Terminate-clause-done g c = rw c.in-Terminate.is (IfOk-weaker c.or_memory-in-Terminate.result _ _ (λ ms said. (refl, said))
    (kept c.with_terminated.result c.or_memory-in-Terminate.result _ c.or_memory-in-Terminate.ensures.made (c.with_terminated.ensures _ c.all_done.ensures)))
