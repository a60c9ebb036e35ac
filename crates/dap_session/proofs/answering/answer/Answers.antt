use Rattle.std.proofs.Common.{inl, inr}
use Rattle.std.proofs.lemmas.Result.{IfErr-weaker, IfOk-weaker}
use Rattle.dap_session.proofs.Stays.{refused_by_more, refused_so}
use Rattle.dap_session.specs.Refusals.{MayRefuse, MayRefuseAt}
use Rattle.dap_session.proofs.answering.answer.Goals as goal

pub returns-then-client-clause-why : goal.returns-then-client-clause-why
returns-then-client-clause-why g c = refused_so c.refused.result (MayRefuseAt c.args.asked c.args.client.now) (inl c.if-client.true)

pub returns-clause-done : goal.returns-clause-done
returns-clause-done g c = IfOk-weaker c.answer_open.result _ _ (λ ms done. (c.if-client.false, done)) c.answer_open.ensures.done

pub returns-clause-why : goal.returns-clause-why
returns-clause-why g c = IfErr-weaker c.answer_open.result _ _
    (λ f why. refused_by_more f (MayRefuse c.args.asked c.args.client.now) (MayRefuseAt c.args.asked c.args.client.now) (λ may. inr may) why)
    c.answer_open.ensures.why
