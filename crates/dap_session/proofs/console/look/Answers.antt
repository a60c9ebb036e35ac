use Rattle.std.proofs.Common.{◌∙◌, Option, ap, option_map, refl, sym}
use Rattle.std.proofs.lemmas.Result.{IfOk-weaker}
use Rattle.dap_messages.specs.SeenAnswers.{answer_view}
use Rattle.dap_messages.specs.declared.answer.Answer.{Answer}
use Rattle.dap_session.proofs.Done.{kept}
use Rattle.dap_session.proofs.Stays.{refused_so}
use Rattle.dap_session.proofs.console.look.Goals as goal

pub returns-in-Some-clause-done : goal.returns-in-Some-clause-done
returns-in-Some-clause-done c =
    kept c.answered.result c.or_memory.result _ c.or_memory.ensures.made
    (IfOk-weaker c.answered.result _ _
    (λ ms said. (answer_view c.in-Some.body, sym (ap (λ (o : Option Answer). option_map answer_view o) (sym c.in-Some.is) ∙ c.in_ok-looked.ensures), said))
    (c.answered.ensures _ refl))

pub returns-in-None-clause-why : goal.returns-in-None-clause-why
returns-in-None-clause-why c =
    refused_so c.no_look.result _ (sym (ap (λ (o : Option Answer). option_map answer_view o) (sym c.in-None.is) ∙ c.in_ok-looked.ensures))
