use Rattle.std.proofs.Common.{◌∙◌, ◌&&◌, Bool, ap, inr, map, subst}
use Rattle.std.specs.Prelude.{is_none}
use Rattle.std.proofs.lemmas.Result.{IfOk-weaker}
use Rattle.word_dap.proofs.Refusals.{stays_so}
use Rattle.word_dap.specs.Adapter.{IsRefused}
use Rattle.dap_messages.specs.Messages.{said_of}
use Rattle.word_dap.proofs.adapter.serve.Goals as goal

pub returns-in-Err-Refused : goal.returns-in-Err-Refused
returns-in-Err-Refused g c =
    let why = rw c.in-Err-Refused.field-0-is at c.in-Err-Refused.ensures.why in
    let ends = c.ends-is_end.ensures ∙ ap (λ (b : Bool). b && is_none c.serve_asked.new.adapter.client) c.is_launch-launches.ensures in
    let rests = rw c.in-Err-Refused.field-0-is at c.in-Err-Refused.ensures.refused in
    IfOk-weaker c.ended_by.result _ _
    (λ ms said. inr (
      why,
      subst (λ (b : Bool). IsRefused b (map said_of ms.items)) ends said,
      rests.0,
      stays_so c.in-Err-Refused.words c.args.adapter.now.client c.serve_asked.new.adapter.client rests.1,
    ))
    c.ended_by.ensures
