use Rattle.std.proofs.Common.{◌∙◌, refl}
use Rattle.std.proofs.lemmas.Result.{on_err_weaker, on_ok_weaker}
use Rattle.json_messages.proofs.Pieces.{front_none}
use Rattle.json_messages.specs.Messages.{framed}
use Rattle.serde_json.specs.View.{view}
use Rattle.serde_json.specs.Written.{compact_text}
use Rattle.json_messages.proofs.bodies.write_value.Goals as goal

pub returns-in-Ok-clause-written : goal.returns-in-Ok-clause-written
returns-in-Ok-clause-written g c = on_ok_weaker c.write_message.result
    (λ appended. (c.as_bytes.result.now, (λ none. c.as_bytes.ensures.value ∙ c.in-Ok.ensures.text none), appended))
    c.write_message.ensures.written

pub returns-in-Ok-clause-begun : goal.returns-in-Ok-clause-begun
returns-in-Ok-clause-begun g c = on_err_weaker c.write_message.result
    (λ begun. (c.as_bytes.result.now, (λ none. c.as_bytes.ensures.value ∙ c.in-Ok.ensures.text none), begun))
    c.write_message.ensures.begun

pub returns-in-Err-clause-begun : goal.returns-in-Err-clause-begun
returns-in-Err-clause-begun g c =
    let text = compact_text (view c.args.value.now) in
    (text, (λ none. refl), front_none (g.W.Write.contents c.args.writer.now) (framed text))
