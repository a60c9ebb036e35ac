use Rattle.std.proofs.Common.{refl, subst}
use Rattle.json_messages.proofs.Pieces.{front_none}
use Rattle.json_messages.specs.Messages.{framed}
use Rattle.json_messages.specs.Bodies.{IsTextOf}
use Rattle.dap_messages.specs.Messages.{data_of, next_number, said_of}
use Rattle.serde_json.specs.Data.{Data}
use Rattle.serde_json.specs.View.{view}
use Rattle.serde_json.specs.Written.{compact_text}
use Rattle.word_dap.proofs.Sent.{made_of}
use Rattle.word_dap.proofs.sending.send_one.Goals as goal

pub returns-in-Ok-write_value-clause-sent : goal.returns-in-Ok-write_value-clause-sent
returns-in-Ok-write_value-clause-sent g c =
    let one = c.in-Ok-write_value.ensures.written in
    let made = made_of c.next_number-number.result c.args.sent (view c.args.request.now) (said_of c.args.message.now) c.next_number-number.ensures
    c.in-Ok.ensures in
    (framed one.0, (one.0, subst (λ (d : Data). IsTextOf d one.0) made one.1, refl), one.2)

pub returns-in-Ok-clause-begun : goal.returns-in-Ok-clause-begun
returns-in-Ok-clause-begun g c =
    let one = c.in-Err-write_value.ensures.begun in
    let made = made_of c.next_number-number.result c.args.sent (view c.args.request.now) (said_of c.args.message.now) c.next_number-number.ensures
    c.in-Ok.ensures in
    (framed one.0, (one.0, subst (λ (d : Data). IsTextOf d one.0) made one.1, refl), one.2)

pub returns-clause-begun : goal.returns-clause-begun
returns-clause-begun g c =
    let text = compact_text (data_of (next_number c.args.sent) (view c.args.request.now) (said_of c.args.message.now)) in
    (framed text, (text, (λ none. refl), refl), front_none (g.W.Write.contents c.args.writer.now) (framed text))
