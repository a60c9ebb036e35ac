use Rattle.engine.proofs.Said.{said_input}
use Rattle.engine.proofs.command.execute.Goals as goal

pub returns-in-Input-clause-ok : goal.returns-in-Input-clause-ok
returns-in-Input-clause-ok g c =
    said_input c.args.session.now c.take_input.new.session c.args.command c.in-Input.bytes c.first_bytes.result.now c.in-Input.count
    c.take_input.result c.after_reply-in-Input.result c.in-Input.is c.first_bytes.ensures c.after_reply-in-Input.ensures c.take_input.ensures.after
