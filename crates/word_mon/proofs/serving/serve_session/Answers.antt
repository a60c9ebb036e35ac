use Rattle.std.proofs.Common.{Err, Ok, ap, refl}
use Rattle.word_mon.specs.Done.{opening}
use Rattle.word_mon.proofs.Ends.{attends_err}
use Rattle.word_mon.proofs.serving.serve_session.Goals as goal

pub returns-in-Ok-clause-ended : goal.returns-in-Ok-clause-ended
returns-in-Ok-clause-ended g c =
    let attended = c.in-Ok.ensures.attended in
    (Ok tt, (c.serve.new.terminal, attended.0, attended.1, attended.2), refl)

pub returns-in-Err-clause-ended : goal.returns-in-Err-clause-ended
returns-in-Err-clause-ended g c = (
  Err c.in-Err.refusal,
  attends_err c.args.prompts (opening c.args.prompts c.args.warning_line.now c.args.terminal.now) c.args.terminal.now c.serve.new.terminal
      (g.R.Read.remaining c.args.input.now) (g.R.Read.remaining c.serve.new.input)
      (g.O.Write.contents c.args.output.now) (g.O.Write.contents c.serve.new.output) c.in-Err.refusal
      c.in-Err.ensures.refused (λ e. c.in-Err.ensures.unread (ap Err e)) c.in-Err.ensures.broken,
  (c.refuse.ensures.status, c.refuse.ensures.told),
)
