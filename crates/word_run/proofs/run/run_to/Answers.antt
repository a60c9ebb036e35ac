use Rattle.std.proofs.Common.{◌∙◌, ap, sym}
use Rattle.arguments.specs.Statuses.{status_of}
use Rattle.word_run.proofs.Ran.{failed_to, interrupted_to, ran_to}
use Rattle.arguments_play.specs.Run.{run_view}
use Rattle.word_run.specs.Known.{known_view}
use Rattle.word_run.proofs.run.run_to.Goals as goal

pub returns-in-Ok-clause-ran : goal.returns-in-Ok-clause-ran
returns-in-Ok-clause-ran g c =
    ran_to (run_view c.args.words.now) (known_view c.args.known) c.args.until
    (record { session = c.args.session.now; written = c.args.written }) c.play.new.session (record {
      given = g.R.Read.remaining c.args.input.now;
      left = g.R.Read.remaining c.play.new.reader;
      held = g.W.Write.contents c.args.output.now.inner;
      now = g.W.Write.contents c.play.new.writer.inner;
    }) c.play.new.writer.interrupted (record {
      held = g.E.Write.contents c.args.errors.now;
      now = g.E.Write.contents c.ended.new.errors;
    }) c.in-Ok.played c.ended.result c.requires.silent c.in-Ok.ensures.ok c.in-Ok.ensures.output c.ended.ensures.status c.ended.ensures.told

pub returns-else-was_interrupted-clause-ran : goal.returns-else-was_interrupted-clause-ran
returns-else-was_interrupted-clause-ran g c =
    failed_to (run_view c.args.words.now) (known_view c.args.known) c.args.until
    (record { session = c.args.session.now; written = c.args.written }) c.play.new.session (record {
      given = g.R.Read.remaining c.args.input.now;
      left = g.R.Read.remaining c.play.new.reader;
      held = g.W.Write.contents c.args.output.now.inner;
      now = g.W.Write.contents c.play.new.writer.inner;
    }) c.play.new.writer.interrupted (record {
      held = g.E.Write.contents c.args.errors.now;
      now = g.E.Write.contents c.refuse.new.errors;
    }) c.in-Err.fault c.refuse.result c.requires.silent c.in-Err.ensures.err c.in-Err.ensures.output
    (c.refuse.ensures.status ∙ ap status_of c.refusal_of.ensures) (rw c.refusal_of.ensures at c.refuse.ensures.told)

pub returns-then-was_interrupted-clause-ran : goal.returns-then-was_interrupted-clause-ran
returns-then-was_interrupted-clause-ran g c =
    interrupted_to (run_view c.args.words.now) (known_view c.args.known) c.args.until
    (record { session = c.args.session.now; written = c.args.written }) c.play.new.session (record {
      given = g.R.Read.remaining c.args.input.now;
      left = g.R.Read.remaining c.play.new.reader;
      held = g.W.Write.contents c.args.output.now.inner;
      now = g.W.Write.contents c.play.new.writer.inner;
    }) c.play.new.writer.interrupted (record {
      held = g.E.Write.contents c.args.errors.now;
      now = g.E.Write.contents c.interrupted.new.errors;
    }) c.interrupted.result (sym c.was_interrupted.ensures ∙ c.if-was_interrupted.true) c.requires.silent c.in-Err.ensures.err c.in-Err.ensures.output
    c.interrupted.ensures.status c.interrupted.ensures.told
