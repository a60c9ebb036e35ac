use Rattle.std.proofs.Common.{◌≡◌}
use Rattle.arguments_play.specs.Trace.{trace_view}
use Rattle.word_trace.proofs.Done.{traced_file}
use Rattle.word_trace.proofs.trace.trace_words.Goals as goal

pub returns-in-Ok-clause-done : goal.returns-in-Ok-clause-done
returns-in-Ok-clause-done g c =
    traced_file (trace_view c.args.words.now) c.in-Ok.loaded.assembly c.in-Ok.loaded.session c.in-Ok.loaded.written c.in-Ok.loaded.fill
    c.in-Ok.ensures.started.0 c.in-Ok.loaded.lost (record {
      given = g.R.Read.remaining c.args.input.now;
      left = g.R.Read.remaining c.trace_debugged.new.input;
      held = g.O.Write.contents c.args.output.now;
      now = g.O.Write.contents c.trace_debugged.new.output;
    }) (record {
      held = g.E.Write.contents c.args.errors.now;
      now = g.E.Write.contents c.trace_debugged.new.errors;
    }) (g.E.Write.contents c.tell_left_out.new.errors) c.trace_debugged.result
    ((c.trace_debugged.new.input ≡ c.args.input.now) × (c.trace_debugged.new.output ≡ c.args.output.now)) c.in-Ok.ensures.started.1
    c.in-Ok.ensures.started.2 c.in-Ok.ensures.started.3 c.in-Ok.ensures.lost c.tell_left_out.ensures c.trace_debugged.ensures
