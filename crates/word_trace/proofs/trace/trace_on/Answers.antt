use Rattle.word_trace.specs.Gathered.{gathered}
use Rattle.word_trace.specs.Texts.{noted_in}
use Rattle.console.specs.Playing.{played}
use Rattle.word_trace.proofs.Cutting.{all_front, end_cut, trace_cut}
use Rattle.word_trace.proofs.Going.{got_text, noting}
use Rattle.word_trace.proofs.trace.trace_on.Goals as goal

pub returns-in-Ok-finish-clause-ok : goal.returns-in-Ok-finish-clause-ok
returns-in-Ok-finish-clause-ok g c =
    let ok = c.in-Ok.ensures.ok in
    let tracer = c.run_noting-run.new.tracer in (
      noted_in tracer ok.0,
      ok.1,
      got_text _ (g.O.Write.contents c.run_noting-run.new.output) _ _ tracer.sheet.text.items ok.0 (gathered tracer) c.requires.sheet ok.2
          c.in-Ok-finish.ensures.writes,
    )

pub returns-in-Err-finish-clause-err : goal.returns-in-Err-finish-clause-err
returns-in-Err-finish-clause-err g c =
    let ok = c.in-Ok.ensures.ok in
    let tracer = c.run_noting-run.new.tracer in
    end_cut (played c.args.span.to c.args.span.limit) (noting c.args.span.to c.args.span.limit (gathered c.args.tracer.now)) c.args.session.now
    c.args.player.now _ _ c.run_noting-run.new.session c.run_noting-run.new.player
    _ (g.O.Write.contents c.run_noting-run.new.output) _ _ tracer.sheet.text.items ok.0 (gathered tracer) c.in-Ok.played c.requires.sheet ok.2
    c.in-Err-finish.ensures.writes ok.1

pub returns-in-Err-clause-err : goal.returns-in-Err-clause-err
returns-in-Err-clause-err g c =
    let cut = c.in-Err.ensures.err in
    let tracer = c.run_noting-run.new.tracer in
    trace_cut (played c.args.span.to c.args.span.limit) (noting c.args.span.to c.args.span.limit (gathered c.args.tracer.now)) c.args.session.now
    c.args.player.now _ _ c.run_noting-run.new.session c.run_noting-run.new.player.is_over
    _ (g.O.Write.contents c.run_noting-run.new.output) _ _ tracer.sheet.text.items cut.0 c.requires.sheet cut.2 c.write_cut.ensures cut.1

-- The run has written all that was put out, whatever comes of the rows.
pub returns-in-Err-finish-clause-output : goal.returns-in-Err-finish-clause-output
returns-in-Err-finish-clause-output g c =
    let out = c.in-Ok.ensures.output in (out.0, out.1, all_front _ _ out.0 out.2)
