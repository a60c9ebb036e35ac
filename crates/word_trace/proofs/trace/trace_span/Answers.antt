use Rattle.std.proofs.Common.{◌∙◌, [], ap, append-nil, sym}
use Rattle.accesses.specs.Writing.{or_everywhere}
use Rattle.arguments_play.specs.Trace.{trace_view}
use Rattle.word_trace.specs.Traces.{begin_view}
use Rattle.word_trace.proofs.Cutting.{err_always, none_traced, writes_all, writes_none, wrote_all, wrote_front}
use Rattle.word_trace.proofs.Going.{wrote_notes}
use Rattle.word_trace.proofs.trace.trace_span.Goals as goal

pub returns-clause-ok : goal.returns-clause-ok
returns-clause-ok g c =
    wrote_notes (trace_view c.args.words.now) (begin_view c.args.loaded.now c.args.debug) c.args.span.from c.args.span.to c.args.span.limit
    c.trace_between.new.session c.or_everywhere-written.result
    _ _ _ _ _ c.in_ok-traced.traced.played c.in_ok-traced.traced.has_begun c.in_ok-tracer.ensures.nothing
    (c.or_everywhere-written.ensures ∙ ap (or_everywhere c.args.words.now.is_free) c.in_ok-copied.ensures.copied) c.in_ok-traced.ensures.ok

pub returns-in_err-check_lines-clause-err : goal.returns-in_err-check_lines-clause-err
returns-in_err-check_lines-clause-err g c =
    err_always c.from_residual.result
    (none_traced (trace_view c.args.words.now) (begin_view c.args.loaded.now c.args.debug) c.args.span.from c.args.span.to c.args.span.limit
    (g.R.Read.remaining c.args.input.now) (g.O.Write.contents c.args.output.now))

pub returns-in_err-check_lines-clause-output : goal.returns-in_err-check_lines-clause-output
returns-in_err-check_lines-clause-output g c =
    ([], sym (append-nil c.args.loaded.now.session.current.bus.out), writes_none c.from_residual.result (g.E.Write.contents c.args.errors.now))

pub returns-in_err-tracer-clause-err : goal.returns-in_err-tracer-clause-err
returns-in_err-tracer-clause-err g c =
    err_always c.from_residual-in_err-tracer.result
    (none_traced (trace_view c.args.words.now) (begin_view c.args.loaded.now c.args.debug) c.args.span.from c.args.span.to c.args.span.limit
    (g.R.Read.remaining c.args.input.now) (g.O.Write.contents c.args.output.now))

pub returns-in_err-tracer-clause-output : goal.returns-in_err-tracer-clause-output
returns-in_err-tracer-clause-output g c =
    ([], sym (append-nil c.args.loaded.now.session.current.bus.out), writes_none c.from_residual-in_err-tracer.result (g.E.Write.contents c.args.errors.now))

pub returns-in_err-copied-clause-err : goal.returns-in_err-copied-clause-err
returns-in_err-copied-clause-err g c =
    err_always c.from_residual-in_err-copied.result
    (none_traced (trace_view c.args.words.now) (begin_view c.args.loaded.now c.args.debug) c.args.span.from c.args.span.to c.args.span.limit
    (g.R.Read.remaining c.args.input.now) (g.O.Write.contents c.args.output.now))

pub returns-in_err-copied-clause-output : goal.returns-in_err-copied-clause-output
returns-in_err-copied-clause-output g c =
    ([], sym (append-nil c.args.loaded.now.session.current.bus.out), writes_none c.from_residual-in_err-copied.result (g.E.Write.contents c.args.errors.now))

pub returns-in_err-traced-clause-err : goal.returns-in_err-traced-clause-err
returns-in_err-traced-clause-err g c =
    err_always c.from_residual-in_err-traced.result
    (wrote_front (trace_view c.args.words.now) (begin_view c.args.loaded.now c.args.debug) c.args.span.from c.args.span.to c.args.span.limit
    c.trace_between.new.session c.or_everywhere-written.result
    (g.R.Read.remaining c.args.input.now) (g.O.Write.contents c.args.output.now) (g.O.Write.contents c.trace_between.new.output) _
    c.in_ok-tracer.ensures.nothing
    (c.or_everywhere-written.ensures ∙ ap (or_everywhere c.args.words.now.is_free) c.in_ok-copied.ensures.copied) c.in_err-traced.ensures.err)

-- The rows were written, and not the file for lcov.
pub returns-in_err-write_lines-clause-err : goal.returns-in_err-write_lines-clause-err
returns-in_err-write_lines-clause-err g c =
    let run = wrote_notes (trace_view c.args.words.now) (begin_view c.args.loaded.now c.args.debug) c.args.span.from c.args.span.to c.args.span.limit
    c.trace_between.new.session c.or_everywhere-written.result
    (g.R.Read.remaining c.args.input.now) (g.R.Read.remaining c.trace_between.new.input) (g.O.Write.contents c.args.output.now)
    (g.O.Write.contents c.trace_between.new.output) _
    c.in_ok-traced.traced.played c.in_ok-traced.traced.has_begun c.in_ok-tracer.ensures.nothing
    (c.or_everywhere-written.ensures ∙ ap (or_everywhere c.args.words.now.is_free) c.in_ok-copied.ensures.copied) c.in_ok-traced.ensures.ok in
    err_always c.from_residual-in_err-write_lines.result
    (wrote_all (trace_view c.args.words.now) (begin_view c.args.loaded.now c.args.debug)
    c.args.span.from c.args.span.to c.args.span.limit c.trace_between.new.session
    (g.R.Read.remaining c.args.input.now) (g.R.Read.remaining c.trace_between.new.input) (g.O.Write.contents c.args.output.now)
    (g.O.Write.contents c.trace_between.new.output) c.in_ok-traced.traced.played
    (run.0, run.1, run.2, run.3, run.4, run.5))

pub returns-in_err-write_lines-clause-output : goal.returns-in_err-write_lines-clause-output
returns-in_err-write_lines-clause-output g c =
    let put = c.in_ok-traced.ensures.output in (
      put.0,
      put.1,
      writes_all c.from_residual-in_err-write_lines.result (g.E.Write.contents c.args.errors.now)
          (g.E.Write.contents c.trace_between.new.errors) put.0 put.2,
    )
