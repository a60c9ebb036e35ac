use Rattle.arguments_play.specs.Trace.{trace_view}
use Rattle.assembler.specs.Assembly.{AssemblyView}
use Rattle.std.proofs.Common.{◌∙◌, ℕ, Option, ap, subst}
use Rattle.word_run.specs.Known.{known_by}
use Rattle.word_run.specs.Runs.{TellsEnding, heard_of, streams_of}
use Rattle.std.specs.Option.{option_map}
use Rattle.word_trace.specs.Traces.{begin_view}
use Rattle.word_trace.proofs.Done.{cut_off, traced_to}
use Rattle.word_trace.proofs.trace.trace_told.Goals as goal

pub returns-in-Ok : goal.returns-in-Ok
returns-in-Ok g c =
    let out = g.E.Write.contents c.trace_span.new.errors in
    let said = g.E.Write.contents c.tell_unbegun.new.errors in
    let now = g.E.Write.contents c.tell_ending.new.errors in
    let file = c.args.words.now.file.file.now in
    let played = c.in-Ok.traced.played in
    let debug = option_map (λ p. p.now) c.args.debug in
    let with_names = subst (λ (x : Option AssemblyView). TellsEnding (known_by file x debug) (heard_of said now) played.ending played.steps
    c.regs-pc.result.pc) (c.as_ref-assembly.ensures.value ∙ c.in-Ok.ensures.assembly) c.tell_ending.ensures.told in
    let told = subst (λ (n : ℕ). TellsEnding (known_by file c.args.loaded.now.assembly debug) (heard_of said now) played.ending played.steps n)
    (ap (λ r. r.pc) c.regs-pc.ensures) with_names in
    traced_to (trace_view c.args.words.now) (begin_view c.args.loaded.now c.args.debug)
    c.args.span.from c.args.span.to c.args.span.limit c.trace_span.new.loaded.session
    (streams_of (g.R.Read.remaining c.args.input.now) (g.R.Read.remaining c.trace_span.new.input) (g.O.Write.contents c.args.output.now)
    (g.O.Write.contents c.trace_span.new.output))
    (heard_of (g.E.Write.contents c.args.errors.now) now) out said played c.in-Ok.traced.has_begun c.status_of_ending.result
    c.requires.limit c.requires.silent c.in-Ok.ensures.apart c.in-Ok.ensures.ok c.in-Ok.ensures.output c.tell_unbegun.ensures told c.status_of_ending.ensures

pub returns-in-Err : goal.returns-in-Err
returns-in-Err g c =
    cut_off (trace_view c.args.words.now) (begin_view c.args.loaded.now c.args.debug)
    c.args.span.from c.args.span.to c.args.span.limit c.trace_span.new.loaded.session
    (streams_of (g.R.Read.remaining c.args.input.now) (g.R.Read.remaining c.trace_span.new.input) (g.O.Write.contents c.args.output.now)
    (g.O.Write.contents c.trace_span.new.output))
    (heard_of (g.E.Write.contents c.args.errors.now) (g.E.Write.contents c.tell_cut.new.errors)) (g.E.Write.contents c.trace_span.new.errors)
    c.in-Err.refusal c.tell_cut.result
    c.requires.limit c.requires.silent c.in-Err.ensures.fault c.in-Err.ensures.err c.in-Err.ensures.output c.tell_cut.ensures.told c.tell_cut.ensures.status
