use Rattle.std.proofs.Common.{◌++◌, ◌∙◌, [], Some, None, ap, append_assoc, refl}
use Rattle.std.proofs.KnownBytes.{Appends-nil, Appends-trans}
use Rattle.model.proofs.Written.{front_after}
use Rattle.word_trace.specs.Gathered.{gathered}
use Rattle.word_trace.proofs.Cutting.{whole_cut_before, whole_cut_on}
use Rattle.word_trace.proofs.Going.{traced_none, traced_on, whole_told}
use Rattle.word_trace.proofs.trace.trace_between.Goals as goal

pub returns-in-Ok-trace_on-clause-ok : goal.returns-in-Ok-trace_on-clause-ok
returns-in-Ok-trace_on-clause-ok g c =
    let on = c.in-Ok-trace_on.ensures.ok in
    whole_told c.args.span.from c.args.span.to c.args.span.limit (gathered c.args.tracer.now) c.args.session.now c.trace_on.new.session
    c.begin-player.result c.trace_on.new.player
    (g.R.Read.remaining c.args.input.now) (g.R.Read.remaining c.trace_on.new.input) _ _ c.args.written c.in-Ok-trace_on.played (Some on.0) _ refl
    c.begin-player.ensures.known c.in-Ok-trace_on.ensures.over
    (traced_on c.args.span.from c.args.span.to c.args.span.limit c.args.session.now c.run_to_start.new.session c.trace_on.new.session
    c.begin-player.result c.run_to_start.new.player c.trace_on.new.player
    (g.R.Read.remaining c.args.input.now) (g.R.Read.remaining c.run_to_start.new.input) (g.R.Read.remaining c.trace_on.new.input)
    (gathered c.args.tracer.now) (gathered c.run_to_start.new.tracer) on.0 c.in-Ok.reached c.in-Ok-trace_on.played
    c.in-Until.is c.in-Ok.ensures.ok on.1)
    on.2

pub returns-in-Ok-trace_on-clause-output : goal.returns-in-Ok-trace_on-clause-output
returns-in-Ok-trace_on-clause-output g c =
    let one = c.in-Ok.ensures.output in let two = c.in-Ok-trace_on.ensures.output in
    (one.0 ++ two.0, two.1 ∙ ap (λ out. out ++ two.0) one.1 ∙ append_assoc _ one.0 two.0, Appends-trans _ _ _ one.0 two.0 one.2 two.2)

pub returns-in-Until-clause-err : goal.returns-in-Until-clause-err
returns-in-Until-clause-err g c =
    whole_cut_on c.args.span.from c.args.span.to c.args.span.limit c.args.session.now c.run_to_start.new.session c.trace_on.new.session
    c.begin-player.result c.run_to_start.new.player
    (g.R.Read.remaining c.args.input.now) (g.R.Read.remaining c.run_to_start.new.input) (g.R.Read.remaining c.trace_on.new.input) _ _
    c.trace_on.new.player.is_over c.args.written
    (gathered c.args.tracer.now) (gathered c.run_to_start.new.tracer) c.in-Ok.reached
    c.begin-player.ensures.known c.in-Until.is c.in-Err-trace_on.ensures.over c.in-Ok.ensures.ok c.in-Err-trace_on.ensures.err

pub returns-in-Until-clause-output : goal.returns-in-Until-clause-output
returns-in-Until-clause-output g c =
    let one = c.in-Ok.ensures.output in let two = c.in-Err-trace_on.ensures.output in
    (one.0 ++ two.0, two.1 ∙ ap (λ out. out ++ two.0) one.1 ∙ append_assoc _ one.0 two.0, front_after _ _ _ one.0 two.0 one.2 two.2)

pub returns-clause-ok : goal.returns-clause-ok
returns-clause-ok g c =
    whole_told c.args.span.from c.args.span.to c.args.span.limit (gathered c.args.tracer.now) c.args.session.now c.run_to_start.new.session
    c.begin-player.result c.run_to_start.new.player
    (g.R.Read.remaining c.args.input.now) (g.R.Read.remaining c.run_to_start.new.input) _ _ c.args.written _ None _ refl c.begin-player.ensures.known
    c.in-Ok.ensures.over
    (traced_none c.args.span.from c.args.span.to c.args.span.limit c.args.session.now c.run_to_start.new.session c.begin-player.result c.run_to_start.new.player
    (g.R.Read.remaining c.args.input.now) (g.R.Read.remaining c.run_to_start.new.input) (gathered c.args.tracer.now)
    (gathered c.run_to_start.new.tracer) c.in-Ok.reached _ c.in_default.not-Until refl c.in-Ok.ensures.ok)
    ([], refl, Appends-nil _)

pub returns-in-Err-clause-err : goal.returns-in-Err-clause-err
returns-in-Err-clause-err g c =
    whole_cut_before c.args.span.from c.args.span.to c.args.span.limit c.args.session.now c.run_to_start.new.session c.begin-player.result
    (g.R.Read.remaining c.args.input.now) (g.R.Read.remaining c.run_to_start.new.input) _ c.run_to_start.new.player.is_over c.args.written
    (gathered c.args.tracer.now)
    c.begin-player.ensures.known c.in-Err.ensures.over c.in-Err.ensures.err
