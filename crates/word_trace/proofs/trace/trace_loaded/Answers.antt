use Rattle.std.proofs.Common.{◌≡◌, ◌∙◌, option_map, refl}
use Rattle.loading.specs.Place.{names_of}
use Rattle.word_run.specs.Places.{place_asked}
use Rattle.arguments_play.specs.Trace.{trace_view}
use Rattle.word_trace.specs.Traces.{begin_view}
use Rattle.word_trace.proofs.Done.{told_second, traced_between, traced_quiet, unfound_from, unfound_to}
use Rattle.word_trace.proofs.trace.trace_loaded.Goals as goal

pub returns-in-Err : goal.returns-in-Err
returns-in-Err g c =
    let names = names_of c.args.loaded.now.assembly in let a = trace_view c.args.words.now in let known = option_map (λ p. p.now) c.args.debug in
    unfound_from a (begin_view c.args.loaded.now c.args.debug) (place_asked names known a.from) (place_asked names known a.to) (record {
      given = g.R.Read.remaining c.args.input.now;
      left = g.R.Read.remaining c.args.input.now;
      held = g.O.Write.contents c.args.output.now;
      now = g.O.Write.contents c.args.output.now;
    }) (record {
      held = g.E.Write.contents c.args.errors.now;
      now = g.E.Write.contents c.place_named.new.errors;
    })
    c.in-Err.status ((c.args.input.now ≡ c.args.input.now) × (c.args.output.now ≡ c.args.output.now)) c.in-Err.ensures.place c.in-Err.ensures.told (refl, refl)

pub returns-in-Err-place_named : goal.returns-in-Err-place_named
returns-in-Err-place_named g c =
    let names = names_of c.args.loaded.now.assembly in let a = trace_view c.args.words.now in let known = option_map (λ p. p.now) c.args.debug in
    unfound_to a (begin_view c.args.loaded.now c.args.debug) c.in-Ok.from (place_asked names known a.from) (place_asked names known a.to) (record {
      given = g.R.Read.remaining c.args.input.now;
      left = g.R.Read.remaining c.args.input.now;
      held = g.O.Write.contents c.args.output.now;
      now = g.O.Write.contents c.args.output.now;
    }) (record {
      held = g.E.Write.contents c.args.errors.now;
      now = g.E.Write.contents c.place_named-2.new.errors;
    })
    c.in-Err-place_named.status ((c.args.input.now ≡ c.args.input.now) × (c.args.output.now ≡ c.args.output.now)) c.in-Ok.ensures.place
    c.in-Err-place_named.ensures.place (told_second g.E.Write.contents _ _ _ _ c.in-Ok.ensures.quiet c.in-Err-place_named.ensures.told) (refl, refl)

pub returns : goal.returns
returns g c =
    let names = names_of c.args.loaded.now.assembly in let a = trace_view c.args.words.now in let known = option_map (λ p. p.now) c.args.debug in
    traced_between a (begin_view c.args.loaded.now c.args.debug) c.in-Ok.from c.in-Ok-place_named.to
    (place_asked names known a.from) (place_asked names known a.to) (record {
      given = g.R.Read.remaining c.args.input.now;
      left = g.R.Read.remaining c.trace_told.new.input;
      held = g.O.Write.contents c.args.output.now;
      now = g.O.Write.contents c.trace_told.new.output;
    }) (record {
      held = g.E.Write.contents c.args.errors.now;
      now = g.E.Write.contents c.trace_told.new.errors;
    }) c.trace_told.result
    ((c.trace_told.new.input ≡ c.args.input.now) × (c.trace_told.new.output ≡ c.args.output.now)) c.in-Ok.ensures.place c.in-Ok-place_named.ensures.place
    (traced_quiet g.E.Write.contents a (begin_view c.args.loaded.now c.args.debug) c.in-Ok.from c.in-Ok-place_named.to (record {
      given = g.R.Read.remaining c.args.input.now;
      left = g.R.Read.remaining c.trace_told.new.input;
      held = g.O.Write.contents c.args.output.now;
      now = g.O.Write.contents c.trace_told.new.output;
    }) c.args.errors.now c.place_named-2.new.errors (g.E.Write.contents c.trace_told.new.errors) c.trace_told.result
    (c.in-Ok-place_named.ensures.quiet ∙ c.in-Ok.ensures.quiet) c.trace_told.ensures)
