use Rattle.std.proofs.Common.{◌≡◌, refl, subst, inl, inr, Option}
use Rattle.debug_files.proofs.Undebugged.{ends_debug}
use Rattle.loading.specs.Place.{names_of}
use Rattle.source_map.specs.Lines.{PlacesView}
use Rattle.arguments_play.specs.Trace.{trace_view}
use Rattle.word_run.specs.Places.{place_asked}
use Rattle.word_run.specs.Runs.{heard_of, streams_of}
use Rattle.word_trace.specs.Traces.{TracedIfFound, begin_with}
use Rattle.word_trace.proofs.trace.trace_debugged.Goals as goal

pub returns-in-Err : goal.returns-in-Err
returns-in-Err g c =
    inl (ends_debug c.args.words.now.debug_info c.args.words.now.file.file (g.E.Write.contents c.args.errors.now)
    (g.E.Write.contents c.tell.new.errors) c.in-Err.fault c.tell.result
    ((c.args.input.now ≡ c.args.input.now) × (c.args.output.now ≡ c.args.output.now))
    c.in-Err.ensures.refused c.tell.ensures.status (rw c.unwrap_or.ensures at c.tell.ensures.told) (refl, refl))

pub returns-in-Ok : goal.returns-in-Ok
returns-in-Ok g c =
    let a = trace_view c.args.words.now in
    let names = names_of c.args.loaded.now.assembly in
    let ran = c.trace_loaded.new in
    inr (
      c.in-Ok.debug.places,
      c.in-Ok.ensures.places,
      g.E.Write.contents c.tell_changed.new.errors,
      c.tell_changed.ensures.told,
      subst (λ (debug : Option PlacesView). TracedIfFound a (begin_with c.args.loaded.now debug) (place_asked names debug a.from) (place_asked names debug a.to)
          (streams_of (g.R.Read.remaining c.args.input.now) (g.R.Read.remaining ran.input) (g.O.Write.contents c.args.output.now)
          (g.O.Write.contents ran.output)) (heard_of (g.E.Write.contents c.tell_changed.new.errors) (g.E.Write.contents ran.errors)) c.trace_loaded.result
          ((ran.input ≡ c.args.input.now) × (ran.output ≡ c.args.output.now))) c.as_ref-places.ensures.value c.trace_loaded.ensures,
    )
