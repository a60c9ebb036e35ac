use Rattle.std.proofs.Common.{◌≡◌, ◌∙◌, refl, ap₂, arith, inl}
use Rattle.std.specs.Option.{option_map}
use Rattle.accesses.specs.Writing.{or_everywhere}
use Rattle.arguments_play.specs.Run.{run_view}
use Rattle.debug_files.proofs.Undebugged.{ends_debug}
use Rattle.loading.proofs.Unnamed.{some_load}
use Rattle.loading.specs.Place.{names_of}
use Rattle.word_run.proofs.Ran.{ran_found, ran_unfound, unfound_status}
use Rattle.word_run.specs.Known.{known_by}
use Rattle.word_run.specs.Runs.{heard_of, streams_of}
use Rattle.word_run.proofs.run.run_loaded.Goals as goal

pub returns-in-Err-clause-done : goal.returns-in-Err-clause-done
returns-in-Err-clause-done g c =
    inl (ends_debug c.args.words.now.debug_info c.args.words.now.file.file (g.E.Write.contents c.args.errors.now)
    (g.E.Write.contents c.tell.new.errors) c.in-Err.fault c.tell.result
    ((c.args.input.now ≡ c.args.input.now) × (c.args.output.now ≡ c.args.output.now))
    c.in-Err.ensures.refused c.tell.ensures.status (rw c.unwrap_or.ensures at c.tell.ensures.told) (refl, refl))

pub returns-in-Err-clause-quiet : goal.returns-in-Err-clause-quiet
returns-in-Err-clause-quiet g c untold none zero = absurd (omega (arith, zero, c.tell.ensures.status, some_load c.in-Err.fault))

pub returns-in-Err-place_named-clause-done : goal.returns-in-Err-place_named-clause-done
returns-in-Err-place_named-clause-done g c =
    let loaded = c.args.loaded in
    let given = g.R.Read.remaining c.args.input.now in
    let held = g.W.Write.contents c.args.output.now.inner in
    ran_unfound (run_view c.args.words.now)
    (record { session = loaded.session; written = or_everywhere c.args.words.now.is_free loaded.written })
    loaded.written loaded.assembly _ _ (streams_of given given held held) c.args.output.now.interrupted
    (heard_of (g.E.Write.contents c.args.errors.now) (g.E.Write.contents c.place_named.new.errors))
    (g.E.Write.contents c.tell_changed.new.errors)
    c.in-Err-place_named.status ((c.args.input.now ≡ c.args.input.now) × (c.args.output.now ≡ c.args.output.now))
    c.in-Ok.ensures.places c.tell_changed.ensures.told c.as_ref-places.ensures.value c.in-Err-place_named.ensures.place
    c.in-Err-place_named.ensures.told (refl, refl)

pub returns-in-Err-place_named-clause-quiet : goal.returns-in-Err-place_named-clause-quiet
returns-in-Err-place_named-clause-quiet g c untold none zero =
    absurd (unfound_status (names_of c.args.loaded.assembly) (option_map (λ p. p.now) c.as_ref-places.result) (run_view c.args.words.now).until
    c.in-Err-place_named.status
    c.in-Err-place_named.ensures.place zero)

pub returns-clause-done : goal.returns-clause-done
returns-clause-done g c =
    let loaded = c.args.loaded in
    let ran = c.run_to.new in
    ran_found g.E.Write.contents (run_view c.args.words.now) loaded.session loaded.written c.or_everywhere-written.result loaded.assembly _ _ _
    c.in-Ok-place_named.until
    (streams_of (g.R.Read.remaining c.args.input.now) (g.R.Read.remaining ran.input) (g.W.Write.contents c.args.output.now.inner)
    (g.W.Write.contents ran.output.inner)) ran.output.interrupted
    c.args.errors.now c.tell_changed.new.errors c.place_named.new.errors ran.errors c.run_to.result
    ((ran.input ≡ c.args.input.now) × (ran.output ≡ c.args.output.now))
    c.in-Ok.ensures.places c.tell_changed.ensures.told c.as_ref-places.ensures.value c.in-Ok-place_named.ensures.place c.in-Ok-place_named.ensures.quiet
    (ap₂ (known_by c.args.words.now.file.file.now) c.as_ref-source.ensures.value c.as_ref-places.ensures.value) c.or_everywhere-written.ensures
    c.run_to.ensures.ran

pub returns-clause-quiet : goal.returns-clause-quiet
returns-clause-quiet g c untold none zero = c.run_to.ensures.quiet untold zero ∙ (c.in-Ok-place_named.ensures.quiet ∙ c.tell_changed.ensures.quiet none)
