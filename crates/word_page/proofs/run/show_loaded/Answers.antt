use Rattle.std.proofs.Common.{ap, option_map, inl, refl, subst}
use Rattle.debug_files.proofs.Undebugged.{ends_debug}
use Rattle.source_map.specs.Lines.{PlacesView}
use Rattle.std.specs.Prelude.{Option}
use Rattle.word_page.specs.Asked.{page_view}
use Rattle.word_page.specs.Done.{IsShown, start_in}
use Rattle.word_page.proofs.Running.{found, unfound}
use Rattle.word_run.specs.Known.{known_by}
use Rattle.word_page.proofs.run.show_loaded.Goals as goal

pub returns-in-Err : goal.returns-in-Err
returns-in-Err g c =
    inl (ends_debug c.args.words.now.debug_info c.args.words.now.file.file (g.E.Write.contents c.args.errors.now)
    (g.E.Write.contents c.tell.new.errors) c.in-Err.fault c.tell.result (Unit {0})
    c.in-Err.ensures.refused c.tell.ensures.status (rw c.unwrap_or.ensures at c.tell.ensures.told) tt)

pub returns-in-Err-place_in : goal.returns-in-Err-place_in
returns-in-Err-place_in g c =
    let loaded = c.args.loaded.now in
    unfound (page_view c.args.words.now) loaded.assembly (option_map (λ a. a.now) c.args.names) (option_map (λ a. a.now) c.args.names) loaded.written
    (start_in c.args.words.now.is_free loaded.session loaded.written) _ _ (record {
      held = g.E.Write.contents c.args.errors.now;
      now = g.E.Write.contents c.place_in.new.errors;
    }) (g.E.Write.contents c.tell_changed.new.errors) c.in-Err-place_in.status c.in-Ok.ensures.places c.tell_changed.ensures.told refl
    c.as_ref-places.ensures.value c.in-Err-place_in.ensures.place c.in-Err-place_in.ensures.told

pub returns : goal.returns
returns g c =
    let loaded = c.args.loaded.now in
    found g.E.Write.contents (page_view c.args.words.now) loaded.assembly (option_map (λ a. a.now) c.args.names) (option_map (λ a. a.now) c.args.names)
    loaded.written (start_in c.args.words.now.is_free loaded.session loaded.written) _ _ _ c.in-Ok-place_in.until
    c.args.errors.now c.tell_changed.new.errors c.place_in.new.errors c.show_to.new.errors c.show_to.result
    c.in-Ok.ensures.places c.tell_changed.ensures.told refl c.as_ref-places.ensures.value c.in-Ok-place_in.ensures.place c.in-Ok-place_in.ensures.quiet
    (ap (λ (p : Option PlacesView). known_by c.args.words.now.file.file.now loaded.assembly p) c.as_ref-places.ensures.value)
    (subst (λ (p : Option PlacesView). IsShown (page_view c.args.words.now) p (known_by c.args.words.now.file.file.now loaded.assembly
    (option_map (λ q. q.now) c.as_ref-places.result)) c.in-Ok-place_in.until (start_in c.args.words.now.is_free loaded.session loaded.written) (record {
      held = g.E.Write.contents c.place_in.new.errors;
      now = g.E.Write.contents c.show_to.new.errors;
    }) c.show_to.result) c.as_ref-places.ensures.value c.show_to.ensures)
