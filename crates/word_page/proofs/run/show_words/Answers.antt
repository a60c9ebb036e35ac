use Rattle.std.proofs.Common.{inl}
use Rattle.word_page.specs.Asked.{page_view}
use Rattle.word_page.proofs.Running.{done_named, done_unnamed}
use Rattle.word_page.proofs.run.show_words.Goals as goal

pub returns-in-Err-names_asked-clause-done : goal.returns-in-Err-names_asked-clause-done
returns-in-Err-names_asked-clause-done g c =
    let started = c.in-Ok.ensures.started in
    let why = c.in-Err-names_asked.why in
    done_unnamed (page_view c.args.words.now) c.in-Ok.loaded.session c.in-Ok.loaded.written c.in-Ok.loaded.assembly c.in-Ok.loaded.fill started.0 (record {
      held = g.E.Write.contents c.args.errors.now;
      now = g.E.Write.contents c.tell-in-Err-names_asked.new.errors;
    }) c.tell-in-Err-names_asked.result started.1 started.2 started.3
    (inl (
      why.file.now,
      why.refusal,
      c.in-Err-names_asked.ensures.refused,
      c.tell-in-Err-names_asked.ensures.status,
      c.tell-in-Err-names_asked.ensures.told,
    ))

pub returns-clause-done : goal.returns-clause-done
returns-clause-done g c =
    let started = c.in-Ok.ensures.started in
    done_named (page_view c.args.words.now) c.in-Ok.loaded.session c.in-Ok.loaded.written c.in-Ok.loaded.assembly
    c.in-Ok-names_asked.names.0 _ c.in-Ok.loaded.fill started.0 c.in-Ok-names_asked.names.1 (record {
      held = g.E.Write.contents c.args.errors.now;
      now = g.E.Write.contents c.show_loaded.new.errors;
    }) (g.E.Write.contents c.tell_left_out.new.errors) c.show_loaded.result started.1 started.2 started.3
    c.in-Ok-names_asked.ensures.named c.in-Ok-names_asked.ensures.lost c.tell_left_out.ensures c.as_ref.ensures.value c.show_loaded.ensures
