use Rattle.std.proofs.Common.{◌≡◌, inl, inr, refl}
use Rattle.arguments.specs.Asked.{file_view}
use Rattle.arguments.specs.OtherFiles.{others_view}
use Rattle.arguments_play.specs.Mon.{mon_view}
use Rattle.debug_files.proofs.Undebugged.{ends_debug}
use Rattle.word_mon.proofs.Ends.{ends_named}
use Rattle.word_mon.proofs.Starts.{named_starts}
use Rattle.word_mon.proofs.serving.mon_loaded.Goals as goal

pub returns-in-Ok-clause-done : goal.returns-in-Ok-clause-done
returns-in-Ok-clause-done g c = inr (inr (
  record {
    words = c.args.words;
    mon = c.in-Ok.started.mon;
    view = c.first_view-view.result;
    answered = c.new-answered.result;
    notes = c.new-notes.result;
    loaded = c.in-Ok.started.loaded;
  },
  c.in-Ok.started.warning_line.items,
  named_starts (mon_view c.args.words.now) c.args.loaded.session c.args.loaded.assembly c.args.loaded.fill c.args.loaded.written
      c.in-Ok.started.loaded c.in-Ok.started.mon c.in-Ok.started.warning_line.items
      c.requires c.in-Ok.ensures.made c.in-Ok.ensures.loaded c.in-Ok.ensures.warned,
  c.new-notes.ensures.items,
  c.new-answered.ensures.items,
  refl,
  c.first_view-view.ensures,
  c.wants_prompts-prompts.result,
  c.wants_prompts-prompts.ensures,
  rw c.as_slice-line.ensures.value at c.serve_session.ensures.ended,
))

pub returns-in-Err-OfNames-clause-done : goal.returns-in-Err-OfNames-clause-done
returns-in-Err-OfNames-clause-done g c =
    let ends = rw c.in-Err-OfNames.field-0-is at c.in-Err-OfNames.ensures.refused in
    ends_named c.args.words.now.symbols c.args.words.now.file.file (file_view c.args.words.now.file) (others_view c.args.words.now.others) (record {
      held = g.E.Write.contents c.args.errors.now;
      now = g.E.Write.contents c.refuse_file.new.errors;
    }) c.in-Err-OfNames.refusal c.refuse_file.result ((c.args.input.now ≡ c.args.input.now) × (c.args.output.now ≡ c.args.output.now)) _ _
    ends c.refuse_file.ensures.status (rw c.unwrap_or-file.ensures at c.refuse_file.ensures.told) (refl, refl)

pub returns-in-Err-OfDebug-clause-done : goal.returns-in-Err-OfDebug-clause-done
returns-in-Err-OfDebug-clause-done g c =
    let ends = rw c.in-Err-OfDebug.field-0-is at c.in-Err-OfDebug.ensures.refused in
    inr (inl (inr (ends_debug c.args.words.now.debug_info c.args.words.now.file.file
    (g.E.Write.contents c.args.errors.now) (g.E.Write.contents c.tell.new.errors) c.in-Err-OfDebug.fault
    c.tell.result ((c.args.input.now ≡ c.args.input.now) × (c.args.output.now ≡ c.args.output.now))
    ends c.tell.ensures.status (rw c.unwrap_or-file-in-Err-OfDebug.ensures at c.tell.ensures.told) (refl, refl))))
