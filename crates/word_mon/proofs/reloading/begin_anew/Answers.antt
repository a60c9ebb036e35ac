use Rattle.std.proofs.Common.{inl, inr, refl}
use Rattle.arguments_play.specs.Mon.{mon_view}
use Rattle.word_mon.proofs.Again.{debug_ends_reload, ends_reload, on_ok_map}
use Rattle.word_mon.proofs.Starts.{named_starts}
use Rattle.word_mon.proofs.reloading.begin_anew.Goals as goal

pub take_over-requires : goal.take_over-requires
take_over-requires g c =
    named_starts (mon_view c.args.terminal.now.words.now) c.args.loaded.session c.args.loaded.assembly c.args.loaded.fill c.args.loaded.written
    c.in-Ok.started.loaded c.in-Ok.started.mon
    c.in-Ok.started.warning_line.items c.requires c.in-Ok.ensures.made c.in-Ok.ensures.loaded c.in-Ok.ensures.warned

pub keep_session-requires : goal.keep_session-requires
keep_session-requires g c =
    let words = c.args.terminal.now.words.now in
    let ends = rw c.in-Err-OfNames.field-0-is at c.in-Err-OfNames.ensures.refused in
    rw c.unwrap_or-file.ensures (ends_reload words.symbols words.file.file (mon_view words) c.in-Err-OfNames.refusal refl ends)

pub keep_session-requires-in-Err-OfDebug : goal.keep_session-requires-in-Err-OfDebug
keep_session-requires-in-Err-OfDebug g c =
    let words = c.args.terminal.now.words.now in
    let ends = rw c.in-Err-OfDebug.field-0-is at c.in-Err-OfDebug.ensures.refused in
    rw c.unwrap_or-file-in-Err-OfDebug.ensures (debug_ends_reload words.debug_info words.file.file (mon_view words) c.in-Err-OfDebug.fault refl ends)

pub returns-in_ok-of_memory-in-Ok-clause-reloaded : goal.returns-in_ok-of_memory-in-Ok-clause-reloaded
returns-in_ok-of_memory-in-Ok-clause-reloaded g c = inl (rw c.in_ok-of_memory-in-Ok.ensures.made at c.take_over.ensures)

pub returns-in-Err-OfNames-clause-reloaded : goal.returns-in-Err-OfNames-clause-reloaded
returns-in-Err-OfNames-clause-reloaded g c = on_ok_map c.keep_session.result _ _ inr c.keep_session.ensures.kept

pub returns-in-Err-OfDebug-clause-reloaded : goal.returns-in-Err-OfDebug-clause-reloaded
returns-in-Err-OfDebug-clause-reloaded g c = on_ok_map c.keep_session-in-Err-OfDebug.result _ _ inr c.keep_session-in-Err-OfDebug.ensures.kept
