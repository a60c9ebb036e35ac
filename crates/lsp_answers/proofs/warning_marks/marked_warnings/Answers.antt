use Rattle.std.proofs.Common.{◌∙◌, ap, arith, map, refl}
use Rattle.std.proofs.lemmas.Result.{IfOk-weaker}
use Rattle.warning_notes.specs.Blocks.{warning_blocks}
use Rattle.warning_notes.proofs.Told.{note_of_same}
use Rattle.lsp_answers.specs.Diagnostics.{warning_kind}
use Rattle.model.specs.TextLines.{lines_of}
use Rattle.source_notes.specs.Lines.{name_view, names_of, texts_of}
use Rattle.lsp_answers.proofs.Marking.{all_put, none_yet, put_more}
use Rattle.lsp_answers.proofs.warning_marks.marked_warnings.Goals as goal

pub loop-warning-init : goal.loop-warning-init
loop-warning-init c = none_yet (warning_blocks (names_of (lines_of c.args.source.now))) warning_kind (lines_of c.args.source.now) c.args.warnings.now
    c.new.result.items c.new.ensures.items

pub loop-warning-preserved : goal.loop-warning-preserved
loop-warning-preserved c =
    let lines = lines_of c.args.source.now in
    let found = rw (c.deref-in-loop-warning.ensures.value, c.in-Ok.ensures) at c.line_of.ensures in
    let names = ap (map name_view) c.deref-in-loop-warning-2.ensures.value ∙ c.in-Ok-names_of.ensures
    ∙ ap names_of (ap texts_of c.deref.ensures.value ∙ c.in-Ok.ensures) in
    let fits = IfOk-weaker c.note_of-note.result _ _ (λ note. note_of_same _ _ _ _ _ note names) c.note_of-note.ensures in
    put_more (warning_blocks (names_of lines)) warning_kind lines c.args.warnings.now c.loop-warning.warning-index _ c.loop-warning.found
    c.with_note-found.result _ _ _ _ _ (omega (arith, c.loop-warning-test.true)) c.loop-warning.invariant found c.line_or_none-line.ensures refl
    refl fits c.with_note-found.ensures

pub returns : goal.returns
returns c = all_put (warning_blocks (names_of (lines_of c.args.source.now))) warning_kind (lines_of c.args.source.now) c.args.warnings.now
    c.loop-warning.warning-index c.loop-warning.found (omega (arith, c.loop-warning-test.false)) c.loop-warning.invariant
