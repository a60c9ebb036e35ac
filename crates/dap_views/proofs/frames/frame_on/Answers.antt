use Rattle.std.proofs.Common.{◌∙◌, Option, ap, sym}
use Rattle.dap_messages.proofs.Shown.{item_as}
use Rattle.dap_messages.specs.SeenAnswers.{frame_without_line}
use Rattle.dap_views.specs.Frames.{frame_in, frame_on}
use Rattle.dap_views.specs.declared.source.FilePath.{FilePath}
use Rattle.source_map.specs.declared.rows.Row.{Row}
use Rattle.dap_views.proofs.frames.frame_on.Goals as goal

pub returns-in-Some : goal.returns-in-Some
returns-in-Some c = λ w is.
    let source = c.args.source.now in
    let frame = c.args.frame in
    item_as _ _ _ (ap (λ (file : Option FilePath). frame_in source.counting frame w file c.in-Some.row.line) c.file_at-file.ensures
    ∙ sym (ap (λ (row : Option Row). frame_on source.files.now source.counting frame w row) c.in-Some.is)) (c.frame_in.ensures w is)

pub returns-in-None : goal.returns-in-None
returns-in-None c = λ w is.
    let source = c.args.source.now in
    let frame = c.args.frame in
    item_as _ _ _ (ap (λ n. frame_without_line n frame.address w) c.from.ensures
    ∙ sym (ap (λ (row : Option Row). frame_on source.files.now source.counting frame w row) c.in-None.is)) (c.frame_without_line.ensures w is)
