use Rattle.std.proofs.Common.{Option, ap}
use Rattle.std.specs.Str.Lossy.{utf8_lossy}
use Rattle.dap_views.proofs.Lossy.{grown}
use Rattle.dap_messages.proofs.Shown.{item_as}
use Rattle.dap_views.specs.Frames.{frame_on, frame_words}
use Rattle.source_map.specs.declared.rows.Row.{Row}
use Rattle.dap_views.proofs.frames.frame_shown.Goals as goal

pub returns : goal.returns
returns c =
    let source = c.args.source.now in
    let frame = c.args.frame in
    let shown = utf8_lossy (frame_words c.args.places.now frame) in
    let words = c.as_text-words.ensures _ (grown _ _ _ _ c.new-text.ensures.items c.push_words-grown.ensures) in
    item_as _ _ _ (ap (λ (row : Option Row). frame_on source.files.now source.counting frame shown row) c.row_at.ensures)
    (c.frame_on.ensures shown words)
