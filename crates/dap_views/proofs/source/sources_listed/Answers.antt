use Rattle.std.proofs.Common.{◌∙◌, ap, arith}
use Rattle.dap_messages.proofs.Lists.{all_items, next_item}
use Rattle.dap_messages.proofs.Shown.{item_as}
use Rattle.dap_messages.specs.SeenAnswers.{source_file}
use Rattle.dap_views.specs.Files.{file_item}
use Rattle.dap_views.proofs.source.sources_listed.Goals as goal

pub loop-file-init : goal.loop-file-init
loop-file-init c = c.new-list.ensures

pub loop-file-preserved : goal.loop-file-preserved
loop-file-preserved c =
    let shown = item_as _ _ _ ((λ i. source_file (c.as_str.ensures.value i) (c.as_str-in-loop-file.ensures.value i)) ∙ ap file_item c.file-item.is)
    c.source_file.ensures in
    next_item file_item c.args.files.now c.loop-file.file-index _ _ (omega (arith, c.loop-file-test.true))
    (c.with-list.ensures _ _ c.loop-file.invariant shown)

pub returns : goal.returns
returns c = all_items file_item c.args.files.now c.loop-file.file-index c.loop-file.list (omega (arith, c.loop-file-test.false)) c.loop-file.invariant
