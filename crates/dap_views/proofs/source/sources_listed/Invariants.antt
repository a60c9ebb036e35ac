use Rattle.std.proofs.Common.{map, take}
use Rattle.dap_messages.specs.ItemLists.{HasItems}
use Rattle.dap_views.specs.Files.{file_item}
use Rattle.dap_views.proofs.source.sources_listed.Given as goal

abbrev pub invariant-loop-file : goal.invariant-loop-file
invariant-loop-file l = HasItems (map file_item (take l.file-index l.files)) l.list
