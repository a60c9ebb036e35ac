use Rattle.std.proofs.Common.{◌≡◌, false, take}
use Rattle.std.specs.List.{list_any}
use Rattle.dap_views.specs.Files.{has_path}
use Rattle.dap_views.proofs.source.file_named.Given as goal

abbrev pub invariant-loop-index : goal.invariant-loop-index
invariant-loop-index g l = list_any (has_path l.path) (take l.index l.files) ≡ false
