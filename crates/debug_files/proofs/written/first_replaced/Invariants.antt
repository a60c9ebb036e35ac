use Rattle.std.proofs.Common.{◌≡◌, false, map, option_map, take}
use Rattle.std.specs.List.{list_any}
use Rattle.debug_files.specs.Written.{names_at}
use Rattle.debug_files.proofs.written.first_replaced.Given as goal
use Rattle.debug_records.specs.Views.{file_view}

abbrev pub invariant-loop-source : goal.invariant-loop-source
invariant-loop-source g l =
    list_any (names_at l.file (option_map (λ r. r.now) l.root) l.out) (map (option_map file_view) (take l.source-index l.files)) ≡ false
