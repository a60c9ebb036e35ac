use Rattle.std.proofs.Common.{◌≡◌, false, map, option_map, take}
use Rattle.debug_files.specs.Written.{is_among}
use Rattle.debug_files.proofs.written.is_among.Given as goal
use Rattle.source_map.specs.Lines.{source_view}

abbrev pub invariant-loop-source : goal.invariant-loop-source
invariant-loop-source g l = is_among l.file (option_map (λ r. r.now) l.root) (map source_view (take l.source-index l.sources)) l.out ≡ false
