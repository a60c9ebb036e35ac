use Rattle.std.proofs.Common.{◌≡◌, map, option_map, take}
use Rattle.dap_session.specs.Paths.{debug_path, path_of}
use Rattle.source_map.specs.Lines.{source_view}
use Rattle.dap_session.proofs.files.debug_sources.Given as goal

abbrev pub invariant-loop-source : goal.invariant-loop-source
invariant-loop-source l = map path_of l.files.items
    ≡ map (debug_path l.file (option_map (λ r. r.now) l.root)) (map source_view (take l.source-index l.sources))
