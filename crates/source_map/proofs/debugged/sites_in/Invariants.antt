use Rattle.std.proofs.Common.{◌≡◌, ◌++◌, drop}
use Rattle.source_map.specs.Debugged.{sites_in}
use Rattle.source_map.proofs.debugged.sites_in.Given as goal

abbrev pub invariant-loop-row : goal.invariant-loop-row
invariant-loop-row l = l.sites.items ++ sites_in (drop l.row-index l.rows) ≡ sites_in l.rows
