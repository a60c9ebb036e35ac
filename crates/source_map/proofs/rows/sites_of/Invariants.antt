use Rattle.std.proofs.Common.{◌≡◌, ◌++◌, drop}
use Rattle.source_map.specs.Lines.{sites_of}
use Rattle.source_map.proofs.rows.sites_of.Given as goal

abbrev pub invariant-loop-row : goal.invariant-loop-row
invariant-loop-row l = l.sites.items ++ sites_of (drop l.row-index l.rows) ≡ sites_of l.rows
