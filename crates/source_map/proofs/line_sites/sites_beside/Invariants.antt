use Rattle.std.proofs.Common.{◌≡◌, ◌++◌, drop, filter}
use Rattle.source_map.specs.Lines.{is_of_line}
use Rattle.source_map.proofs.line_sites.sites_beside.Given as goal

abbrev pub invariant-loop-site : goal.invariant-loop-site
invariant-loop-site l = l.found.items ++ filter (is_of_line l.one) (drop l.site-index l.sites) ≡ filter (is_of_line l.one) l.sites
