use Rattle.std.proofs.Common.{◌≡◌, ◌++◌, drop, filter, not}
use Rattle.source_map.specs.Lines.{is_inner, outermost}
use Rattle.source_map.proofs.line_sites.outermost.Given as goal

abbrev pub invariant-loop-site : goal.invariant-loop-site
invariant-loop-site l = l.found.items ++ filter (λ site. not (is_inner l.sites site)) (drop l.site-index l.sites) ≡ outermost l.sites
