use Rattle.std.proofs.Common.{◌≡◌, [], drop}
use Rattle.source_map.specs.Lines.{in_order}
use Rattle.source_map.proofs.line_sites.in_order.Given as goal

abbrev pub invariant-loop-site : goal.invariant-loop-site
invariant-loop-site l = record {
  rest : in_order l.found.items (drop l.site-index l.sites) ≡ in_order [] l.sites;
}
