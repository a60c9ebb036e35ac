use Rattle.std.proofs.Common.{◌≡◌, None, drop}
use Rattle.source_map.specs.Lines.{site_from}
use Rattle.source_map.proofs.places.site_from.Given as goal

abbrev pub invariant-loop-site : goal.invariant-loop-site
invariant-loop-site l = record {
  rest : site_from l.file l.line None l.sites ≡ site_from l.file l.line l.best (drop l.site-index l.sites);
}
