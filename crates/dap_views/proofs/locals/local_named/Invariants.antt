use Rattle.std.proofs.Common.{◌≡◌, drop, map}
use Rattle.dap_views.specs.Locals.{local_named, seen_local}
use Rattle.dap_views.proofs.locals.local_named.Given as goal

abbrev pub invariant-loop-local : goal.invariant-loop-local
invariant-loop-local l = local_named l.name (map seen_local l.locals) ≡ local_named l.name (map seen_local (drop l.local-index l.locals))
