use Rattle.std.proofs.Common.{◌≡◌, ◌++◌, map}
use Rattle.dap_views.proofs.NamedLocals.{left}
use Rattle.dap_views.specs.Locals.{named_locals, seen_local}
use Rattle.source_map.specs.Functions.{local_view}
use Rattle.dap_views.proofs.locals.named_locals.Given as goal

abbrev pub invariant-loop-index : goal.invariant-loop-index
invariant-loop-index l = map seen_local l.list.items ++ left l.names l.locals l.index ≡ named_locals (map local_view l.names) l.locals
