use Rattle.std.proofs.Common.{◌≡◌, drop, map}
use Rattle.dap_messages.specs.Names.{find, row_view}
use Rattle.dap_messages.proofs.names.find.Given as goal

-- the rows that are left give what all give
abbrev pub invariant-loop-known : goal.invariant-loop-known
invariant-loop-known l = record {
  rest : find l.none l.name (map row_view l.rows) ≡ find l.none l.name (map row_view (drop l.known-index l.rows));
}
