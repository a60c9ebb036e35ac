use Rattle.std.proofs.Common.{◌≡◌, ◌++◌, drop}
use Rattle.dap_session.specs.Stands.{ids_at}
use Rattle.dap_session.proofs.stands.push_ids.Given as goal

abbrev pub invariant-loop-one : goal.invariant-loop-one
invariant-loop-one l = l.ids.items ++ ids_at l.address (drop l.one-index l.placed) ≡ l.initial.ids.items ++ ids_at l.address l.placed
