use Rattle.std.proofs.Common.{◌≡◌, None, drop}
use Rattle.dap_session.specs.Logs.{last_from}
use Rattle.dap_session.proofs.passing.last_at.Given as goal

-- the breakpoints that are left lead where all lead
abbrev pub invariant-loop-one : goal.invariant-loop-one
invariant-loop-one l = last_from l.found l.address (drop l.one-index l.placed) ≡ last_from None l.address l.placed
