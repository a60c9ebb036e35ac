use Rattle.std.proofs.Common.{◌≡◌, ◌-◌}
use Rattle.dap_messages.specs.Listed.{reserved}
use Rattle.dap_messages.proofs.listed.behind.Given as goal

-- the numbers that are left lead where all lead
abbrev pub invariant-loop : goal.invariant-loop
invariant-loop l = reserved l.next (l.count - l.counter) ≡ reserved l.first l.count
