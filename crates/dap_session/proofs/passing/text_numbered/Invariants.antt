use Rattle.std.proofs.Common.{◌≡◌, None, drop, option_map}
use Rattle.dap_session.specs.Logs.{text_from}
use Rattle.dap_session.proofs.passing.text_numbered.Given as goal

-- the breakpoints that are left lead where all lead
abbrev pub invariant-loop-listed : goal.invariant-loop-listed
invariant-loop-listed l = text_from (option_map (λ t. t.now) l.found) l.id l.number (drop l.listed-index l.list) ≡ text_from None l.id l.first l.list
