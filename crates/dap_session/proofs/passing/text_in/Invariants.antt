use Rattle.std.proofs.Common.{◌≡◌, None, drop, option_map}
use Rattle.dap_session.specs.Logs.{text_among}
use Rattle.dap_session.proofs.passing.text_in.Given as goal

-- the lists that are left lead where all lead
abbrev pub invariant-loop-listed : goal.invariant-loop-listed
invariant-loop-listed l = text_among (option_map (λ t. t.now) l.found) l.id (drop l.listed-index l.lists) ≡ text_among None l.id l.lists
