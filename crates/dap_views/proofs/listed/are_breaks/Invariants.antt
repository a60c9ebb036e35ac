use Rattle.std.proofs.Common.{◌≡◌, drop}
use Rattle.dap_views.specs.Answered.{are_breaks}
use Rattle.dap_views.proofs.listed.are_breaks.Given as goal

-- what is left tells
abbrev pub invariant-loop-address : goal.invariant-loop-address
invariant-loop-address l = are_breaks l.session (drop l.address-index l.addresses) ≡ are_breaks l.session l.addresses
