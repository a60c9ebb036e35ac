use Rattle.std.proofs.Common.{◌≡◌, drop}
use Rattle.dap_views.specs.Watches.{all_unset}
use Rattle.dap_views.proofs.watches.unset_all.Given as goal

abbrev pub invariant-loop-address : goal.invariant-loop-address
invariant-loop-address l = all_unset l.addresses l.initial.session ≡ all_unset (drop l.address-index l.addresses) l.session
