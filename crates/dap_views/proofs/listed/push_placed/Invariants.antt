use Rattle.std.proofs.Common.{◌≡◌, ◌++◌, take}
use Rattle.dap_views.specs.Answered.{placed_at}
use Rattle.dap_views.proofs.listed.push_placed.Given as goal

abbrev pub invariant-loop-address : goal.invariant-loop-address
invariant-loop-address l = l.placed.items ≡ l.fn.placed.items ++ placed_at l.file l.id (take l.address-index l.addresses)
