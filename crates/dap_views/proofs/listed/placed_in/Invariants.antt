use Rattle.std.proofs.Common.{◌≡◌, take}
use Rattle.dap_views.specs.Answered.{placed_in}
use Rattle.dap_views.proofs.listed.placed_in.Given as goal

abbrev pub invariant-loop-one : goal.invariant-loop-one
invariant-loop-one l = l.list.items ≡ placed_in l.inside l.file (take l.one-index l.placed)
