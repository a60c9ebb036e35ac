use Rattle.std.proofs.Common.{◌≡◌, ◌++◌, drop}
use Rattle.dap_views.specs.Answered.{placed_of}
use Rattle.dap_views.proofs.listed.placed_of.Given as goal

abbrev pub invariant-loop-wanted : goal.invariant-loop-wanted
invariant-loop-wanted l = l.placed.items ++ placed_of l.file l.id (drop l.wanted-index l.told) ≡ placed_of l.file l.first l.told
