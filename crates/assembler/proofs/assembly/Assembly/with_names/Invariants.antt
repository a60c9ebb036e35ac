use Rattle.std.proofs.Common.{◌≡◌, take}
use Rattle.assembler.specs.Assembly.{with_others}
use Rattle.assembler.proofs.assembly.Assembly.with_names.Given as goal

abbrev pub invariant-loop-index : goal.invariant-loop-index
invariant-loop-index l = l.all ≡ with_others (take l.index l.names) l.fn.self
