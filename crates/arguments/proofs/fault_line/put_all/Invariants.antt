use Rattle.std.proofs.Common.{take}
use Rattle.std.specs.Io.KnownBytes.{Appends}
use Rattle.arguments.specs.FaultLines.{joined}
use Rattle.arguments.specs.Words.{texts}
use Rattle.arguments.proofs.fault_line.put_all.Given as goal

abbrev pub invariant-loop-part : goal.invariant-loop-part
invariant-loop-part g l = Appends (g.E.Write.contents l.fn.errors) (g.E.Write.contents l.errors) (joined (texts (take l.part-index l.parts)))
