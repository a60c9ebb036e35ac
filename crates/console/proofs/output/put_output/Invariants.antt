use Rattle.std.proofs.Common.{◌≡◌, ◌++◌, ℕ, List, drop}
use Rattle.std.specs.Io.KnownBytes.{Appends}
use Rattle.console.proofs.output.put_output.Given as goal

abbrev pub invariant-loop-index : goal.invariant-loop-index
invariant-loop-index g l = (text : List ℕ) × Appends (g.W.Write.contents l.fn.writer) (g.W.Write.contents l.writer) text
    × (drop l.from l.session.current.bus.out ≡ text ++ drop l.index l.session.current.bus.out)
