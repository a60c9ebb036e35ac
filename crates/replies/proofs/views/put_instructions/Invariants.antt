use Rattle.std.proofs.Common.{◌≡◌, ◌-◌, ◌++◌, ℕ, List}
use Rattle.std.specs.Io.KnownBytes.{Appends}
use Rattle.model.specs.Disassembly.{rows_in}
use Rattle.replies.proofs.views.put_instructions.Given as goal

-- what was written is followed by the rows that are left
abbrev pub invariant-loop-done : goal.invariant-loop-done
invariant-loop-done g l =
    (text : List ℕ) × Appends (g.W.Write.contents l.fn.writer) (g.W.Write.contents l.writer) text
    × (rows_in l.session.current.bus.map.profile l.session.current.bus.memory 65535 l.fn.address l.count ≡ text
    ++ rows_in l.session.current.bus.map.profile l.session.current.bus.memory 65535 l.next (l.count - l.done))
