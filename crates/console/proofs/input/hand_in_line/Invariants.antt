use Rattle.std.proofs.Common.{◌≡◌, ℕ, List, length}
use Rattle.std.specs.Io.KnownBytes.{Consumes}
use Rattle.console.specs.Line.{room_of}
use Rattle.console.proofs.Lines.{Hands, Reads}
use Rattle.console.proofs.input.hand_in_line.Given as goal

abbrev pub invariant-loop-len : goal.invariant-loop-len
invariant-loop-len g l = (told : List ℕ) × Consumes (g.R.Read.remaining l.fn.reader) (g.R.Read.remaining l.reader) told
    × (l.len ≡ length told) × Hands l.fn.session told l.session × Reads (room_of l.fn.session.current) told
