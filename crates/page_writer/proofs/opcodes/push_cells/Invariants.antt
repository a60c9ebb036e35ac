use Rattle.std.proofs.Common.{◌≡◌, ◌++◌}
use Rattle.page_writer.specs.Facts.{opcode_cells}
use Rattle.page_writer.proofs.opcodes.push_cells.Given as goal

abbrev pub invariant-loop-opcode : goal.invariant-loop-opcode
invariant-loop-opcode l = l.text.items ≡ l.initial.text.items ++ opcode_cells l.fn.profile l.opcode
