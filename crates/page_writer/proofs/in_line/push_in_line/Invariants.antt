use Rattle.std.proofs.Common.{◌≡◌, ◌++◌, take}
use Rattle.page_writer.specs.InLine.{line_of}
use Rattle.page_writer.proofs.in_line.push_in_line.Given as goal

abbrev pub invariant-loop-byte : goal.invariant-loop-byte
invariant-loop-byte l = l.text.items ≡ l.initial.text.items ++ line_of (take l.byte-index l.bytes)
