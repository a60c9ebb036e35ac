use Rattle.std.proofs.Common.{◌≡◌, ◌++◌, drop}
use Rattle.source_forms.specs.Rows.{more_bytes}
use Rattle.source_writer.proofs.rows.push_more.Given as goal

abbrev pub invariant-loop-byte : goal.invariant-loop-byte
invariant-loop-byte l = l.out.items ++ more_bytes (drop l.byte-index l.bytes) ≡ l.fn.out.items ++ more_bytes l.bytes
