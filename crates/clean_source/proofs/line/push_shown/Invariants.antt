use Rattle.std.proofs.Common.{◌≡◌, ◌++◌, drop}
use Rattle.clean_source.specs.Cleaned.{shown_from}
use Rattle.clean_source.proofs.line.push_shown.Given as goal

abbrev pub invariant-loop-byte : goal.invariant-loop-byte
invariant-loop-byte l = l.text.items ++ shown_from l.before (drop l.byte-index l.line) ≡ l.initial.text.items ++ shown_from 0 l.line
