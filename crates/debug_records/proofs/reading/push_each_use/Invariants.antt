use Rattle.std.proofs.Common.{◌≡◌, ◌++◌, drop, map}
use Rattle.debug_records.specs.Reading.{use_of}
use Rattle.debug_records.proofs.reading.push_each_use.Given as goal

abbrev pub invariant-loop-span : goal.invariant-loop-span
invariant-loop-span l = l.uses.items ++ map (use_of l.line) (drop l.span-index l.spans) ≡ l.fn.uses.items ++ map (use_of l.line) l.spans
