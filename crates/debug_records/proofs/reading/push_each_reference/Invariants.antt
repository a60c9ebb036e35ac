use Rattle.std.proofs.Common.{◌≡◌, ◌++◌, drop, map}
use Rattle.debug_records.specs.Reading.{reference_of}
use Rattle.debug_records.specs.declared.reference.Target.TheVariants as target
use Rattle.debug_records.proofs.reading.push_each_reference.Given as goal

abbrev pub invariant-loop-span : goal.invariant-loop-span
invariant-loop-span l = l.references.items ++ map (reference_of l.place target.Span) (drop l.span-index l.spans)
    ≡ l.fn.references.items ++ map (reference_of l.place target.Span) l.spans
