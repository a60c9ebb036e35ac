use Rattle.std.proofs.Common.{◌++◌}
use Rattle.named_source.specs.Renaming.{rest_named}
use Rattle.named_source.proofs.Lines.{IsWritten}
use Rattle.named_source.proofs.renaming.push_renamed.Given as goal

abbrev pub invariant-loop-at : goal.invariant-loop-at
invariant-loop-at l = IsWritten l.naming.names.now.names l.naming.image.now l.line l.out.items l.at l.before l.left
    (l.fn.out.items ++ rest_named l.naming.names.now.names l.naming.image.now 32 0 l.line)
