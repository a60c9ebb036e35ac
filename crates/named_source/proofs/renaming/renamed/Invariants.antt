use Rattle.std.proofs.Common.{◌≡◌, ◌++◌, length}
use Rattle.std.specs.List.{flat_map}
use Rattle.model.specs.TextLines.{lines_of}
use Rattle.named_source.specs.Renaming.{ended_named, renamed}
use Rattle.named_source.proofs.renaming.renamed.Given as goal

abbrev pub invariant-loop-rest : goal.invariant-loop-rest
invariant-loop-rest l = l.out.items ++ flat_map (ended_named l.naming.names.now.names l.naming.image.now) (lines_of l.rest)
    ≡ renamed l.naming.names.now.names l.naming.image.now l.source

abbrev pub decreases-loop-rest : goal.decreases-loop-rest
decreases-loop-rest l = length l.rest
